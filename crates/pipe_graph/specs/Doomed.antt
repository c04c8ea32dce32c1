-- Which hosts must go: in each round one, until any two that are left reach each other. Sets of hosts and links are tests on their numbers.
use Rattle.std.specs.Prelude.{◌≡◌, ℕ, zero, suc, ◌<◌, ◌≤◌, ◌==◌, nat_lt, Bool, true, ◌&&◌, ◌||◌, not}
use Rattle.pipe_graph.specs.Below.{any_below}
use Rattle.pipe_graph.specs.Graph.{Graph, is_host}
use Rattle.pipe_graph.specs.Reach.{reaches}
use Rattle.pipe_graph.specs.Count.{count_below}

-- the host is one of the graph, a member, and not doomed
abbrev pub is_left : Graph → (ℕ → Bool) → (ℕ → Bool) → ℕ → Bool
is_left graph members doomed host = is_host graph host && (members host && not (doomed host))

-- the two hosts, which may be the same, reach each other by the set
abbrev pub are_partners : Graph → (ℕ → Bool) → ℕ → ℕ → Bool
are_partners graph by a b = reaches graph by a b && reaches graph by b a

-- the host is left, and no partner of some host that is left
abbrev pub is_stranger : Graph → (ℕ → Bool) → (ℕ → Bool) → ℕ → Bool
is_stranger graph by left a = left a && any_below (λ b. left b && not (are_partners graph by a b)) graph.hosts

-- two of the hosts that are left are no partners
abbrev pub has_strangers : Graph → (ℕ → Bool) → (ℕ → Bool) → Bool
has_strangers graph by left = any_below (is_stranger graph by left) graph.hosts

-- How a host stands among those that are left: how many are its partners, itself too where it reaches itself, and how many it reaches.
pub record Standing : Type 0 where
  pub host : ℕ
  pub partners : ℕ
  pub reached : ℕ

-- the standing of a host
abbrev pub standing_of : Graph → (ℕ → Bool) → (ℕ → Bool) → ℕ → Standing
standing_of graph by left host = record {
  host = host;
  partners = count_below (λ b. left b && are_partners graph by host b) graph.hosts;
  reached = count_below (λ b. left b && reaches graph by host b) graph.hosts;
}

-- The first must go rather than the second: it has fewer partners; or as many, and reaches fewer; or as many of both, and has the greater number.
abbrev pub goes_before : Standing → Standing → Bool
goes_before a b =
    nat_lt a.partners b.partners
    || ((a.partners == b.partners) && (nat_lt a.reached b.reached
    || ((a.reached == b.reached) && nat_lt b.host a.host)))

-- the host is left, and none that is left must go rather than it
abbrev pub goes_next : Graph → (ℕ → Bool) → (ℕ → Bool) → ℕ → Bool
goes_next graph by left host =
    left host && not (any_below (λ b. left b
    && goes_before (standing_of graph by left b) (standing_of graph by left host)) graph.hosts)

-- The same in words: it is left; of those that are left it has the fewest partners; of those with as many it reaches the fewest; of those that reach as many it has the greatest number.
pub record GoesNext (graph : Graph) (by left : ℕ → Bool) (host : ℕ) : Type 0 where
  pub among : left host ≡ true
  pub fewest_partners : (b : ℕ) → b < graph.hosts → left b ≡ true
      → (standing_of graph by left host).partners ≤ (standing_of graph by left b).partners
  pub fewest_reached : (b : ℕ) → b < graph.hosts → left b ≡ true
      → (standing_of graph by left b).partners ≡ (standing_of graph by left host).partners
      → (standing_of graph by left host).reached ≤ (standing_of graph by left b).reached
  pub greatest_number : (b : ℕ) → b < graph.hosts → left b ≡ true
      → (standing_of graph by left b).partners ≡ (standing_of graph by left host).partners
      → (standing_of graph by left b).reached ≡ (standing_of graph by left host).reached → b ≤ host

-- one round: where two of those that are left are no partners, the next one is doomed
abbrev pub after_round : Graph → (ℕ → Bool) → (ℕ → Bool) → (ℕ → Bool) → ℕ → Bool
after_round graph by members doomed host =
    doomed host || (has_strangers graph by (is_left graph members doomed)
    && goes_next graph by (is_left graph members doomed) host)

-- so many rounds
abbrev pub after_rounds : Graph → (ℕ → Bool) → (ℕ → Bool) → (ℕ → Bool) → ℕ → ℕ → Bool
after_rounds graph by members doomed zero = doomed
after_rounds graph by members doomed (suc count) =
    after_rounds graph by members (after_round graph by members doomed) count

-- The hosts that must go, where some were doomed before: after as many rounds as there are hosts no round dooms one more.
abbrev pub doomed : Graph → (ℕ → Bool) → (ℕ → Bool) → (ℕ → Bool) → ℕ → Bool
doomed graph by members before = after_rounds graph by members before graph.hosts
