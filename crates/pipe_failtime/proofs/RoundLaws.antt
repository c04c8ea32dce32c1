-- Lemmas on the rounds in which hosts are doomed.
use Rattle.std.proofs.Common.{◌≡◌, ℕ, zero, suc, ◌+◌, ◌<◌, ◌≤◌, Bool, true, false, ◌&&◌, ◌||◌, not, List, length, set, None, Some, ◌⊎◌, inl, inr, refl, sym, ap, subst, ◌∙◌, true≢false, arith}
use Rattle.std.proofs.lemmas.Bool.{and_from, and_parts, false_from_ne_true, ltb-true, not-true, not_from_false, or_cases, or_left, or_right}
use Rattle.std.proofs.lemmas.Bool.Decides.{eqb_tells}
use Rattle.std.proofs.lemmas.List.{get_or-set_same, get_or-set_other}
use Rattle.pipe_graph.specs.Below.{any_below}
use Rattle.pipe_graph.specs.Graph.{Graph, is_host}
use Rattle.pipe_graph.specs.Reach.{reaches}
use Rattle.pipe_graph.proofs.BelowLaws.{none_below}
use Rattle.pipe_graph.proofs.Tests.{same_tests}
use Rattle.pipe_topo.specs.Sets.{has}
use Rattle.pipe_graph.specs.Count.{count_below}
use Rattle.pipe_graph.specs.Doomed.{after_round, after_rounds, are_partners, doomed, goes_next, has_strangers, is_left}
use Rattle.pipe_failtime.specs.First.{next_to_go}
use Rattle.pipe_failtime.proofs.FirstLaws.{IsNext, next_is, goes_alone, goes_first, one_goes, strangers_left}
use Rattle.pipe_failtime.proofs.TestLaws.{and_fails, count_falls, count_most, none_counted, none_from}

-- what it is to be left
left_parts : (g : Graph) (members gone : ℕ → Bool) (host : ℕ) → is_left g members gone host ≡ true → (host < g.hosts) × (members host ≡ true) × (gone host ≡ false)
left_parts g members gone host among =
    let parts = and_parts (is_host g host) (members host && not (gone host)) among in
    let rest = and_parts (members host) (not (gone host)) parts.1 in
    (ltb-true host g.hosts parts.0, rest.0, not-true (gone host) rest.1)

-- where no two are strangers, any two that are left are partners
pub partners_are : (g : Graph) (by left : ℕ → Bool) (a b : ℕ) → has_strangers g by left ≡ false → a < g.hosts → b < g.hosts → left a ≡ true → left b ≡ true → are_partners g by a b ≡ true
partners_are g by left a b none a_lt b_lt a_among b_among =
    let first = and_fails (left a) (any_below (λ c. left c && not (are_partners g by a c)) g.hosts)
    (none_below (λ e. left e && any_below (λ c. left c && not (are_partners g by e c)) g.hosts) g.hosts a none a_lt) a_among in
    let second = and_fails (left b) (not (are_partners g by a b)) (none_below (λ c. left c && not (are_partners g by a c)) g.hosts b first b_lt) b_among in
    is_not (are_partners g by a b) second
  where
    is_not : (t : Bool) → not t ≡ false → t ≡ true
    is_not true h = refl
    is_not false h = sym h

-- and back
pub no_strangers : (g : Graph) (by left : ℕ → Bool) → ((a b : ℕ) → a < g.hosts → b < g.hosts → left a ≡ true → left b ≡ true → are_partners g by a b ≡ true) → has_strangers g by left ≡ false
no_strangers g by left partners =
    none_from (λ a. left a && any_below (λ b. left b && not (are_partners g by a b)) g.hosts) g.hosts
    (λ a a_lt both.
    let parts = and_parts (left a) (any_below (λ b. left b && not (are_partners g by a b)) g.hosts) both in
    true≢false (sym parts.1 ∙ none_from (λ b. left b && not (are_partners g by a b)) g.hosts
    (λ b b_lt again.
    let rest = and_parts (left b) (not (are_partners g by a b)) again in
    true≢false (sym (partners a b a_lt b_lt parts.0 rest.0) ∙ not-true (are_partners g by a b) rest.1))))

-- a round dooms nobody where no two are strangers
pub round_same : (g : Graph) (by members gone : ℕ → Bool) → has_strangers g by (is_left g members gone) ≡ false → after_round g by members gone ≡ gone
round_same g by members gone none = λ i host. same host i
  where
    or_nothing : (s t u : Bool) → t ≡ false → (s || (t && u)) ≡ s
    or_nothing true t u h = refl
    or_nothing false true u h = absurd (true≢false h)
    or_nothing false false u h = refl

    same : (host : ℕ) → after_round g by members gone host ≡ gone host
    same host = or_nothing (gone host) (has_strangers g by (is_left g members gone)) (goes_next g by (is_left g members gone) host) none

-- nor does any later round
pub rounds_same : (g : Graph) (by members gone : ℕ → Bool) (count : ℕ) → has_strangers g by (is_left g members gone) ≡ false → after_rounds g by members gone count ≡ gone
rounds_same g by members gone zero none = refl
rounds_same g by members gone (suc count) none =
    ap (λ (set : ℕ → Bool). after_rounds g by members set count) (round_same g by members gone none) ∙ rounds_same g by members gone count none

-- what is doomed stays doomed
pub rounds_keep : (g : Graph) (by members gone : ℕ → Bool) (count host : ℕ) → gone host ≡ true → after_rounds g by members gone count host ≡ true
rounds_keep g by members gone zero host is = is
rounds_keep g by members gone (suc count) host is =
    rounds_keep g by members (after_round g by members gone) count host
    (or_left (gone host) (has_strangers g by (is_left g members gone) && goes_next g by (is_left g members gone) host) is)

-- a host that a round dooms was left
round_dooms : (g : Graph) (by members gone : ℕ → Bool) (host : ℕ) → after_round g by members gone host ≡ true → (gone host ≡ true) ⊎ (is_left g members gone host ≡ true)
round_dooms g by members gone host is =
    elim (or_cases (gone host) (has_strangers g by (is_left g members gone) && goes_next g by (is_left g members gone) host) is) [
      | inl before ↦ inl before
      | inr now ↦
          let goes = and_parts (has_strangers g by (is_left g members gone)) (goes_next g by (is_left g members gone) host) now in
          inr (and_parts (is_left g members gone host) _ goes.1).0
    ]

-- only members are doomed
pub rounds_doom : (g : Graph) (by members gone : ℕ → Bool) (count host : ℕ) → after_rounds g by members gone count host ≡ true → (gone host ≡ true) ⊎ ((host < g.hosts) × (members host ≡ true))
rounds_doom g by members gone zero host is = inl is
rounds_doom g by members gone (suc count) host is =
    elim (rounds_doom g by members (after_round g by members gone) count host is) [
      | inr member ↦ inr member
      | inl round ↦ elim (round_dooms g by members gone host round) [
        | inl before ↦ inl before
        | inr among ↦ let parts = left_parts g members gone host among in inr (parts.0, parts.1)
      ]
    ]

-- who is left after a round was left before
round_left : (g : Graph) (by members gone : ℕ → Bool) (host : ℕ) → is_left g members (after_round g by members gone) host ≡ true → is_left g members gone host ≡ true
round_left g by members gone host among =
    let parts = and_parts (is_host g host) (members host && not (after_round g by members gone host)) among in
    let rest = and_parts (members host) (not (after_round g by members gone host)) parts.1 in
    and_from (is_host g host) (members host && not (gone host)) parts.0
    (and_from (members host) (not (gone host)) rest.0
    (not_from_false (gone host) (false_from_ne_true (gone host) (λ is.
    true≢false (sym (or_left (gone host) (has_strangers g by (is_left g members gone) && goes_next g by (is_left g members gone) host) is)
    ∙ not-true (after_round g by members gone host) rest.1)))))

-- a round in which two are strangers leaves fewer hosts
pub round_falls : (g : Graph) (by members gone : ℕ → Bool) → has_strangers g by (is_left g members gone) ≡ true
    → count_below (is_left g members (after_round g by members gone)) g.hosts + 1 ≤ count_below (is_left g members gone) g.hosts
round_falls g by members gone some =
    let left = strangers_left g by (is_left g members gone) some in
    let goes = one_goes g by (is_left g members gone) left.0 left.1 left.2 in
    let next = goes_first g by (is_left g members gone) goes.0 goes.1 goes.2 in
    let dooms : after_round g by members gone goes.0 ≡ true =
    or_right (gone goes.0) (has_strangers g by (is_left g members gone) && goes_next g by (is_left g members gone) goes.0)
    (and_from (has_strangers g by (is_left g members gone)) (goes_next g by (is_left g members gone) goes.0) some goes.2) in
    count_falls (is_left g members (after_round g by members gone)) (is_left g members gone) g.hosts goes.0
    (λ host lt among. round_left g by members gone host among) goes.1
    (false_from_ne_true (is_left g members (after_round g by members gone) goes.0)
    (λ still. let parts = left_parts g members (after_round g by members gone) goes.0 still in true≢false (sym dooms ∙ parts.2)))
    next.among

-- after as many rounds as hosts are left no two are strangers
pub rounds_end : (g : Graph) (by members gone : ℕ → Bool) (count : ℕ) → count_below (is_left g members gone) g.hosts ≤ count
    → has_strangers g by (is_left g members (after_rounds g by members gone count)) ≡ false
rounds_end g by members gone zero few =
    no_strangers g by (is_left g members gone) (λ a b a_lt b_lt a_among b_among. absurd (none_counted (is_left g members gone) g.hosts few a a_lt a_among))
rounds_end g by members gone (suc count) few =
    step (λ fewer. rounds_end g by members (after_round g by members gone) count fewer) (has_strangers g by (is_left g members gone)) refl
  where
    step : (count_below (is_left g members (after_round g by members gone)) g.hosts ≤ count → has_strangers g by (is_left g members (after_rounds g by members (after_round g by members gone) count)) ≡ false)
        → (t : Bool) → has_strangers g by (is_left g members gone) ≡ t → has_strangers g by (is_left g members (after_rounds g by members (after_round g by members gone) count)) ≡ false
    step later true some = later (let falls = round_falls g by members gone some in omega arith)
    step later false none =
        subst (λ (set : ℕ → Bool). has_strangers g by (is_left g members set) ≡ false) (sym (rounds_same g by members gone (suc count) none)) none

pub doomed_end : (g : Graph) (by members before : ℕ → Bool) → has_strangers g by (is_left g members (doomed g by members before)) ≡ false
doomed_end g by members before = rounds_end g by members before g.hosts (count_most (is_left g members before) g.hosts)

-- any two that are left at the end reach each other
pub kept_reach : (g : Graph) (by members before : ℕ → Bool) (a b : ℕ) → is_left g members (doomed g by members before) a ≡ true → is_left g members (doomed g by members before) b ≡ true → reaches g by a b ≡ true
kept_reach g by members before a b a_kept b_kept =
    let a_lt = left_parts g members (doomed g by members before) a a_kept in
    let b_lt = left_parts g members (doomed g by members before) b b_kept in
    (and_parts (reaches g by a b) (reaches g by b a)
    (partners_are g by (is_left g members (doomed g by members before)) a b (doomed_end g by members before) a_lt.0 b_lt.0 a_kept b_kept)).0

-- where any two that are left are partners, nobody more is doomed
pub none_more_doomed : (g : Graph) (by members before : ℕ → Bool) → ((a b : ℕ) → is_left g members before a ≡ true → is_left g members before b ≡ true → are_partners g by a b ≡ true)
    → (host : ℕ) → doomed g by members before host ≡ before host
none_more_doomed g by members before partners host =
    ap (λ (set : ℕ → Bool). set host)
    (rounds_same g by members before g.hosts (no_strangers g by (is_left g members before) (λ a b a_lt b_lt a_among b_among. partners a b a_among b_among)))

-- the set after a round: the next host put in, where there is one
pub round_puts : (g : Graph) (by members : ℕ → Bool) (gone : List Bool) (host : ℕ) → next_to_go g by (is_left g members (has gone)) ≡ Some host → host < length gone
    → has (set gone host true) ≡ after_round g by members (has gone)
round_puts g by members gone host is inside =
    let next : IsNext g by (is_left g members (has gone)) (Some host) =
    subst (IsNext g by (is_left g members (has gone))) is (next_is g by (is_left g members (has gone))) in
    λ i n. at next n i
  where
    at : IsNext g by (is_left g members (has gone)) (Some host) → (n : ℕ) → has (set gone host true) n ≡ after_round g by members (has gone) n
    at next n = elim (eqb_tells n host) [
      | inl same ↦ subst (λ (m : ℕ). has (set gone host true) m ≡ after_round g by members (has gone) m) (sym same.1)
          (get_or-set_same gone host true false inside
          ∙ sym (or_right (has gone host) (has_strangers g by (is_left g members (has gone)) && goes_next g by (is_left g members (has gone)) host)
          (and_from (has_strangers g by (is_left g members (has gone))) (goes_next g by (is_left g members (has gone)) host) next.1 next.2)))
      | inr other ↦ get_or-set_other gone host n true false other.1 ∙ sym (same_tests (after_round g by members (has gone) n) (has gone n)
          (λ round. elim (or_cases (has gone n) (has_strangers g by (is_left g members (has gone)) && goes_next g by (is_left g members (has gone)) n) round) [
            | inl before ↦ before
            | inr goes ↦
                let parts = and_parts (has_strangers g by (is_left g members (has gone))) (goes_next g by (is_left g members (has gone)) n) goes in
                let among = and_parts (is_left g members (has gone) n) _ parts.1 in
                let inner = left_parts g members (has gone) n among.0 in
                absurd (other.1 (goes_alone g by (is_left g members (has gone)) n host inner.0 next.0 parts.1 next.2))
          ])
          (or_left (has gone n) (has_strangers g by (is_left g members (has gone)) && goes_next g by (is_left g members (has gone)) n)))
    ]

-- no next host: no round dooms one more
pub rounds_over : (g : Graph) (by members gone : ℕ → Bool) (count : ℕ) → next_to_go g by (is_left g members gone) ≡ None → after_rounds g by members gone count ≡ gone
rounds_over g by members gone count is =
    rounds_same g by members gone count (subst (IsNext g by (is_left g members gone)) is (next_is g by (is_left g members gone)))

-- a round of the code is the first of the rounds that are to come
pub rounds_turn : (g : Graph) (by members : ℕ → Bool) (gone new : List Bool) (host count rest : ℕ) (end : ℕ → Bool)
    → next_to_go g by (is_left g members (has gone)) ≡ Some host → host < length gone → new ≡ set gone host true
    → rest ≡ suc count → after_rounds g by members (has gone) rest ≡ end → after_rounds g by members (has new) count ≡ end
rounds_turn g by members gone new host count rest end next inside is one whole =
    ap (λ (s : ℕ → Bool). after_rounds g by members s count) (ap (λ (xs : List Bool). has xs) is ∙ round_puts g by members gone host next inside)
    ∙ sym (ap (λ (n : ℕ). after_rounds g by members (has gone) n) one)
    ∙ whole
