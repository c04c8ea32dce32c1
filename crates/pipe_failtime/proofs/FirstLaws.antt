-- Lemmas on the host that must go next: there is exactly one, where any is left.
use Rattle.std.proofs.Common.{◌≡◌, ℕ, zero, suc, ◌<◌, ◌≤◌, ◌==◌, nat_lt, Bool, true, false, ◌&&◌, ◌||◌, not, if◌then◌else◌, Option, None, Some, inl, inr, refl, sym, subst, ◌∙◌, true≢false, arith}
use Rattle.std.proofs.lemmas.Bool.{and_from, and_parts, false_from_ne_true, not-true, not_from_false}
use Rattle.std.proofs.lemmas.Bool.Decides.{nat_tests}
use Rattle.pipe_graph.specs.Below.{any_below}
use Rattle.pipe_graph.specs.Graph.{Graph}
use Rattle.pipe_graph.proofs.BelowLaws.{any_below_gives, none_below}
use Rattle.pipe_graph.specs.Doomed.{Standing, GoesNext, are_partners, goes_before, goes_next, has_strangers, standing_of}
use Rattle.pipe_failtime.specs.First.{first_to_go, goes_rather, next_to_go}
use Rattle.pipe_failtime.proofs.TestLaws.{below_next, none_from, and_fails}

-- on plain numbers
abbrev precedes : ℕ → ℕ → ℕ → ℕ → ℕ → ℕ → Bool
precedes p r h q s i = nat_lt p q || ((p == q) && (nat_lt r s || ((r == s) && nat_lt i h)))

precedes_on : (p r h q s i t u j : ℕ) → precedes p r h q s i ≡ true → precedes q s i t u j ≡ true → precedes p r h t u j ≡ true
precedes_on p r h q s i t u j one two = grind (arith, nat_tests)

precedes_none : (p r h : ℕ) → precedes p r h p r h ≡ false
precedes_none p r h = grind (arith, nat_tests)

precedes_either : (p r h q s i : ℕ) → precedes p r h q s i ≡ false → precedes q s i p r h ≡ false → h ≡ i
precedes_either p r h q s i one two = grind (arith, nat_tests)

precedes_fewer : (p r h q s i : ℕ) → precedes q s i p r h ≡ false → p ≤ q
precedes_fewer p r h q s i isnt = grind (arith, nat_tests)

precedes_less : (p r h q s i : ℕ) → precedes q s i p r h ≡ false → q ≡ p → r ≤ s
precedes_less p r h q s i isnt same = grind (arith, nat_tests)

precedes_last : (p r h q s i : ℕ) → precedes q s i p r h ≡ false → q ≡ p → s ≡ r → i ≤ h
precedes_last p r h q s i isnt same alike = grind (arith, nat_tests)

precedes_not : (p r h q s i : ℕ) → p ≤ q → (q ≡ p → r ≤ s) → (q ≡ p → s ≡ r → i ≤ h) → precedes q s i p r h ≡ false
precedes_not p r h q s i fewer less last = grind (arith, nat_tests)

-- the host is left, below the bound, and none of those below it that are left must go rather than it
pub record IsFirst (g : Graph) (by left : ℕ → Bool) (bound host : ℕ) : Type 0 where
  pub inside : host < bound
  pub among : left host ≡ true
  pub first : (b : ℕ) → b < bound → left b ≡ true → goes_before (standing_of g by left b) (standing_of g by left host) ≡ false

-- the first host below the bound, or none where none is left
abbrev pub IsBest : Graph → (ℕ → Bool) → (ℕ → Bool) → ℕ → Option ℕ → Type 0
IsBest g by left bound None = (b : ℕ) → b < bound → left b ≡ true → ⊥
IsBest g by left bound (Some host) = IsFirst g by left bound host

-- a host that goes rather than the first so far
better : (g : Graph) (by left : ℕ → Bool) (n : ℕ) (first : Option ℕ) → IsBest g by left n first → goes_rather g by left first n ≡ true → IsFirst g by left (suc n) n
better g by left n None none is = record {
  inside = omega arith;
  among = is;
  first = λ b lt among. elim (below_next n b lt) [
    | inl below ↦ absurd (none b below among)
    | inr same ↦ subst (λ (h : ℕ). goes_before (standing_of g by left h) (standing_of g by left n) ≡ false) (sym same) (never (standing_of g by left n))
  ];
}
  where
    never : (a : Standing) → goes_before a a ≡ false
    never a = precedes_none a.partners a.reached a.host
better g by left n (Some h) best is =
    let parts = and_parts (left n) (goes_before (standing_of g by left n) (standing_of g by left h)) is in
    record {
      inside = omega arith;
      among = parts.0;
      first = λ b lt among. elim (below_next n b lt) [
        | inl below ↦ false_from_ne_true (goes_before (standing_of g by left b) (standing_of g by left n))
            (λ rather. true≢false (sym (on (standing_of g by left b) (standing_of g by left n) (standing_of g by left h) rather parts.1) ∙ best.first b below among))
        | inr same ↦ subst (λ (k : ℕ). goes_before (standing_of g by left k) (standing_of g by left n) ≡ false) (sym same) (never (standing_of g by left n))
      ];
    }
  where
    never : (a : Standing) → goes_before a a ≡ false
    never a = precedes_none a.partners a.reached a.host

    on : (a b c : Standing) → goes_before a b ≡ true → goes_before b c ≡ true → goes_before a c ≡ true
    on a b c one two = precedes_on a.partners a.reached a.host b.partners b.reached b.host c.partners c.reached c.host one two

-- a host that does not
no_better : (g : Graph) (by left : ℕ → Bool) (n : ℕ) (first : Option ℕ) → IsBest g by left n first → goes_rather g by left first n ≡ false → IsBest g by left (suc n) first
no_better g by left n None none isnt = λ b lt among. elim (below_next n b lt) [
  | inl below ↦ none b below among
  | inr same ↦ true≢false (sym (subst (λ (k : ℕ). left k ≡ true) same among) ∙ isnt)
]
no_better g by left n (Some h) best isnt =
    let inside = best.inside in
    record {
      inside = omega arith;
      among = best.among;
      first = λ b lt among. elim (below_next n b lt) [
        | inl below ↦ best.first b below among
        | inr same ↦ subst (λ (k : ℕ). goes_before (standing_of g by left k) (standing_of g by left h) ≡ false) (sym same)
            (and_fails (left n) (goes_before (standing_of g by left n) (standing_of g by left h)) isnt (subst (λ (k : ℕ). left k ≡ true) same among))
      ];
    }

pub first_best : (g : Graph) (by left : ℕ → Bool) (n : ℕ) → IsBest g by left n (first_to_go g by left n)
first_best g by left zero = λ b lt among. absurd (omega arith)
first_best g by left (suc n) = step (first_best g by left n) (goes_rather g by left (first_to_go g by left n) n) refl
  where
    step : IsBest g by left n (first_to_go g by left n) → (t : Bool) → goes_rather g by left (first_to_go g by left n) n ≡ t
        → IsBest g by left (suc n) (if goes_rather g by left (first_to_go g by left n) n then Some n else first_to_go g by left n)
    step best true is = subst (λ (t : Bool). IsBest g by left (suc n) (if t then Some n else first_to_go g by left n)) (sym is)
        (better g by left n (first_to_go g by left n) best is)
    step best false isnt = subst (λ (t : Bool). IsBest g by left (suc n) (if t then Some n else first_to_go g by left n)) (sym isnt)
        (no_better g by left n (first_to_go g by left n) best isnt)

first_goes : (g : Graph) (by left : ℕ → Bool) (host : ℕ) → IsFirst g by left g.hosts host → goes_next g by left host ≡ true
first_goes g by left host is =
    and_from (left host) (not (any_below (λ b. left b && goes_before (standing_of g by left b) (standing_of g by left host)) g.hosts)) is.among
    (not_from_false (any_below (λ b. left b && goes_before (standing_of g by left b) (standing_of g by left host)) g.hosts)
    (none_from (λ b. left b && goes_before (standing_of g by left b) (standing_of g by left host)) g.hosts
    (λ b lt both. let parts = and_parts (left b) (goes_before (standing_of g by left b) (standing_of g by left host)) both in
    true≢false (sym parts.1 ∙ is.first b lt parts.0))))

pub goes_first : (g : Graph) (by left : ℕ → Bool) (host : ℕ) → host < g.hosts → goes_next g by left host ≡ true → IsFirst g by left g.hosts host
goes_first g by left host lt goes =
    let parts = and_parts (left host) (not (any_below (λ b. left b && goes_before (standing_of g by left b) (standing_of g by left host)) g.hosts)) goes in
    let none = not-true (any_below (λ b. left b && goes_before (standing_of g by left b) (standing_of g by left host)) g.hosts) parts.1 in
    record {
      inside = lt;
      among = parts.0;
      first = λ b b_lt among.
          and_fails (left b) (goes_before (standing_of g by left b) (standing_of g by left host))
          (none_below (λ c. left c && goes_before (standing_of g by left c) (standing_of g by left host)) g.hosts b none b_lt) among;
    }

-- one host goes alone
pub goes_alone : (g : Graph) (by left : ℕ → Bool) (a b : ℕ) → a < g.hosts → b < g.hosts → goes_next g by left a ≡ true → goes_next g by left b ≡ true → a ≡ b
goes_alone g by left a b a_lt b_lt a_goes b_goes =
    let one = goes_first g by left a a_lt a_goes in
    let other = goes_first g by left b b_lt b_goes in
    either (standing_of g by left a) (standing_of g by left b) (other.first a a_lt one.among) (one.first b b_lt other.among)
  where
    either : (s t : Standing) → goes_before s t ≡ false → goes_before t s ≡ false → s.host ≡ t.host
    either s t not_one not_other = precedes_either s.partners s.reached s.host t.partners t.reached t.host not_one not_other

-- where two are strangers, some host is left
pub strangers_left : (g : Graph) (by left : ℕ → Bool) → has_strangers g by left ≡ true → (a : ℕ) × (a < g.hosts) × (left a ≡ true)
strangers_left g by left some =
    let found = any_below_gives (λ a. left a && any_below (λ b. left b && not (are_partners g by a b)) g.hosts) g.hosts some in
    let parts = and_parts (left found.0) (any_below (λ b. left b && not (are_partners g by found.0 b)) g.hosts) found.2 in
    (found.0, found.1, parts.0)

-- what the next host to go is, or that there is none
abbrev pub IsNext : Graph → (ℕ → Bool) → (ℕ → Bool) → Option ℕ → Type 0
IsNext g by left None = has_strangers g by left ≡ false
IsNext g by left (Some host) = (host < g.hosts) × (has_strangers g by left ≡ true) × (goes_next g by left host ≡ true)

pub next_is : (g : Graph) (by left : ℕ → Bool) → IsNext g by left (next_to_go g by left)
next_is g by left = by_strangers (has_strangers g by left) refl
  where
    found : has_strangers g by left ≡ true → (first : Option ℕ) → IsBest g by left g.hosts first → IsNext g by left first
    found some None none = let is = strangers_left g by left some in absurd (none is.0 is.1 is.2)
    found some (Some host) best = (best.inside, some, first_goes g by left host best)

    by_strangers : (t : Bool) → has_strangers g by left ≡ t → IsNext g by left (if has_strangers g by left then first_to_go g by left g.hosts else None)
    by_strangers true some = subst (λ (t : Bool). IsNext g by left (if t then first_to_go g by left g.hosts else None)) (sym some)
        (found some (first_to_go g by left g.hosts) (first_best g by left g.hosts))
    by_strangers false none = subst (λ (t : Bool). IsNext g by left (if t then first_to_go g by left g.hosts else None)) (sym none) none

pub next_inside : (g : Graph) (by left : ℕ → Bool) (host : ℕ) → next_to_go g by left ≡ Some host → host < g.hosts
next_inside g by left host is =
    let next : IsNext g by left (Some host) = subst (IsNext g by left) is (next_is g by left) in
    next.0

-- some host goes next, where any is left
pub one_goes : (g : Graph) (by left : ℕ → Bool) (a : ℕ) → a < g.hosts → left a ≡ true → (host : ℕ) × (host < g.hosts) × (goes_next g by left host ≡ true)
one_goes g by left a lt among = pick (first_to_go g by left g.hosts) (first_best g by left g.hosts)
  where
    pick : (first : Option ℕ) → IsBest g by left g.hosts first → (host : ℕ) × (host < g.hosts) × (goes_next g by left host ≡ true)
    pick None none = absurd (none a lt among)
    pick (Some host) best = (host, best.inside, first_goes g by left host best)

-- the test in words, and back
pub goes_in_words : (g : Graph) (by left : ℕ → Bool) (host : ℕ) → host < g.hosts → goes_next g by left host ≡ true → GoesNext g by left host
goes_in_words g by left host lt goes =
    let is = goes_first g by left host lt goes in
    record {
      among = is.among;
      fewest_partners = λ b b_lt among. fewer (standing_of g by left host) (standing_of g by left b) (is.first b b_lt among);
      fewest_reached = λ b b_lt among. less (standing_of g by left host) (standing_of g by left b) (is.first b b_lt among);
      greatest_number = λ b b_lt among. last (standing_of g by left host) (standing_of g by left b) (is.first b b_lt among);
    }
  where
    fewer : (a b : Standing) → goes_before b a ≡ false → a.partners ≤ b.partners
    fewer a b isnt = precedes_fewer a.partners a.reached a.host b.partners b.reached b.host isnt

    less : (a b : Standing) → goes_before b a ≡ false → b.partners ≡ a.partners → a.reached ≤ b.reached
    less a b isnt same = precedes_less a.partners a.reached a.host b.partners b.reached b.host isnt same

    last : (a b : Standing) → goes_before b a ≡ false → b.partners ≡ a.partners → b.reached ≡ a.reached → b.host ≤ a.host
    last a b isnt same alike = precedes_last a.partners a.reached a.host b.partners b.reached b.host isnt same alike

pub words_go : (g : Graph) (by left : ℕ → Bool) (host : ℕ) → host < g.hosts → GoesNext g by left host → goes_next g by left host ≡ true
words_go g by left host lt is =
    first_goes g by left host (record {
      inside = lt;
      among = is.among;
      first = λ b b_lt among. never (standing_of g by left host) (standing_of g by left b)
          (is.fewest_partners b b_lt among) (is.fewest_reached b b_lt among) (is.greatest_number b b_lt among);
    })
  where
    never : (a b : Standing) → a.partners ≤ b.partners → (b.partners ≡ a.partners → a.reached ≤ b.reached)
        → (b.partners ≡ a.partners → b.reached ≡ a.reached → b.host ≤ a.host) → goes_before b a ≡ false
    never a b fewer less last = precedes_not a.partners a.reached a.host b.partners b.reached b.host fewer less last
