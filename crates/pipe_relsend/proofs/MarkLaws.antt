-- Marks against the receivers that they belong to.
use Rattle.std.proofs.Common.{◌≡◌, ◌≢◌, ℕ, ◌+◌, zero, suc, replicate, set, below_more, get_or-set_same, get_or-set_other, ◌<◌, ◌≤◌, ◌||◌, ◌==◌, not, Bool, true, false, List, [], ◌∷◌, length, get_or, take, drop, map, filter, refl, sym, ap, ap₂, arith, ◌∙◌, if◌then◌else◌}
use Rattle.std.specs.Prelude.{zip}
use Rattle.std.specs.List.{list_any}
use Rattle.std.proofs.lemmas.Bool.{or_right}
use Rattle.std.proofs.lemmas.Bool.Decides.{nat_tests}
use Rattle.std.proofs.lemmas.List.{get_or_default}
use Rattle.pipe_base.specs.declared.name.HostId.{HostId}
use Rattle.pipe_relsend.specs.Pending.{marked, open_dests}

-- marks that are set one by one
pub marks_are : (test : HostId × List ℕ → Bool) (ds : List (HostId × List ℕ)) (new old : List Bool) → length ds ≤ length new → length ds ≤ length old
    → ((k : ℕ) (d : HostId × List ℕ) → k < length ds → get_or new k false ≡ (get_or old k false || test (get_or ds k d)))
    → take (length ds) new ≡ marked test ds (take (length ds) old)
marks_are test [] new old more much reads = refl
marks_are test (d ∷ ds) [] old more much reads = absurd (omega arith)
marks_are test (d ∷ ds) (x ∷ new) [] more much reads = absurd (omega arith)
marks_are test (d ∷ ds) (x ∷ new) (y ∷ old) more much reads =
    let first : x ≡ (y || test d) = reads 0 d (omega arith) in
    ap₂ {A = Bool} {B = List Bool} {C = List Bool} (λ b bs. b ∷ bs) first (marks_are test ds new old (omega arith) (omega arith) (λ k e lt. reads (suc k) e (omega arith)))

-- marks that are a function of the receivers
pub marked_by : (test f : HostId × List ℕ → Bool) (ds : List (HostId × List ℕ)) → marked test ds (map f ds) ≡ map (λ d. f d || test d) ds
marked_by test f [] = refl
marked_by test f (d ∷ ds) = ap (λ (bs : List Bool). (f d || test d) ∷ bs) (marked_by test f ds)

pub open_by : (f : HostId × List ℕ → Bool) (ds : List (HostId × List ℕ)) → open_dests ds (map f ds) ≡ filter (λ d. not (f d)) ds
open_by f [] = refl
open_by f (d ∷ ds) = let rest = open_by f ds in grind (arith, nat_tests, rest)

-- a scattering begins without marks
pub no_marks_yet : (n : ℕ) (ds : List (HostId × List ℕ)) → length ds ≤ n → take (length ds) (replicate n false) ≡ map (λ d. false) ds
no_marks_yet n [] le = refl
no_marks_yet zero (d ∷ ds) le = absurd (omega arith)
no_marks_yet (suc n) (d ∷ ds) le = ap (λ (bs : List Bool). false ∷ bs) (no_marks_yet n ds (omega arith))

-- marks past the receivers are not looked at
pub open_short : (ds : List (HostId × List ℕ)) (ms : List Bool) → open_dests ds (take (length ds) ms) ≡ open_dests ds ms
open_short [] ms = refl
open_short (d ∷ ds) [] = refl
open_short (d ∷ ds) (m ∷ ms) = let rest = open_short ds ms in grind (arith, nat_tests, rest)

-- one receiver after the other
pub open_skip : (ds : List (HostId × List ℕ)) (ms : List Bool) (k : ℕ) → k < length ds → k < length ms → get_or ms k false ≡ true
    → open_dests (drop k ds) (drop k ms) ≡ open_dests (drop (suc k) ds) (drop (suc k) ms)
open_skip [] ms k within marked is = absurd (omega arith)
open_skip (d ∷ ds) [] k within marked is = absurd (omega arith)
open_skip (d ∷ ds) (m ∷ ms) zero within marked is = rw is refl
open_skip (d ∷ ds) (m ∷ ms) (suc k) within marked is = open_skip ds ms k (omega arith) (omega arith) is

pub open_here : (ds : List (HostId × List ℕ)) (ms : List Bool) (k : ℕ) (d : HostId × List ℕ) → k < length ds → k < length ms → get_or ms k false ≡ false → d ≡ get_or ds k d
    → open_dests (drop k ds) (drop k ms) ≡ d ∷ open_dests (drop (suc k) ds) (drop (suc k) ms)
open_here [] ms k d within marked is here = absurd (omega arith)
open_here (e ∷ ds) [] k d within marked is here = absurd (omega arith)
open_here (e ∷ ds) (m ∷ ms) zero d within marked is here = rw (is, here) refl
open_here (e ∷ ds) (m ∷ ms) (suc k) d within marked is here = open_here ds ms k d (omega arith) (omega arith) is here

-- another host
pub other_host : (a b : ℕ) → a ≢ b → (a == b) ≡ false
other_host a b other = grind (arith, nat_tests, other)

-- one mark more
abbrev AreMarked : (HostId × List ℕ → Bool) → List (HostId × List ℕ) → List Bool → List Bool → ℕ → Type 0
AreMarked test ds start marks k = (d : HostId × List ℕ) → get_or marks k false ≡ (get_or start k false || test (get_or ds k d))

pub mark_here : (test : HostId × List ℕ → Bool) (ds : List (HostId × List ℕ)) (start marks : List Bool) (at : ℕ) (e : HostId × List ℕ) → at < length ds → at < length marks
    → ((k : ℕ) (d : HostId × List ℕ) → k < at → get_or marks k false ≡ (get_or start k false || test (get_or ds k d)))
    → e ≡ get_or ds at e → test e ≡ true → (k : ℕ) (d : HostId × List ℕ) → k < at + 1 → get_or (set marks at true) k false ≡ (get_or start k false || test (get_or ds k d))
mark_here test ds start marks at e within room done is passes k d below =
    below_more (AreMarked test ds start (set marks at true)) at
    (λ j lt c. let ne : j ≢ at = omega arith in rw get_or-set_other (done j c lt))
    (λ c.
    let here : test (get_or ds at c) ≡ true = ap test (get_or_default ds at c e within ∙ sym is) ∙ passes in
    get_or-set_same marks at true false room ∙ sym (or_right (get_or start at false) (test (get_or ds at c)) here)) k below d

pub mark_none : (test : HostId × List ℕ → Bool) (ds : List (HostId × List ℕ)) (start marks : List Bool) (at : ℕ) (e : HostId × List ℕ) → at < length ds
    → ((k : ℕ) (d : HostId × List ℕ) → k < at → get_or marks k false ≡ (get_or start k false || test (get_or ds k d)))
    → get_or marks at false ≡ get_or start at false → e ≡ get_or ds at e → test e ≡ false
    → (k : ℕ) (d : HostId × List ℕ) → k < at + 1 → get_or marks k false ≡ (get_or start k false || test (get_or ds k d))
mark_none test ds start marks at e within done kept is fails k d below =
    below_more (AreMarked test ds start marks) at (λ j lt c. done j c lt)
    (λ c.
    let here : test (get_or ds at c) ≡ false = ap test (get_or_default ds at c e within ∙ sym is) ∙ fails in
    grind (arith, nat_tests, kept, here)) k below d

-- what is beside the receivers is a function of them
pub any_beside : (f : HostId × List ℕ → Bool) (test : (HostId × List ℕ) × Bool → Bool) (ds : List (HostId × List ℕ))
    → list_any test (zip ds (map f ds)) ≡ list_any (λ d. test (d, f d)) ds
any_beside f test [] = refl
any_beside f test (d ∷ ds) = ap (λ (b : Bool). test (d, f d) || b) (any_beside f test ds)
