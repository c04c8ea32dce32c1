-- An answer at its place among the scatterings, and noted failed hosts at each place.
use Rattle.std.proofs.Common.{◌≡◌, ◌≢◌, ℕ, zero, suc, ◌<◌, ◌==◌, true, false, List, [], ◌∷◌, ◌++◌, length, get_or, take, drop, None, Some, refl, sym, ap, ◌∙◌, arith, eq-eqb}
use Rattle.std.specs.Prelude.{insert, remove}
use Rattle.std.specs.List.{All}
use Rattle.std.proofs.lemmas.List.Elements.{All-head, All-tail}
use Rattle.pipe_base.specs.declared.control.Announced.{Announced}
use Rattle.pipe_relsend.specs.declared.state.Answer.{Answer}
use Rattle.pipe_relsend.specs.Pending.{Pending}
use Rattle.pipe_relsend.specs.Sending.{IsPlaceOf, answered, before, noted}
use Rattle.pipe_relsend.specs.State.{after_answer, after_note}
use Rattle.pipe_relsend.proofs.MarkLaws.{other_host}

-- where none has the timestamp, nothing changes
pub after_none : (answer : Answer) (ts host : ℕ) (ps : List Pending) → All (λ p. p.ts.0 ≢ ts) ps → ps ≡ answered answer ts host ps
after_none answer ts host [] others = refl
after_none answer ts host (p ∷ ps) others =
    let first : (p.ts.0 == ts) ≡ false = other_host p.ts.0 ts (All-head (λ (q : Pending). q.ts.0 ≢ ts) p ps others) in
    rw first (ap (λ (qs : List Pending). p ∷ qs) (after_none answer ts host ps (All-tail (λ (q : Pending). q.ts.0 ≢ ts) p ps others)))

later_place : (ts at : ℕ) (p : Pending) (ps : List Pending) → IsPlaceOf ts (p ∷ ps) (suc at) → IsPlaceOf ts ps at
later_place ts at p ps place = record {
  within = let lt : suc at < length (p ∷ ps) = place.within in omega arith;
  here = place.here;
  earlier = λ k d lt. place.earlier (suc k) d (omega arith);
}

-- at its place a scattering has its answer
pub after_at : (answer : Answer) (ts host : ℕ) (ps : List Pending) (at : ℕ) (p : Pending) → IsPlaceOf ts ps at → p ≡ get_or ps at p
    → take at ps ++ before (after_answer answer host p) (drop (suc at) ps) ≡ answered answer ts host ps
after_at answer ts host [] at p place is = absurd (let none : List Pending = [] in let lt : at < length none = place.within in omega arith)
after_at answer ts host (q ∷ ps) zero p place is =
    let test : (q.ts.0 == ts) ≡ true = eq-eqb q.ts.0 ts (place.here q) in rw (is, test) refl
after_at answer ts host (q ∷ ps) (suc at) p place is =
    let test : (q.ts.0 == ts) ≡ false = other_host q.ts.0 ts (place.earlier 0 q (omega arith)) in
    rw test (ap (λ (qs : List Pending). q ∷ qs) (after_at answer ts host ps at p (later_place ts at q ps place) is))

-- what is taken out and put back
pub put_back_at : (ps : List Pending) (at : ℕ) (p : Pending) → at < length ps → insert (remove ps at) at p ≡ take at ps ++ p ∷ drop (suc at) ps
put_back_at [] at p within = absurd (omega arith)
put_back_at (q ∷ ps) zero p within = refl
put_back_at (q ∷ ps) (suc at) p within = ap (λ (qs : List Pending). q ∷ qs) (put_back_at ps at p (omega arith))

-- the scatterings before a place have noted the failed hosts, and those from there on have still to
abbrev pub half_noted : List Announced → ℕ → List Pending → List Pending
half_noted failed at ps = take at ps ++ noted failed (drop at ps)

-- one that is left stays at its place
pub note_stays : (failed : List Announced) (ps : List Pending) (at : ℕ) (p q : Pending) → at < length ps → p ≡ get_or ps at p → after_note failed p ≡ Some q
    → half_noted failed (suc at) (take at ps ++ q ∷ drop (suc at) ps) ≡ half_noted failed at ps
note_stays failed [] at p q within is left = absurd (omega arith)
note_stays failed (x ∷ ps) zero p q within is left = let here : after_note failed x ≡ Some q = sym (ap (after_note failed) is) ∙ left in rw here refl
note_stays failed (x ∷ ps) (suc at) p q within is left = ap (λ (qs : List Pending). x ∷ qs) (note_stays failed ps at p q (omega arith) is left)

-- one that is settled goes
pub note_goes : (failed : List Announced) (ps : List Pending) (at : ℕ) (p : Pending) → at < length ps → p ≡ get_or ps at p → after_note failed p ≡ None
    → half_noted failed at (remove ps at) ≡ half_noted failed at ps
note_goes failed [] at p within is gone = absurd (omega arith)
note_goes failed (x ∷ ps) zero p within is gone = let here : after_note failed x ≡ None = sym (ap (after_note failed) is) ∙ gone in rw here refl
note_goes failed (x ∷ ps) (suc at) p within is gone = ap (λ (qs : List Pending). x ∷ qs) (note_goes failed ps at p (omega arith) is gone)
