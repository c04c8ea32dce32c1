-- Laws of messages without those that are void.
use Rattle.std.proofs.Common.{◌≡◌, ℕ, ◌||◌, ◌==◌, not, Bool, true, false, cond, List, [], ◌∷◌, ◌++◌, filter, All, Option, None, Some, refl, sym, subst, ap, ap₂, ◌∙◌, arith, eqb-true}
use Rattle.std.proofs.lemmas.Bool.{and_parts, not_from_false}
use Rattle.std.proofs.lemmas.Bool.Decides.{nat_tests}
use Rattle.pipe_base.specs.declared.control.Announced.{Announced}
use Rattle.pipe_base.specs.declared.message.Key.{Key}
use Rattle.pipe_base.specs.declared.name.Ts.{Ts}
use Rattle.pipe_base.specs.Failed.{is_from, is_void, time_of, without_void}
use Rattle.pipe_base.specs.Messages.{Messages, Before, IsInOrder, has_key, key_cmp, same_key, with_message}
use Rattle.pipe_base.proofs.MessageLaws.{filter_strict, has_passing, passing-with}

-- ---- what is void

-- all that is void by some hosts is void by others too
abbrev pub Covers : List Announced → List Announced → Type 0
Covers failed more = (k : Key) → is_void failed k ≡ true → is_void more k ≡ true

time_stays : (host : ℕ) (failed more : List Announced) (time : Ts) → time_of host failed ≡ Some time → time_of host (failed ++ more) ≡ Some time
time_stays host [] more time is = cc
time_stays host (a ∷ failed) more time is = let rest = time_stays host failed more time in grind (arith, nat_tests, rest, is)

void_by : (failed more : List Announced) (k : Key) (o : Option Ts) → time_of k.src.0 failed ≡ o → is_from o k.ts ≡ true → is_from (time_of k.src.0 (failed ++ more)) k.ts ≡ true
void_by failed more k None o_is is = cc
void_by failed more k (Some time) o_is is = ap (λ (t : Option Ts). is_from t k.ts) (time_stays k.src.0 failed more time o_is) ∙ is

-- the first time of a host stands
pub covers_more : (failed more : List Announced) → Covers failed (failed ++ more)
covers_more failed more k is = void_by failed more k (time_of k.src.0 failed) refl is

pub without_more : (failed more : List Announced) (ms : Messages) → Covers failed more → without_void more (without_void failed ms) ≡ without_void more ms
without_more failed more ms covers =
    filter_strict (λ m. not (is_void more m.0)) (λ m. not (is_void failed m.0)) ms
    (λ m stands. let void = covers m.0 in grind (arith, nat_tests, void, stands))

-- a message that is not void is held or not whatever is void
pub has_standing : (failed : List Announced) (k : Key) (ms : Messages) → is_void failed k ≡ false → has_key k (without_void failed ms) ≡ has_key k ms
has_standing failed k ms stands = has_passing (λ n. not (is_void failed n)) k ms (not_from_false (is_void failed k) stands)

pub standing-with : (failed : List Announced) (k : Key) (v : List ℕ) (ms : Messages) → IsInOrder ms → is_void failed k ≡ false
    → without_void failed (with_message k v ms) ≡ with_message k v (without_void failed ms)
standing-with failed k v ms order stands = passing-with (λ n. not (is_void failed n)) k v ms order (not_from_false (is_void failed k) stands)
