-- Lemmas on tests.
use Rattle.std.proofs.Common.{◌≡◌, Bool, true, false, refl, sym}

-- two tests that pass together are equal
pub same_tests : (s t : Bool) → (s ≡ true → t ≡ true) → (t ≡ true → s ≡ true) → s ≡ t
same_tests true t there back = sym (there refl)
same_tests false true there back = back refl
same_tests false false there back = refl
