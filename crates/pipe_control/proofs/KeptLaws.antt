-- Lemmas on the sets of the kept hosts and of the links that are left, while they are filled.
use Rattle.std.proofs.Common.{◌≡◌, ℕ, ◌+◌, ◌<◌, Bool, true, false, ◌&&◌, not, List, length, set, replicate, ap, arith}
use Rattle.std.proofs.lemmas.List.{get_or_past}
use Rattle.pipe_failtime.specs.Filled.{IsFilled}
use Rattle.pipe_failtime.proofs.FilledLaws.{filled_in, filled_is, filled_none, filled_out}
use Rattle.pipe_topo.specs.Sets.{has}

pub kept_none : (count : ℕ) (test : ℕ → Bool) → IsFilled (replicate count false) count test 0
kept_none = filled_none

pub kept_in : (xs : List Bool) (count : ℕ) (test : ℕ → Bool) (i : ℕ) → IsFilled xs count test i → i < count → test i ≡ true → IsFilled (set xs i true) count test (i + 1)
kept_in = filled_in

pub kept_out : (xs : List Bool) (count : ℕ) (test : ℕ → Bool) (i : ℕ) → IsFilled xs count test i → test i ≡ false → IsFilled xs count test (i + 1)
kept_out = filled_out

-- the members that are not doomed
abbrev pub stays : List Bool → List Bool → ℕ → Bool
stays members doomed host = has members host && not (has doomed host)

pub kept_all : (members doomed kept : List Bool) → length members ≡ 64 → IsFilled kept 64 (stays members doomed) 64 → has kept ≡ stays members doomed
kept_all members doomed kept size filled =
    filled_is kept 64 (stays members doomed) 64 filled
    (λ n past. ap (λ (t : Bool). t && not (has doomed n)) (get_or_past members n false (omega arith)))
