-- A set while it is filled with the numbers that pass a test.
use Rattle.std.specs.Prelude.{◌≡◌, ℕ, ◌<◌, ◌≤◌, Bool, false, List, length}
use Rattle.pipe_topo.specs.Sets.{has}

-- the set of so many numbers has those below the bound that pass the test
pub record IsFilled (set : List Bool) (count : ℕ) (test : ℕ → Bool) (bound : ℕ) : Type 0 where
  pub size : length set ≡ count
  pub below : (n : ℕ) → n < bound → has set n ≡ test n
  pub above : (n : ℕ) → bound ≤ n → has set n ≡ false
