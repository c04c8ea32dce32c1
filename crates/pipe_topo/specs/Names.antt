-- Lists of names that are numbered.
use Rattle.std.specs.Prelude.{◌≢◌, ℕ, ◌≤◌, List, length, AllPairs}

-- the names are all different, and their numbers have 16 bits
pub record AreNames (names : List (List ℕ)) : Type 0 where
  pub different : AllPairs (λ a b. a ≢ b) names
  pub few : length names ≤ 65535
