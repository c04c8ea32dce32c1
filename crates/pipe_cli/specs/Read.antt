-- What is read of an input that may be too long.
use Rattle.std.specs.Prelude.{ℕ, ◌+◌, ◌≤◌, List, length, Option}
use Rattle.std.specs.Io.KnownBytes.{Consumes, IsAtEnd}
use Rattle.pipe_base.specs.Limits.{most_bytes}

-- these bytes were read from the source: to its end, or one byte more than an input may have
pub record WasRead (left rest : Option (List ℕ)) (bytes : List ℕ) : Type 0 where
  pub consumed : Consumes left rest bytes
  pub end : length bytes ≤ most_bytes → IsAtEnd rest
  pub limit : length bytes ≤ most_bytes + 1
