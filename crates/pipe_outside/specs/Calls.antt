-- The calls that an object in memory was given, counted.
use Rattle.std.specs.Prelude.{◌≡◌, ℕ, ◌+◌, ◌-◌, ◌^◌, ◌==◌, ◌≤◌, ◌<◌, ◌&&◌, ◌||◌, not, min, List, ◌++◌, length, take, drop, Bool, Result, IsErr, IsOkAnd, MatchBool}
use Rattle.std.specs.List.{list_any}

-- which calls fail, how many were made and how many failed; both counts stay at the end of 64 bits
pub record CallCount : Type 0 where
  pub failing : List ℕ
  pub made : ℕ
  pub faults : ℕ

abbrev pub no_calls : List ℕ → CallCount
no_calls failing = record { failing = failing; made = 0; faults = 0 }

abbrev pub one_more : ℕ → ℕ
one_more n = min (n + 1) (2 ^ 64 - 1)

-- the next call is one of those that fail
abbrev pub is_failing : CallCount → Bool
is_failing calls = list_any (λ n. n == calls.made) calls.failing

abbrev pub called : CallCount → CallCount
called calls = record calls { made = one_more calls.made }

abbrev pub failed : CallCount → CallCount
failed calls = record calls { faults = one_more calls.faults }

-- a source in memory: the bytes that are left, and its calls
pub record Reading : Type 0 where
  pub left : List ℕ
  pub calls : CallCount

-- one read: it fails exactly where its call is to fail, and gives as much as fits the buffer
abbrev pub IsReadOf : {E : Type 0} → Reading → ℕ → Result ℕ E → Reading → Type 0
IsReadOf old size result new =
    MatchBool (is_failing old.calls)
    (IsErr result × (new ≡ record { left = old.left; calls = failed (called old.calls) }))
    (IsOkAnd result (λ n. (n ≡ min (length old.left) size)
    × (new ≡ record { left = drop n old.left; calls = called old.calls })))

-- a sink in memory: what was written, how much fits, how much a call takes, and its calls
pub record Writing : Type 0 where
  pub bytes : List ℕ
  pub room : ℕ
  pub most : ℕ
  pub calls : CallCount

-- what was written fits, and the memory for the room was taken at the start
pub record IsRoomy (count room capacity most : ℕ) : Type 0 where
  pub fits : count ≤ room
  pub taken : room ≤ capacity
  pub some : 0 < most

-- as many of n bytes as one call takes
abbrev pub fitting : Writing → ℕ → ℕ
fitting sink n = min (min n sink.most) (sink.room - length sink.bytes)

-- the call is to fail, or there is no room for a byte of a piece that has one
abbrev pub is_refused : Writing → ℕ → Bool
is_refused sink n = is_failing sink.calls || ((fitting sink n == 0) && not (n == 0))

-- one write: it fails exactly where it is refused, and takes what fits otherwise
abbrev pub IsWriteOf : {E : Type 0} → Writing → List ℕ → Result ℕ E → Writing → Type 0
IsWriteOf old piece result new =
    MatchBool (is_refused old (length piece))
    (IsErr result × (new ≡ record old { calls = failed (called old.calls) }))
    (IsOkAnd result (λ n. (n ≡ fitting old (length piece))
    × (new ≡ record old { bytes = old.bytes ++ take n piece; calls = called old.calls })))
