-- From which time on the messages of a host are void.
use Rattle.std.specs.Prelude.{◌≡◌, ℕ, zero, suc, ◌<◌, ◌≤◌, max, if◌then◌else◌, Bool, true, ◌&&◌, length, Option, None, Some}
use Rattle.pipe_base.specs.declared.name.Ts.{Ts}
use Rattle.pipe_graph.specs.Graph.{Graph}
use Rattle.pipe_graph.specs.Reach.{feeds}

-- the later of two times, as far as there are any
abbrev pub later : Option Ts → Option Ts → Option Ts
later None b = b
later (Some a) None = Some a
later (Some a) (Some b) = Some (record { 0 = max a.0 b.0 })

-- the latest of the times of the numbers below the bound, as far as there are any
abbrev pub latest_below : (ℕ → Option Ts) → ℕ → Option Ts
latest_below time zero = None
latest_below time (suc n) = later (latest_below time n) (time n)

-- the report of a live link that the host feeds by the live links
abbrev pub fed_report : Graph → (ℕ → Bool) → (ℕ → Option Ts) → ℕ → ℕ → Option Ts
fed_report graph live reports host link = if live link && feeds graph live host link then reports link else None

-- the greatest value that was reported of a live link that the host feeds by the live links
abbrev pub failure_time : Graph → (ℕ → Bool) → (ℕ → Option Ts) → ℕ → Option Ts
failure_time graph live reports host = latest_below (fed_report graph live reports host) (length graph.links)

-- a live link that the host feeds by the live links, and of which the value was reported
pub record IsFedReport (graph : Graph) (live : ℕ → Bool) (reports : ℕ
    → Option Ts) (host link : ℕ) (value : Ts) : Type 0 where
  pub known : link < length graph.links
  pub is_live : live link ≡ true
  pub fed : feeds graph live host link ≡ true
  pub report : reports link ≡ Some value

-- The same in words: the time was reported of such a link, and of none was a greater one.
pub record IsFailureTime (graph : Graph) (live : ℕ → Bool) (reports : ℕ
    → Option Ts) (host : ℕ) (time : Ts) : Type 0 where
  pub link : ℕ
  pub reported : IsFedReport graph live reports host link time
  pub greatest : (other : ℕ) (value : Ts) → IsFedReport graph live reports host other value → value.0 ≤ time.0
