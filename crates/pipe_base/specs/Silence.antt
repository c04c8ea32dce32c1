-- How long an in-link has been silent, from what was received on it and the ticks of its head, newest first.
use Rattle.std.specs.Prelude.{ℕ, ◌+◌, ◌==◌, ◌&&◌, nat_le, if◌then◌else◌, Bool, false, List, [], ◌∷◌, Option, None, Some, map, filter}
use Rattle.std.specs.Option.{option_or}
use Rattle.pipe_base.specs.declared.name.LinkId.{LinkId}
use Rattle.pipe_base.specs.declared.name.Ts.{Ts}
use Rattle.pipe_base.specs.declared.packet.Plane.TheVariants.{Commit}
use Rattle.pipe_base.specs.Barrier.{register}
use Rattle.pipe_base.specs.Moment.{Moment, is_up}

pub data QuietCall : Type 0 where
  -- a packet was received on the link
  Took : (link : ℕ) → QuietCall
  -- the node's clock read this at a tick
  Ticked : (now : ℕ) → QuietCall

-- The quiet start of a link: the reading of the first tick since a packet was received on it, if there was one.
abbrev pub quiet_start : List QuietCall → ℕ → Option ℕ
quiet_start [] link = None
quiet_start (Took l ∷ past) link = if l == link then None else quiet_start past link
quiet_start (Ticked now ∷ past) link = option_or (quiet_start past link) (Some now)

-- with this quiet start, a link has been silent for the patience at this reading
abbrev pub is_silent : ℕ → ℕ → Option ℕ → Bool
is_silent patience now None = false
is_silent patience now (Some start) = nat_le (start + patience) now

-- at a tick that reads this the link goes down: it is up, and has been silent for the patience
abbrev pub goes_down : ℕ → List Moment → List QuietCall → ℕ → LinkId → Bool
goes_down patience moments calls now l = is_up moments l.0 && is_silent patience now (quiet_start calls l.0)

-- a link with its frozen value: the greatest commit barrier received on it
abbrev pub mark_of : List Moment → LinkId → LinkId × Ts
mark_of moments l = (l, record { 0 = register Commit moments l.0 })

-- The in-links that go down at a tick, each with its frozen value, in rising number.
abbrev pub silent_marks : ℕ → List LinkId → List Moment → List QuietCall → ℕ → List (LinkId × Ts)
silent_marks patience ins moments calls now = map (mark_of moments) (filter (goes_down patience moments calls now) ins)
