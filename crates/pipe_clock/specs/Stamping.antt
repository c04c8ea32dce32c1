-- What a clock does with a send.
use Rattle.std.specs.Prelude.{◌≡◌, ◌+◌, ◌<◌, ◌≤◌}
use Rattle.pipe_base.specs.declared.name.Ts.{Ts}
use Rattle.pipe_base.specs.Clock.{stamp_at}
use Rattle.pipe_clock.specs.declared.clock.ClockEnd.{ClockEnd}
use Rattle.pipe_clock.specs.declared.clock.HostClock.{HostClock}

-- the send was stamped, and the next timestamp is above it
pub record IsStamped (now : Ts) (old new : HostClock) (stamp : Ts) : Type 0 where
  pub stamp_is : stamp.0 ≡ stamp_at now.0 old.next.0
  pub within : stamp.0 ≤ old.top.0
  pub next_is : new.next.0 ≡ stamp.0 + 1
  pub top_is : new.top ≡ old.top

-- the stamp would be past the last one, and the clock stands as before
pub record IsRefused (now : Ts) (old new : HostClock) (end : ClockEnd) : Type 0 where
  pub past : old.top.0 < stamp_at now.0 old.next.0
  pub next_is : end.next ≡ old.next
  pub same : new ≡ old
