use Rattle.std.proofs.Common.{◌≡◌, ◌-◌, ◌^◌, max, drop}
use Rattle.pipe_base.specs.Clock.{after_logged}
use Rattle.pipe_base.specs.Messages.{AreBelow}
use Rattle.pipe_host.proofs.times.deliver.Given as goal

abbrev pub invariant-entries : goal.invariant-entries
invariant-entries l =
    (AreBelow (2 ^ 64 - 1) l.logged → max l.clock.next.0 (after_logged (drop l.entry-index l.logged)) ≡ max l.initial.clock.next.0 (after_logged l.logged))
    × (l.clock.top ≡ l.initial.clock.top)
