use Rattle.std.proofs.Common.{List, take}
use Rattle.pipe_base.specs.declared.name.LinkId.{LinkId}
use Rattle.pipe_base.specs.Moment.{Moment}
use Rattle.pipe_base.specs.Entries.{with_entries}
use Rattle.pipe_barrier.specs.Registers.{Stands}
use Rattle.pipe_barrier.proofs.registers.Registers.remove_each.Given as goal

abbrev pub invariant-drops : goal.invariant-drops
invariant-drops l = (ins : List LinkId) (past : List Moment) → Stands ins l.initial.self past
    → Stands ins l.self (with_entries ins (take l.link-index l.links) past)
