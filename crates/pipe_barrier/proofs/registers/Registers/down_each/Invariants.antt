use Rattle.std.proofs.Common.{List, take}
use Rattle.pipe_base.specs.declared.name.LinkId.{LinkId}
use Rattle.pipe_base.specs.Moment.{Moment, with_downed}
use Rattle.pipe_barrier.specs.Registers.{Stands}
use Rattle.pipe_barrier.proofs.registers.Registers.down_each.Given as goal

abbrev pub invariant-marks : goal.invariant-marks
invariant-marks l = (ins : List LinkId) (past : List Moment) → Stands ins l.initial.self past
    → Stands ins l.self (with_downed (take l.link-index l.marks) past)
