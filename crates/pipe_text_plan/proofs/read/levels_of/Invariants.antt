use Rattle.std.proofs.Common.{◌≡◌, map, take}
use Rattle.pipe_text_plan.proofs.read.levels_of.Given as goal

abbrev pub invariant-loop-level : goal.invariant-loop-level
invariant-loop-level l = l.levels ≡ map (λ switch. switch.1) (take l.level-index l.switches)
