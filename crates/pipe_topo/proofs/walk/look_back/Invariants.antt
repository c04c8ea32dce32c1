use Rattle.std.proofs.Common.{ℕ, ◌+◌, ◌≤◌, ◌∷◌, length, sum, take}
use Rattle.pipe_topo.specs.Sets.{has}
use Rattle.pipe_topo.specs.Walk.{IsWalk}
use Rattle.pipe_topo.proofs.WalkLaws.{IsLooking}
use Rattle.pipe_topo.proofs.walk.look_back.Given as goal

abbrev pub invariant-loop-link : goal.invariant-loop-link
invariant-loop-link l = record {
  looking : (to : ℕ) → IsWalk l.wiring (has l.by) to l.initial.away (l.fn.node ∷ l.initial.queue.items) → IsLooking l.wiring (has l.by) to l.fn.node.0 l.next (take l.link-index l.link-items) l.away l.queue.items;
  work : sum l.away + length l.queue.items ≤ sum l.initial.away + length l.initial.queue.items;
}
