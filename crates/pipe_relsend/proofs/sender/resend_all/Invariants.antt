use Rattle.std.proofs.Common.{◌≡◌, ◌+◌, ◌*◌, ◌≤◌, drop}
use Rattle.std.specs.Prelude.{flat_map}
use Rattle.pipe_base.specs.Ways.{picked, PutsAlone, with_ways}
use Rattle.pipe_relsend.specs.Header.{fields_of}
use Rattle.pipe_relsend.specs.Pending.{owed}
use Rattle.pipe_relsend.proofs.sender.resend_all.Given as goal

abbrev pub invariant-loop-unsettled : goal.invariant-loop-unsettled
invariant-loop-unsettled g l = record {
  put : with_ways (picked (g.R.Router.links l.routes)) (flat_map (owed l.origin.src (fields_of l.origin)) (drop l.unsettled-index l.pending)) l.step
      ≡ with_ways (picked (g.R.Router.links l.routes)) (flat_map (owed l.origin.src (fields_of l.origin)) l.pending) l.initial.step;
  room : l.step.unrouted ≤ l.initial.step.unrouted + 16 * l.unsettled-index;
  alone : PutsAlone l.initial.step l.step;
}
