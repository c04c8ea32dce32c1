use Rattle.std.proofs.Common.{◌≡◌, ◌+◌, ◌≤◌, drop, length, map}
use Rattle.pipe_base.specs.Ways.{picked, PutsAlone, with_ways}
use Rattle.pipe_relsend.specs.Header.{packet_again}
use Rattle.pipe_relsend.specs.Pending.{open_dests}
use Rattle.pipe_relsend.proofs.resend.resend_open.Given as goal

abbrev pub invariant-loop-at : goal.invariant-loop-at
invariant-loop-at g l = record {
  count : length l.marks ≡ 16;
  put : with_ways (picked (g.R.Router.links l.routes)) (map (packet_again l.header) (open_dests (drop l.at l.dests) (drop l.at l.marks))) l.step
      ≡ with_ways (picked (g.R.Router.links l.routes)) (map (packet_again l.header) (open_dests l.dests l.marks)) l.initial.step;
  room : l.step.unrouted ≤ l.initial.step.unrouted + l.at;
  alone : PutsAlone l.initial.step l.step;
}
