use Rattle.std.proofs.Common.{◌≡◌, ◌+◌, ◌<◌, ◌^◌, drop, length, map}
use Rattle.pipe_base.specs.Packets.{sent_to}
use Rattle.pipe_base.specs.Ways.{picked, PutsAlone, with_ways}
use Rattle.pipe_clock.proofs.messages.scatter.Given as goal

abbrev pub invariant-dests : goal.invariant-dests
invariant-dests g l = record {
  put : with_ways (picked (g.R.Router.links l.routes)) (map (sent_to l.service l.src l.ts (record { be = l.ts.0; commit = l.commit.0 })) (drop l.dest-index l.dest-items)) l.step
      ≡ with_ways (picked (g.R.Router.links l.routes)) (map (sent_to l.service l.src l.ts (record { be = l.ts.0; commit = l.commit.0 })) l.dest-items) l.initial.step;
  room : l.step.unrouted + length (drop l.dest-index l.dest-items) < 2 ^ 32;
  alone : PutsAlone l.initial.step l.step;
}
