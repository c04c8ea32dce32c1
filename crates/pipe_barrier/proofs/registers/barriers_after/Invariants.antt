use Rattle.std.proofs.Common.{◌≡◌, map, drop, None}
use Rattle.pipe_base.specs.declared.packet.Plane.TheVariants.{BestEffort, Commit}
use Rattle.pipe_barrier.specs.Register.{register_after, least_from}
use Rattle.pipe_barrier.proofs.registers.barriers_after.Given as goal

abbrev pub invariant-links : goal.invariant-links
invariant-links l = record {
  be_is : least_from BestEffort l.be (map (register_after l.link l.change) (drop l.register-index l.links))
      ≡ least_from BestEffort None (map (register_after l.link l.change) l.links);
  commit_is : least_from Commit l.commit (map (register_after l.link l.change) (drop l.register-index l.links))
      ≡ least_from Commit None (map (register_after l.link l.change) l.links);
}
