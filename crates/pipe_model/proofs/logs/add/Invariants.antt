use Rattle.std.proofs.Common.{◌≡◌, ◌++◌, drop}
use Rattle.pipe_base.specs.declared.message.Service.TheVariants.{BestEffort, Reliable}
use Rattle.pipe_model.specs.Logged.{entries_of}
use Rattle.pipe_model.specs.Collected.{entries}
use Rattle.pipe_model.proofs.logs.add.Given as goal

abbrev pub invariant-logged : goal.invariant-logged
invariant-logged l = record {
  best : entries l.log.best.items ++ entries_of BestEffort (drop l.service-index l.logged) ≡ entries l.initial.log.best.items ++ entries_of BestEffort l.logged;
  reliable : entries l.log.reliable.items ++ entries_of Reliable (drop l.service-index l.logged) ≡ entries l.initial.log.reliable.items ++ entries_of Reliable l.logged;
}
