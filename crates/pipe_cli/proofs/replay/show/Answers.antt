use Rattle.std.proofs.Common.{List, map, subst}
use Rattle.pipe_model.specs.declared.record.Record.{Record}
use Rattle.pipe_model.specs.OrderedRun.{IsOrderedRun}
use Rattle.pipe_model.specs.Run.{event_of}
use Rattle.pipe_cli.proofs.replay.show.Goals as goal

pub returns-clause-run : goal.returns-clause-run
returns-clause-run c =
    subst (λ (t : List Record). IsOrderedRun c.args.world.graph (map event_of t) c.into_trace.result) c.into_trace.ensures.trace c.into_trace.ensures.run
