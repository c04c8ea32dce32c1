use Rattle.std.proofs.Common.{ℕ, List}
use Rattle.std.proofs.lemmas.Result.{IfOk-weaker}
use Rattle.pipe_base.specs.declared.name.LinkId.{LinkId}
use Rattle.pipe_graph.specs.Graph.{Graph, ins_of}
use Rattle.pipe_base.specs.Moment.{Moment, with_downed}
use Rattle.pipe_base.specs.Silence.{QuietCall}
use Rattle.pipe_barrier.specs.declared.registers.Barriers.{Barriers}
use Rattle.pipe_barrier.specs.InLinks as in_links
use Rattle.pipe_barrier.specs.Registers.{AreBarriers}
use Rattle.pipe_model.specs.declared.record.Record.{Record}
use Rattle.pipe_model.specs.Moments.{moments_of, quiet_calls}
use Rattle.pipe_links.specs.Links.{Stands}
use Rattle.pipe_links.proofs.links.Links.barriers_without.Goals as goal

pub returns : goal.returns
returns c =
    IfOk-weaker c.barriers_without.result
    (λ (b : Barriers). (ins : List LinkId) (patience : ℕ) (moments : List Moment) (calls : List QuietCall)
    → in_links.Stands ins patience c.args.self.now.ins moments calls → AreBarriers ins (with_downed c.args.marks.now moments) b)
    (λ (b : Barriers). (graph : Graph) (node : ℕ) (own : List Record) → Stands graph node own c.args.self.now
    → AreBarriers (ins_of graph node) (with_downed c.args.marks.now (moments_of graph node own)) b)
    (λ b are graph node own stands. are (ins_of graph node) graph.patience (moments_of graph node own) (quiet_calls graph node own) stands.ins_are)
    c.barriers_without.ensures
