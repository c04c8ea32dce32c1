use Rattle.std.proofs.Common.{List, refl, sym, subst, ◌∙◌, Bool, true, false, if◌then◌else◌, [], ◌≡◌}
use Rattle.pipe_base.specs.declared.control.Announced.{Announced}
use Rattle.pipe_base.specs.declared.name.NodeId.{NodeId}
use Rattle.pipe_base.specs.declared.step.Outcome.TheVariants.{Ok}
use Rattle.pipe_base.specs.declared.step.Step.{Step}
use Rattle.pipe_graph.specs.Graph.{Graph, is_host}
use Rattle.pipe_base.specs.Step.{quiet_step}
use Rattle.pipe_links.proofs.Follows.{ready as links_ready}
use Rattle.pipe_model.specs.declared.record.Record.{Record}
use Rattle.pipe_model.specs.Run.{IsNodeStep}
use Rattle.pipe_host.proofs.RecordLaws.{still_buffers, still_fate, still_logged}
use Rattle.pipe_world.specs.declared.node.Node.{Node}
use Rattle.pipe_world.specs.declared.node.Node.TheVariants.{Host, Half}
use Rattle.pipe_world.specs.Node.{Stands, StandsWith, Works}
use Rattle.pipe_model.specs.Records.{crashed}
use Rattle.pipe_world.proofs.node.Node.work_crash.Goals as goal

-- a crash notes nothing
nothing_noted : (host : Bool) → ◌≡◌ {A = List Announced} [] (if host then [] else [])
nothing_noted true = refl
nothing_noted false = refl

-- a crash is a record of the node's own in which it does nothing
crashes : (graph : Graph) (node : NodeId) (own : List Record) → IsNodeStep graph node.0 own (crashed node (quiet_step Ok))
crashes graph node own =
    let r : Record = crashed node (quiet_step Ok) in
    record {
      outcome_is = refl;
      downed_is = refl;
      dropped_is = refl;
      noted_is = nothing_noted (is_host graph node.0);
      stamped_is = refl;
      fate_is = still_fate graph node.0 own r refl;
      logged_is = still_logged graph node.0 own r refl;
      put_is = refl;
      unrouted_is = refl;
      control_is = refl;
    }

ready : (graph : Graph) (node : NodeId) (own : List Record) (k : Node) → Stands graph node.0 own k → StandsWith graph node.0 own (crashed node (quiet_step Ok)) k
ready graph node own (Host h) stands =
    let r : Record = crashed node (quiet_step Ok) in
    record {
      host = stands.host;
      links_are = links_ready graph node.0 own r h.links stands.links_are (crashes graph node own) refl;
      taking = tt;
      next_is = stands.next_is;
      top_is = stands.top_is;
      held_are = stands.held_are ∙ sym (still_buffers graph node.0 own r refl refl);
      sender_is = stands.sender_is;
      receiver = tt;
    }
ready graph node own (Half h) stands =
    record { half = stands.half; links_are = links_ready graph node.0 own (crashed node (quiet_step Ok)) h.links stands.links_are (crashes graph node own) refl }

pub returns : goal.returns
returns c = λ graph node own stands.
    subst (λ (s : Step). Works graph node.0 own (crashed node s) c.args.self.now) (sym c.quiet.ensures)
    (record { rules = crashes graph node own; stands = ready graph node own c.args.self.now stands })
