use Rattle.std.proofs.Common.{◌≡◌, ℕ, ◌-◌, ◌^◌, List, [], ◌∷◌, ap, subst, ◌∙◌}
use Rattle.std.proofs.lemmas.Result.{on_ok_weaker}
use Rattle.pipe_base.specs.declared.message.Entry.{Entry}
use Rattle.pipe_base.specs.declared.message.Service.{Service}
use Rattle.pipe_base.specs.declared.packet.Packet.{Packet}
use Rattle.pipe_graph.specs.Graph.{Graph}
use Rattle.pipe_base.specs.Messages.{AreBelow}
use Rattle.pipe_base.specs.Packets.{Fields, ack_to}
use Rattle.pipe_graph.specs.ShortestRoute.{route}
use Rattle.pipe_base.specs.Ways.{with_ways}
use Rattle.pipe_links.specs.Links as links
use Rattle.pipe_model.specs.declared.record.Record.{Record}
use Rattle.pipe_model.specs.Moments.{known_drops}
use Rattle.pipe_host.specs.Steps.{answers_for, fields_after}
use Rattle.pipe_host.proofs.HostSteps.{answers_put}
use Rattle.pipe_host.proofs.host.Host.put_answer.Goals as goal

pub returns-in_default : goal.returns-in_default
returns-in_default c =
    record {
      ok = λ graph node own stands below.
          let f : Fields = fields_after c.args.step.now.logged c.args.self.now in
          let answers : ℕ → List Packet = λ n. answers_for (record { 0 = n }) f c.args.fate c.args.packet.now in
          answers_put (route graph (known_drops own) node) (answers node) c.args.step.now (c.in_default.ensures f ∙ ap answers stands.node_is);
    }

pub returns : goal.returns
returns c =
    let k = c.args.self.now in
    let p : Packet = c.args.packet.now in
    let f : Fields = fields_after c.args.step.now.logged k in
    let answers : ℕ → List Packet = λ n. answers_for (record { 0 = n }) f c.args.fate p in
    record {
      ok = on_ok_weaker c.put_on_way.result
          (λ (is : (graph : Graph) (node : ℕ) (own : List Record) → links.Stands graph node own k.links
          → c.put_on_way.new.step ≡ with_ways (route graph (known_drops own) node) (c.answering-answer.result ∷ []) c.args.step.now) graph node own stands below.
          let answer_is : c.answering-answer.result ≡ record (ack_to (record { 0 = k.links.node.0 }) f p) { kind = c.in-Some.kind } =
          subst (λ (es : List (Service × Entry)). AreBelow (2 ^ 64 - 1) es → c.answering-answer.result ≡ record (ack_to (record { 0 = k.links.node.0 }) (fields_after es k) p) { kind = c.in-Some.kind })
          c.as_slice.ensures c.answering-answer.ensures below in
          is graph node own stands
          ∙ ap (λ (ps : List Packet). with_ways (route graph (known_drops own) node) ps c.args.step.now)
          (ap (λ (q : Packet). q ∷ []) answer_is ∙ c.in-Some.ensures f ∙ ap answers stands.node_is))
          c.put_on_way.ensures.ok;
    }
