use Rattle.std.proofs.Common.{◌≡◌, ℕ, ◌<◌, ◌-◌, ◌^◌, List, ◌++◌, ap, sym, subst, ◌∙◌}
use Rattle.std.proofs.lemmas.List.Elements.{All-nil}
use Rattle.std.proofs.lemmas.Result.{IfOk-weaker}
use Rattle.pipe_base.specs.declared.message.Entry.{Entry}
use Rattle.pipe_base.specs.declared.message.Service.{Service}
use Rattle.pipe_base.specs.declared.step.Outcome.TheVariants.{Ok}
use Rattle.pipe_base.specs.declared.step.Step.{Step}
use Rattle.pipe_graph.specs.Graph.{Graph}
use Rattle.pipe_base.specs.Messages.{AreBelow}
use Rattle.pipe_graph.specs.ShortestRoute.{route}
use Rattle.pipe_base.specs.Step.{quiet_step}
use Rattle.pipe_base.specs.Ways.{with_ways}
use Rattle.pipe_links.specs.Links as links
use Rattle.pipe_model.specs.declared.record.Record.{Record}
use Rattle.pipe_model.specs.Moments.{known_drops}
use Rattle.pipe_reorder.specs.Buffer.{passed_by}
use Rattle.pipe_host.specs.Buffers.{logged_by}
use Rattle.pipe_host.specs.Steps.{answers_for, fields_after, response}
use Rattle.pipe_host.proofs.host.Host.respond.Goals as goal

pub returns : goal.returns
returns c =
    let k = c.args.self.now in
    let p = c.args.packet.now in
    let fate = c.args.fate in
    let b = c.args.barriers in
    let log : List (Service × Entry) = c.copy_passed.new.out in
    let log_is : log ≡ logged_by b k.held =
    c.in_ok-copy_passed.ensures.ok ∙ ap (λ (s : Step). (s.logged ++ passed_by b.be.0 k.held.best) ++ passed_by b.commit.0 k.held.reliable) c.new-step.ensures in
    let below : AreBelow (2 ^ 64 - 1) log =
    c.in_ok-copy_passed.ensures.within (subst (λ (s : Step). AreBelow (2 ^ 64 - 1) s.logged) (sym c.new-step.ensures) (All-nil (λ (e : Service × Entry). e.1.key.ts.0 < 2 ^ 64 - 1))) in
    IfOk-weaker c.keep.result (λ (kept : Step). kept ≡ c.put_answer.new.step)
    (λ (step : Step). (graph : Graph) (node : ℕ) (own : List Record) → links.Stands graph node own k.links → step ≡ response graph node own b k fate p)
    (λ kept is graph node own stands.
    is ∙ c.in_ok-put_answer.ensures.ok graph node own stands below
    ∙ ap (λ (s : Step). with_ways (route graph (known_drops own) node) (answers_for (record { 0 = node }) (fields_after log k) fate p) (record s { fate = fate; logged = log })) c.new-step.ensures
    ∙ ap (λ (es : List (Service × Entry)). with_ways (route graph (known_drops own) node) (answers_for (record { 0 = node }) (fields_after es k) fate p) (record (quiet_step Ok) { fate = fate; logged = es })) log_is)
    c.keep.ensures
