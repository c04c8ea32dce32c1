use Rattle.std.proofs.Common.{◌≡◌, ◌==◌, true, List, [], ◌∷◌, length, refl, ap, sym, ◌∙◌, arith}
use Rattle.std.proofs.lemmas.Result.{IfOk-weaker}
use Rattle.std.proofs.lemmas.Bool.Decides.{nat_tests}
use Rattle.pipe_base.specs.declared.control.Addressed.{Addressed}
use Rattle.pipe_base.specs.declared.message.Entry.{Entry}
use Rattle.pipe_base.specs.declared.message.Service.{Service}
use Rattle.pipe_base.specs.declared.name.LinkId.{LinkId}
use Rattle.pipe_base.specs.declared.name.NodeId.{NodeId}
use Rattle.pipe_base.specs.declared.name.Ts.{Ts}
use Rattle.pipe_base.specs.declared.step.Step.{Step}
use Rattle.pipe_graph.specs.Graph.{Graph}
use Rattle.pipe_base.specs.Settled.{unsettled}
use Rattle.pipe_model.specs.declared.record.Record.{Record}
use Rattle.pipe_model.specs.Sender.{sender_calls}
use Rattle.pipe_host.specs.Buffers.{logged_by}
use Rattle.pipe_host.specs.Host.{Stands, Works}
use Rattle.pipe_host.specs.Steps.{beat, fields_ticked}
use Rattle.pipe_model.specs.Records.{ticked}
use Rattle.pipe_host.proofs.HostSteps.{ticked_works}
use Rattle.pipe_host.proofs.host.Host.work_tick.Goals as goal

none_of : {A : Type 0} (xs : List A) → (length xs == 0) ≡ true → xs ≡ []
none_of [] is = refl
none_of (x ∷ xs) is = absurd (grind (arith, nat_tests))

pub returns-then-is_at_rest : goal.returns-then-is_at_rest
returns-then-is_at_rest c =
    IfOk-weaker c.beat.result
    (λ (kept : Step). (graph : Graph) (node : NodeId) (own : List Record) → Stands graph node.0 own c.args.self.now → length (unsettled (sender_calls graph node.0 own)) ≡ 0
    → kept ≡ beat graph node.0 own (fields_ticked graph node.0 own c.args.now []) [] [] [])
    (λ (kept : Step). (graph : Graph) (node : NodeId) (own : List Record) → Stands graph node.0 own c.args.self.now → Works graph node.0 own (ticked node c.args.now kept) c.args.self.now)
    (λ kept is graph node own stands.
    let k = c.args.self.now in
    let marks : List (LinkId × Ts) = c.in_ok-downed.downed in
    let tells : List Addressed = c.in_ok-told.told in
    let b = c.in_ok-barriers.barriers in
    let log : List (Service × Entry) = logged_by b k.held in
    let no_marks : marks ≡ [] = none_of marks (sym c.is_empty.ensures ∙ c.if-is_empty.true) in
    let no_tells : tells ≡ [] = none_of tells (sym c.is_empty-then-is_empty.ensures ∙ c.if-is_empty-2.true) in
    let no_log : log ≡ [] = c.is_at_rest.ensures.quiet c.if-is_at_rest.true in
    ticked_works graph node own c.args.now marks tells b k kept stands (c.in_ok-downed.ensures graph node.0 own stands.links_are) (c.in_ok-told.ensures graph node.0 own stands)
    (c.in_ok-barriers.ensures graph node.0 own stands.links_are)
    (is graph node own stands (c.is_at_rest.ensures.settled c.if-is_at_rest.true (sender_calls graph node.0 own) stands.sender_is)
    ∙ ap (λ (es : List (Service × Entry)). beat graph node.0 own (fields_ticked graph node.0 own c.args.now es) [] [] es) (sym no_log)
    ∙ ap (λ (ms : List (LinkId × Ts)). beat graph node.0 own (fields_ticked graph node.0 own c.args.now log) ms [] log) (sym no_marks)
    ∙ ap (λ (ts : List Addressed). beat graph node.0 own (fields_ticked graph node.0 own c.args.now log) marks ts log) (sym no_tells)))
    c.beat.ensures

pub returns : goal.returns
returns c =
    IfOk-weaker c.beat_in_full.result
    (λ (kept : Step). (graph : Graph) (node : NodeId) (own : List Record) → Stands graph node.0 own c.args.self.now
    → kept ≡ beat graph node.0 own (fields_ticked graph node.0 own c.args.now (logged_by c.in_ok-barriers.barriers c.args.self.now.held)) c.in_ok-downed.downed c.in_ok-told.told
    (logged_by c.in_ok-barriers.barriers c.args.self.now.held))
    (λ (kept : Step). (graph : Graph) (node : NodeId) (own : List Record) → Stands graph node.0 own c.args.self.now → Works graph node.0 own (ticked node c.args.now kept) c.args.self.now)
    (λ kept is graph node own stands.
    ticked_works graph node own c.args.now c.in_ok-downed.downed c.in_ok-told.told c.in_ok-barriers.barriers c.args.self.now kept stands
    (c.in_ok-downed.ensures graph node.0 own stands.links_are) (c.in_ok-told.ensures graph node.0 own stands) (c.in_ok-barriers.ensures graph node.0 own stands.links_are)
    (is graph node own stands))
    c.beat_in_full.ensures
