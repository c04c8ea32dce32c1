use Rattle.std.proofs.Common.{◌≡◌, List, ◌∷◌, [], ◌++◌, Ok, Err, subst, ap, ◌∙◌}
use Rattle.std.specs.Prelude.{Result, OnOk}
use Rattle.pipe_base.specs.declared.step.Step.{Step}
use Rattle.pipe_graph.specs.Graph.{Graph}
use Rattle.pipe_model.specs.declared.record.Record.{Record}
use Rattle.pipe_world.specs.Queues.{Stand}
use Rattle.pipe_world.specs.Turn.{passing_record}
use Rattle.pipe_world.specs.World.{PassesBy}
use Rattle.pipe_world.proofs.happen.pass_by.Goals as goal

both_ok : {A E : Type 0} (r : Result A E) (P Q R : Type 0) → OnOk r P → OnOk r Q → (P → Q → R) → OnOk r R
both_ok (Ok x) P Q R p q f = f p q
both_ok (Err e) P Q R p q f = tt

pub returns-clause-ok : goal.returns-clause-ok
returns-clause-ok c =
    let r : Record = record { event = c.args.event; took = c.args.took; step = c.quiet.result } in
    let quiet : r ≡ passing_record c.args.event c.args.took c.args.outcome = ap (λ (s : Step). record { event = c.args.event; took = c.args.took; step = s }) c.quiet.ensures in
    both_ok c.enter.result (c.enter.new.history ≡ c.args.history.now ++ r ∷ [])
    ((graph : Graph) (past : List Record) → Stand graph c.args.queues.now past → Stand graph c.enter.new.queues (r ∷ past))
    (PassesBy c.args.queues.now c.enter.new.queues c.args.history.now c.enter.new.history (passing_record c.args.event c.args.took c.args.outcome))
    c.enter.ensures.ok c.enter.ensures.queues_ok
    (λ appended queues. record {
      appended = appended ∙ ap (λ (s : Record). c.args.history.now ++ s ∷ []) quiet;
      queues_stand = λ graph past stands. subst (λ (s : Record). Stand graph c.enter.new.queues (s ∷ past)) quiet (queues graph past stands);
    })
