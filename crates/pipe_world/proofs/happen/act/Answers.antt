use Rattle.std.proofs.Common.{◌≡◌, ℕ, List, ◌∷◌, length, get_or, reverse, arith, refl, sym, subst, ap, ◌∙◌}
use Rattle.std.proofs.lemmas.List.{get_or_push}
use Rattle.pipe_graph.specs.Graph.{Graph}
use Rattle.pipe_model.specs.declared.record.Record.{Record}
use Rattle.pipe_model.specs.Acting.{ComesIn, own}
use Rattle.pipe_model.specs.Run.{IsNodeStep}
use Rattle.pipe_world.specs.declared.node.NodeState.{NodeState}
use Rattle.pipe_world.specs.Node.{Stands, StandsWith}
use Rattle.pipe_model.specs.Records.{record_of}
use Rattle.pipe_world.specs.Queues.{AreKnown}
use Rattle.pipe_world.proofs.Passing.{in_place_there}
use Rattle.pipe_world.proofs.StepPuts.{items_few, puts_known}
use Rattle.pipe_world.proofs.WorldSteps.{added, worked}
use Rattle.pipe_world.proofs.happen.act.Goals as goal

pub work_at-requires : goal.work_at-requires
work_at-requires c = record {
  acts = (c.args.id, record { names = c.requires.event; acts = c.requires.acts; own = c.requires.stands.own; stands = c.requires.stands.stands });
  undecided = c.requires.undecided;
}

pub enter-requires-clause-known : goal.enter-requires-clause-known
enter-requires-clause-known c =
    let graph = c.args.topology.now in
    let works = c.in-Ok.ensures.work c.args.id c.requires.stands.own c.requires.event c.requires.acts c.requires.stands.stands in
    subst (λ (n : ℕ). AreKnown n c.in-Ok.step.put) (sym c.requires.waits.count)
    (puts_known graph c.args.id.0 c.requires.stands.own (record_of c.args.event c.args.took c.in-Ok.step) works.rules)

pub enter-requires-clause-few : goal.enter-requires-clause-few
enter-requires-clause-few c =
    let graph = c.args.topology.now in
    let works = c.in-Ok.ensures.work c.args.id c.requires.stands.own c.requires.event c.requires.acts c.requires.stands.stands in
    let past = c.requires.stands in
    omega (arith, items_few graph c.args.id.0 past.own (record_of c.args.event c.args.took c.in-Ok.step) past.rules past.names c.requires.event works.rules, c.requires.few)

pub enter-requires-clause-in_place : goal.enter-requires-clause-in_place
enter-requires-clause-in_place c =
    in_place_there c.args.topology.now (reverse c.args.history.now) c.args.queues.now c.args.event c.in-Ok.step.outcome c.requires.waits c.requires.event c.requires.there

pub returns-in-Ok-enter-clause-ok : goal.returns-in-Ok-enter-clause-ok
returns-in-Ok-enter-clause-ok c =
    let graph = c.args.topology.now in
    let step = c.in-Ok.step in
    let r : Record = record_of c.args.event c.args.took step in
    let read : c.index-as_slice-at.result ≡ r =
    c.index-as_slice-at.is
    ∙ ap (λ (rs : List Record). get_or rs c.len-at.result c.index-as_slice-at.result) (c.as_slice.ensures ∙ c.trace-in-Ok-enter.ensures.trace ∙ c.in-Ok-enter.ensures.ok)
    ∙ get_or_push c.args.history.now r c.index-as_slice-at.result c.len-at.result (sym (c.len-at.ensures ∙ ap length c.trace.ensures.trace)) in
    let after : NodeState = record { node = c.follow.new.self; crashed = c.is_crash-crashes.result } in
    let follows = subst (λ (s : Record). (g : Graph) (n : ℕ) (o : List Record) → StandsWith g n o s c.work_at.new.node → ComesIn g n s.event → IsNodeStep g n o s → Stands g n (s ∷ o) c.follow.new.self) read c.follow.ensures in (
      r,
      c.in-Ok-enter.ensures.ok,
      refl,
      added graph c.args.id c.args.state.now after c.work_at.new.node c.args.queues.now c.enter.new.queues c.args.event c.args.took step
          c.requires.event c.requires.undecided c.requires.acts c.requires.took c.requires.there c.requires.awake c.is_crash-crashes.ensures
          (λ o stands. c.in-Ok.ensures.work c.args.id o c.requires.event c.requires.acts stands)
          (follows graph c.args.id.0)
          (λ past waits. c.in-Ok-enter.ensures.queues_ok graph past waits),
    )

pub returns-clause-err : goal.returns-clause-err
returns-clause-err c =
    let graph = c.args.topology.now in
    let r : Record = record_of c.args.event c.args.took c.in-Ok.step in
    let undoes = subst (λ (s : Record). (g : Graph) (n : ℕ) (o : List Record) → StandsWith g n o s c.work_at.new.node → IsNodeStep g n o s → Stands g n o c.undo.new.self) c.in-Err.ensures.err.1 c.undo.ensures in (
      c.in-Err.ensures.err.0,
      c.in-Err.ensures.err.2,
      λ past stands.
          let works = c.in-Ok.ensures.work c.args.id (own graph c.args.id.0 past) c.requires.event c.requires.acts stands.node_stands in
          record { node_stands = undoes graph c.args.id.0 (own graph c.args.id.0 past) works.stands works.rules; crashed_is = stands.crashed_is },
    )

pub returns-clause-full : goal.returns-clause-full
returns-clause-full c = λ items is. record {
  next = record_of c.args.event c.args.took c.in-Ok.step;
  event_is = refl;
  rules = λ past run stands waits.
      worked c.args.topology.now c.args.id c.args.queues.now c.args.event c.args.took c.in-Ok.step past c.requires.event c.requires.undecided c.requires.acts c.requires.took c.requires.there
      (c.in-Ok.ensures.work c.args.id _ c.requires.event c.requires.acts stands.node_stands).rules (sym stands.crashed_is ∙ c.requires.awake) waits;
  over = c.in-Err.ensures.full items is;
}
