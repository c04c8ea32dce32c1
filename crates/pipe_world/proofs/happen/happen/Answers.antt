use Rattle.std.proofs.Common.{◌≡◌, ℕ, ◌<◌, List, ◌∷◌, [], ◌++◌, set, reverse, refl, sym, subst, arith}
use Rattle.std.specs.Prelude.{slice_index_or}
use Rattle.std.proofs.lemmas.List.{get_or_default}
use Rattle.std.proofs.lemmas.List.Elements.{All-filter}
use Rattle.std.proofs.lemmas.Result.{IfErr-weaker}
use Rattle.pipe_graph.specs.Graph.{Graph}
use Rattle.pipe_model.specs.declared.event.Event.{Event}
use Rattle.pipe_model.specs.declared.record.Record.{Record}
use Rattle.pipe_model.specs.Acting.{is_own, own}
use Rattle.pipe_model.specs.Event.{IsOfGraph}
use Rattle.pipe_model.specs.Items.{Overfills}
use Rattle.pipe_model.proofs.Own.{node_history}
use Rattle.pipe_net.specs.Waits.{Waits}
use Rattle.pipe_world.specs.declared.fault.StepFault.{StepFault}
use Rattle.pipe_world.specs.declared.fault.StepFault.TheVariants.{Full}
use Rattle.pipe_world.specs.declared.node.NodeState.{NodeState}
use Rattle.pipe_world.specs.declared.turn.Turn.{Turn}
use Rattle.pipe_world.specs.declared.turn.Turn.TheVariants.{Acts, Passes}
use Rattle.pipe_world.specs.History.{FullBy}
use Rattle.pipe_world.specs.Node as node
use Rattle.pipe_world.specs.Queues.{Stand}
use Rattle.pipe_world.specs.Turn.{IsActing, IsPassing, IsTurn, passing_record}
use Rattle.pipe_world.specs.World.{Adds, Keeps, PassesBy, Restores, Stands, WouldOverfill}
use Rattle.pipe_world.proofs.WorldSteps.{acted, appended, either_way, overfills, passed_by, refused, unchanged}
use Rattle.pipe_world.proofs.happen.happen.Goals as goal

-- what was said of whose turn it is, over what waits after that was seen
told : (graph : Graph) (nodes : List NodeState) (old new : Waits) (event : Event) (turn whose : Turn) → IsTurn graph nodes old event turn → turn ≡ whose → new ≡ old → IsTurn graph nodes new event whose
told graph nodes old new event turn whose is same kept = subst (λ (w : Waits). IsTurn graph nodes w event whose) (sym kept) (subst (IsTurn graph nodes old event) same is)

pub pass_by-requires-clause-stands : goal.pass_by-requires-clause-stands
pass_by-requires-clause-stands c =
    (c.args.topology.now, subst (λ (w : Waits). Stand c.args.topology.now w (reverse c.args.history.now)) (sym c.whose_turn.ensures.same) c.requires.stands.queues_are)

pub pass_by-requires-clause-in_place : goal.pass_by-requires-clause-in_place
pass_by-requires-clause-in_place c =
    let passes : IsPassing c.args.topology.now c.args.nodes.now c.whose_turn.new.queues (passing_record c.args.event c.in-Passes.took c.in-Passes.outcome) =
    told c.args.topology.now c.args.nodes.now c.args.queues.now c.whose_turn.new.queues c.args.event c.in-Ok.turn (Passes c.in-Passes.took c.in-Passes.outcome)
    c.in-Ok.ensures.turn c.in-Passes.is c.whose_turn.ensures.same in
    passes.in_place

pub returns-in-Passes-clause-stands : goal.returns-in-Passes-clause-stands
returns-in-Passes-clause-stands c =
    let graph = c.args.topology.now in
    let nodes : List NodeState = c.args.nodes.now in
    let seen : Waits = c.whose_turn.new.queues in
    let past : List Record = reverse c.args.history.now in
    let r : Record = passing_record c.args.event c.in-Passes.took c.in-Passes.outcome in
    let keeps : Keeps graph nodes seen past = subst (λ (w : Waits). Keeps graph nodes w past) (sym c.whose_turn.ensures.same) c.requires.stands in
    let passes : IsPassing graph nodes seen r =
    told graph nodes c.args.queues.now seen c.args.event c.in-Ok.turn (Passes c.in-Passes.took c.in-Passes.outcome) c.in-Ok.ensures.turn c.in-Passes.is c.whose_turn.ensures.same in
    either_way c.pass_by.result
    (PassesBy seen c.pass_by.new.queues c.args.history.now c.pass_by.new.history r)
    ((c.pass_by.new.history ≡ c.args.history.now) × (c.pass_by.new.queues ≡ seen))
    (Stands graph nodes c.pass_by.new.queues c.pass_by.new.history)
    c.pass_by.ensures.ok c.pass_by.ensures.err
    (λ done. appended graph nodes c.pass_by.new.queues c.args.history.now c.pass_by.new.history r done.appended
    (passed_by graph nodes seen c.pass_by.new.queues past r keeps passes c.requires.event (done.queues_stand graph past keeps.queues_are)))
    (λ refusal. unchanged graph nodes seen c.pass_by.new.queues c.args.history.now c.pass_by.new.history refusal.0 refusal.1 keeps)

pub returns-in-Passes-clause-full : goal.returns-in-Passes-clause-full
returns-in-Passes-clause-full c =
    let graph = c.args.topology.now in
    let nodes : List NodeState = c.args.nodes.now in
    let past : List Record = reverse c.args.history.now in
    let r : Record = passing_record c.args.event c.in-Passes.took c.in-Passes.outcome in
    let passes : IsPassing graph nodes c.args.queues.now r = subst (IsTurn graph nodes c.args.queues.now c.args.event) c.in-Passes.is c.in-Ok.ensures.turn in
    IfErr-weaker c.pass_by.result (FullBy c.args.history.now r) (λ (fault : StepFault). (items : ℕ) → fault ≡ Full items → Overfills graph c.args.history.now c.args.event items)
    (λ fault full items is. overfills graph c.args.history.now r c.args.event items c.requires.stands.rules (passes.rules past c.requires.stands) refl (full items is))
    c.pass_by.ensures.full

pub returns-in-Acts-clause-stands : goal.returns-in-Acts-clause-stands
returns-in-Acts-clause-stands c =
    let graph = c.args.topology.now in
    let nodes : List NodeState = c.args.nodes.now in
    let seen : Waits = c.whose_turn.new.queues in
    let past : List Record = reverse c.args.history.now in
    let id : ℕ = c.in-Acts.id.0 in
    let before : NodeState = slice_index_or nodes id c.index-nodes-id.result in
    let keeps : Keeps graph nodes seen past = subst (λ (w : Waits). Keeps graph nodes w past) (sym c.whose_turn.ensures.same) c.requires.stands in
    let acting : IsActing graph nodes seen c.args.event c.in-Acts.id c.in-Acts.took =
    told graph nodes c.args.queues.now seen c.args.event c.in-Ok.turn (Acts c.in-Acts.id c.in-Acts.took) c.in-Ok.ensures.turn c.in-Acts.is c.whose_turn.ensures.same in
    let known : id < graph.nodes = omega (arith, acting.known, keeps.count) in
    let read : before ≡ slice_index_or nodes id before = get_or_default nodes id c.index-nodes-id.result before acting.known in
    either_way c.act.result
    ((r : Record) × (c.act.new.history ≡ c.args.history.now ++ r ∷ []) × (r.event ≡ c.args.event) × Adds graph id before c.act.new.state seen c.act.new.queues r)
    ((c.act.new.history ≡ c.args.history.now) × (c.act.new.queues ≡ seen) × Restores graph id before c.act.new.state)
    (Stands graph (set nodes id c.act.new.state) c.act.new.queues c.act.new.history)
    c.act.ensures.ok c.act.ensures.err
    (λ done. appended graph (set nodes id c.act.new.state) c.act.new.queues c.args.history.now c.act.new.history done.0 done.1
    (acted graph nodes seen c.act.new.queues past id before c.act.new.state done.0 keeps known read done.3
    (subst (IsOfGraph graph) (sym done.2) c.requires.event)))
    (λ refusal. unchanged graph (set nodes id c.act.new.state) seen c.act.new.queues c.args.history.now c.act.new.history refusal.0 refusal.1
    (refused graph nodes seen past id before c.act.new.state keeps known read refusal.2))

pub returns-in-Acts-clause-full : goal.returns-in-Acts-clause-full
returns-in-Acts-clause-full c =
    let graph = c.args.topology.now in
    let nodes : List NodeState = c.args.nodes.now in
    let seen : Waits = c.whose_turn.new.queues in
    let past : List Record = reverse c.args.history.now in
    let id : ℕ = c.in-Acts.id.0 in
    let before : NodeState = slice_index_or nodes id c.index-nodes-id.result in
    let keeps : Keeps graph nodes seen past = subst (λ (w : Waits). Keeps graph nodes w past) (sym c.whose_turn.ensures.same) c.requires.stands in
    let acting : IsActing graph nodes seen c.args.event c.in-Acts.id c.in-Acts.took =
    told graph nodes c.args.queues.now seen c.args.event c.in-Ok.turn (Acts c.in-Acts.id c.in-Acts.took) c.in-Ok.ensures.turn c.in-Acts.is c.whose_turn.ensures.same in
    let stands : node.StandsIn graph id past before = keeps.nodes_are id c.index-nodes-id.result (omega (arith, acting.known, keeps.count)) in
    IfErr-weaker c.act.result (λ (fault : StepFault). (items : ℕ) → fault ≡ Full items → WouldOverfill graph id before seen c.args.history.now c.args.event items)
    (λ (fault : StepFault). (items : ℕ) → fault ≡ Full items → Overfills graph c.args.history.now c.args.event items)
    (λ fault full items is.
    let would : WouldOverfill graph id before seen c.args.history.now c.args.event items = full items is in
    overfills graph c.args.history.now would.next c.args.event items keeps.rules (would.rules past keeps.rules stands keeps.queues_are) would.event_is would.over)
    c.act.ensures.full

pub act-requires-clause-stands : goal.act-requires-clause-stands
act-requires-clause-stands c =
    let graph = c.args.topology.now in
    let past : List Record = reverse c.args.history.now in
    let id : ℕ = c.in-Acts.id.0 in
    let acting : IsActing graph c.args.nodes.now c.args.queues.now c.args.event c.in-Acts.id c.in-Acts.took = subst (IsTurn graph c.args.nodes.now c.args.queues.now c.args.event) c.in-Acts.is c.in-Ok.ensures.turn in
    record {
      own = own graph id past;
      stands = (c.requires.stands.nodes_are id c.index-nodes-id.result (omega (arith, acting.known, c.requires.stands.count))).node_stands;
      rules = node_history graph id past c.requires.stands.rules;
      names = All-filter (is_own graph id) (λ (r : Record). IsOfGraph graph r.event) past c.requires.stands.names;
    }
