-- One event of the world: its record is what the rules say, and what is kept follows it.
use Rattle.std.proofs.Common.{◌≡◌, ◌≢◌, ℕ, ◌<◌, Bool, true, false, if◌then◌else◌, List, [], ◌∷◌, ◌++◌, set, Option, Some, None, refl, sym, subst, ap, ◌∙◌, arith, inl, inr, eq-eqb}
use Rattle.std.specs.Prelude.{nat_le, not, reverse, slice_index_or, Result, OnOk, OnErr, ◌||◌, Ok as ResultOk, Err as ResultErr}
use Rattle.std.proofs.lemmas.Bool.{and_from, and_left, both_ways, cases_eq, lt-ltb}
use Rattle.std.proofs.lemmas.List.Elements.{All-cons}
use Rattle.std.proofs.lemmas.List.{reverse-append, get_or-set_same, get_or-set_other, length-set}
use Rattle.pipe_base.specs.declared.name.HostId.{HostId}
use Rattle.pipe_base.specs.declared.name.NodeId.{NodeId}
use Rattle.pipe_base.specs.declared.step.Outcome.{Outcome}
use Rattle.pipe_base.specs.declared.step.Step.{Step}
use Rattle.pipe_base.specs.declared.step.Outcome.TheVariants.{Ok, ClockEnd, Crashed, Ignored}
use Rattle.pipe_base.specs.Clock.{stamp_at}
use Rattle.pipe_base.specs.Limits.{last_stamp}
use Rattle.pipe_base.specs.Moment.{is_up}
use Rattle.pipe_base.specs.Settled.{unsettled}
use Rattle.pipe_graph.specs.Graph.{Graph, is_half, is_host}
use Rattle.pipe_model.specs.declared.event.Event.{Event}
use Rattle.pipe_model.specs.declared.event.Event.TheVariants.{Send, Take, Crash}
use Rattle.pipe_model.specs.declared.record.Record.{Record}
use Rattle.pipe_model.specs.declared.record.Took.{Took}
use Rattle.pipe_model.specs.Acting.{ComesIn, acts, is_idle, is_own, own}
use Rattle.pipe_model.specs.Clock.{next}
use Rattle.pipe_model.specs.Event.{IsOfGraph}
use Rattle.pipe_model.specs.Items.{IsOver, Overfills}
use Rattle.pipe_model.specs.Moments.{moments_of, noted_hosts}
use Rattle.pipe_model.specs.Outcome.{has_crashed, is_crash_of, item_at, outcome_of}
use Rattle.pipe_model.specs.OwnOutcome.{first_failed, is_window_full, own_outcome, send_outcome}
use Rattle.pipe_model.specs.Run.{IsHistory, IsNodeStep, IsStep}
use Rattle.pipe_model.specs.Sender.{sender_calls}
use Rattle.pipe_model.proofs.Links.{comes_by}
use Rattle.pipe_model.proofs.Own.{own_more, own_same}
use Rattle.pipe_model_runs.proofs.OneRun.{record_only}
use Rattle.pipe_net.specs.Waits.{Waits}
use Rattle.pipe_world.specs.declared.node.Node.{Node}
use Rattle.pipe_world.specs.declared.node.NodeState.{NodeState}
use Rattle.pipe_world.specs.Node as node
use Rattle.pipe_world.specs.Queues as queues
use Rattle.pipe_world.specs.Node.{StandsWith, Works}
use Rattle.pipe_model.specs.Records.{record_of}
use Rattle.pipe_world.specs.Turn.{ActsAt, IsPassing, is_crash, is_there, taken_of, IsUndecided}
use Rattle.pipe_world.specs.World.{Adds, HasHalf, HasHost, Keeps, Restores, Stands}
use Rattle.pipe_world.proofs.Passing.{acts_here, acts_only, item_told, others_live, outcome_acting, same_crashes, taken}

-- what the acting node answers is never that nothing happened
awake_if : (b : Bool) (o : Outcome) → is_idle o ≡ false → is_idle (if b then Ok else o) ≡ false
awake_if true o is = refl
awake_if false o is = is

awake_send : (failed : Option HostId) (full : Bool) (top now next : ℕ) → is_idle (send_outcome failed full top now next) ≡ false
awake_send (Some host) full top now next = refl
awake_send None true top now next = refl
awake_send None false top now next = awake_if (nat_le (stamp_at now next) top) (ClockEnd (record { 0 = next })) refl

awake : (graph : Graph) (node : ℕ) (own : List Record) (event : Event) → is_idle (own_outcome graph node own event) ≡ false
awake graph node own (Send host service now dests) =
    awake_send (first_failed (noted_hosts own) dests) (is_window_full service (unsettled (sender_calls graph node own))) graph.top now.0 (next graph node own)
awake graph node own (Take link place keep) = awake_if (is_up (moments_of graph node own) link.0) Ignored refl
awake graph node own _ = refl

unless : (b : Bool) (x y : Outcome) → b ≡ false → y ≡ (if b then x else y)
unless true x y is = cc
unless false x y is = refl

outcome_told : (graph : Graph) (id : NodeId) (past : List Record) (lists : Waits) (event : Event) (took : Took) → has_crashed id.0 past ≡ false → queues.Stand graph lists past
    → IsOfGraph graph event → ActsAt graph id event took → took ≡ taken_of lists event → is_there lists event ≡ true → own_outcome graph id.0 (own graph id.0 past) event ≡ outcome_of graph past event
outcome_told graph id past lists event took lives waits names at is there =
    unless (has_crashed id.0 past) Crashed (own_outcome graph id.0 (own graph id.0 past) event) lives
    ∙ outcome_acting graph id past lists event took waits names at is there

-- the acting node owns its record
owned : (graph : Graph) (id : NodeId) (own : List Record) (r : Record) → ActsAt graph id r.event r.took → IsNodeStep graph id.0 own r → is_own graph id.0 r ≡ true
owned graph id own r at step =
    let busy : is_idle r.step.outcome ≡ false = ap is_idle step.outcome_is ∙ awake graph id.0 own r.event in
    and_from (acts graph id.0 r.event r.took) (not (is_idle r.step.outcome)) (acts_here graph id r.event r.took at) (ap not busy)

-- a take is from a link into the acting node
pub comes_in : (graph : Graph) (id : NodeId) (event : Event) (took : Took) → IsOfGraph graph event → ActsAt graph id event took → ComesIn graph id.0 event
comes_in graph id (Take link place keep) took names at = comes_by graph id.0 link.0 names at.0
comes_in graph id _ took names at = tt

-- a sender is a host
pub sender_is_host : (graph : Graph) (id host : ℕ) → host < graph.hosts → id ≡ host → is_host graph id ≡ true
sender_is_host graph id host lt at = ap (is_host graph) at ∙ lt-ltb host graph.hosts lt

-- the record of an event that was worked out is what the rules say
pub worked : (graph : Graph) (id : NodeId) (lists : Waits) (event : Event) (took : Took) (step : Step) (past : List Record)
    → IsOfGraph graph event → IsUndecided event → ActsAt graph id event took → took ≡ taken_of lists event → is_there lists event ≡ true
    → IsNodeStep graph id.0 (own graph id.0 past) (record_of event took step) → has_crashed id.0 past ≡ false
    → queues.Stand graph lists past → IsStep graph past (record_of event took step)
worked graph id lists event took step past names undecided at is there rules lives waits =
    let r : Record = record_of event took step in
    let o : List Record = own graph id.0 past in
    let told : own_outcome graph id.0 o event ≡ outcome_of graph past event = outcome_told graph id past lists event took lives waits names at is there in
    let busy : is_idle (outcome_of graph past event) ≡ false = ap is_idle (sym told) ∙ awake graph id.0 o event in
    let others : (n : ℕ) → n ≢ id.0 → is_own graph n r ≡ false = λ n other. and_left (acts graph n event took) (not (is_idle step.outcome)) (acts_only graph id event took n at other) in
    record {
      outcome_is = rules.outcome_is ∙ told;
      took_is = is ∙ item_told graph past lists event waits names ∙ taken (is_idle (outcome_of graph past event)) (item_at past event) busy;
      nobodys = λ nobody. absurd (both_ways (is_own graph id.0 r) (nobody id.0) (owned graph id o r at rules));
      node = λ n mine.
          elim (cases_eq n id.0) [
            | inl same ↦ subst (λ (m : ℕ). IsNodeStep graph m (own graph m past) r) (sym same) rules
            | inr other ↦ absurd (both_ways (is_own graph n r) (others n other) mine)
          ];
    }

-- a node that had not crashed has when it crashes
crash_noted : (graph : Graph) (id : NodeId) (event : Event) (took : Took) → ActsAt graph id event took → is_crash event ≡ is_crash_of id.0 event
crash_noted graph id (Crash n) took at = sym (eq-eqb n.0 id.0 (ap {B = ℕ} (λ (m : NodeId). m.0) (sym at.0)))
crash_noted graph id _ took at = refl

or_false : (b c : Bool) → c ≡ false → b ≡ (b || c)
or_false true c is = refl
or_false false c is = sym is

-- an event at the node that acts
pub added : (graph : Graph) (id : NodeId) (before after : NodeState) (mid : Node) (lists left : Waits) (event : Event) (took : Took) (step : Step)
    → IsOfGraph graph event → IsUndecided event → ActsAt graph id event took → took ≡ taken_of lists event → is_there lists event ≡ true
    → before.crashed ≡ false → after.crashed ≡ is_crash event
    → ((o : List Record) → node.Stands graph id.0 o before.node → Works graph id.0 o (record_of event took step) mid)
    → ((o : List Record) → StandsWith graph id.0 o (record_of event took step) mid → ComesIn graph id.0 event → IsNodeStep graph id.0 o (record_of event took step) → node.Stands graph id.0 (record_of event took step ∷ o) after.node)
    → ((past : List Record) → queues.Stand graph lists past → queues.Stand graph left (record_of event took step ∷ past))
    → Adds graph id.0 before after lists left (record_of event took step)
added graph id before after mid lists left event took step names undecided at is there lives noted works follows moved =
    let r : Record = record_of event took step in
    record {
      rules = λ past run stands waits.
          worked graph id lists event took step past names undecided at is there (works (own graph id.0 past) stands.node_stands).rules (sym stands.crashed_is ∙ lives) waits;
      node_stands = λ past stands.
          let o : List Record = own graph id.0 past in
          let done = works o stands.node_stands in
          record {
            node_stands =
                subst (λ (x : List Record). node.Stands graph id.0 x after.node) (sym (own_more graph id.0 r past (owned graph id o r at done.rules)))
                (follows o done.stands (comes_in graph id event took names at) done.rules);
            crashed_is =
                noted ∙ crash_noted graph id event took at ∙ or_false (is_crash_of id.0 event) (has_crashed id.0 past) (sym stands.crashed_is ∙ lives);
          };
      others = λ n other. and_left (acts graph n event took) (not (is_idle step.outcome)) (acts_only graph id event took n at other);
      others_live = λ n other. others_live graph id event took n at other;
      queues_stand = moved;
    }

-- an event that would put too much
pub overfills : (graph : Graph) (trace : List Record) (r : Record) (event : Event) (items : ℕ) → IsHistory graph (reverse trace) → IsStep graph (reverse trace) r → r.event ≡ event
    → IsOver trace r items → Overfills graph trace event items
overfills graph trace r event items past step is over =
    record { past = past; over = subst (λ (x : Record). IsOver trace x items) (record_only graph (reverse trace) event r past step is) over }

-- a record that is no node's own leaves what is kept of the nodes
pub kept_nodes : (graph : Graph) (nodes : List NodeState) (lists left : Waits) (past : List Record) (r : Record) → Keeps graph nodes lists past
    → IsStep graph past r → ((n : ℕ) → is_own graph n r ≡ false) → ((n : ℕ) → has_crashed n (r ∷ past) ≡ has_crashed n past)
    → IsOfGraph graph r.event → queues.Stand graph left (r ∷ past) → Keeps graph nodes left (r ∷ past)
kept_nodes graph nodes lists left past r keeps step nobodys crashes known moved = record {
  is_graph = keeps.is_graph;
  joined = keeps.joined;
  few_links = keeps.few_links;
  few_nodes = keeps.few_nodes;
  count = keeps.count;
  nodes_are = λ n d lt.
      let stands : node.StandsIn graph n past (slice_index_or nodes n d) = keeps.nodes_are n d lt in
      record {
        node_stands = subst (λ (o : List Record). node.Stands graph n o (slice_index_or nodes n d).node) (sym (own_same graph n r past (nobodys n))) stands.node_stands;
        crashed_is = stands.crashed_is ∙ sym (crashes n);
      };
  queues_are = moved;
  rules = (keeps.rules, step);
  names = All-cons (λ (s : Record). IsOfGraph graph s.event) r past known keeps.names;
}

-- a record in which no node does anything
pub passed_by : (graph : Graph) (nodes : List NodeState) (lists left : Waits) (past : List Record) (r : Record) → Keeps graph nodes lists past
    → IsPassing graph nodes lists r → IsOfGraph graph r.event → queues.Stand graph left (r ∷ past) → Keeps graph nodes left (r ∷ past)
passed_by graph nodes lists left past r keeps passes known moved =
    kept_nodes graph nodes lists left past r keeps (passes.rules past keeps) passes.nobodys (passes.crashes past keeps) known moved

-- a record of a node's own
pub acted : (graph : Graph) (nodes : List NodeState) (lists left : Waits) (past : List Record) (id : ℕ) (before after : NodeState) (r : Record) → Keeps graph nodes lists past
    → id < graph.nodes → before ≡ slice_index_or nodes id before → Adds graph id before after lists left r → IsOfGraph graph r.event → Keeps graph (set nodes id after) left (r ∷ past)
acted graph nodes lists left past id before after r keeps lt read adds known =
    let stands : node.StandsIn graph id past before = subst (λ (k : NodeState). node.StandsIn graph id past k) (sym read) (keeps.nodes_are id before lt) in
    record {
      is_graph = keeps.is_graph;
      joined = keeps.joined;
      few_links = keeps.few_links;
      few_nodes = keeps.few_nodes;
      count = length-set nodes id after ∙ keeps.count;
      nodes_are = λ n d within.
          elim (cases_eq n id) [
            | inl same ↦
                subst (λ (m : ℕ). node.StandsIn graph m (r ∷ past) (slice_index_or (set nodes id after) m d)) (sym same)
                (subst (λ (k : NodeState). node.StandsIn graph id (r ∷ past) k) (sym (get_or-set_same nodes id after d (omega (arith, keeps.count)))) (adds.node_stands past stands))
            | inr other ↦
                let kept : node.StandsIn graph n past (slice_index_or nodes n d) = keeps.nodes_are n d within in
                subst (λ (k : NodeState). node.StandsIn graph n (r ∷ past) k) (sym (get_or-set_other nodes id n after d other))
                (record {
                  node_stands = subst (λ (o : List Record). node.Stands graph n o (slice_index_or nodes n d).node) (sym (own_same graph n r past (adds.others n other))) kept.node_stands;
                  crashed_is = kept.crashed_is ∙ sym (same_crashes n r past (adds.others_live n other));
                })
          ];
      queues_are = adds.queues_stand past keeps.queues_are;
      rules = (keeps.rules, adds.rules past keeps.rules stands keeps.queues_are);
      names = All-cons (λ (s : Record). IsOfGraph graph s.event) r past known keeps.names;
    }

-- a refused record
pub refused : (graph : Graph) (nodes : List NodeState) (lists : Waits) (past : List Record) (id : ℕ) (before after : NodeState) → Keeps graph nodes lists past
    → id < graph.nodes → before ≡ slice_index_or nodes id before → Restores graph id before after → Keeps graph (set nodes id after) lists past
refused graph nodes lists past id before after keeps lt read restores =
    let stands : node.StandsIn graph id past before = subst (λ (k : NodeState). node.StandsIn graph id past k) (sym read) (keeps.nodes_are id before lt) in
    record {
      is_graph = keeps.is_graph;
      joined = keeps.joined;
      few_links = keeps.few_links;
      few_nodes = keeps.few_nodes;
      count = length-set nodes id after ∙ keeps.count;
      nodes_are = λ n d within.
          elim (cases_eq n id) [
            | inl same ↦
                subst (λ (m : ℕ). node.StandsIn graph m past (slice_index_or (set nodes id after) m d)) (sym same)
                (subst (λ (k : NodeState). node.StandsIn graph id past k) (sym (get_or-set_same nodes id after d (omega (arith, keeps.count)))) (restores past stands))
            | inr other ↦ subst (λ (k : NodeState). node.StandsIn graph n past k) (sym (get_or-set_other nodes id n after d other)) (keeps.nodes_are n d within)
          ];
      queues_are = keeps.queues_are;
      rules = keeps.rules;
      names = keeps.names;
    }

-- the history of a longer trace
pub history_push : (trace : List Record) (r : Record) → reverse (trace ++ r ∷ []) ≡ r ∷ reverse trace
history_push trace r = reverse-append trace (r ∷ [])

pub appended : (graph : Graph) (nodes : List NodeState) (lists : Waits) (trace new : List Record) (r : Record) → new ≡ trace ++ r ∷ []
    → Keeps graph nodes lists (r ∷ reverse trace) → Stands graph nodes lists new
appended graph nodes lists trace new r is keeps =
    subst (λ (past : List Record). Keeps graph nodes lists past) (sym (ap reverse is ∙ history_push trace r)) keeps

pub unchanged : (graph : Graph) (nodes : List NodeState) (lists left : Waits) (trace new : List Record) → new ≡ trace → left ≡ lists → Keeps graph nodes lists (reverse trace) → Stands graph nodes left new
unchanged graph nodes lists left trace new is same keeps =
    subst (λ (past : List Record). Keeps graph nodes left past) (sym (ap reverse is)) (subst (λ (w : Waits). Keeps graph nodes w (reverse trace)) (sym same) keeps)

-- what holds whether a call was refused or not
pub either_way : {T E : Type 0} (result : Result T E) (A B G : Type 0) → OnOk result A → OnErr result B → (A → G) → (B → G) → G
either_way (ResultOk x) A B G a b f g = f a
either_way (ResultErr e) A B G a b f g = g b

-- the hosts and halves among what is kept
pub has_host : (graph : Graph) (nodes : List NodeState) (lists : Waits) (past : List Record) (host : ℕ) → Keeps graph nodes lists past → host < graph.hosts → HasHost graph nodes past host
has_host graph nodes lists past host keeps lt =
    let within : host < graph.nodes = omega (arith, keeps.is_graph.hosts_in, lt) in
    record {
      known = omega (arith, keeps.count, within);
      is_a_host = lt-ltb host graph.hosts lt;
      stands = λ d. (keeps.nodes_are host d within).node_stands;
    }

pub has_half : (graph : Graph) (nodes : List NodeState) (lists : Waits) (past : List Record) (half : ℕ) → Keeps graph nodes lists past → half < graph.nodes → is_half graph half ≡ true → HasHalf graph nodes past half
has_half graph nodes lists past half keeps lt is = record { known = omega (arith, keeps.count, lt); is_a_half = is; stands = λ d. (keeps.nodes_are half d lt).node_stands }
