-- What becomes of an event, by what waits: it takes what stands at its place, and where no node does anything its record is
-- what the rules say.
use Rattle.std.proofs.Common.{◌≡◌, ◌≢◌, ℕ, ◌<◌, ◌≤◌, Bool, true, false, if◌then◌else◌, List, ◌∷◌, Option, None, Some, length, refl, sym, subst, ap, ◌∙◌, arith, inl, inr, eq-eqb, ne_eqb}
use Rattle.std.specs.Prelude.{nat_lt, not, slice_get, slice_index_or, ◌&&◌, ◌||◌}
use Rattle.std.proofs.lemmas.Bool.{and_right, both_ways, cases_eq}
use Rattle.std.proofs.lemmas.Bool.Decides.{nat_tests}
use Rattle.std.proofs.lemmas.Option.{slice_get_past}
use Rattle.pipe_base.specs.Step.{quiet_step}
use Rattle.pipe_base.specs.declared.control.Addressed.{Addressed}
use Rattle.pipe_base.specs.declared.control.Control.{Control}
use Rattle.pipe_base.specs.declared.control.To.TheVariants.{Controller, Node}
use Rattle.pipe_base.specs.declared.name.NodeId.{NodeId}
use Rattle.pipe_base.specs.declared.packet.Packet.{Packet}
use Rattle.pipe_base.specs.declared.step.Outcome.{Outcome}
use Rattle.pipe_base.specs.declared.step.Outcome.TheVariants.{Ok, NoItem, Crashed}
use Rattle.pipe_graph.specs.Graph.{Graph, head_of}
use Rattle.pipe_model.specs.Controller.{nobodys_step, view}
use Rattle.pipe_model.specs.View.{View}
use Rattle.pipe_model.specs.declared.event.Event.{Event}
use Rattle.pipe_model.specs.declared.event.Event.TheVariants.{Send, Tick, Take, Lose, ControlTake, ControlLose, Crash, Cut, Decide}
use Rattle.pipe_model.specs.declared.record.Record.{Record}
use Rattle.pipe_model.specs.declared.record.Took.{Took}
use Rattle.pipe_model.specs.declared.record.Took.TheVariants.{Nothing, Message}
use Rattle.pipe_model.specs.Acting.{acts, is_idle, is_own, own, reached}
use Rattle.pipe_model.specs.Event.{IsOfGraph}
use Rattle.pipe_model.specs.Outcome.{has_crashed, is_crash_of, item_at, message_outcome, outcome_at, outcome_of, place_outcome, took_at, took_message}
use Rattle.pipe_model.specs.OwnOutcome.{own_outcome}
use Rattle.pipe_model.specs.Run.{IsStep}
use Rattle.pipe_model.specs.Waiting.{is_ok, waiting_control, waiting_on}
use Rattle.pipe_net.specs.Waits.{Waits, waiting}
use Rattle.pipe_world.specs.declared.node.NodeState.{NodeState}
use Rattle.pipe_world.specs.Queues.{IsInPlace, Stand}
use Rattle.pipe_world.specs.Turn.{ActsAt, IsOfNobody, IsPassing, is_there, passing_record, taken_of, IsUndecided}
use Rattle.pipe_world.specs.World.{Keeps}
use Rattle.pipe_world.proofs.WaitingLists.{waits_there}

absent : (b : Bool) (o : Outcome) → b ≡ false → NoItem ≡ (if b then o else NoItem)
absent true o is = cc
absent false o is = refl

present : (b : Bool) (o : Outcome) → b ≡ true → o ≡ (if b then o else NoItem)
present true o is = refl
present false o is = cc

-- whether something waits there, by the lists that stand
placed : (graph : Graph) (past : List Record) (lists : Waits) (link place : ℕ) (o : Outcome) → Stand graph lists past → link < length graph.links
    → place_outcome place (waiting link lists) o ≡ place_outcome place (waiting_on link past) o
placed graph past lists link place o stands names = ap (λ (ps : List Packet). place_outcome place ps o) (waits_there graph lists past link stands names)

placed_control : (graph : Graph) (past : List Record) (lists : Waits) (place : ℕ) (o : Outcome) → Stand graph lists past
    → place_outcome place lists.control o ≡ place_outcome place (waiting_control past) o
placed_control graph past lists place o stands = ap (λ (ms : List Addressed). place_outcome place ms o) stands.control_is

-- the message at a place, by the list that stands
message_there : (graph : Graph) (past : List Record) (lists : Waits) (place : ℕ) → Stand graph lists past → slice_get lists.control place ≡ slice_get (waiting_control past) place
message_there graph past lists place stands = ap (λ (ms : List Addressed). slice_get ms place) stands.control_is

not_within : (place n : ℕ) → nat_lt place n ≡ false → n ≤ place
not_within place n is = grind (arith, nat_tests, is)

within : (place n : ℕ) → nat_lt place n ≡ true → place < n
within place n is = grind (arith, nat_tests, is)

-- what an event takes, by the lists that stand
pub item_told : (graph : Graph) (past : List Record) (lists : Waits) (event : Event) → Stand graph lists past → IsOfGraph graph event → taken_of lists event ≡ item_at past event
item_told graph past lists (Take link place keep) stands names = ap (λ (ps : List Packet). took_at link (slice_get ps place)) (waits_there graph lists past link.0 stands names)
item_told graph past lists (ControlTake place keep) stands names = ap took_message (message_there graph past lists place stands)
item_told graph past lists _ stands names = refl

-- ---- nothing waits there

missing_outcome : (graph : Graph) (past : List Record) (lists : Waits) (event : Event) → Stand graph lists past → IsOfGraph graph event → is_there lists event ≡ false
    → NoItem ≡ outcome_of graph past event
missing_outcome graph past lists (Take link place keep) stands names isnt =
    let o : Outcome = outcome_at graph past (Take link place keep) (head_of graph link.0) in
    absent (nat_lt place (length (waiting link.0 lists))) o isnt ∙ placed graph past lists link.0 place o stands names
missing_outcome graph past lists (Lose link place) stands names isnt =
    absent (nat_lt place (length (waiting link.0 lists))) Ok isnt ∙ placed graph past lists link.0 place Ok stands names
missing_outcome graph past lists (ControlTake place keep) stands names isnt =
    ap (message_outcome graph past (ControlTake place keep))
    (sym (slice_get_past lists.control place (not_within place (length lists.control) isnt)) ∙ message_there graph past lists place stands)
missing_outcome graph past lists (ControlLose place) stands names isnt =
    absent (nat_lt place (length lists.control)) Ok isnt ∙ placed_control graph past lists place Ok stands
missing_outcome graph past lists _ stands names isnt = cc

-- ---- a node acts

told_node : (graph : Graph) (past : List Record) (event : Event) (id : NodeId) (c : Control) (o : Option Addressed) → took_message o ≡ Message (record { to = Node id; control = c })
    → outcome_at graph past event id.0 ≡ message_outcome graph past event o
told_node graph past event id c None is = cc
told_node graph past event id c (Some m) is =
    let same : m ≡ record { to = Node id; control = c } = cc in
    subst (λ (a : Addressed). outcome_at graph past event id.0 ≡ message_outcome graph past event (Some a)) (sym same) refl

-- the outcome is that at the node that acts
pub outcome_acting : (graph : Graph) (id : NodeId) (past : List Record) (lists : Waits) (event : Event) (took : Took) → Stand graph lists past
    → IsOfGraph graph event → ActsAt graph id event took → took ≡ taken_of lists event → is_there lists event ≡ true → outcome_at graph past event id.0 ≡ outcome_of graph past event
outcome_acting graph id past lists (Send host service now dests) took waits names at is there = ap (outcome_at graph past (Send host service now dests)) at.0
outcome_acting graph id past lists (Tick n now) took waits names at is there = ap (λ (m : NodeId). outcome_at graph past (Tick n now) m.0) at.0
outcome_acting graph id past lists (Take link place keep) took waits names at is there =
    let o : Outcome = outcome_at graph past (Take link place keep) (head_of graph link.0) in
    ap (outcome_at graph past (Take link place keep)) at.0
    ∙ present (nat_lt place (length (waiting link.0 lists))) o there ∙ placed graph past lists link.0 place o waits names
outcome_acting graph id past lists (ControlTake place keep) took waits names at is there =
    told_node graph past (ControlTake place keep) id at.0 (slice_get (waiting_control past) place)
    (sym (is ∙ ap took_message (message_there graph past lists place waits)) ∙ at.1)
outcome_acting graph id past lists (Crash n) took waits names at is there = ap (λ (m : NodeId). outcome_at graph past (Crash n) m.0) at.0
outcome_acting graph id past lists _ took waits names at is there = absurd at

pub acts_here : (graph : Graph) (id : NodeId) (event : Event) (took : Took) → ActsAt graph id event took → acts graph id.0 event took ≡ true
acts_here graph id (Send host service now dests) took at = eq-eqb host.0 id.0 (sym at.0)
acts_here graph id (Tick n now) took at = eq-eqb n.0 id.0 (ap {B = ℕ} (λ (m : NodeId). m.0) (sym at.0))
acts_here graph id (Take link place keep) took at = eq-eqb (head_of graph link.0) id.0 (sym at.0)
acts_here graph id (ControlTake place keep) took at = ap (reached id.0) at.1 ∙ eq-eqb id.0 id.0 refl
acts_here graph id (Crash n) took at = eq-eqb n.0 id.0 (ap {B = ℕ} (λ (m : NodeId). m.0) (sym at.0))
acts_here graph id _ took at = absurd at

pub acts_only : (graph : Graph) (id : NodeId) (event : Event) (took : Took) (n : ℕ) → ActsAt graph id event took → n ≢ id.0 → acts graph n event took ≡ false
acts_only graph id (Send host service now dests) took n at other = ne_eqb host.0 n (λ is. other (sym (at.0 ∙ is)))
acts_only graph id (Tick m now) took n at other = ne_eqb m.0 n (λ is. other (sym (ap {B = ℕ} (λ (k : NodeId). k.0) at.0 ∙ is)))
acts_only graph id (Take link place keep) took n at other = ne_eqb (head_of graph link.0) n (λ is. other (sym (at.0 ∙ is)))
acts_only graph id (ControlTake place keep) took n at other = ap (reached n) at.1 ∙ ne_eqb id.0 n (λ is. other (sym is))
acts_only graph id (Crash m) took n at other = ne_eqb m.0 n (λ is. other (sym (ap {B = ℕ} (λ (k : NodeId). k.0) at.0 ∙ is)))
acts_only graph id _ took n at other = absurd at

-- no other node crashes
pub others_live : (graph : Graph) (id : NodeId) (event : Event) (took : Took) (n : ℕ) → ActsAt graph id event took → n ≢ id.0 → is_crash_of n event ≡ false
others_live graph id (Crash m) took n at other = ne_eqb m.0 n (λ is. other (sym (ap {B = ℕ} (λ (k : NodeId). k.0) at.0 ∙ is)))
others_live graph id _ took n at other = refl

-- ---- the item of an event is in place

ok_awake : (o : Outcome) → is_ok o ≡ true → is_idle o ≡ false
ok_awake Ok is = refl
ok_awake _ is = cc

in_place_idle : (graph : Graph) (past : List Record) (lists : Waits) (event : Event) (outcome : Outcome) → Stand graph lists past → IsOfGraph graph event
    → is_idle outcome ≡ true → IsInPlace lists event outcome
in_place_idle graph past lists (Take link place keep) outcome stands names idle = λ busy. absurd (both_ways (is_idle outcome) busy idle)
in_place_idle graph past lists (Lose link place) outcome stands names idle = λ ok. absurd (both_ways (is_idle outcome) (ok_awake outcome ok) idle)
in_place_idle graph past lists (ControlTake place keep) outcome stands names idle = λ busy. absurd (both_ways (is_idle outcome) busy idle)
in_place_idle graph past lists (ControlLose place) outcome stands names idle = λ ok. absurd (both_ways (is_idle outcome) (ok_awake outcome ok) idle)
in_place_idle graph past lists (Cut link) outcome stands names idle = omega (arith, names, stands.count)
in_place_idle graph past lists _ outcome stands names idle = tt

pub in_place_there : (graph : Graph) (past : List Record) (lists : Waits) (event : Event) (outcome : Outcome) → Stand graph lists past → IsOfGraph graph event
    → is_there lists event ≡ true → IsInPlace lists event outcome
in_place_there graph past lists (Take link place keep) outcome stands names there =
    λ busy. (omega (arith, names, stands.count), within place (length (waiting link.0 lists)) there)
in_place_there graph past lists (Lose link place) outcome stands names there =
    λ ok. (omega (arith, names, stands.count), within place (length (waiting link.0 lists)) there)
in_place_there graph past lists (ControlTake place keep) outcome stands names there = λ busy. within place (length lists.control) there
in_place_there graph past lists (ControlLose place) outcome stands names there = λ ok. within place (length lists.control) there
in_place_there graph past lists (Cut link) outcome stands names there = omega (arith, names, stands.count)
in_place_there graph past lists _ outcome stands names there = tt

-- ---- which nodes have crashed

pub same_crashes : (n : ℕ) (r : Record) (past : List Record) → is_crash_of n r.event ≡ false → has_crashed n (r ∷ past) ≡ has_crashed n past
same_crashes n r past is = rw is refl

once_more : (b c : Bool) → (b ≡ true → c ≡ true) → (b || c) ≡ c
once_more true c again = sym (again refl)
once_more false c again = refl

-- a node that had crashed before crashes again
crashes_again : (graph : Graph) (id : NodeId) (event : Event) (took : Took) (n : ℕ) (past : List Record) → ActsAt graph id event took → has_crashed id.0 past ≡ true
    → is_crash_of n event ≡ true → has_crashed n past ≡ true
crashes_again graph id event took n past at gone is = elim (cases_eq n id.0) [
  | inl same ↦ subst (λ (m : ℕ). has_crashed m past ≡ true) (sym same) gone
  | inr other ↦ absurd (both_ways (is_crash_of n event) (others_live graph id event took n at other) is)
]

-- ---- no node does anything

none_taken : (o : Outcome) (t : Took) (outcome : Outcome) → outcome ≡ o → is_idle outcome ≡ true → Nothing ≡ (if is_idle o then Nothing else t)
none_taken o t outcome is idle = subst (λ (x : Outcome). Nothing ≡ (if is_idle x then Nothing else t)) is (rw idle refl)

-- no node owns a record in which nothing happened
idle_owned : (graph : Graph) (event : Event) (outcome : Outcome) (n : ℕ) → is_idle outcome ≡ true → is_own graph n (passing_record event Nothing outcome) ≡ false
idle_owned graph event outcome n idle = and_right (acts graph n event Nothing) (not (is_idle outcome)) (ap not idle)

-- in an event that is no decision, nobody's step does nothing
undecided_step : (graph : Graph) (v : View) (event : Event) (outcome : Outcome) → IsUndecided event → quiet_step outcome ≡ nobodys_step graph v event outcome
undecided_step graph v Decide outcome undecided = absurd undecided
undecided_step graph v _ outcome undecided = refl

idle_step : (graph : Graph) (past : List Record) (event : Event) (outcome : Outcome) → IsUndecided event → outcome ≡ outcome_of graph past event → is_idle outcome ≡ true
    → IsStep graph past (passing_record event Nothing outcome)
idle_step graph past event outcome undecided is idle = record {
  outcome_is = is;
  took_is = none_taken (outcome_of graph past event) (item_at past event) outcome is idle;
  nobodys = λ nobody. undecided_step graph (view graph past) event outcome undecided;
  node = λ n mine. absurd (both_ways (is_own graph n (passing_record event Nothing outcome)) (idle_owned graph event outcome n idle) mine);
}

missing_no_crash : (lists : Waits) (n : ℕ) (event : Event) → is_there lists event ≡ false → is_crash_of n event ≡ false
missing_no_crash lists n (Crash m) isnt = cc
missing_no_crash lists n _ isnt = refl

-- nothing waits at the place
pub passes_missing : (graph : Graph) (nodes : List NodeState) (past : List Record) (lists : Waits) (event : Event) → Stand graph lists past → IsOfGraph graph event → IsUndecided event
    → is_there lists event ≡ false → IsPassing graph nodes lists (passing_record event Nothing NoItem)
passes_missing graph nodes past lists event stands names undecided isnt = record {
  rules = λ before keeps. idle_step graph before event NoItem undecided (missing_outcome graph before lists event keeps.queues_are names isnt) refl;
  nobodys = λ n. idle_owned graph event NoItem n refl;
  crashes = λ before keeps n. same_crashes n (passing_record event Nothing NoItem) before (missing_no_crash lists n event isnt);
  in_place = in_place_idle graph past lists event NoItem stands names refl;
}

gone_by : (b : Bool) (o : Outcome) → b ≡ true → Crashed ≡ (if b then Crashed else o)
gone_by true o is = refl
gone_by false o is = cc

-- the node that would act has crashed
pub passes_crashed : (graph : Graph) (nodes : List NodeState) (past : List Record) (lists : Waits) (event : Event) (id : NodeId) (took : Took) (d : NodeState)
    → Stand graph lists past → IsOfGraph graph event → IsUndecided event → ActsAt graph id event took → took ≡ taken_of lists event → is_there lists event ≡ true
    → id.0 < graph.nodes → (slice_index_or nodes id.0 d).crashed ≡ true → IsPassing graph nodes lists (passing_record event Nothing Crashed)
passes_crashed graph nodes past lists event id took d stands names undecided at is there known gone =
    let has : (before : List Record) → Keeps graph nodes lists before → has_crashed id.0 before ≡ true = λ before keeps. sym (keeps.nodes_are id.0 d known).crashed_is ∙ gone in
    record {
      rules = λ before keeps.
          idle_step graph before event Crashed undecided
          (gone_by (has_crashed id.0 before) (own_outcome graph id.0 (own graph id.0 before) event) (has before keeps)
          ∙ outcome_acting graph id before lists event took keeps.queues_are names at is there)
          refl;
      nobodys = λ n. idle_owned graph event Crashed n refl;
      crashes = λ before keeps n. once_more (is_crash_of n event) (has_crashed n before) (crashes_again graph id event took n before at (has before keeps));
      in_place = in_place_idle graph past lists event Crashed stands names refl;
    }

told_controller : (graph : Graph) (past : List Record) (event : Event) (c : Control) (o : Option Addressed) → took_message o ≡ Message (record { to = Controller; control = c })
    → Ok ≡ message_outcome graph past event o
told_controller graph past event c None is = cc
told_controller graph past event c (Some m) is =
    let same : m ≡ record { to = Controller; control = c } = cc in
    subst (λ (a : Addressed). Ok ≡ message_outcome graph past event (Some a)) (sym same) refl

nobodys_outcome : (graph : Graph) (past : List Record) (lists : Waits) (event : Event) (took : Took) → Stand graph lists past → IsOfGraph graph event → IsOfNobody event took
    → took ≡ taken_of lists event → is_there lists event ≡ true → Ok ≡ outcome_of graph past event
nobodys_outcome graph past lists (Lose link place) took stands names nobody is there =
    present (nat_lt place (length (waiting link.0 lists))) Ok there ∙ placed graph past lists link.0 place Ok stands names
nobodys_outcome graph past lists (ControlTake place keep) took stands names nobody is there =
    told_controller graph past (ControlTake place keep) nobody.0 (slice_get (waiting_control past) place)
    (sym (is ∙ ap took_message (message_there graph past lists place stands)) ∙ nobody.1)
nobodys_outcome graph past lists (ControlLose place) took stands names nobody is there =
    present (nat_lt place (length lists.control)) Ok there ∙ placed_control graph past lists place Ok stands
nobodys_outcome graph past lists (Cut link) took stands names nobody is there = refl
nobodys_outcome graph past lists _ took stands names nobody is there = absurd nobody

nobody_owned : (graph : Graph) (event : Event) (took : Took) → IsOfNobody event took → (n : ℕ) → is_own graph n (passing_record event took Ok) ≡ false
nobody_owned graph (Lose link place) took nobody n = refl
nobody_owned graph (ControlTake place keep) took nobody n = ap (λ (t : Took). reached n t && true) nobody.1
nobody_owned graph (ControlLose place) took nobody n = refl
nobody_owned graph (Cut link) took nobody n = refl
nobody_owned graph _ took nobody n = absurd nobody

nobody_crashes : (event : Event) (took : Took) (n : ℕ) → IsOfNobody event took → is_crash_of n event ≡ false
nobody_crashes (Crash m) took n nobody = absurd nobody
nobody_crashes _ took n nobody = refl

pub taken : (idle : Bool) (t : Took) → idle ≡ false → t ≡ (if idle then Nothing else t)
taken true t is = cc
taken false t is = refl

-- no node acts
pub passes_nobodys : (graph : Graph) (nodes : List NodeState) (past : List Record) (lists : Waits) (event : Event) (took : Took) → Stand graph lists past → IsOfGraph graph event → IsUndecided event
    → IsOfNobody event took → took ≡ taken_of lists event → is_there lists event ≡ true → IsPassing graph nodes lists (passing_record event took Ok)
passes_nobodys graph nodes past lists event took stands names undecided nobody is there =
    let r : Record = passing_record event took Ok in
    record {
      rules = λ before keeps.
          let outcome : Ok ≡ outcome_of graph before event = nobodys_outcome graph before lists event took keeps.queues_are names nobody is there in
          record {
            outcome_is = outcome;
            took_is =
                is ∙ item_told graph before lists event keeps.queues_are names
                ∙ taken (is_idle (outcome_of graph before event)) (item_at before event) (ap is_idle (sym outcome));
            nobodys = λ alone. undecided_step graph (view graph before) event Ok undecided;
            node = λ n mine. absurd (both_ways (is_own graph n r) (nobody_owned graph event took nobody n) mine);
          };
      nobodys = nobody_owned graph event took nobody;
      crashes = λ before keeps n. same_crashes n r before (nobody_crashes event took n nobody);
      in_place = in_place_there graph past lists event Ok stands names there;
    }
