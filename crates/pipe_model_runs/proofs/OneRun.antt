-- The record that follows an event: its node does in it what it owes, since each part rests on earlier parts alone.
use Rattle.std.proofs.Common.{◌≡◌, ℕ, ◌==◌, ◌&&◌, not, nat_lt, if◌then◌else◌, Bool, true, false, List, [], ◌∷◌, ◌++◌, Option, None, Some, length, map, reverse, slice_get, refl, sym, ap, subst, ◌∙◌, eqb-true, eq-eqb}
use Rattle.std.proofs.lemmas.List.{map-append, reverse-append, reverse-reverse}
use Rattle.pipe_base.specs.declared.control.Addressed.{Addressed}
use Rattle.pipe_base.specs.declared.control.To.{To}
use Rattle.pipe_base.specs.declared.control.To.TheVariants.{Node}
use Rattle.pipe_base.specs.declared.name.NodeId.{NodeId}
use Rattle.pipe_base.specs.declared.step.Outcome.{Outcome}
use Rattle.pipe_base.specs.declared.step.Outcome.TheVariants.{Crashed, NoItem}
use Rattle.pipe_base.specs.Step.{quiet_step}
use Rattle.pipe_graph.specs.Graph.{Graph, head_of}
use Rattle.pipe_model.specs.declared.event.Event.{Event}
use Rattle.pipe_model.specs.declared.event.Event.TheVariants.{Send, Tick, Take, ControlTake, Decide, Crash}
use Rattle.pipe_model.specs.declared.record.Record.{Record}
use Rattle.pipe_model.specs.declared.record.Took.{Took}
use Rattle.pipe_model.specs.declared.record.Took.TheVariants.{Message, Nothing}
use Rattle.pipe_model.specs.Acting.{acts, is_idle, is_node, is_own, is_to, own, reached}
use Rattle.pipe_model.specs.Controller.{nobodys_step, view}
use Rattle.pipe_model.specs.OneRun.{acting, answered, history_of, node_reached, node_told, owner, record_after, run_of, with_log, with_marks, with_puts, with_step}
use Rattle.pipe_model.specs.Outcome.{has_crashed, item_at, message_outcome, outcome_at, outcome_of, outcome_to, took_message}
use Rattle.pipe_model.specs.OwnOutcome.{own_outcome}
use Rattle.pipe_model.specs.Run.{IsHistory, IsNodeStep, IsRun, IsStep, event_of}
use Rattle.pipe_model.specs.View.{View}
use Rattle.pipe_model.specs.Waiting.{waiting_control, waiting_on}
use Rattle.pipe_model_net.proofs.Determined.{run_same}

-- ---- the node whose record it is

to_is : (n : ℕ) (to : To) → is_to n to ≡ is_node (node_told to) n
to_is n (Node m) = refl
to_is n _ = refl

reached_is : (n : ℕ) (took : Took) → reached n took ≡ is_node (node_reached took) n
reached_is n (Message a) = to_is n a.to
reached_is n _ = refl

acting_is : (graph : Graph) (n : ℕ) (event : Event) (took : Took) → acts graph n event took ≡ is_node (acting graph event took) n
acting_is graph n (Send host service now dests) took = refl
acting_is graph n (Tick m now) took = refl
acting_is graph n (Take link place keep) took = refl
acting_is graph n (ControlTake place keep) took = reached_is n took
acting_is graph n (Crash m) took = refl
acting_is graph n _ took = refl

owned : (acts idle : Bool) (a : Option NodeId) (n : ℕ) → acts ≡ is_node a n → (acts && not idle) ≡ is_node (if idle then None else a) n
owned true true a n is = refl
owned true false a n is = is
owned false true a n is = refl
owned false false a n is = is

owner_is : (graph : Graph) (n : ℕ) (r : Record) → is_own graph n r ≡ is_node (owner graph r) n
owner_is graph n r = owned (acts graph n r.event r.took) (is_idle r.step.outcome) (acting graph r.event r.took) n (acting_is graph n r.event r.took)

-- ---- the outcome is what the node answers

lives : (crashed : Bool) (o : Outcome) → is_idle (if crashed then Crashed else o) ≡ false → (if crashed then Crashed else o) ≡ o
lives true o awake = cc
lives false o awake = refl

-- the outcome is what the node answers
abbrev Answers : Graph → List Record → Event → NodeId → Outcome → Type 0
Answers graph past event n o = o ≡ own_outcome graph n.0 (own graph n.0 past) event

answers_at : (graph : Graph) (past : List Record) (event : Event) (m : ℕ) (n : NodeId) → is_idle (outcome_at graph past event m) ≡ false → m ≡ n.0
    → Answers graph past event n (outcome_at graph past event m)
answers_at graph past event m n awake is =
    lives (has_crashed m past) (own_outcome graph m (own graph m past) event) awake
    ∙ ap (λ (k : ℕ). own_outcome graph k (own graph k past) event) is

placed : (there : Bool) (o : Outcome) → is_idle (if there then o else NoItem) ≡ false → (if there then o else NoItem) ≡ o
placed true o awake = refl
placed false o awake = cc

some_is : (m n : NodeId) → Some m ≡ Some n → m.0 ≡ n.0
some_is m n is = cc

answers_to : (graph : Graph) (past : List Record) (event : Event) (to : To) (n : NodeId) → is_idle (outcome_to graph past event to) ≡ false → node_told to ≡ Some n
    → Answers graph past event n (outcome_to graph past event to)
answers_to graph past event (Node m) n awake is = answers_at graph past event m.0 n awake (some_is m n is)
answers_to graph past event _ n awake is = cc

answers_message : (graph : Graph) (past : List Record) (event : Event) (m : Option Addressed) (n : NodeId) → is_idle (message_outcome graph past event m) ≡ false
    → node_reached (took_message m) ≡ Some n → Answers graph past event n (message_outcome graph past event m)
answers_message graph past event None n awake is = cc
answers_message graph past event (Some a) n awake is = answers_to graph past event a.to n awake is

answers : (graph : Graph) (past : List Record) (event : Event) (n : NodeId) → is_idle (outcome_of graph past event) ≡ false → acting graph event (item_at past event) ≡ Some n
    → Answers graph past event n (outcome_of graph past event)
answers graph past (Send host service now dests) n awake is = answers_at graph past (Send host service now dests) host.0 n awake (some_is (record { 0 = host.0 }) n is)
answers graph past (Tick m now) n awake is = answers_at graph past (Tick m now) m.0 n awake (some_is m n is)
answers graph past (Take link place keep) n awake is =
    let head : ℕ = head_of graph link.0 in
    let there : Bool = nat_lt place (length (waiting_on link.0 past)) in
    let same = placed there (outcome_at graph past (Take link place keep) head) awake in
    same ∙ answers_at graph past (Take link place keep) head n (ap is_idle (sym same) ∙ awake) (some_is (record { 0 = head }) n is)
answers graph past (ControlTake place keep) n awake is = answers_message graph past (ControlTake place keep) (slice_get (waiting_control past) place) n awake is
answers graph past (Crash m) n awake is = answers_at graph past (Crash m) m.0 n awake (some_is m n is)
answers graph past _ n awake is = cc

-- where a node owns the record something happens, and it took the item
taken : (idle : Bool) (graph : Graph) (event : Event) (item : Took) (n : NodeId)
    → (if idle then None else acting graph event (if idle then Nothing else item)) ≡ Some n → (idle ≡ false) × (acting graph event item ≡ Some n)
taken true graph event item n is = cc
taken false graph event item n is = (refl, is)

owner_answers : (graph : Graph) (past : List Record) (event : Event) (n : NodeId) → owner graph (answered graph past event) ≡ Some n
    → Answers graph past event n (outcome_of graph past event)
owner_answers graph past event n is =
    let t = taken (is_idle (outcome_of graph past event)) graph event (item_at past event) n is in answers graph past event n t.0 t.1

-- ---- the record is as the rules have it

-- what a node owes is what it is given
node_step : (graph : Graph) (n : ℕ) (o : List Record) (r : Record) → r.step.outcome ≡ own_outcome graph n o r.event
    → IsNodeStep graph n o (with_puts graph n o (with_log graph n o (with_marks graph n o r)))
node_step graph n o r is = record {
  outcome_is = is;
  downed_is = refl;
  dropped_is = refl;
  noted_is = refl;
  stamped_is = refl;
  fate_is = refl;
  logged_is = refl;
  put_is = refl;
  unrouted_is = refl;
  control_is = refl;
}

quiet_outcome : (graph : Graph) (v : View) (past : List Record) (event : Event)
    → (nobodys_step graph v event (outcome_of graph past event)).outcome ≡ outcome_of graph past event
quiet_outcome graph v past Decide = refl
quiet_outcome graph v past _ = refl

-- the record follows, and is of the event
abbrev Follows : Graph → List Record → Event → Record → Type 0
Follows graph past event r = IsStep graph past r × (r.event ≡ event)

follows_by : (graph : Graph) (past : List Record) (event : Event) (o : Option NodeId) → owner graph (answered graph past event) ≡ o
    → Follows graph past event (with_step graph past o (answered graph past event))
follows_by graph past event None isnt =
    let r : Record = answered graph past event in
    let same = quiet_outcome graph (view graph past) past event in (
      record {
        outcome_is = same;
        took_is = refl;
        nobodys = λ nobody. ap (nobodys_step graph (view graph past) event) (sym same);
        node = λ n mine.
            let awake : is_own graph n r ≡ true = subst (λ (o : Outcome). is_own graph n (record r { step = quiet_step o }) ≡ true) same mine in
            let off : is_own graph n r ≡ false = owner_is graph n r ∙ ap (λ (o : Option NodeId). is_node o n) isnt in cc;
      },
      refl,
    )
follows_by graph past event (Some n) is =
    let r : Record = answered graph past event in
    let s : Record = with_step graph past (Some n) r in
    let mine : (m : ℕ) → is_own graph m r ≡ (n.0 == m) = λ m. owner_is graph m r ∙ ap (λ (o : Option NodeId). is_node o m) is in (
      record {
        outcome_is = refl;
        took_is = refl;
        nobodys = λ nobody. let on : is_own graph n.0 r ≡ true = mine n.0 ∙ eq-eqb n.0 n.0 refl in let off : is_own graph n.0 r ≡ false = nobody n.0 in cc;
        node = λ m on.
            subst (λ (k : ℕ). IsNodeStep graph k (own graph k past) s) (eqb-true n.0 m (sym (mine m) ∙ on))
            (node_step graph n.0 (own graph n.0 past) r (owner_answers graph past event n is));
      },
      refl,
    )

pub follows : (graph : Graph) (past : List Record) (event : Event) → Follows graph past event (record_after graph past event)
follows graph past event = follows_by graph past event (owner graph (answered graph past event)) refl

-- ---- the history of a list of events

history_follows : (graph : Graph) (events : List Event) → IsHistory graph (history_of graph events)
history_follows graph [] = tt
history_follows graph (event ∷ before) = (history_follows graph before, (follows graph (history_of graph before) event).0)

events_kept : (graph : Graph) (events : List Event) → map event_of (history_of graph events) ≡ events
events_kept graph [] = refl
events_kept graph (event ∷ before) =
    ap (λ (e : Event). e ∷ map event_of (history_of graph before)) (follows graph (history_of graph before) event).1
    ∙ ap (λ (es : List Event). event ∷ es) (events_kept graph before)

-- a record that follows a history is the one that follows it
pub record_only : (graph : Graph) (past : List Record) (event : Event) (r : Record) → IsHistory graph past → IsStep graph past r → r.event ≡ event
    → r ≡ record_after graph past event
record_only graph past event r history step is =
    let made = follows graph past event in
    let same : (r ∷ past) ≡ (record_after graph past event ∷ past) =
    run_same graph (r ∷ past) (record_after graph past event ∷ past) (history, step) (history, made.0)
    (ap (λ (e : Event). e ∷ map event_of past) (is ∙ sym made.1)) in cc

map_reverse : (xs : List Record) → map event_of (reverse xs) ≡ reverse (map event_of xs)
map_reverse [] = refl
map_reverse (x ∷ xs) =
    ap (map event_of) (reverse-append (x ∷ []) xs) ∙ map-append event_of (reverse xs) (x ∷ [])
    ∙ ap (λ (es : List Event). es ++ x.event ∷ []) (map_reverse xs) ∙ sym (reverse-append (x.event ∷ []) (map event_of xs))

pub run_exists : (graph : Graph) (events : List Event) → IsRun graph events (run_of graph events)
run_exists graph events =
    let h : List Record = history_of graph (reverse events) in record {
      events_are = map_reverse h ∙ ap reverse (events_kept graph (reverse events)) ∙ reverse-reverse events;
      rules = subst (IsHistory graph) (sym (reverse-reverse h)) (history_follows graph (reverse events));
    }

pub run_only : (graph : Graph) (events : List Event) (trace : List Record) → IsRun graph events trace → trace ≡ run_of graph events
run_only graph events trace run =
    sym (reverse-reverse trace)
    ∙ ap reverse (run_same graph (reverse trace) (history_of graph (reverse events)) run.rules (history_follows graph (reverse events))
    (map_reverse trace ∙ ap reverse run.events_are ∙ sym (events_kept graph (reverse events))))
