-- A run: what each record must be, given those before it.
use Rattle.std.specs.Prelude.{◌≡◌, ℕ, true, false, List, [], ◌∷◌, map, reverse}
use Rattle.pipe_graph.specs.Graph.{Graph}
use Rattle.pipe_model.specs.declared.event.Event.{Event}
use Rattle.pipe_model.specs.declared.record.Record.{Record}
use Rattle.pipe_model.specs.Acting.{is_own, own}
use Rattle.pipe_model.specs.Controller.{nobodys_step, view}
use Rattle.pipe_model.specs.Duties.{put, unrouted, control}
use Rattle.pipe_model.specs.Fate.{fate}
use Rattle.pipe_model.specs.Logged.{logged}
use Rattle.pipe_model.specs.Marks.{downed, newly_dropped, newly_noted}
use Rattle.pipe_model.specs.Outcome.{outcome_of, took_of}
use Rattle.pipe_model.specs.OwnOutcome.{own_outcome, stamped}

-- What a node owes in a record of its own, given its own records before it.
pub record IsNodeStep (graph : Graph) (node : ℕ) (own : List Record) (r : Record) : Type 0 where
  pub outcome_is : r.step.outcome ≡ own_outcome graph node own r.event
  pub downed_is : r.step.downed ≡ downed graph node own r
  pub dropped_is : r.step.dropped ≡ newly_dropped graph node own r
  pub noted_is : r.step.noted ≡ newly_noted graph node own r
  pub stamped_is : r.step.stamped ≡ stamped graph node own r.event
  pub fate_is : r.step.fate ≡ fate graph node own r
  pub logged_is : r.step.logged ≡ logged graph node own r
  pub put_is : r.step.put ≡ put graph node own r
  pub unrouted_is : r.step.unrouted ≡ unrouted graph node own r
  pub control_is : r.step.control ≡ control graph node own r

-- any list of one node's own records, each of which is what the node owes
abbrev pub IsNodeHistory : Graph → ℕ → List Record → Type 0
IsNodeHistory graph node [] = Unit {0}
IsNodeHistory graph node (r ∷ own) = IsNodeHistory graph node own × IsNodeStep graph node own r

-- What a record is after a history: the outcome and what is taken are as told; where the record is no node's own, a decision
-- does what the controller decides, and any other event nothing; the node whose it is does what it owes.
pub record IsStep (graph : Graph) (past : List Record) (r : Record) : Type 0 where
  pub outcome_is : r.step.outcome ≡ outcome_of graph past r.event
  pub took_is : r.took ≡ took_of graph past r.event
  pub nobodys : ((n : ℕ) → is_own graph n r ≡ false)
      → r.step ≡ nobodys_step graph (view graph past) r.event r.step.outcome
  pub node : (n : ℕ) → is_own graph n r ≡ true → IsNodeStep graph n (own graph n past) r

-- a history: the records so far, newest first
abbrev pub IsHistory : Graph → List Record → Type 0
IsHistory graph [] = Unit {0}
IsHistory graph (r ∷ past) = IsHistory graph past × IsStep graph past r

abbrev pub event_of : Record → Event
event_of r = r.event

-- The trace of a run: one record per event, in order, each as the rules have it.
pub record IsRun (graph : Graph) (events : List Event) (trace : List Record) : Type 0 where
  pub events_are : map event_of trace ≡ events
  pub rules : IsHistory graph (reverse trace)
