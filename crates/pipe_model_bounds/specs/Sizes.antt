-- Lists and counts fit the network: no list has more entries than there are hosts or links, no list that is told is empty, and no
-- count is above theirs.
use Rattle.std.specs.Prelude.{ℕ, ◌≤◌, List, All, length}
use Rattle.pipe_base.specs.declared.control.Control.{Control}
use Rattle.pipe_base.specs.declared.control.Control.TheVariants.{Done, DropLinks, Gone, Notice}
use Rattle.pipe_base.specs.declared.step.Step.{Step}
use Rattle.pipe_graph.specs.Graph.{Graph}
use Rattle.pipe_model.specs.declared.record.Record.{Record}
use Rattle.pipe_model.specs.declared.record.Took.{Took}
use Rattle.pipe_model.specs.declared.record.Took.TheVariants.{Message}
use Rattle.pipe_model.specs.Acting.{own}
use Rattle.pipe_model.specs.Controller.{announced, dropped, view}
use Rattle.pipe_model.specs.Marks.{marks}
use Rattle.pipe_model.specs.Moments.{known_drops, noted_hosts}
use Rattle.pipe_model.specs.Waiting.{waiting_control}

-- a list of so many entries at most, and one at least
pub record IsListOf {A : Type 0} (most : ℕ) (list : List A) : Type 0 where
  pub some : 1 ≤ length list
  pub few : length list ≤ most

-- the lists and the counts of a control message
abbrev pub IsControlSized : Graph → Control → Type 0
IsControlSized graph (Notice list) = IsListOf graph.hosts list
IsControlSized graph (DropLinks links) = IsListOf (length graph.links) links
IsControlSized graph (Done host count) = count ≤ graph.hosts
IsControlSized graph (Gone node count) = count ≤ length graph.links
IsControlSized graph _ = Unit {0}

-- those of a message that was taken
abbrev pub IsTookSized : Graph → Took → Type 0
IsTookSized graph (Message a) = IsControlSized graph a.control
IsTookSized graph _ = Unit {0}

-- what a step takes down, drops and notes
pub record AreChangesFew (graph : Graph) (step : Step) : Type 0 where
  pub downed : length step.downed ≤ length graph.links
  pub dropped : length step.dropped ≤ length graph.links
  pub noted : length step.noted ≤ graph.hosts

-- all that a record tells
pub record IsRecordSized (graph : Graph) (r : Record) : Type 0 where
  pub took : IsTookSized graph r.took
  pub control : All (λ a. IsControlSized graph a.control) r.step.control
  pub changes : AreChangesFew graph r.step

-- the lists of a node
pub record IsNodeSized (graph : Graph) (own : List Record) : Type 0 where
  pub marks : length (marks own) ≤ length graph.links
  pub drops : length (known_drops own) ≤ length graph.links
  pub noted : length (noted_hosts own) ≤ graph.hosts

-- All lists and counts of a run fit the network: of each control message that waits or was received, of each record, and of what
-- each node and the controller know.
pub record AreListsSized (graph : Graph) (past : List Record) : Type 0 where
  pub control : All (λ a. IsControlSized graph a.control) (waiting_control past)
  pub records : All (IsRecordSized graph) past
  pub nodes : (node : ℕ) → IsNodeSized graph (own graph node past)
  pub announced : length (announced graph past) ≤ graph.hosts
  pub dropped : length (dropped graph past) ≤ length graph.links
  pub done : (host : ℕ) → (view graph past).done host ≤ graph.hosts
  pub gone : (node : ℕ) → (view graph past).gone node ≤ length graph.links
