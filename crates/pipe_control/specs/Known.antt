-- What the controller keeps, and what it stands for.
use Rattle.std.specs.Prelude.{◌≡◌, ℕ, ◌==◌, ◌&&◌, nat_le, if◌then◌else◌, Bool, List, length, slice_index_or, Option, Some, None}
use Rattle.pipe_base.specs.declared.name.LinkId.{LinkId}
use Rattle.pipe_base.specs.declared.name.Ts.{Ts}
use Rattle.pipe_graph.specs.Cut.{is_cut}
use Rattle.pipe_graph.specs.Graph.{Graph}
use Rattle.pipe_graph.specs.Reported.{unreported}
use Rattle.pipe_control.specs.declared.controller.Change.{Change}
use Rattle.pipe_control.specs.declared.controller.Controller.{Controller}
use Rattle.pipe_control.specs.declared.controller.Decision.{Decision}
use Rattle.pipe_model.specs.Decision.{after_announce, after_decision, after_doom, messages, newly_announced, newly_dead, time_at}
use Rattle.pipe_model.specs.View.{View, intact, is_kept, with_count}
use Rattle.pipe_topo.specs.Reports.{report_of}
use Rattle.pipe_topo.specs.Sets.{has}

-- the count that was told of a number, 0 where none was
abbrev pub count_of : List ℕ → ℕ → ℕ
count_of counts number = slice_index_or counts number 0

-- what the controller knows
abbrev pub view_of : Controller → View
view_of k = record {
  members = has k.members;
  live = has k.live;
  reports = report_of k.reports;
  doomed = has k.doomed;
  announced = k.announced;
  dropped = k.dropped;
  done = count_of k.done;
  gone = count_of k.gone;
}

-- the sets of links have an answer for each of so many links, and each host has a count
pub record IsSized (k : Controller) : Type 0 where
  pub live : length k.live ≡ k.links
  pub reports : length k.reports ≡ k.links
  pub done : length k.done ≡ 64

-- the links are those of this graph, and each of its nodes has a count
pub record Fits (graph : Graph) (k : Controller) : Type 0 where
  pub sized : IsSized k
  pub all : k.links ≡ length graph.links
  pub gone : length k.gone ≡ graph.nodes

-- what is kept is this view
pub record Stands (graph : Graph) (v : View) (k : Controller) : Type 0 where
  pub fits : Fits graph k
  pub known : view_of k ≡ v

-- the reports with one more, where it is the first of a live link
abbrev pub reports_with : (ℕ → Bool) → LinkId → Ts → (ℕ → Option Ts) → ℕ → Option Ts
reports_with live link value reports =
    if unreported live reports link.0 then (λ l. if l == link.0 then Some value else reports l) else reports

-- the counts with one more, where the number may tell and the count is at most so many
abbrev pub counts_with : Bool → ℕ → ℕ → ℕ → (ℕ → ℕ) → ℕ → ℕ
counts_with may most number count counts = if may && nat_le count most then with_count number count counts else counts

-- the time of a host that can be announced
abbrev pub leaving_time : Graph → View → ℕ → Option Ts
leaving_time graph v host = if is_cut graph (intact v) (is_kept v) host then time_at graph v host else None

-- the decision is what the rules say
pub record IsDecision (graph : Graph) (v : View) (d : Decision) : Type 0 where
  pub announced : d.announced ≡ newly_announced graph (after_doom graph v)
  pub dropped : d.dropped ≡ newly_dead graph (after_announce graph (after_doom graph v))
  pub put : d.put ≡ messages graph (after_decision graph v)

-- the change leads to what is known after the decision
pub record IsChange (graph : Graph) (v : View) (change : Change) : Type 0 where
  pub next : Stands graph (after_decision graph v) change.next
