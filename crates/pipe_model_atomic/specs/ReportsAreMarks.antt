-- What the controller knows of a link that is down: the link counts, and its report is the mark that it has at its head.
use Rattle.std.specs.Prelude.{◌≡◌, ℕ, true, List, Some}
use Rattle.pipe_base.specs.declared.name.Ts.{Ts}
use Rattle.pipe_graph.specs.Graph.{Graph, head_of}
use Rattle.pipe_model.specs.declared.record.Record.{Record}
use Rattle.pipe_model.specs.Acting.{own}
use Rattle.pipe_model.specs.Controller.{is_live, view}
use Rattle.pipe_model.specs.Marks.{mark}

-- the link counts, and is marked with the value
pub record IsReportTrue (graph : Graph) (past : List Record) (link : ℕ) (value : Ts) : Type 0 where
  pub live : is_live graph past link ≡ true
  pub marked : mark (own graph (head_of graph link) past) link ≡ Some value

abbrev pub AreReportsMarks : Graph → List Record → Type 0
AreReportsMarks graph past = (link : ℕ) (value : Ts) → (view graph past).reports link ≡ Some value
    → IsReportTrue graph past link value
