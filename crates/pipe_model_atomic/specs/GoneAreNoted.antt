-- A host that was announced as failed and takes part no more is noted by all hosts that take part.
use Rattle.std.specs.Prelude.{◌≡◌, ℕ, true, false, List}
use Rattle.pipe_base.specs.Failed.{is_announced}
use Rattle.pipe_graph.specs.Graph.{Graph}
use Rattle.pipe_model.specs.declared.record.Record.{Record}
use Rattle.pipe_model.specs.Acting.{own}
use Rattle.pipe_model.specs.Controller.{announced, is_member}
use Rattle.pipe_model.specs.Moments.{noted_hosts}

abbrev pub AreGoneNoted : Graph → List Record → Type 0
AreGoneNoted graph past =
    (host other : ℕ) → is_announced host (announced graph past) ≡ true → is_member graph past host ≡ false
    → is_member graph past other ≡ true
    → is_announced host (noted_hosts (own graph other past)) ≡ true
