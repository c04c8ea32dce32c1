-- A host that was not announced as failed takes part.
use Rattle.std.specs.Prelude.{◌≡◌, ℕ, ◌<◌, true, false, List}
use Rattle.pipe_base.specs.Failed.{is_announced}
use Rattle.pipe_graph.specs.Graph.{Graph}
use Rattle.pipe_model.specs.declared.record.Record.{Record}
use Rattle.pipe_model.specs.Controller.{announced, is_member}

abbrev pub ArePresentMembers : Graph → List Record → Type 0
ArePresentMembers graph past = (host : ℕ) → host < graph.hosts → is_announced host (announced graph past) ≡ false
    → is_member graph past host ≡ true
