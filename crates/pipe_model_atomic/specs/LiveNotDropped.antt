-- A link that counts was not dropped.
use Rattle.std.specs.Prelude.{◌≡◌, ℕ, true, List}
use Rattle.pipe_graph.specs.Graph.{Graph}
use Rattle.pipe_graph.specs.Passable.{not_dropped}
use Rattle.pipe_model.specs.declared.record.Record.{Record}
use Rattle.pipe_model.specs.Controller.{dropped, is_live}

abbrev pub AreLiveNotDropped : Graph → List Record → Type 0
AreLiveNotDropped graph past = (link : ℕ) → is_live graph past link ≡ true
    → not_dropped (dropped graph past) link ≡ true
