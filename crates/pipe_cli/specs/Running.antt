-- Events that run until one puts too much.
use Rattle.std.specs.Prelude.{◌≡◌, ℕ, List, ◌∷◌, ◌++◌}
use Rattle.pipe_graph.specs.Graph.{Graph}
use Rattle.pipe_model.specs.declared.event.Event.{Event}
use Rattle.pipe_model.specs.Items.{Overfills}
use Rattle.pipe_model.specs.OneRun.{run_of}

-- The first of these events run, and the next one would put too much: so many items.
pub record IsStopped (graph : Graph) (events : List Event) (items : ℕ) : Type 0 where
  pub before : List Event
  pub event : Event
  pub after : List Event
  pub events_are : events ≡ before ++ event ∷ after
  pub overfills : Overfills graph (run_of graph before) event items
