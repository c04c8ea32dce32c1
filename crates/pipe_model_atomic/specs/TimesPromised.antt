-- The time of a host that was announced is at most what the host promises: what it sends from now on is void.
use Rattle.std.specs.Prelude.{◌≡◌, ℕ, ◌≤◌, List, Some}
use Rattle.pipe_base.specs.declared.name.Ts.{Ts}
use Rattle.pipe_base.specs.Failed.{time_of}
use Rattle.pipe_graph.specs.Graph.{Graph}
use Rattle.pipe_model.specs.declared.record.Record.{Record}
use Rattle.pipe_model.specs.Acting.{own}
use Rattle.pipe_model.specs.Clock.{promise}
use Rattle.pipe_model.specs.Controller.{announced}

abbrev pub AreTimesPromised : Graph → List Record → Type 0
AreTimesPromised graph past = (host : ℕ) (time : Ts) → time_of host (announced graph past) ≡ Some time
    → time.0 ≤ promise graph host (own graph host past)
