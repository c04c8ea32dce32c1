-- Each host is announced once: the hosts that were announced are different.
use Rattle.std.specs.Prelude.{◌≢◌, List, AllPairs}
use Rattle.pipe_graph.specs.Graph.{Graph}
use Rattle.pipe_model.specs.declared.record.Record.{Record}
use Rattle.pipe_model.specs.Controller.{announced}

abbrev pub AreAnnouncedOnce : Graph → List Record → Type 0
AreAnnouncedOnce graph past = AllPairs (λ a b. a.host.0 ≢ b.host.0) (announced graph past)
