-- Control messages that wait are true: lists are told from their first item on, and no count is above what its node has noted.
use Rattle.std.specs.Prelude.{◌≤◌, List, All, length}
use Rattle.pipe_base.specs.declared.control.Control.{Control}
use Rattle.pipe_base.specs.declared.control.Control.TheVariants.{Done, Down, DropLinks, Freeze, Gone, Notice}
use Rattle.pipe_graph.specs.Graph.{Graph}
use Rattle.pipe_model.specs.declared.record.Record.{Record}
use Rattle.pipe_model.specs.Acting.{own}
use Rattle.pipe_model.specs.Controller.{announced, dropped}
use Rattle.pipe_model.specs.Moments.{known_drops, noted_hosts}
use Rattle.pipe_model.specs.Waiting.{waiting_control}
use Rattle.pipe_model_atomic.specs.Begins.{Begins}

-- what was announced begins with what a notice tells, and what was dropped with what is told of that; the counts are at most
-- how many hosts or links their node has come to know
abbrev pub IsControlTrue : Graph → List Record → Control → Type 0
IsControlTrue graph past (Notice list) = Begins list (announced graph past)
IsControlTrue graph past (DropLinks list) = Begins list (dropped graph past)
IsControlTrue graph past (Done host count) = count ≤ length (noted_hosts (own graph host.0 past))
IsControlTrue graph past (Gone node count) = count ≤ length (known_drops (own graph node.0 past))
IsControlTrue graph past (Down link value) = Unit {0}
IsControlTrue graph past (Freeze link) = Unit {0}

abbrev pub IsControlAllTrue : Graph → List Record → Type 0
IsControlAllTrue graph past = All (λ m. IsControlTrue graph past m.control) (waiting_control past)
