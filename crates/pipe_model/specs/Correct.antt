-- Who is correct: a host that did not crash and was not announced as failed.
use Rattle.std.specs.Prelude.{◌≡◌, ℕ, ◌<◌, false, List, [], ◌∷◌, ◌++◌}
use Rattle.pipe_base.specs.declared.control.Announced.{Announced}
use Rattle.pipe_base.specs.declared.step.Step.{Step}
use Rattle.pipe_base.specs.Failed.{is_announced}
use Rattle.pipe_graph.specs.Graph.{Graph}
use Rattle.pipe_model.specs.declared.event.Event.{Event}
use Rattle.pipe_model.specs.declared.event.Event.TheVariants.{Send, Tick, Take, Lose, ControlTake, ControlLose, Decide, Crash, Cut}
use Rattle.pipe_model.specs.declared.record.Record.{Record}
use Rattle.pipe_model.specs.Outcome.{has_crashed}

-- the failed hosts that a decision announces, as its record has it; no other event announces any
abbrev pub announced_by : Event → Step → List Announced
announced_by Decide step = step.noted
announced_by (Send host service now dests) step = []
announced_by (Tick node now) step = []
announced_by (Take link place keep) step = []
announced_by (Lose link place) step = []
announced_by (ControlTake place keep) step = []
announced_by (ControlLose place) step = []
announced_by (Crash node) step = []
announced_by (Cut link) step = []

-- the hosts that the records of a history announce, in the order of announcement
abbrev pub announced_in : List Record → List Announced
announced_in [] = []
announced_in (r ∷ past) = announced_in past ++ announced_by r.event r.step

pub record IsCorrect (graph : Graph) (past : List Record) (host : ℕ) : Type 0 where
  pub host_in : host < graph.hosts
  pub alive : has_crashed host past ≡ false
  pub trusted : is_announced host (announced_in past) ≡ false
