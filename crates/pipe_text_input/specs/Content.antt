-- What an input says: a network with names and what happens in it, or the first fault of the input.
use Rattle.std.specs.Prelude.{ℕ, nat_lt, if◌then◌else◌, List, Option, Some, None, Result, Ok, Err}
use Rattle.std.specs.Str.Lines.{lines}
use Rattle.pipe_base.specs.Limits.{most_events}
use Rattle.pipe_model.specs.declared.event.Event.{Event}
use Rattle.pipe_text.specs.declared.kind.LineKind.{LineKind}
use Rattle.pipe_topo.specs.declared.plan.Plan.{Plan}
use Rattle.pipe_topo.specs.Plan.{graph_of}
use Rattle.pipe_text_plan.specs.declared.fault.PlanFault.{PlanFault}
use Rattle.pipe_text_plan.specs.declared.fault.PlanFault.TheVariants.{NoMark}
use Rattle.pipe_text_plan.specs.Counted.{lines_read}
use Rattle.pipe_text_plan.specs.Described.{Described, described_by}
use Rattle.pipe_text_plan.specs.Division.{Division, division_of}
use Rattle.pipe_text_schedule.specs.Schedule.{schedule_of}
use Rattle.pipe_text_input.specs.declared.input.InputFault.{InputFault}
use Rattle.pipe_text_input.specs.declared.input.InputFault.TheVariants as fault

-- a network with names, and what happens in it
pub record Content : Type 0 where
  -- of the nodes
  pub names : List (List ℕ)
  pub plan : Plan
  pub events : List Event

-- The schedule is one of the network.
abbrev pub scheduled : Described → Result (List Event) (ℕ × LineKind) → Result Content InputFault
scheduled described (Err bad) = Err (fault.Line bad.0 bad.1)
scheduled described (Ok events) = Ok (record { names = described.names; plan = described.plan; events = events })

-- The topology part describes a network.
abbrev pub planned : Division → Result Described PlanFault → Result Content InputFault
planned division (Err bad) = Err (fault.Plan bad)
planned division (Ok described) =
    scheduled described (schedule_of (graph_of described.plan) described.names division.line (lines division.rest))

-- There are two parts, and the second has at most 200,000 lines that are not skipped.
abbrev pub divided : Option Division → Result Content InputFault
divided None = Err (fault.Plan NoMark)
divided (Some division) =
    if nat_lt most_events (lines_read division.rest) then Err (fault.TooManyEvents (lines_read division.rest))
    else planned division (described_by division)

-- what the bytes of an input say
abbrev pub content_of : List ℕ → Result Content InputFault
content_of bytes = divided (division_of bytes)
