use Rattle.std.proofs.Common.{◌≡◌, ◌+◌, ◌≤◌, length, All}
use Rattle.std.specs.Str.Lines.{lines}
use Rattle.pipe_model.specs.Event.{IsOfGraph}
use Rattle.pipe_text_schedule.specs.Schedule.{schedule_of}
use Rattle.pipe_text_schedule.proofs.ScheduleLaws.{after_events}
use Rattle.pipe_text_schedule.proofs.schedule.read_schedule.Given as goal

-- the events so far, and then those of the rest, are those of the text
abbrev pub invariant-lines : goal.invariant-lines
invariant-lines l = record {
  same : after_events l.events (schedule_of l.topology l.names l.line (lines l.rest)) ≡ schedule_of l.topology l.names l.first (lines l.fn.text);
  known : All (IsOfGraph l.topology) l.events;
  within : l.line + length l.rest ≤ 4294967295;
}

abbrev pub decreases-lines : goal.decreases-lines
decreases-lines l = length l.rest
