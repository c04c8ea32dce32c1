-- The step that does nothing.
use Rattle.std.specs.Prelude.{[], None}
use Rattle.pipe_base.specs.declared.step.Outcome.{Outcome}
use Rattle.pipe_base.specs.declared.step.Step.{Step}

-- nothing but an outcome
abbrev pub quiet_step : Outcome → Step
quiet_step outcome = record {
  put = [];
  control = [];
  downed = [];
  dropped = [];
  stamped = None;
  fate = None;
  logged = [];
  noted = [];
  unrouted = 0;
  outcome = outcome;
}
