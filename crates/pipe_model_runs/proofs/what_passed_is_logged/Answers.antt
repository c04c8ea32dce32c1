use Rattle.std.proofs.Common.{refl}
use Rattle.pipe_base.specs.declared.message.Service.TheVariants.{BestEffort, Reliable}
use Rattle.pipe_model_runs.proofs.PassedLogged.{passed_logged}
use Rattle.pipe_model_runs.proofs.what_passed_is_logged.Goals as goal

pub returns : goal.returns
returns c = record {
  best_effort = λ graph node own entry history was passed. passed_logged BestEffort graph node own entry history was refl refl passed;
  reliable = λ graph node own entry history was wanted stays passed. passed_logged Reliable graph node own entry history was stays wanted passed;
}
