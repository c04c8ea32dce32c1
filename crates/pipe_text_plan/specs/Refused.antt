-- What a refusal of a call says of what it reads.
use Rattle.std.specs.Prelude.{◌≡◌, IfErr, Result, Err}
use Rattle.pipe_text_plan.specs.declared.fault.PlanError.{PlanError}
use Rattle.pipe_text_plan.specs.declared.fault.PlanError.TheVariants.{Plan}
use Rattle.pipe_text_plan.specs.declared.fault.PlanFault.{PlanFault}

-- the fault that a call refuses with is the one of what it reads
abbrev pub RefusesLike : {A B : Type 0} → Result A PlanError → Result B PlanFault → Type 0
RefusesLike result read = IfErr result (λ error. (fault : PlanFault) → error ≡ Plan fault → read ≡ Err fault)
