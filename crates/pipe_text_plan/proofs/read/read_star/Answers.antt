use Rattle.std.proofs.Common.{◌≡◌, ℕ, ◌≤◌, Option, Result, Err, map, length, ap, sym, subst, ◌∙◌}
use Rattle.std.specs.Option.{IfSome}
use Rattle.std.specs.Result.{IfOk, IfErr}
use Rattle.pipe_text.specs.Words.{words_of}
use Rattle.pipe_topo.specs.declared.plan.Plan.{Plan as Network}
use Rattle.pipe_topo.specs.Plan.{HasEnds}
use Rattle.pipe_text_plan.specs.declared.fault.PlanError.TheVariants.{Plan}
use Rattle.pipe_text_plan.specs.declared.fault.PlanFault.{PlanFault}
use Rattle.pipe_text_plan.specs.Described.{Described, built, star_described}
use Rattle.pipe_text_plan.specs.Input.{IsInput}
use Rattle.pipe_text_plan.specs.Star.{star_of}
use Rattle.pipe_topo.proofs.StarLaws.{star_ends}
use Rattle.pipe_text_plan.proofs.StarLaws.{star_refused}
use Rattle.pipe_text_plan.proofs.read.read_star.Goals as goal

pub build-requires-clause-ends : goal.build-requires-clause-ends
build-requires-clause-ends c =
    subst (λ (plan : Network). HasEnds plan.hosts (length plan.levels) plan.cables) (sym c.in_ok-plan.ensures) (star_ends c.in-Some.hosts)

pub returns-clause-ok : goal.returns-clause-ok
returns-clause-ok c =
    let words : map (λ word. word.now) c.deref.result.now ≡ words_of c.args.line.now
    = ap (map (λ word. word.now)) c.deref.ensures.value ∙ c.in_ok-words.ensures in
    let says : built c.in_ok-names.names c.in_ok-plan.plan ≡ star_described (star_of (words_of c.args.line.now)) =
    (λ i. built (c.in_ok-names.ensures.names i) (c.in_ok-plan.ensures i))
    ∙ ap star_described (sym c.in-Some.is ∙ c.star_of.ensures.value ∙ ap star_of words) in
    subst (λ (described : Result Described PlanFault). IfOk c.build.result (IsInput described)) says c.build.ensures.ok

pub returns-clause-fault : goal.returns-clause-fault
returns-clause-fault c =
    let words : map (λ word. word.now) c.deref.result.now ≡ words_of c.args.line.now
    = ap (map (λ word. word.now)) c.deref.ensures.value ∙ c.in_ok-words.ensures in
    let says : built c.in_ok-names.names c.in_ok-plan.plan ≡ star_described (star_of (words_of c.args.line.now)) =
    (λ i. built (c.in_ok-names.ensures.names i) (c.in_ok-plan.ensures i))
    ∙ ap star_described (sym c.in-Some.is ∙ c.star_of.ensures.value ∙ ap star_of words) in
    subst (λ (described : Result Described PlanFault). IfErr c.build.result (λ error. (fault : PlanFault) → error ≡ Plan fault → described ≡ Err fault)) says
    c.build.ensures.fault

pub returns-clause-star : goal.returns-clause-star
returns-clause-star c =
    let few = subst (λ (star : Option (ℕ × ℕ)). IfSome star (λ star. (1 ≤ star.0) × (star.0 ≤ 64))) c.in-Some.is c.star_of.ensures.few in
    star_refused c.build.result c.in_ok-names.names c.in-Some.hosts (record { 0 = c.in-Some.patience }) few.0 few.1
    (subst (λ (plan : Network). IfErr c.build.result (λ error. (fault : PlanFault) → error ≡ Plan fault → built c.in_ok-names.names plan ≡ Err fault)) c.in_ok-plan.ensures
    c.build.ensures.fault)
