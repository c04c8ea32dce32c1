use Rattle.std.proofs.Common.{◌≡◌, ◌∷◌, length, ap, arith, ◌∙◌}
use Rattle.pipe_text.proofs.FrontLaws.{other_before}
use Rattle.pipe_text.proofs.number.number_before.Goals as goal
use Rattle.pipe_text.proofs.number.number_before.Goals.{in_default-via-in-Some+else-found-stop, in_default-via-in_default}

pub returns-in_default-clause-none : goal.returns-in_default-clause-none
returns-in_default-clause-none c word after =
    let back = c.split_at.ensures.back in
    other_before c.args.most c.args.text.now word after c.args.stop c.in_ok-value.count c.in_ok-value.value c.in_ok-value.ensures.digits
    (elim c.in_default.branch [
      | in_default-via-in-Some+else-found-stop w ↦ λ rest. w.if-found-stop.false (cc (w.in-Some.ensures.cases.0, back, rest))
      | in_default-via-in_default w ↦ λ rest.
          let all : c.split_at.result.1.now ≡ c.args.stop ∷ after = back ∙ rest in
          omega (arith, w.in_default.ensures.cases, ap length all)
    ])
