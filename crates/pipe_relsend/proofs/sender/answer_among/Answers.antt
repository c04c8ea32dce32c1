use Rattle.std.proofs.Common.{◌≢◌, List, suc, take, drop, ◌++◌, insert, Option, ap, sym, subst, ◌∙◌}
use Rattle.std.specs.List.{All}
use Rattle.pipe_relsend.specs.Pending.{Pending}
use Rattle.pipe_relsend.specs.Sending.{IsPlaceOf, before}
use Rattle.pipe_relsend.proofs.PlaceLaws.{after_at, after_none, put_back_at}
use Rattle.pipe_relsend.proofs.sender.answer_among.Goals as goal

pub returns-in_default-clause-items : goal.returns-in_default-clause-items
returns-in_default-clause-items c =
    after_none c.args.answer c.args.ts.0 c.args.host.0 c.args.pending.now.items
    (subst (λ (ps : List Pending). All (λ (p : Pending). p.ts.0 ≢ c.args.ts.0) ps) c.as_slice.ensures.value c.in_default.ensures)

-- the scattering stays at its place
pub returns-in-Some-answer-clause-items : goal.returns-in-Some-answer-clause-items
returns-in-Some-answer-clause-items c =
    let items : List Pending = c.args.pending.now.items in
    let at = c.in-Some.at in
    let place : IsPlaceOf c.args.ts.0 items at = subst (λ (ps : List Pending). IsPlaceOf c.args.ts.0 ps at) c.as_slice.ensures.value c.in-Some.ensures in
    let removed = c.remove-unsettled.ensures in
    c.put_back.ensures.items ∙ ap (λ (ps : List Pending). insert ps at c.in-Some-answer.unsettled) removed.items ∙ put_back_at items at c.in-Some-answer.unsettled place.within
    ∙ ap (λ (o : Option Pending). take at items ++ before o (drop (suc at) items)) (sym c.in-Some-answer.is ∙ c.answer.ensures)
    ∙ after_at c.args.answer c.args.ts.0 c.args.host.0 items at c.remove-unsettled.result place removed.value

-- the scattering is settled
pub returns-in-None-clause-items : goal.returns-in-None-clause-items
returns-in-None-clause-items c =
    let items : List Pending = c.args.pending.now.items in
    let at = c.in-Some.at in
    let place : IsPlaceOf c.args.ts.0 items at = subst (λ (ps : List Pending). IsPlaceOf c.args.ts.0 ps at) c.as_slice.ensures.value c.in-Some.ensures in
    let removed = c.remove-unsettled.ensures in
    removed.items ∙ ap (λ (o : Option Pending). take at items ++ before o (drop (suc at) items)) (sym c.in-None.is ∙ c.answer.ensures)
    ∙ after_at c.args.answer c.args.ts.0 c.args.host.0 items at c.remove-unsettled.result place removed.value
