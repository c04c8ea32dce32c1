use Rattle.std.proofs.Common.{◌≡◌, ℕ, suc, ◌+◌, ◌∷◌, List, drop, flat_map, ap, ◌∙◌, sym, subst, arith, drop-cons}
use Rattle.pipe_base.specs.declared.packet.Packet.{Packet}
use Rattle.pipe_base.specs.Ways.{picked, PutsAlone, with_ways}
use Rattle.pipe_base.proofs.WayLaws.{alone_more, ways_append}
use Rattle.pipe_relsend.specs.Header.{fields_of}
use Rattle.pipe_relsend.specs.Pending.{Pending, owed}
use Rattle.pipe_relsend.proofs.sender.resend_all.Goals as goal

pub loop-unsettled-preserved : goal.loop-unsettled-preserved
loop-unsettled-preserved g c =
    let way = picked (g.R.Router.links c.args.routes.now) in
    let due : Pending → List Packet = owed c.args.origin.src (fields_of c.args.origin) in
    let all = c.args.pending.now in
    let at = c.loop-unsettled.unsettled-index in
    let p = c.unsettled-item.result in
    let kept = c.loop-unsettled.invariant in
    let next : suc at ≡ at + 1 = omega arith in
    let rest : List Packet = flat_map due (drop (at + 1) all) in
    let first : drop at all ≡ p ∷ drop (at + 1) all =
    drop-cons all at p c.loop-unsettled-test.true ∙ ap (λ (q : Pending). q ∷ drop (suc at) all) (sym c.unsettled-item.is) ∙ ap (λ (n : ℕ). p ∷ drop n all) next in
    let put : c.resend.new.step ≡ with_ways way (due p) c.loop-unsettled.step = c.in_ok-resend.ensures.ok in
    record {
      put = ap (with_ways way rest) put ∙ ways_append way (due p) rest c.loop-unsettled.step
          ∙ ap (λ (ps : List Pending). with_ways way (flat_map due ps) c.loop-unsettled.step) (sym first) ∙ kept.put;
      room = omega (arith, c.resend.ensures.most, kept.room);
      alone = subst (PutsAlone c.args.step.now) (sym put) (alone_more way (due p) c.args.step.now c.loop-unsettled.step kept.alone);
    }
