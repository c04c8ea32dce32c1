use Rattle.std.proofs.Common.{◌≡◌, ℕ, suc, ◌+◌, ◌∷◌, [], List, drop, map, ap, ◌∙◌, sym, subst, arith}
use Rattle.pipe_base.specs.declared.name.HostId.{HostId}
use Rattle.pipe_base.specs.declared.step.Step.{Step}
use Rattle.pipe_base.specs.Ways.{picked, PutsAlone, with_ways}
use Rattle.pipe_base.proofs.WayLaws.{alone_more, ways_more}
use Rattle.pipe_relsend.specs.Header.{packet_again}
use Rattle.pipe_relsend.specs.Pending.{open_dests}
use Rattle.pipe_relsend.proofs.MarkLaws.{open_here, open_skip}
use Rattle.pipe_relsend.proofs.resend.resend_open.Goals.{then-not-marks-at+in_ok-resend_one, else-not-marks-at}
use Rattle.pipe_relsend.proofs.resend.resend_open.Goals as goal

pub loop-at-preserved : goal.loop-at-preserved
loop-at-preserved g c =
    let way = picked (g.R.Router.links c.args.routes.now) in
    let message = packet_again c.args.header in
    let ds = c.args.dests.now in
    let ms = c.args.marks in
    let at = c.loop-at.at in
    let kept = c.loop-at.invariant in
    let next : suc at ≡ at + 1 = omega arith in
    let rest : List (HostId × List ℕ) = open_dests (drop (at + 1) ds) (drop (at + 1) ms) in
    elim c.if-not-marks-at.branch [
      | then-not-marks-at+in_ok-resend_one w ↦
          let d = w.index-dests-at.result in
          let put : c.if-not-marks-at.step ≡ with_ways way (message d ∷ []) c.loop-at.step = w.step-is ∙ w.in_ok-resend_one.ensures.ok in
          let opened : open_dests (drop at ds) (drop at ms) ≡ d ∷ rest =
          open_here ds ms at d c.loop-at-test.true (omega (arith, kept.count, c.requires.few, c.loop-at-test.true)) w.if-not-marks-at.true w.index-dests-at.is
          ∙ ap (λ (n : ℕ). d ∷ open_dests (drop n ds) (drop n ms)) next in
          record {
            count = kept.count;
            put = ap (with_ways way (map message rest)) put ∙ ways_more way (message d) (map message rest) c.loop-at.step
                ∙ ap (λ (xs : List (HostId × List ℕ)). with_ways way (map message xs) c.loop-at.step) (sym opened) ∙ kept.put;
            room = let one = w.resend_one.ensures.most in let same = ap {B = ℕ} (λ (s : Step). s.unrouted) w.step-is in omega (arith, one, same, kept.room);
            alone = subst (PutsAlone c.args.step.now) (sym put) (alone_more way (message d ∷ []) c.args.step.now c.loop-at.step kept.alone);
          }
      | else-not-marks-at w ↦
          let skip : open_dests (drop at ds) (drop at ms) ≡ rest =
          open_skip ds ms at c.loop-at-test.true (omega (arith, kept.count, c.requires.few, c.loop-at-test.true)) w.if-not-marks-at.false
          ∙ ap (λ (n : ℕ). open_dests (drop n ds) (drop n ms)) next in
          record {
            count = kept.count;
            put = ap (with_ways way (map message rest)) w.step-is
                ∙ ap (λ (xs : List (HostId × List ℕ)). with_ways way (map message xs) c.loop-at.step) (sym skip) ∙ kept.put;
            room = let same = ap {B = ℕ} (λ (s : Step). s.unrouted) w.step-is in omega (arith, same, kept.room);
            alone = subst (PutsAlone c.args.step.now) (sym w.step-is) kept.alone;
          }
    ]
