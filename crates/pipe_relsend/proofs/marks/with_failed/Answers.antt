use Rattle.std.proofs.Common.{◌≤◌, ◌∙◌, sym, arith, length, length-set, get_or-set_other, ◌≢◌}
use Rattle.pipe_relsend.specs.Pending.{is_among}
use Rattle.pipe_relsend.proofs.MarkLaws.{mark_here, mark_none, marks_are}
use Rattle.pipe_relsend.proofs.marks.with_failed.Goals.{then-has, else-has}
use Rattle.pipe_relsend.proofs.marks.with_failed.Goals as goal

pub loop-at-preserved : goal.loop-at-preserved
loop-at-preserved c =
    let kept = c.loop-at.invariant in
    let few : length c.args.dests.now ≤ 16 = c.requires in
    elim c.if-has.branch [
      | then-has w ↦ rw w.marks-is (record {
        count = length-set c.loop-at.marks c.loop-at.at _ ∙ kept.count;
        count_first = kept.count_first;
        done = mark_here (is_among c.args.noted.now) c.args.dests.now c.args.marks c.loop-at.marks c.loop-at.at c.index-dests-at.result c.loop-at-test.true (omega (arith, kept.count, few)) kept.done
            c.index-dests-at.is (sym c.has.ensures ∙ w.if-has.true);
        rest = λ k from. let ne : k ≢ c.loop-at.at = omega arith in rw get_or-set_other (kept.rest k (omega arith));
      })
      | else-has w ↦ rw w.marks-is (record {
        count = kept.count;
        count_first = kept.count_first;
        done = mark_none (is_among c.args.noted.now) c.args.dests.now c.args.marks c.loop-at.marks c.loop-at.at c.index-dests-at.result c.loop-at-test.true kept.done (kept.rest c.loop-at.at (omega arith))
            c.index-dests-at.is (sym c.has.ensures ∙ w.if-has.false);
        rest = λ k from. kept.rest k (omega arith);
      })
    ]

pub returns : goal.returns
returns c = marks_are _ _ _ _ (omega (arith, c.loop-at.invariant.count, c.requires)) (omega (arith, c.loop-at.invariant.count_first, c.requires)) (λ k d within. c.loop-at.invariant.done k d (omega arith))
