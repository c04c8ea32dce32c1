use Rattle.std.proofs.Common.{◌≤◌, ◌∙◌, arith, eq-eqb, length, length-set, get_or-set_other, ◌≢◌}
use Rattle.pipe_relsend.specs.Pending.{is_host}
use Rattle.pipe_relsend.proofs.MarkLaws.{mark_here, mark_none, marks_are, other_host}
use Rattle.pipe_relsend.proofs.marks.with_mark.Goals.{then-dst-host, else-dst-host}
use Rattle.pipe_relsend.proofs.marks.with_mark.Goals as goal

pub loop-at-preserved : goal.loop-at-preserved
loop-at-preserved c =
    let kept = c.loop-at.invariant in
    let few : length c.args.dests.now ≤ 16 = c.requires in
    elim c.if-dst-host.branch [
      | then-dst-host w ↦ rw w.marks-is (record {
        count = length-set c.loop-at.marks c.loop-at.at _ ∙ kept.count;
        count_first = kept.count_first;
        done = mark_here (is_host c.args.host.0) c.args.dests.now c.args.marks c.loop-at.marks c.loop-at.at c.index-dests-at.result c.loop-at-test.true (omega (arith, kept.count, few)) kept.done
            c.index-dests-at.is (eq-eqb _ _ w.if-dst-host.true);
        rest = λ k from. let ne : k ≢ c.loop-at.at = omega arith in rw get_or-set_other (kept.rest k (omega arith));
      })
      | else-dst-host w ↦ rw w.marks-is (record {
        count = kept.count;
        count_first = kept.count_first;
        done = mark_none (is_host c.args.host.0) c.args.dests.now c.args.marks c.loop-at.marks c.loop-at.at c.index-dests-at.result c.loop-at-test.true kept.done (kept.rest c.loop-at.at (omega arith))
            c.index-dests-at.is (other_host _ _ w.if-dst-host.false);
        rest = λ k from. kept.rest k (omega arith);
      })
    ]

pub returns : goal.returns
returns c = marks_are _ _ _ _ (omega (arith, c.loop-at.invariant.count, c.requires)) (omega (arith, c.loop-at.invariant.count_first, c.requires)) (λ k d within. c.loop-at.invariant.done k d (omega arith))
