use Rattle.std.proofs.Common.{◌≡◌, ◌++◌, ◌-◌, ◌^◌, ◌≤◌, List, ap, sym, subst, ◌∙◌, arith}
use Rattle.std.proofs.lemmas.Result.{on_ok_weaker}
use Rattle.pipe_base.specs.declared.message.Entry.{Entry}
use Rattle.pipe_base.specs.declared.message.Service.{Service}
use Rattle.pipe_base.specs.Messages.{AreBelow}
use Rattle.pipe_reorder.specs.Buffer.{passed_by}
use Rattle.pipe_host.proofs.Bounds.{both_below_end, out_below_end}
use Rattle.pipe_host.proofs.buffers.Buffers.copy_passed.Goals as goal

pub returns-clause-within : goal.returns-clause-within
returns-clause-within c =
    let b = c.args.barriers in
    let h = c.args.self.now in
    let out : List (Service × Entry) = c.args.out.now in
    let best : List (Service × Entry) = passed_by b.be.0 h.best in
    let reliable : List (Service × Entry) = passed_by b.commit.0 h.reliable in
    let be_within : b.be.0 ≤ 2 ^ 64 - 1 = omega arith in
    let commit_within : b.commit.0 ≤ 2 ^ 64 - 1 = omega arith in
    on_ok_weaker c.copy_passed-2.result
    (λ (is : c.copy_passed-2.new.out ≡ c.copy_passed.new.out ++ reliable) below.
    subst (AreBelow (2 ^ 64 - 1)) (sym (is ∙ ap (λ (es : List (Service × Entry)). es ++ reliable) c.in_ok-copy_passed.ensures.ok))
    (both_below_end (out ++ best) reliable (both_below_end out best below (out_below_end b.be.0 h.best.service h.best.failed h.best.tombstones h.best.messages be_within))
    (out_below_end b.commit.0 h.reliable.service h.reliable.failed h.reliable.tombstones h.reliable.messages commit_within)))
    c.copy_passed-2.ensures.ok
