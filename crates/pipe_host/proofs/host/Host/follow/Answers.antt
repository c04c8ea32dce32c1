use Rattle.std.proofs.Common.{IfSome, ◌≡◌, ℕ, ◌≤◌, ◌-◌, ◌^◌, List, ◌∷◌, Option, ap, sym, subst, ◌∙◌, arith}
use Rattle.pipe_base.specs.declared.control.Announced.{Announced}
use Rattle.pipe_base.specs.declared.name.Ts.{Ts}
use Rattle.pipe_base.specs.Clock.{next_after}
use Rattle.pipe_base.specs.Messages.{AreBelow}
use Rattle.pipe_base.specs.Scattering.{SenderCall}
use Rattle.pipe_model.specs.declared.record.Record.{Record}
use Rattle.pipe_model.specs.Clock.{tick_reading}
use Rattle.pipe_model.specs.Got.{gets}
use Rattle.pipe_model.specs.Moments.{noted_hosts}
use Rattle.pipe_model.specs.Sender.{accepted_stamp, sender_calls, with_answer, with_begun, with_noted}
use Rattle.pipe_model.proofs.Stamps.{stamps_accepted}
use Rattle.pipe_relsend.specs.Sending as sending
use Rattle.pipe_host.specs.declared.buffers.Buffers.{Buffers}
use Rattle.pipe_host.proofs.Bounds.{logged_below_end, stamp_within}
use Rattle.pipe_host.proofs.HostSteps.{knows_all}
use Rattle.pipe_host.proofs.host.Host.follow.Goals as goal

pub returns : goal.returns
returns c = λ graph node own stands comes step.
    let r : Record = c.args.made.now in
    let b = c.barriers.result in
    let after = c.follow.ensures graph node own stands.links_are comes step in
    let bars = c.barriers.ensures.are graph node (r ∷ own) after in
    let be_within : b.be.0 ≤ 2 ^ 64 - 1 = omega arith in
    let commit_within : b.commit.0 ≤ 2 ^ 64 - 1 = omega arith in
    let below : AreBelow (2 ^ 64 - 1) r.step.logged =
    subst (AreBelow (2 ^ 64 - 1)) (sym step.logged_is)
    (logged_below_end graph node own r (subst (λ (n : ℕ). n ≤ 2 ^ 64 - 1) bars.be_is be_within) (subst (λ (n : ℕ). n ≤ 2 ^ 64 - 1) bars.commit_is commit_within)) in
    let calls : List SenderCall = sender_calls graph node own in
    let begun : List SenderCall = with_begun r.event (accepted_stamp r.step) calls in
    let sender_is : sending.Stands begun c.args.self.now.sender =
    subst (λ (o : Option Ts). sending.Stands (with_begun r.event o calls) c.args.self.now.sender) (sym (stamps_accepted graph node own r step)) stands.sender_is in
    let heard : List SenderCall = with_answer (gets graph node own r) begun in
    let noted_are : c.noted.result.now ≡ noted_hosts (r ∷ own) =
    c.noted.ensures ∙ ap (λ (h : Buffers). h.reliable.failed) (c.let_out.ensures graph node own bars stands.held_are) in
    record {
      host = stands.host;
      links_are = after;
      next_is = c.follow-2.ensures.next below
          (subst (λ (n : ℕ). IfSome r.step.stamped (λ ts. ts.0 ≤ n)) (sym stands.top_is) (stamp_within graph node own r.event r.step.stamped step.stamped_is))
          ∙ ap (λ (n : ℕ). next_after n (tick_reading r.event) r.step.stamped r.step.logged) stands.next_is;
      top_is = ap {B = ℕ} (λ (t : Ts). t.0) c.follow-2.ensures.top ∙ stands.top_is;
      held_are = c.let_out.ensures graph node own bars stands.held_are;
      sender_is = subst (λ (noted : List Announced). sending.Stands (with_noted noted r.step.noted heard) c.note.new.sender) noted_are
          (c.note.ensures heard (c.hear.ensures graph node own begun stands.taking stands.host comes sender_is)
          (subst (λ (noted : List Announced). sending.KnowsAll noted heard) (sym noted_are) (knows_all graph node own r)));
    }
