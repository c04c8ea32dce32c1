use Rattle.std.proofs.Common.{◌≡◌, ℕ, List, ap, ◌∙◌}
use Rattle.std.specs.Prelude.{flat_map}
use Rattle.std.proofs.lemmas.Result.{on_ok_weaker}
use Rattle.pipe_base.specs.declared.packet.Packet.{Packet}
use Rattle.pipe_base.specs.Ways.{with_ways, picked}
use Rattle.pipe_relsend.specs.Pending.{Pending, owed}
use Rattle.pipe_relsend.proofs.SendingLaws.{resends_are}
use Rattle.pipe_relsend.proofs.sender.Sender.resends.Goals as goal

pub returns-clause-stands : goal.returns-clause-stands
returns-clause-stands g c =
    on_ok_weaker c.resend_all.result
    (λ (is : c.resend_all.new.step ≡ with_ways (picked (g.R.Router.links c.args.routes.now)) (flat_map (owed c.args.src (record { be = c.args.next.0; commit = c.promise-commit.result.0 })) c.as_slice.result.now) c.args.step.now) calls stands.
    is ∙ ap (λ (ps : List Packet). with_ways (picked (g.R.Router.links c.args.routes.now)) ps c.args.step.now)
    (ap (λ (ps : List Pending). flat_map (owed c.args.src (record { be = c.args.next.0; commit = c.promise-commit.result.0 })) ps) (c.as_slice.ensures.value ∙ c.self.view_is)
    ∙ ap (λ (n : ℕ). flat_map (owed c.args.src (record { be = c.args.next.0; commit = n })) c.args.self.now) c.promise-commit.ensures.value
    ∙ resends_are c.args.next.0 calls c.args.self.now c.args.src stands))
    c.resend_all.ensures.ok
