use Rattle.std.proofs.Common.{◌≡◌, Some, false, Option, ap, sym, subst, ◌∙◌}
use Rattle.pipe_base.specs.Messages.{Messages, has_key, with_message}
use Rattle.pipe_base.specs.declared.message.Key.{Key}
use Rattle.pipe_base.specs.declared.step.Fate.{Fate}
use Rattle.pipe_base.specs.declared.step.Fate.TheVariants.{Held}
use Rattle.pipe_model.specs.Fate.{with_held}
use Rattle.pipe_model.specs.Got.{key_of}
use Rattle.pipe_reorder.specs.Buffer.{Buffer}
use Rattle.pipe_host.specs.Buffers.{IsNew}
use Rattle.pipe_host.proofs.fates.let_go.Goals as goal

pub returns-in-Some-Held : goal.returns-in-Some-Held
returns-in-Some-Held c =
    λ messages fresh is.
    let fate_is : c.args.fate ≡ Some Held = c.in-Some-Held.is ∙ ap Some (rw c.in-Some-Held.is at c.in-Some-Held.field-0-is) in
    let fresh_key : has_key (key_of c.args.packet.now) messages ≡ false
    = subst (λ (fate : Option Fate). IsNew fate (Some c.args.packet.now) messages) fate_is fresh in
    let held_is : c.args.held.now.messages ≡ with_message (key_of c.args.packet.now) c.args.packet.now.body messages
    = subst (λ (fate : Option Fate). c.args.held.now.messages ≡ with_held fate (Some c.args.packet.now) messages) fate_is is in
    c.unhold.ensures.undoes (record c.args.held.now { messages = messages }) c.args.packet.now.body
    (ap (λ (key : Key). has_key key messages) c.key_of.ensures ∙ fresh_key)
    (ap {B = Buffer} (λ (ms : Messages). record c.args.held.now { messages = ms })
    (held_is ∙ ap (λ (key : Key). with_message key c.args.packet.now.body messages) (sym c.key_of.ensures)))
