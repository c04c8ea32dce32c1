use Rattle.std.proofs.Common.{◌≡◌, true, Option, Some, ap, sym, subst, ◌∙◌}
use Rattle.pipe_base.specs.declared.message.Service.TheVariants.{BestEffort, Reliable}
use Rattle.pipe_base.specs.declared.packet.Packet.{Packet}
use Rattle.pipe_model.specs.Fate.{with_held}
use Rattle.pipe_model.specs.Got.{carries, message_of}
use Rattle.pipe_reorder.specs.Buffer.{Buffer}
use Rattle.pipe_host.specs.declared.buffers.Buffers.{Buffers}
use Rattle.pipe_host.specs.Buffers.{IsNew}
use Rattle.pipe_host.proofs.HeldLaws.{apart, apart_too, carried, not_joined}
use Rattle.pipe_host.proofs.buffers.Buffers.let_go.Goals as goal

pub returns-then-carries : goal.returns-then-carries
returns-then-carries c = λ before fresh is.
    let p : Packet = c.args.packet.now in
    let best : carries BestEffort p.kind ≡ true = sym c.carries.ensures ∙ c.if-carries.true in
    let message : message_of BestEffort (Some p) ≡ Some p = carried BestEffort p best in
    let gone : c.let_go.new.held ≡ record c.args.self.now.best { messages = before.best.messages } =
    c.let_go.ensures before.best.messages (subst (λ (o : Option Packet). IsNew c.args.fate o before.best.messages) message (fresh BestEffort))
    (ap (λ (h : Buffers). h.best.messages) is ∙ ap (λ (o : Option Packet). with_held c.args.fate o before.best.messages) message) in
    let best_is : c.let_go.new.held ≡ before.best = gone ∙ ap {B = Buffer} (λ (h : Buffers). record h.best { messages = before.best.messages }) is in
    let reliable_is : c.args.self.now.reliable ≡ before.reliable =
    ap (λ (h : Buffers). h.reliable) is ∙ not_joined Reliable c.args.fate p before.reliable (apart_too p.kind best) in
    λ i. record { best = best_is i; reliable = reliable_is i }

pub returns-then-carries-2 : goal.returns-then-carries-2
returns-then-carries-2 c = λ before fresh is.
    let p : Packet = c.args.packet.now in
    let reliable : carries Reliable p.kind ≡ true = sym c.carries-else-carries.ensures ∙ c.if-carries-2.true in
    let message : message_of Reliable (Some p) ≡ Some p = carried Reliable p reliable in
    let gone : c.let_go-then-carries-2.new.held ≡ record c.args.self.now.reliable { messages = before.reliable.messages } =
    c.let_go-then-carries-2.ensures before.reliable.messages (subst (λ (o : Option Packet). IsNew c.args.fate o before.reliable.messages) message (fresh Reliable))
    (ap (λ (h : Buffers). h.reliable.messages) is ∙ ap (λ (o : Option Packet). with_held c.args.fate o before.reliable.messages) message) in
    let reliable_is : c.let_go-then-carries-2.new.held ≡ before.reliable = gone ∙ ap {B = Buffer} (λ (h : Buffers). record h.reliable { messages = before.reliable.messages }) is in
    let best_is : c.args.self.now.best ≡ before.best = ap (λ (h : Buffers). h.best) is ∙ not_joined BestEffort c.args.fate p before.best (apart p.kind reliable) in
    λ i. record { best = best_is i; reliable = reliable_is i }
