use Rattle.std.proofs.Common.{◌≡◌, ap, ◌∙◌}
use Rattle.pipe_base.specs.declared.message.Key.{Key}
use Rattle.pipe_base.specs.Messages.{Messages, without_message}
use Rattle.pipe_base.proofs.MessageLaws.{in_order-from_keys, removed_is, without-with}
use Rattle.pipe_reorder.specs.Buffer.{Buffer, buffer_of, buffer_without}
use Rattle.pipe_reorder.proofs.reorder.Reorder.unhold.Goals as goal

pub invariant_of-self : goal.invariant_of-self
invariant_of-self c = in_order-from_keys c.remove.new.self.entries c.remove.ensures.ordered

-- what is left inside is what the clause says of the whole
left : (b : Buffer) (entries : Messages) (k : Key) → (inside : Buffer) → inside ≡ b → entries ≡ without_message k inside.messages
    → record inside { messages = entries } ≡ buffer_without k b
left b entries k inside view_is is =
    ap (λ (ms : Messages). record inside { messages = ms }) is ∙ ap (buffer_without k) view_is

pub returns-clause-removes : goal.returns-clause-removes
returns-clause-removes c =
    left c.args.self.now c.remove.new.self.entries c.args.key (buffer_of c.self.inside.service c.self.inside.barrier c.self.inside.failed c.self.inside.tombstones.keys c.self.inside.newest c.self.inside.held.entries) c.self.view_is
    (c.remove.ensures.entries ∙ removed_is c.args.key c.self.inside.held.entries c.self.invariant)

pub returns-clause-undoes : goal.returns-clause-undoes
returns-clause-undoes c before body absent was =
    let k = c.args.key in
    returns-clause-removes c ∙ ap (buffer_without k) was
    ∙ ap (λ (ms : Messages). record before { messages = ms }) (without-with k body before.messages absent)
