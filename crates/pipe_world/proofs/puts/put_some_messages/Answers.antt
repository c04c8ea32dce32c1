use Rattle.std.proofs.Common.{rules, ◌≡◌, ◌++◌, ◌∷◌, [], List, length, take, sym, ap, ◌∙◌, arith, length-append}
use Rattle.std.proofs.lemmas.List.{length-take, take_more}
use Rattle.pipe_base.specs.declared.control.Addressed.{Addressed}
use Rattle.pipe_net.specs.Waits.{Waits}
use Rattle.pipe_world.specs.Queues.{with_messages}
use Rattle.pipe_world.proofs.WaitingLists.{message_more}
use Rattle.pipe_world.proofs.puts.put_some_messages.Goals as goal

pub put_message-requires : goal.put_message-requires
put_message-requires c =
    let so_far : List Addressed = take c.messages.at c.args.messages.now in
    omega (
      arith,
      ap (λ (w : Waits). length w.control) c.messages.invariant,
      length-append c.args.queues.now.control so_far,
      length-take c.messages.at c.args.messages.now,
      c.requires.few,
      c.requires.room,
    )

pub messages-preserved : goal.messages-preserved
messages-preserved c =
    let message = c.index-messages-at.result in
    let so_far : List Addressed = take c.messages.at c.args.messages.now in
    let more : c.put_message.new.queues ≡ with_messages (message ∷ []) c.messages.queues = search rules in
    more
    ∙ ap (with_messages (message ∷ [])) c.messages.invariant
    ∙ message_more so_far message c.args.queues.now
    ∙ ap (λ (ms : List Addressed). with_messages ms c.args.queues.now)
    (sym (take_more c.args.messages.now c.messages.at message c.messages-test.true ∙ ap (λ (m : Addressed). so_far ++ m ∷ []) (sym c.index-messages-at.is)))
