use Rattle.std.proofs.Common.{rules, ◌≡◌, ◌<◌, ◌++◌, ◌∷◌, [], List, length, take, sym, ap, ◌∙◌, arith}
use Rattle.std.proofs.lemmas.List.{length-take, take_more}
use Rattle.std.proofs.lemmas.List.Elements.{All-take}
use Rattle.pipe_base.specs.declared.name.LinkId.{LinkId}
use Rattle.pipe_base.specs.declared.packet.Packet.{Packet}
use Rattle.pipe_net.specs.Waits.{Waits, on_link, waiting, with_packet}
use Rattle.pipe_world.specs.Queues.{with_puts}
use Rattle.pipe_world.proofs.WaitingLists.{puts_count, puts_few, puts_more}
use Rattle.pipe_world.proofs.puts.put_some.Goals as goal

pub put_one-requires-clause-known : goal.put_one-requires-clause-known
put_one-requires-clause-known c =
    let put = c.index-puts-at.result in
    omega (
      arith,
      c.requires.known c.puts.at put c.puts-test.true,
      ap (λ (p : LinkId × Packet). p.0.0) c.index-puts-at.is,
      ap (λ (w : Waits). length w.lines) c.puts.invariant,
      puts_count (take c.puts.at c.args.puts.now) c.args.queues.now,
    )

pub put_one-requires-clause-few : goal.put_one-requires-clause-few
put_one-requires-clause-few c =
    let link = c.index-puts-at.result.0.0 in
    let so_far : List (LinkId × Packet) = take c.puts.at c.args.puts.now in
    omega (
      arith,
      ap (λ (w : Waits). length (waiting link w)) c.puts.invariant,
      puts_few link so_far c.args.queues.now (All-take (λ (p : LinkId × Packet). p.0.0 < length c.args.queues.now.lines) c.puts.at c.args.puts.now c.requires.known),
      length-take c.puts.at c.args.puts.now,
      c.requires.few,
      c.requires.room link,
    )

pub puts-preserved : goal.puts-preserved
puts-preserved c =
    let put = c.index-puts-at.result in
    let so_far : List (LinkId × Packet) = take c.puts.at c.args.puts.now in
    let more : c.put_one.new.queues ≡ on_link put.0.0 (with_packet put.1) c.puts.queues = search rules in
    more
    ∙ ap (on_link put.0.0 (with_packet put.1)) c.puts.invariant
    ∙ sym (puts_more so_far put c.args.queues.now)
    ∙ ap (λ (ps : List (LinkId × Packet)). with_puts ps c.args.queues.now)
    (sym (take_more c.args.puts.now c.puts.at put c.puts-test.true ∙ ap (λ (p : LinkId × Packet). so_far ++ p ∷ []) (sym c.index-puts-at.is)))
