use Rattle.std.proofs.Common.{ℕ, ◌<◌, length, take, sym, subst, ap, ◌∙◌}
use Rattle.std.proofs.lemmas.List.Elements.{All-take}
use Rattle.pipe_base.specs.declared.name.LinkId.{LinkId}
use Rattle.pipe_base.specs.declared.packet.Packet.{Packet}
use Rattle.pipe_net.specs.Waits.{Waits}
use Rattle.pipe_world.specs.Queues.{AreKnown}
use Rattle.pipe_world.proofs.WaitingLists.{puts_count}
use Rattle.pipe_world.proofs.puts.put_all.Goals as goal

pub take_back-requires : goal.take_back-requires
take_back-requires c =
    let count = c.put_some-count.result in
    let puts = c.args.puts.now in
    subst (λ (links : ℕ). AreKnown links (take count puts)) (sym (ap (λ (w : Waits). length w.lines) c.put_some-count.ensures.put ∙ puts_count (take count puts) c.args.queues.now))
    (All-take (λ (p : LinkId × Packet). p.0.0 < length c.args.queues.now.lines) count puts c.requires.known)
