use Rattle.std.proofs.Common.{◌≡◌, Option, ap, ◌∙◌}
use Rattle.pipe_base.specs.declared.message.Key.{Key}
use Rattle.pipe_reorder.specs.Buffer.{with_unburied}
use Rattle.pipe_host.specs.declared.buffers.Buffers.{Buffers}
use Rattle.pipe_host.specs.Buffers.{all_burying, burying}
use Rattle.pipe_host.proofs.HeldLaws.{fresh_burying}
use Rattle.pipe_host.proofs.RecordLaws.{buffers_are}
use Rattle.pipe_host.proofs.StoneLaws.{unburied_got}
use Rattle.pipe_host.proofs.buffers.Buffers.give_back.Goals as goal

pub returns : goal.returns
returns c = λ before got newest fresh is.
    let gone : c.let_go.new.self ≡ all_burying got before =
    c.let_go.ensures (all_burying got before) (fresh_burying got c.args.fate c.args.packet.now before fresh) is in
    buffers_are (record c.let_go.new.self { reliable = c.unbury.new.self }) before.best before.reliable (ap (λ (h : Buffers). h.best) gone)
    (c.unbury.ensures.removes ∙ ap (λ (h : Buffers). with_unburied c.args.newest h.reliable) gone ∙ ap (λ (o : Option Key). with_unburied o (burying got before.reliable)) newest
    ∙ unburied_got got before.reliable)
