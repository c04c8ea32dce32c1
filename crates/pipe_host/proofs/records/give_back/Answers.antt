use Rattle.std.proofs.Common.{◌≡◌, length, Option, refl, subst, ap, ◌∙◌}
use Rattle.pipe_base.specs.declared.packet.Packet.{Packet}
use Rattle.pipe_base.specs.declared.step.Fate.{Fate}
use Rattle.pipe_model.specs.declared.record.Record.{Record}
use Rattle.pipe_model.specs.Moments.{moments_of}
use Rattle.pipe_host.specs.declared.buffers.Buffers.{Buffers}
use Rattle.pipe_host.specs.Buffers.{IsFresh, all_burying, all_joined}
use Rattle.pipe_host.specs.Host.{buffers_for}
use Rattle.pipe_host.proofs.RecordLaws.{brings_none, buffers_joined, returns_held, still_joined}
use Rattle.pipe_host.proofs.records.give_back.Goals as goal

pub returns-in-Link : goal.returns-in-Link
returns-in-Link c = λ graph node own step is.
    let h : Buffers = buffers_for graph node own in
    let p : Packet = c.in-Link.packet in
    let r : Record = c.args.made.now in
    let count = ap length c.noted.ensures in
    let gone : c.unadopt.new.self ≡ buffers_joined graph node own r = c.unadopt.ensures (buffers_joined graph node own r) r.step.noted count is in
    let back = returns_held graph node own r c.in-Link.link p step.fate_is c.in-Link.is in
    subst (λ (f : Option Fate). IsFresh f p h → c.unadopt.new.self ≡ all_joined f p (all_burying back.got h) → c.give_back.new.self ≡ h) c.fate.ensures
    (c.give_back.ensures h back.got refl) back.fresh (gone ∙ back.held_are)

pub returns-in_default : goal.returns-in_default
returns-in_default c = λ graph node own step is.
    let r : Record = c.args.made.now in
    let count = ap length c.noted.ensures in
    let gone : c.unadopt.new.self ≡ buffers_joined graph node own r = c.unadopt.ensures (buffers_joined graph node own r) r.step.noted count is in
    gone ∙ still_joined graph node own r (brings_none (moments_of graph node own) r.event r.took c.in_default.not-Link)
