use Rattle.std.proofs.Common.{◌≡◌, [], ◌∷◌, sym, ap, ◌∙◌}
use Rattle.pipe_base.specs.declared.message.Service.TheVariants.{BestEffort}
use Rattle.pipe_model.specs.declared.record.Record.{Record}
use Rattle.pipe_reorder.specs.Buffer.{Buffer, with_no_void}
use Rattle.pipe_host.specs.declared.buffers.Buffers.{Buffers}
use Rattle.pipe_host.specs.Buffers.{all_left}
use Rattle.pipe_host.specs.Host.{buffer_for}
use Rattle.pipe_host.proofs.RecordLaws.{buffer_left, discards, discards_none, empty_from, leaves, without_buried}
use Rattle.pipe_host.proofs.records.let_out.Goals as goal

pub returns-then-not-is_empty : goal.returns-then-not-is_empty
returns-then-not-is_empty c = λ graph node own are is.
    let r : Record = c.args.made.now in
    let best : Buffer = buffer_for BestEffort graph node (r ∷ own) in
    let left : c.drop_buried.new.self ≡ record { best = best; reliable = buffer_left graph node own r } =
    c.drop_buried.ensures ∙ ap without_buried (c.drop_passed.ensures ∙ ap (all_left c.args.barriers) is) ∙ leaves graph node own r c.args.barriers are in
    c.drop_void.ensures ∙ ap {B = Buffers} (λ (h : Buffers). record { best = h.best; reliable = with_no_void h.reliable }) left
    ∙ ap {B = Buffers} (λ (b : Buffer). record { best = best; reliable = b }) (discards graph node own r)

pub returns-else-not-is_empty : goal.returns-else-not-is_empty
returns-else-not-is_empty c = λ graph node own are is.
    let r : Record = c.args.made.now in
    let none : r.step.noted ≡ [] = sym c.noted.ensures ∙ empty_from c.noted.result.now (sym c.is_empty.ensures ∙ c.if-not-is_empty.false) in
    c.drop_buried.ensures ∙ ap without_buried (c.drop_passed.ensures ∙ ap (all_left c.args.barriers) is) ∙ leaves graph node own r c.args.barriers are
    ∙ ap {B = Buffers} (λ (b : Buffer). record { best = buffer_for BestEffort graph node (r ∷ own); reliable = b }) (discards_none graph node own r none)
