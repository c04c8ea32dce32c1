use Rattle.std.proofs.Common.{◌≡◌, ℕ, List, [], length, sym, subst, ◌∙◌, eqb-true}
use Rattle.std.proofs.lemmas.List.{nil_from_length}
use Rattle.std.proofs.lemmas.Result.{IfOk-weaker}
use Rattle.pipe_base.specs.declared.name.LinkId.{LinkId}
use Rattle.pipe_base.specs.Moment.{Moment, with_downed}
use Rattle.pipe_base.specs.Entries.{with_entries}
use Rattle.pipe_base.specs.Silence.{QuietCall}
use Rattle.pipe_barrier.specs.declared.registers.Barriers.{Barriers}
use Rattle.pipe_barrier.specs.InLinks.{Stands}
use Rattle.pipe_barrier.specs.Registers.{AreBarriers}
use Rattle.pipe_barrier.proofs.InLinkLaws.{none_dropped}
use Rattle.pipe_barrier.proofs.in_links.InLinks.barriers_after.Goals as goal

pub returns-then-is_empty : goal.returns-then-is_empty
returns-then-is_empty c =
    let drops = c.args.drops.now in
    let marks = c.args.marks.now in
    let none : drops ≡ [] = nil_from_length drops (eqb-true (length drops) 0 (sym c.is_empty.ensures ∙ c.if-is_empty.true)) in
    IfOk-weaker c.barriers_without.result
    (λ (b : Barriers). (ins : List LinkId) (patience : ℕ) (moments : List Moment) (calls : List QuietCall)
    → Stands ins patience c.args.self.now moments calls → AreBarriers ins (with_downed marks moments) b)
    (λ (b : Barriers). (ins : List LinkId) (patience : ℕ) (moments : List Moment) (calls : List QuietCall)
    → Stands ins patience c.args.self.now moments calls → AreBarriers ins (with_entries ins drops (with_downed marks moments)) b)
    (λ b are ins patience moments calls stands.
    subst (λ (ms : List Moment). AreBarriers ins ms b) (sym (none_dropped ins drops (with_downed marks moments) none)) (are ins patience moments calls stands))
    c.barriers_without.ensures
