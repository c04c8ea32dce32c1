use Rattle.std.proofs.Common.{◌≡◌, ℕ, ◌||◌, Bool, List, [], ◌∷◌, ◌++◌, ap, ap₂, sym, subst, ◌∙◌}
use Rattle.pipe_base.specs.declared.message.Key.{Key}
use Rattle.pipe_base.specs.Messages.{IsInOrder, entry_of}
use Rattle.pipe_base.proofs.MessageLaws.{in_order-from_keys}
use Rattle.pipe_reorder.proofs.Walks.{copied_none, copied_more, copied_all}
use Rattle.pipe_reorder.proofs.reorder.copy_below.Goals as goal

pub entries-init : goal.entries-init
entries-init c =
    let given = c.into_iter-key-iterator.ensures.into_iter_gives in
    record {
      order = subst IsInOrder (sym given.0) (in_order-from_keys c.args.held.now.entries given.5);
      copied = copied_none c.args.service c.args.failed.now c.args.tombstones.now.keys c.args.barrier.0 c.args.held.now.entries c.into_iter-key-iterator.result c.args.out.now given.0;
    }

pub entries-preserved : goal.entries-preserved
entries-preserved c =
    let m : Key × List ℕ = (c.in-Some.key.now, c.in-Some.body.now) in
    let first = c.in-Some.ensures.steps in
    let pushed : c.add.new.out ≡ c.entries.out ++ (c.args.service, entry_of m) ∷ [] =
    c.in_ok-add.ensures.ok
    ∙ ap (λ (body : List ℕ). c.entries.out ++ (c.args.service, entry_of (c.in-Some.key.now, body)) ∷ []) c.in_ok-body.ensures in
    let stays = ap₂ (λ (a b : Bool). a || b) (sym c.is_void.ensures ∙ c.if-is_void.false) (sym c.has_tombstone.ensures ∙ c.if-has_tombstone.false) in
    record {
      order = (subst IsInOrder first c.entries.invariant.order).1;
      copied = copied_more c.args.service c.args.failed.now c.args.tombstones.now.keys c.args.barrier.0 c.args.held.now.entries c.entries.key-iterator c.next.new.self m c.args.out.now c.entries.out c.add.new.out
          first c.if-key-barrier.false stays pushed c.entries.invariant.copied;
    }

pub returns-then-key-barrier-clause-ok : goal.returns-then-key-barrier-clause-ok
returns-then-key-barrier-clause-ok c =
    copied_all c.args.service c.args.failed.now c.args.tombstones.now.keys c.args.barrier.0 c.args.held.now.entries c.entries.key-iterator c.next.new.self (c.in-Some.key.now, c.in-Some.body.now) c.args.out.now c.entries.out
    c.in-Some.ensures.steps c.entries.invariant.order c.if-key-barrier.true c.entries.invariant.copied
