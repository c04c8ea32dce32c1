use Rattle.std.proofs.Common.{◌≡◌, ◌<◌, ◌++◌, sym, subst}
use Rattle.std.proofs.lemmas.List.Elements.{All-append}
use Rattle.std.proofs.lemmas.Result.{on_ok_weaker}
use Rattle.pipe_base.specs.declared.message.Entry.{Entry}
use Rattle.pipe_base.specs.declared.message.Service.{Service}
use Rattle.pipe_base.specs.Messages.{AreBelow}
use Rattle.pipe_reorder.specs.Buffer.{let_out}
use Rattle.pipe_reorder.proofs.Walks.{out-below}
use Rattle.pipe_reorder.proofs.reorder.Reorder.copy_passed.Goals as goal

pub returns-clause-early : goal.returns-clause-early
returns-clause-early c =
    let b = c.args.barrier.0 in
    let inside = c.self.inside in
    let entries = let_out inside.service inside.failed inside.tombstones.keys b inside.held.entries in
    on_ok_weaker c.copy_below.result
    (λ (is : c.copy_below.new.out ≡ c.args.out.now ++ entries) (early : AreBelow b c.args.out.now).
    subst (AreBelow b) (sym is)
    (All-append (λ (e : Service × Entry). e.1.key.ts.0 < b) c.args.out.now entries early (out-below inside.service inside.failed inside.tombstones.keys b inside.held.entries)))
    c.copy_below.ensures.ok
