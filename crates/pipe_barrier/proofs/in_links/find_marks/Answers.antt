use Rattle.std.proofs.Common.{◌≡◌, length}
use Rattle.std.specs.Slice.Iter.{iter_rest}
use Rattle.std.specs.Iterator.Adapters.{zip_first, zip_second}
use Rattle.std.proofs.lemmas.Slice.Zip.{zip_end}
use Rattle.pipe_barrier.proofs.InLinkLaws.{walk_at_end}
use Rattle.pipe_barrier.proofs.in_links.find_marks.Goals as goal

pub returns : goal.returns
returns c =
    let start = c.into_iter-register-iterator.result in
    let first : iter_rest (zip_first start) ≡ c.args.registers.now = cc in
    let second : iter_rest (zip_second start) ≡ c.args.quiets.now = cc in
    walk_at_end c.args.patience.0 c.args.now.0 (length c.links.yielded) c.args.registers.now c.args.quiets.now c.links.marks _
    (zip_end c.args.registers.now c.args.quiets.now c.links.yielded start c.links.register-iterator c.next.new.self c.next.result first second c.links.yielded_by c.in-None.is c.next.ensures.steps)
    c.links.invariant
