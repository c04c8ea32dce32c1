use Rattle.std.proofs.Common.{◌≡◌, ℕ, ◌<◌, ◌≤◌, ◌-◌, ◌+◌, subst, sym, ap, ◌∙◌, ◌++◌, ◌∷◌, [], List, length, take, arith}
use Rattle.std.specs.Prelude.{slice_index_or}
use Rattle.std.proofs.lemmas.List.{take_more}
use Rattle.pipe_base.specs.declared.name.LinkId.{LinkId}
use Rattle.pipe_base.specs.declared.packet.Packet.{Packet}
use Rattle.pipe_world.specs.Queues.{with_puts}
use Rattle.pipe_world.proofs.WaitingLists.{puts_more}
use Rattle.pipe_world.proofs.puts.take_back.Goals as goal

-- what has been put so far ends with the packet read
last_read : (puts : List (LinkId × Packet)) (left : ℕ) (p : LinkId × Packet) → 0 < left → left ≤ length puts → p ≡ slice_index_or puts (left - 1) p → take left puts ≡ take (left - 1) puts ++ p ∷ []
last_read puts left p some within is =
    let one : left - 1 + 1 ≡ left = omega arith in
    let lt : left - 1 < length puts = omega arith in
    subst (λ (n : ℕ). take n puts ≡ take (left - 1) puts ++ p ∷ []) one
    (take_more puts (left - 1) p lt ∙ ap (λ (q : LinkId × Packet). take (left - 1) puts ++ q ∷ []) (sym is))

pub take_one_back-requires : goal.take_one_back-requires
take_one_back-requires c =
    let put = c.index-puts-left.result in
    let at : c.puts.left - 1 < length c.args.puts.now = omega (arith, c.puts-test.true, c.puts.invariant.within) in
    omega (arith, c.requires (c.puts.left - 1) put at, ap (λ (p : LinkId × Packet). p.0.0) c.index-puts-left.is, c.puts.invariant.count)

pub puts-preserved : goal.puts-preserved
puts-preserved c =
    let put = c.index-puts-left.result in
    let so_far : List (LinkId × Packet) = take (c.puts.left - 1) c.args.puts.now in
    let read : take c.puts.left c.args.puts.now ≡ so_far ++ put ∷ [] = last_read c.args.puts.now c.puts.left put c.puts-test.true c.puts.invariant.within c.index-puts-left.is in
    record {
      within = omega (arith, c.puts.invariant.within);
      count = c.take_one_back.ensures.count ∙ c.puts.invariant.count;
      back = λ before is.
          c.take_one_back.ensures.back (with_puts so_far before) put.1
          (c.puts.invariant.back before is ∙ ap (λ (ps : List (LinkId × Packet)). with_puts ps before) read ∙ puts_more so_far put before);
    }
