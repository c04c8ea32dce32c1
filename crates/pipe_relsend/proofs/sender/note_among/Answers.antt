use Rattle.std.proofs.Common.{◌≡◌, ◌<◌, ◌+◌, ℕ, List, suc, take, drop, ◌++◌, ◌∷◌, insert, length, arith, ap, sym, ◌∙◌}
use Rattle.pipe_relsend.specs.Pending.{Pending}
use Rattle.pipe_relsend.proofs.PlaceLaws.{half_noted, note_stays, put_back_at}
use Rattle.pipe_relsend.proofs.sender.note_among.Goals as goal

pub places-preserved-in-Some : goal.places-preserved-in-Some
places-preserved-in-Some c =
    let failed = c.args.failed.now in
    let kept = c.places.invariant in
    let items : List Pending = c.places.pending.items in
    let at = c.places.at in
    let q = c.in-Some.unsettled in
    let removed = c.remove-unsettled.ensures in
    let below : at < length items = omega (arith, c.places-test.true, c.len.ensures, c.places.pending.ok.0) in
    let next : suc at ≡ at + 1 = omega arith in
    record {
      items = ap (half_noted failed (at + 1)) (c.put_back.ensures.items ∙ ap (λ (ps : List Pending). insert ps at q) removed.items ∙ put_back_at items at q below)
          ∙ ap (λ (n : ℕ). half_noted failed n (take at items ++ q ∷ drop (suc at) items)) (sym next)
          ∙ note_stays failed items at c.remove-unsettled.result q below removed.value (sym c.note.ensures ∙ c.in-Some.is) ∙ kept.items;
      within = omega (arith, c.put_back.ensures.more, removed.len, c.places-test.true, c.len.ensures);
      fewer = omega (arith, c.put_back.ensures.more, removed.len, c.places-test.true, c.len.ensures, kept.fewer);
      capacity = c.put_back.ensures.capacity ∙ removed.capacity ∙ kept.capacity;
    }
