use Rattle.std.proofs.Common.{rules, ◌≡◌, not, refl}
use Rattle.std.proofs.lemmas.Map.Entries.{filter_from_retain_pairs}
use Rattle.pipe_base.specs.Failed.{is_void}
use Rattle.pipe_reorder.proofs.reorder.drop_void.Goals as goal

-- the closure keeps its list from call to call, and answers whether a key is void
pub returns : goal.returns
returns c =
    let failed = c.args.failed.now in
    filter_from_retain_pairs _ (λ f. f.0.now ≡ failed) (λ m. not (is_void failed m.0))
    (λ g k v b w g' i t. search rules)
    _ c.args.held.now.entries c.retain.new.self.entries refl c.retain.ensures.filtered
