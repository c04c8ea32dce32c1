use Rattle.std.proofs.Common.{◌≡◌, ◌++◌, map, drop, option_map}
use Rattle.toml.specs.View.{items_view}
use Rattle.pipe_text_plan.specs.Texts.{item_texts}
use Rattle.pipe_text_plan.proofs.array.item_texts.Given as goal

-- the texts so far, and then those of the other items
abbrev pub invariant-items : goal.invariant-items
invariant-items l =
    option_map (λ more. map (λ text. text.now) l.texts.items ++ more) (item_texts (items_view (drop l.value-index l.array.items))) ≡ item_texts (items_view l.array.items)
