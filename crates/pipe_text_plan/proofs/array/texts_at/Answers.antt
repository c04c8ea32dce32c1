use Rattle.std.proofs.Common.{◌≡◌, List, ℕ, Option, Some, Vec, Global, Bor, map, option_map, option_and_then, ap, sym, ◌∙◌, subst}
use Rattle.std.specs.Result.{IfOk}
use Rattle.toml.specs.Data.{Items, as_array, get_member}
use Rattle.toml.specs.View.{array_view, table_view}
use Rattle.pipe_text_plan.specs.Texts.{item_texts}
use Rattle.pipe_text_plan.proofs.array.texts_at.Goals as goal

pub returns-in-Some : goal.returns-in-Some
returns-in-Some c =
    let is : Some (array_view c.in-Some.array.now) ≡ option_and_then as_array (get_member c.args.key.now (table_view c.args.table.now))
    = ap (option_map (λ array. array_view array.now)) (sym c.in-Some.is) ∙ c.array_at.ensures in
    subst (λ (array : Option Items). IfOk c.item_texts.result
    (λ (found : Option (Vec (Bor (List ℕ)) Global)). option_map (λ texts. map (λ text. text.now) texts.items) found ≡ option_and_then item_texts array)) is
    c.item_texts.ensures

pub returns-in-None : goal.returns-in-None
returns-in-None c = ap (option_and_then item_texts) (ap (option_map (λ array. array_view array.now)) (sym c.in-None.is) ∙ c.array_at.ensures)
