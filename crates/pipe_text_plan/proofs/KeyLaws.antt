-- Lemmas on the keys of a document and on arrays of texts.
use Rattle.std.proofs.Common.{◌≡◌, not, ◌||◌, ℕ, List, [], ◌∷◌, ◌++◌, Option, None, Some, option_map, String, Global, string_bytes, Bor, nat_cmp, refl, ap, sym, ◌∙◌, append_assoc}
use Rattle.std.specs.List.{list_any}
use Rattle.std.specs.BTreeMap.{is_at}
use Rattle.std.specs.Cmp.Lexicographic.{slice_cmp}
use Rattle.std.specs.Map.{keys_of, lookup}
use Rattle.toml.specs.declared.value.Value.{Value}
use Rattle.toml.proofs.Views.{table_get}
use Rattle.toml.specs.Data.{get_member}
use Rattle.toml.specs.View.{view, members_view}
use Rattle.pipe_text_plan.specs.Keys.{is_key, has_extra}
use Rattle.pipe_text_plan.specs.Texts.{text_onto}

-- an extra key is one of the map's keys
pub extra_is : (entries : List (String Global × Value))
    → list_any (λ key. not (is_key (string_bytes key))) (keys_of entries) ≡ has_extra (members_view entries)
extra_is [] = refl
extra_is (entry ∷ entries) = ap (λ t. not (is_key (string_bytes entry.0)) || t) (extra_is entries)

-- a text at the end of the texts so far
pub texts_more : (texts : List (List ℕ)) (text : List ℕ) (rest : Option (List (List ℕ)))
    → option_map (λ more. texts ++ more) (text_onto (Some text) rest) ≡ option_map (λ more. (texts ++ text ∷ []) ++ more) rest
texts_more texts text None = refl
texts_more texts text (Some more) = ap Some (sym (append_assoc texts (text ∷ []) more))

-- what the map does not find is no member
pub member_none : (found : Option (Bor Value)) (key : List ℕ) (entries : List (String Global × Value))
    → option_map (λ x. x.now) found ≡ lookup (is_at (λ k. slice_cmp nat_cmp key (string_bytes k))) entries → found ≡ None
    → get_member key (members_view entries) ≡ None
member_none found key entries is none =
    sym (table_get found key entries is) ∙ ap (option_map (λ (x : Bor Value). view x.now)) none

-- and what it finds is the member
pub member_some : (found : Option (Bor Value)) (key : List ℕ) (entries : List (String Global × Value)) (value : Bor Value)
    → option_map (λ x. x.now) found ≡ lookup (is_at (λ k. slice_cmp nat_cmp key (string_bytes k))) entries → found ≡ Some value
    → get_member key (members_view entries) ≡ Some (view value.now)
member_some found key entries value is some =
    sym (table_get found key entries is) ∙ ap (option_map (λ (x : Bor Value). view x.now)) some
