-- Arrays of texts, and a text in two.
use Rattle.std.specs.Prelude.{ℕ, ◌==◌, nat_lt, Bool, if◌then◌else◌, List, [], ◌∷◌, length, Option, None, Some}
use Rattle.std.specs.List.{position_or_len, before_first, after_first}
use Rattle.toml.specs.Data.{Items, no_items, item, as_str}

-- a text before others, where all are there
abbrev pub text_onto : Option (List ℕ) → Option (List (List ℕ)) → Option (List (List ℕ))
text_onto (Some text) (Some texts) = Some (text ∷ texts)
text_onto _ _ = None

-- the items, where all are texts
abbrev pub item_texts : Items → Option (List (List ℕ))
item_texts no_items = Some []
item_texts (item value rest) = text_onto (as_str value) (item_texts rest)

-- the byte of a space
abbrev pub is_space : ℕ → Bool
is_space byte = byte == 32

-- what is before the first space, and what is after it
abbrev pub around_space : List ℕ → Option (List ℕ × List ℕ)
around_space text =
    if nat_lt (position_or_len is_space text) (length text) then Some (before_first is_space text, after_first is_space text) else None
