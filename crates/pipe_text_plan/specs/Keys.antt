-- What a document says of a plan, by its keys.
use Rattle.std.specs.Prelude.{ℕ, ◌&&◌, ◌||◌, not, nat_le, Bool, false, if◌then◌else◌, List, codes, Option, None, Some, option_and_then, ℤ, pos, negsuc}
use Rattle.std.specs.Str.{bytes_eq, is_utf8}
use Rattle.toml.specs.Data.{Data, Members, no_members, member, get_member, as_array, as_integer}
use Rattle.toml.specs.Parse.{parse_document}
use Rattle.pipe_base.specs.Limits.{most_patience}
use Rattle.pipe_text_plan.specs.Texts.{item_texts}

-- the document that the bytes are, where they are UTF-8 and TOML
abbrev pub document_of : List ℕ → Option Members
document_of bytes = if is_utf8 bytes then parse_document bytes else None

-- one of the four keys
abbrev pub is_key : List ℕ → Bool
is_key key = bytes_eq key (codes "hosts") || (bytes_eq key (codes "switches") || (bytes_eq key (codes "cables") || bytes_eq key (codes "patience")))

-- some key is none of the four
abbrev pub has_extra : Members → Bool
has_extra no_members = false
has_extra (member key value rest) = not (is_key key) || has_extra rest

-- the texts of the array at a key
abbrev pub texts_at : List ℕ → Members → Option (List (List ℕ))
texts_at key members = option_and_then item_texts (option_and_then as_array (get_member key members))

-- a patience: 1 to the longest
abbrev pub patience_in : ℤ → Option ℕ
patience_in (pos n) = if nat_le 1 n && nat_le n most_patience then Some n else None
patience_in (negsuc n) = None

-- 1000 where the key is not there
abbrev pub patience_or : Option Data → Option ℕ
patience_or None = Some 1000
patience_or (Some value) = option_and_then patience_in (as_integer value)

-- the patience of a document, where it is one
abbrev pub patience_at : Members → Option ℕ
patience_at members = patience_or (get_member (codes "patience") members)
