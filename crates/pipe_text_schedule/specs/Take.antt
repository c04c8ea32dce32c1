-- `take LINK PLACE`, `take LINK PLACE keep` and `lose LINK PLACE`
use Rattle.std.specs.Prelude.{ℕ, Bool, true, false, if◌then◌else◌, List, [], ◌∷◌, Option, Some, None, Result, Ok, Err, bytes_eq, codes}
use Rattle.pipe_graph.specs.Graph.{Graph}
use Rattle.pipe_model.specs.declared.event.Event.{Event}
use Rattle.pipe_model.specs.declared.event.Event.TheVariants.{Take, Lose}
use Rattle.pipe_text.specs.declared.kind.LineKind.{LineKind}
use Rattle.pipe_text.specs.declared.kind.LineKind.TheVariants.{Verb, Count, Link, Number}
use Rattle.pipe_text.specs.Number.{number_of}
use Rattle.pipe_text_schedule.specs.Named.{link_in}

-- a place among the packets that wait
abbrev pub place_of : List ℕ → Option ℕ
place_of word = number_of 4294967295 word

-- the last word of a take
abbrev pub keep_of : List ℕ → Option Bool
keep_of word = if bytes_eq word (codes "keep") then Some true else None

-- a link, a place and what becomes of the packet, in this order
abbrev pub take_from : Option ℕ → Option ℕ → Option Bool → Result Event LineKind
take_from None place keep = Err Link
take_from (Some link) None keep = Err Number
take_from (Some link) (Some place) None = Err Verb
take_from (Some link) (Some place) (Some keep) = Ok (Take (record { 0 = link }) place keep)

-- the words after the verb
abbrev pub take_line : Graph → List (List ℕ) → Result Event LineKind
take_line graph (link ∷ place ∷ []) = take_from (link_in graph link) (place_of place) (Some false)
take_line graph (link ∷ place ∷ keep ∷ []) = take_from (link_in graph link) (place_of place) (keep_of keep)
take_line graph _ = Err Count

-- a link and a place, in this order
abbrev pub lose_from : Option ℕ → Option ℕ → Result Event LineKind
lose_from None place = Err Link
lose_from (Some link) None = Err Number
lose_from (Some link) (Some place) = Ok (Lose (record { 0 = link }) place)

-- the words after the verb
abbrev pub lose_line : Graph → List (List ℕ) → Result Event LineKind
lose_line graph (link ∷ place ∷ []) = lose_from (link_in graph link) (place_of place)
lose_line graph _ = Err Count
