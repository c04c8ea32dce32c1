-- The numbers of names.
use Rattle.std.specs.Prelude.{ℕ, ◌||◌, not, Bool, List, [], length, take, slice_index_or, Option, None, Some, Result, Ok, Err}
use Rattle.std.specs.List.{list_any}
use Rattle.std.specs.Str.{bytes_eq}
use Rattle.pipe_topo.specs.First.{first_below}
use Rattle.pipe_text_plan.specs.declared.fault.PlanFault.{PlanFault}
use Rattle.pipe_text_plan.specs.declared.fault.PlanFault.TheVariants.{Name}
use Rattle.pipe_text_plan.specs.Name.{is_name}

-- what stands there is no name, or was there before
abbrev pub is_wrong : List (List ℕ) → ℕ → Bool
is_wrong names at =
    not (is_name (slice_index_or names at [])) || list_any (bytes_eq (slice_index_or names at [])) (take at names)

-- the first place of such a name
abbrev pub first_wrong : List (List ℕ) → Option ℕ
first_wrong names = first_below (is_wrong names) (length names)

-- the names, where none is wrong
abbrev pub numbered_unless : List (List ℕ) → Option ℕ → Result (List (List ℕ)) PlanFault
numbered_unless names (Some at) = Err (Name at)
numbered_unless names None = Ok names

-- the names, in which each has its place as its number
abbrev pub numbered : List (List ℕ) → Result (List (List ℕ)) PlanFault
numbered names = numbered_unless names (first_wrong names)
