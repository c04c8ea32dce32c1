-- Items that are read one by one.
use Rattle.std.specs.Prelude.{ℕ, suc, List, [], ◌∷◌, Option, None, Some, Result, Ok, Err}
use Rattle.pipe_text_plan.specs.declared.fault.PlanFault.{PlanFault}

-- an item before those of the rest, or the place of the first that is not read
abbrev pub read_onto : {B : Type 0} → Option B → Result (List B) ℕ → Result (List B) ℕ
read_onto None rest = Err 0
read_onto (Some first) (Err at) = Err (suc at)
read_onto (Some first) (Ok rest) = Ok (first ∷ rest)

-- what is read of the items, or the place of the first that is not read, counted from 0
abbrev pub read_all : {A B : Type 0} → (A → Option B) → List A → Result (List B) ℕ
read_all read [] = Ok []
read_all read (item ∷ items) = read_onto (read item) (read_all read items)

-- a place as the fault that names it
abbrev pub faulted : {B : Type 0} → (ℕ → PlanFault) → Result B ℕ → Result B PlanFault
faulted fault (Err at) = Err (fault at)
faulted fault (Ok read) = Ok read
