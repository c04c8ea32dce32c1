-- A list that another one begins with.
use Rattle.std.specs.Prelude.{◌≡◌, ◌++◌, List}

-- the other list is this one, and perhaps more
abbrev pub Begins : {A : Type 0} → List A → List A → Type 0
Begins first all = (later : List _) × (first ++ later ≡ all)
