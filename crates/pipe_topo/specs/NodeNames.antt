-- The names of the nodes of a network.
use Rattle.std.specs.Prelude.{ℕ, zero, suc, ◌==◌, Bool, List, [], ◌∷◌, ◌++◌, codes}
use Rattle.std.specs.List.{flat_map, list_any}

-- a dot stands in the name
abbrev pub has_dot : List ℕ → Bool
has_dot name = list_any (λ byte. byte == 46) name

-- the names of a switch's up half and of its down half
abbrev pub half_names : List ℕ → List (List ℕ)
half_names switch = (switch ++ codes ".up") ∷ (switch ++ codes ".down") ∷ []

-- the names of the nodes in their order, where so many hosts' names come first and then the switches': two for each switch
abbrev pub node_names : ℕ → List (List ℕ) → List (List ℕ)
node_names zero switches = flat_map half_names switches
node_names (suc hosts) [] = []
node_names (suc hosts) (host ∷ names) = host ∷ node_names hosts names
