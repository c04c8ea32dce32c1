-- The line of a star.
use Rattle.std.specs.Prelude.{ℕ, ◌==◌, ◌||◌, if◌then◌else◌, List, [], ◌∷◌, ◌++◌, map, codes, decimal, Option, None, Some}
use Rattle.std.specs.List.{range_with_len}
use Rattle.pipe_base.specs.Limits.{most_patience, most_hosts}
use Rattle.pipe_text.specs.Number.{number_of}

-- a number of hosts and a patience, neither of them 0
abbrev pub star_with : Option ℕ → Option ℕ → Option (ℕ × ℕ)
star_with (Some hosts) (Some patience) = if (hosts == 0) || (patience == 0) then None else Some (hosts, patience)
star_with _ _ = None

-- `star N` or `star N P`: the hosts and the patience
abbrev pub star_of : List (List ℕ) → Option (ℕ × ℕ)
star_of (star ∷ hosts ∷ []) = star_with (number_of most_hosts hosts) (Some 1000)
star_of (star ∷ hosts ∷ patience ∷ []) = star_with (number_of most_hosts hosts) (number_of most_patience patience)
star_of _ = None

-- `h0`, `h1` and so on
abbrev pub host_name : ℕ → List ℕ
host_name host = codes "h" ++ decimal host

-- the hosts' names and then the switch's
abbrev pub star_names : ℕ → List (List ℕ)
star_names hosts = map host_name (range_with_len 0 hosts) ++ codes "s0" ∷ []
