-- The host that must go, as it is looked for: host by host, and the better one is kept.
use Rattle.std.specs.Prelude.{ℕ, zero, suc, if◌then◌else◌, Bool, ◌&&◌, Option, None, Some}
use Rattle.pipe_graph.specs.Graph.{Graph}
use Rattle.pipe_graph.specs.Doomed.{goes_before, has_strangers, standing_of}

-- the host is left, and must go rather than the first so far
abbrev pub goes_rather : Graph → (ℕ → Bool) → (ℕ → Bool) → Option ℕ → ℕ → Bool
goes_rather graph by left None host = left host
goes_rather graph by left (Some first) host = left host
    && goes_before (standing_of graph by left host) (standing_of graph by left first)

-- of the hosts below the bound that are left the one that must go
abbrev pub first_to_go : Graph → (ℕ → Bool) → (ℕ → Bool) → ℕ → Option ℕ
first_to_go graph by left zero = None
first_to_go graph by left (suc n) =
    if goes_rather graph by left (first_to_go graph by left n) n then Some n else first_to_go graph by left n

-- the host that the next round dooms
abbrev pub next_to_go : Graph → (ℕ → Bool) → (ℕ → Bool) → Option ℕ
next_to_go graph by left = if has_strangers graph by left then first_to_go graph by left graph.hosts else None
