-- Logging in the passing step: what a host's barrier passes is logged in that very record, unless it is late, void or taken back.
use Rattle.std.specs.Prelude.{◌≡◌, ℕ, true, false, List, [], ◌∷◌}
use Rattle.pipe_graph.specs.Graph.{Graph}
use Rattle.pipe_model.specs.declared.record.Record.{Record}
use Rattle.pipe_model.specs.Acting.{is_own, own}
use Rattle.pipe_model.specs.Logged.{logged}

-- each record of a node logs exactly what its barriers pass in it of the messages that stand, and any other record nothing
abbrev pub IsLoggedOnTime : Graph → List Record → Type 0
IsLoggedOnTime graph [] = Unit {0}
IsLoggedOnTime graph (r ∷ past) =
    IsLoggedOnTime graph past
    × ((n : ℕ) → is_own graph n r ≡ true → r.step.logged ≡ logged graph n (own graph n past) r)
    × (((n : ℕ) → is_own graph n r ≡ false) → r.step.logged ≡ [])
