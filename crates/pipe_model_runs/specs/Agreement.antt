-- Agreement: hosts that logged the same messages did so in the same order.
use Rattle.std.specs.Prelude.{◌≡◌, ◌⊎◌, ℕ, ◌<◌, List, [], ◌∷◌}
use Rattle.pipe_base.specs.declared.message.Entry.{Entry}
use Rattle.pipe_base.specs.declared.message.Key.{Key}
use Rattle.pipe_base.specs.declared.message.Service.{Service}
use Rattle.pipe_graph.specs.Graph.{Graph}
use Rattle.pipe_model.specs.declared.record.Record.{Record}
use Rattle.pipe_model.specs.Acting.{own}
use Rattle.pipe_model.specs.Logged.{log}

-- An entry has this key. Messages of one scattering have one key, whoever receives them.
abbrev pub HasKey : Key → List Entry → Type 0
HasKey key [] = ⊥
HasKey key (e ∷ es) = (e.key ≡ key) ⊎ HasKey key es

-- an entry with the first key stands before one with the second
abbrev pub StandsBefore : Key → Key → List Entry → Type 0
StandsBefore a b [] = ⊥
StandsBefore a b (e ∷ es) = ((e.key ≡ a) × HasKey b es) ⊎ StandsBefore a b es

-- What two hosts both logged of a service, they logged in the same order.
abbrev pub DoHostsAgree : Graph → List Record → Type 0
DoHostsAgree graph past = (service : Service) (one other : ℕ) (a b : Key) → one < graph.hosts → other < graph.hosts
    → HasKey a (log service (own graph other past)) → HasKey b (log service (own graph other past))
    → StandsBefore a b (log service (own graph one past)) → StandsBefore a b (log service (own graph other past))
