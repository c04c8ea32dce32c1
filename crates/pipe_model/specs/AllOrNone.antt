-- All or none: what all correct receivers have passed is in all their logs, or in none.
use Rattle.std.specs.Prelude.{◌≡◌, ◌⊎◌, ℕ, ◌<◌, Bool, true, false, List, All}
use Rattle.std.specs.List.{list_any}
use Rattle.pipe_base.specs.declared.message.Key.{Key}
use Rattle.pipe_base.specs.declared.message.Service.TheVariants.{Reliable}
use Rattle.pipe_base.specs.declared.packet.Plane.TheVariants.{Commit}
use Rattle.pipe_graph.specs.Graph.{Graph}
use Rattle.pipe_base.specs.Messages.{same_key}
use Rattle.pipe_base.specs.Scattering.{Scattering, begun}
use Rattle.pipe_model.specs.declared.record.Record.{Record}
use Rattle.pipe_model.specs.Acting.{own}
use Rattle.pipe_model.specs.Correct.{IsCorrect}
use Rattle.pipe_model.specs.Logged.{log}
use Rattle.pipe_model.specs.Moments.{barrier_at}
use Rattle.pipe_model.specs.Sender.{sender_calls}

-- the key of a host's scattering at all its receivers
abbrev pub key_from : ℕ → Scattering → Key
key_from host s = record { ts = s.ts; src = record { 0 = host } }

-- a node's reliable log has an entry with this key
abbrev pub has_logged : Key → List Record → Bool
has_logged key own = list_any (λ e. same_key e.key key) (log Reliable own)

-- the commit barrier of each correct receiver is above the scattering's timestamp
abbrev pub IsPassed : Graph → List Record → Scattering → Type 0
IsPassed graph past s = All (λ d. IsCorrect graph past d.0.0
    → s.ts.0 < barrier_at Commit graph d.0.0 (own graph d.0.0 past)) s.dests

-- it is in the log of each correct receiver, or in the log of none
abbrev pub AreAlike : Graph → List Record → Scattering → Key → Bool → Type 0
AreAlike graph past s key there = All (λ d. IsCorrect graph past d.0.0
    → has_logged key (own graph d.0.0 past) ≡ there) s.dests

abbrev pub IsInAllOrNone : Graph → List Record → Scattering → Key → Type 0
IsInAllOrNone graph past s key = AreAlike graph past s key true ⊎ AreAlike graph past s key false

-- All or none: a host's reliable scattering that the commit barriers of all its correct receivers have passed is in all their
-- logs, or in none.
abbrev pub IsAllOrNone : Graph → List Record → Type 0
IsAllOrNone graph past =
    (host : ℕ) → host < graph.hosts
    → All (λ s. IsPassed graph past s
    → IsInAllOrNone graph past s (key_from host s)) (begun (sender_calls graph host (own graph host past)))
