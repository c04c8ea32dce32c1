-- The order of the records of a history: its scatterings in that order, and all-or-none and causality told along it.
use Rattle.std.specs.Prelude.{◌≡◌, ℕ, ◌<◌, ◌&&◌, if◌then◌else◌, true, List, [], ◌∷◌, ◌++◌, length, map, All, IfSome}
use Rattle.pipe_base.specs.Scattering.{Scattering, begun}
use Rattle.pipe_graph.specs.Graph.{Graph, is_host}
use Rattle.pipe_model.specs.declared.event.Event.{Event}
use Rattle.pipe_model.specs.declared.event.Event.TheVariants.{Send}
use Rattle.pipe_model.specs.declared.record.Record.{Record}
use Rattle.pipe_model.specs.Acting.{is_own, own}
use Rattle.pipe_model.specs.AllOrNone.{IsInAllOrNone, IsPassed, key_from}
use Rattle.pipe_model.specs.Order.{IsAboveLogs}
use Rattle.pipe_model.specs.Sender.{accepted_stamp, with_begun}

-- a reliable scattering, its sender, and the number of the record that began it
pub record NumberedScattering : Type 0 where
  pub number : ℕ
  pub host : ℕ
  pub scattering : Scattering

-- the host that sends, where one does
abbrev pub sender_of : Event → ℕ
sender_of (Send host service now dests) = host.0
sender_of _ = 0

-- the scattering that a host begins in this record, if it begins one
abbrev pub numbered_in : Graph → ℕ → Record → List NumberedScattering
numbered_in graph number r =
    if is_host graph (sender_of r.event) && is_own graph (sender_of r.event) r
    then map (λ s. record { number = number; host = sender_of r.event; scattering = s })
    (begun (with_begun r.event (accepted_stamp r.step) []))
    else []

-- All reliable scatterings of a history, in the order of its records, which are numbered from 0.
abbrev pub scatterings : Graph → List Record → List NumberedScattering
scatterings graph [] = []
scatterings graph (r ∷ past) = scatterings graph past ++ numbered_in graph (length past) r

-- All or none, scattering by scattering in the order of the records.
abbrev pub IsAllOrNoneInOrder : Graph → List Record → Type 0
IsAllOrNoneInOrder graph past =
    All (λ s. IsPassed graph past s.scattering
    → IsInAllOrNone graph past s.scattering (key_from s.host s.scattering)) (scatterings graph past)

-- the stamp of the record is above all that its host logged before
abbrev pub IsCausalIn : Graph → List Record → Record → Type 0
IsCausalIn graph past r = (host : ℕ) → host < graph.hosts → is_own graph host r ≡ true
    → IfSome r.step.stamped (λ ts. IsAboveLogs ts.0 (own graph host past))

-- Causality, record by record.
abbrev pub IsCausalInOrder : Graph → List Record → Type 0
IsCausalInOrder graph [] = Unit {0}
IsCausalInOrder graph (r ∷ past) = IsCausalInOrder graph past × IsCausalIn graph past r
