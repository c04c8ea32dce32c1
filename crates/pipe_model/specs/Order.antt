-- The order that the channel keeps: logs rise, stamps are above what was logged, and what is logged was sent.
use Rattle.std.specs.Prelude.{◌≡◌, ◌⊎◌, ℕ, ◌<◌, List, [], ◌∷◌, All, Some, IfSome, true, Contains}
use Rattle.pipe_base.specs.declared.message.Entry.{Entry}
use Rattle.pipe_base.specs.declared.message.Service.{Service}
use Rattle.pipe_base.specs.declared.step.Outcome.TheVariants.{Ok}
use Rattle.pipe_graph.specs.Graph.{Graph}
use Rattle.pipe_base.specs.Messages.{Before}
use Rattle.pipe_model.specs.declared.event.Event.{Event}
use Rattle.pipe_model.specs.declared.event.Event.TheVariants.{Send}
use Rattle.pipe_model.specs.declared.record.Record.{Record}
use Rattle.pipe_model.specs.Acting.{is_own, own}
use Rattle.pipe_model.specs.Logged.{log, entries_of}

-- each entry comes before all that follow it
abbrev pub IsRising : List Entry → Type 0
IsRising [] = Unit {0}
IsRising (e ∷ es) = All (λ f. Before e.key f.key) es × IsRising es

-- Log order: each log of each host rises strictly by timestamp and sender.
abbrev pub AreLogsOrdered : Graph → List Record → Type 0
AreLogsOrdered graph past = (host : ℕ) → host < graph.hosts → (service : Service)
    → IsRising (log service (own graph host past))

-- the stamp is above all that the host has logged, in both logs
abbrev pub IsAboveLogs : ℕ → List Record → Type 0
IsAboveLogs stamp own = (service : Service) → All (λ e. e.key.ts.0 < stamp) (log service own)

-- each stamp of a node is above all that it logged before
abbrev pub IsCausal : List Record → Type 0
IsCausal [] = Unit {0}
IsCausal (r ∷ own) = IsCausal own × IfSome r.step.stamped (λ ts. IsAboveLogs ts.0 own)

-- Causality: hosts stamp above all that they delivered.
abbrev pub AreStampsCausal : Graph → List Record → Type 0
AreStampsCausal graph past = (host : ℕ) → host < graph.hosts → IsCausal (own graph host past)

-- a send of this service by the entry's sender, which lists the host with the entry's body
abbrev pub IsSendTo : Service → ℕ → Entry → Event → Type 0
IsSendTo service host entry (Send src sent now dests) = (service ≡ sent)
    × ((src ≡ entry.key.src) × Contains dests (record { 0 = host }, entry.body))
IsSendTo service host entry _ = ⊥

-- the record is a send by the entry's sender that was accepted, stamped with its timestamp, and lists the host with its body
pub record IsSendOf (service : Service) (host : ℕ) (entry : Entry) (r : Record) : Type 0 where
  pub accepted : r.step.outcome ≡ Ok
  pub stamp : r.step.stamped ≡ Some entry.key.ts
  pub listed : IsSendTo service host entry r.event

-- some record of the history is the send of this entry
abbrev pub WasSent : Service → ℕ → Entry → List Record → Type 0
WasSent service host entry [] = ⊥
WasSent service host entry (r ∷ past) = IsSendOf service host entry r ⊎ WasSent service host entry past

-- what a record of this node puts into its log of a service was sent to it before
abbrev pub LoggedWasSent : Graph → ℕ → Service → Record → List Record → Type 0
LoggedWasSent graph node service r past =
    is_own graph node r ≡ true → All (λ e. WasSent service node e past) (entries_of service r.step.logged)

-- Genuineness: what is logged was sent before, to that host and with that body.
abbrev pub IsGenuine : Graph → List Record → Type 0
IsGenuine graph [] = Unit {0}
IsGenuine graph (r ∷ past) = IsGenuine graph past × ((node : ℕ) (service : Service)
    → LoggedWasSent graph node service r past)
