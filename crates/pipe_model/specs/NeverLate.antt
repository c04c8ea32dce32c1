-- Ordered links, and best effort that is never late.
use Rattle.std.specs.Prelude.{◌≡◌, Bool, true, false, List, All, Option, Some}
use Rattle.pipe_base.specs.declared.message.Service.TheVariants.{BestEffort}
use Rattle.pipe_base.specs.declared.step.Fate.{Fate}
use Rattle.pipe_base.specs.declared.step.Fate.TheVariants.{Late}
use Rattle.pipe_graph.specs.Graph.{Graph}
use Rattle.pipe_model.specs.declared.event.Event.{Event}
use Rattle.pipe_model.specs.declared.event.Event.TheVariants.{Take}
use Rattle.pipe_model.specs.declared.record.Record.{Record}
use Rattle.pipe_model.specs.declared.record.Took.{Took}
use Rattle.pipe_model.specs.declared.record.Took.TheVariants.{Link}
use Rattle.pipe_model.specs.Event.{IsOfGraph}
use Rattle.pipe_model.specs.Got.{carries}

-- a take names the oldest packet that waits, and every other event is free
abbrev pub IsOfOldest : Event → Type 0
IsOfOldest (Take link place keep) = place ≡ 0
IsOfOldest _ = Unit {0}

-- Ordered links: each take takes the oldest packet that waits. Packets may be lost anywhere, and copies may stay.
abbrev pub AreLinksOrdered : List Record → Type 0
AreLinksOrdered past = All (λ r. IsOfOldest r.event) past

-- the events are of the network
abbrev pub AreOfGraph : Graph → List Record → Type 0
AreOfGraph graph past = All (λ r. IsOfGraph graph r.event) past

-- a packet with a best-effort message was taken
abbrev pub took_best : Took → Bool
took_best (Link link p) = carries BestEffort p.kind
took_best _ = false

abbrev pub is_late : Option Fate → Bool
is_late (Some (Late barrier)) = true
is_late _ = false

-- Never late: no record has the fate late for a best-effort message.
abbrev pub IsNeverLate : List Record → Type 0
IsNeverLate past = All (λ r. took_best r.took ≡ true → is_late r.step.fate ≡ false) past
