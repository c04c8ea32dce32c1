-- What becomes of the messages that a host gets, and what it holds.
use Rattle.std.specs.Prelude.{ℕ, Bool, false, List, [], ◌∷◌, Option, None, Some}
use Rattle.std.specs.Option.{option_or}
use Rattle.pipe_base.specs.declared.control.Announced.{Announced}
use Rattle.pipe_base.specs.declared.message.Key.{Key}
use Rattle.pipe_base.specs.declared.message.Service.{Service}
use Rattle.pipe_base.specs.declared.message.Service.TheVariants.{BestEffort, Reliable}
use Rattle.pipe_base.specs.declared.packet.Packet.{Packet}
use Rattle.pipe_base.specs.declared.packet.Plane.{Plane}
use Rattle.pipe_base.specs.declared.packet.Plane.TheVariants as plane
use Rattle.pipe_base.specs.declared.step.Fate.{Fate}
use Rattle.pipe_base.specs.declared.step.Fate.TheVariants.{Held}
use Rattle.pipe_base.specs.Failed.{time_of}
use Rattle.pipe_base.specs.Fate.{fate_of}
use Rattle.pipe_graph.specs.Graph.{Graph}
use Rattle.pipe_base.specs.Messages.{Messages, with_message}
use Rattle.pipe_model.specs.declared.record.Record.{Record}
use Rattle.pipe_model.specs.Got.{got, key_of}
use Rattle.pipe_model.specs.Moments.{barrier_at, noted_hosts}
use Rattle.pipe_model.specs.Recalls.{got_recall}

-- each service waits for the barrier of its plane
abbrev pub plane_of : Service → Plane
plane_of BestEffort = plane.BestEffort
plane_of Reliable = plane.Commit

-- the failed hosts whose messages of a service are void: reliable ones alone are
abbrev pub failed_for : Service → List Record → List Announced
failed_for BestEffort own = []
failed_for Reliable own = noted_hosts own

-- the messages of a service that were taken back: reliable ones alone are
abbrev pub recalled_for : Service → Graph → ℕ → List Record → Key → Bool
recalled_for BestEffort graph node own key = false
recalled_for Reliable graph node own key = got_recall graph node key own

-- the fate of a message, if there is one
abbrev pub fate_for : ℕ → List Announced → (Key → Bool) → Messages → Option Packet → Option Fate
fate_for barrier failed recalled held None = None
fate_for barrier failed recalled held (Some p) =
    Some (fate_of barrier (time_of p.src.0 failed) (recalled (key_of p)) held (key_of p))

-- a message with the fate held joins those that were held
abbrev pub with_held : Option Fate → Option Packet → Messages → Messages
with_held (Some Held) (Some p) held = with_message (key_of p) p.body held
with_held _ _ held = held

-- All messages of a service that ever had the fate held at the host, in the total order.
abbrev pub held : Service → Graph → ℕ → List Record → Messages
held service graph node [] = []
held service graph node (r ∷ own) =
    with_held (fate_for (barrier_at (plane_of service) graph node own) (failed_for service own) (recalled_for service graph node own) (held service graph node own)
    (got service graph node own r))
    (got service graph node own r) (held service graph node own)

-- the fate of the message of a service that the record brought, against the barrier, the failed hosts and what was taken back as they stood before
abbrev pub fate_in : Service → Graph → ℕ → List Record → Record → Option Fate
fate_in service graph node own r =
    fate_for (barrier_at (plane_of service) graph node own) (failed_for service own) (recalled_for service graph node own) (held service graph node own)
    (got service graph node own r)

-- The fate in a record: that of the message that it brought, of whichever service.
abbrev pub fate : Graph → ℕ → List Record → Record → Option Fate
fate graph node own r = option_or (fate_in BestEffort graph node own r) (fate_in Reliable graph node own r)
