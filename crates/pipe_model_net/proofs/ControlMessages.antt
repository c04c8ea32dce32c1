-- The principle of control messages: what stays true along a run, and holds of each message as it is put, holds of each that
-- waits, and so of each that is taken.
use Rattle.std.proofs.Common.{◌≡◌, ℕ, if◌then◌else◌, Bool, true, false, List, [], ◌∷◌, Option, None, Some, refl, sym, ap, ◌∙◌}
use Rattle.std.specs.List.{All, remove, slice_get}
use Rattle.std.proofs.lemmas.List.Elements.{All-nil, All-append, All-weaker}
use Rattle.pipe_base.specs.declared.control.Addressed.{Addressed}
use Rattle.pipe_base.specs.declared.name.LinkId.{LinkId}
use Rattle.pipe_base.specs.declared.packet.Packet.{Packet}
use Rattle.pipe_base.specs.declared.step.Outcome.{Outcome}
use Rattle.pipe_graph.specs.Graph.{Graph}
use Rattle.pipe_model.specs.declared.event.Event.{Event}
use Rattle.pipe_model.specs.declared.event.Event.TheVariants.{ControlLose, ControlTake, Take}
use Rattle.pipe_model.specs.declared.record.Record.{Record}
use Rattle.pipe_model.specs.declared.record.Took.TheVariants.{Message, Nothing}
use Rattle.pipe_model.specs.Acting.{is_idle}
use Rattle.pipe_model.specs.Outcome.{item_at, outcome_of, took_at, took_message}
use Rattle.pipe_model.specs.Run.{IsHistory, IsStep}
use Rattle.pipe_model.specs.Waiting.{control_left, is_ok, takes_out, waiting_control, waiting_on}
use Rattle.pipe_model_net.proofs.Packets.{at_place, chosen, removed}

-- ---- what waits

-- an event only takes from what waits
control_left_all : (P : Addressed → Type 0) (event : Event) (outcome : Outcome) (ms : List Addressed) → All P ms → All P (control_left event outcome ms)
control_left_all P (ControlTake place keep) outcome ms all = chosen (takes_out keep outcome) P (remove ms place) ms (removed P ms place all) all
control_left_all P (ControlLose place) outcome ms all = chosen (is_ok outcome) P (remove ms place) ms (removed P ms place all) all
control_left_all P _ outcome ms all = all

-- what is asked of a property: it stays, and holds of what a record puts
pub record IsKeptMessage (graph : Graph) (Q : List Record → Addressed → Type 0) : Type 0 where
  pub stays : (past : List Record) (r : Record) (m : Addressed) → IsStep graph past r → Q past m → Q (r ∷ past) m
  pub starts : (past : List Record) (r : Record) → IsHistory graph past → IsStep graph past r → All (Q (r ∷ past)) r.step.control

pub messages_keep : (graph : Graph) (Q : List Record → Addressed → Type 0) → IsKeptMessage graph Q → (past : List Record) → IsHistory graph past
    → All (Q past) (waiting_control past)
messages_keep graph Q kept [] run = All-nil (Q [])
messages_keep graph Q kept (r ∷ past) run =
    All-append (Q (r ∷ past)) (control_left r.event r.step.outcome (waiting_control past)) r.step.control
    (control_left_all (Q (r ∷ past)) r.event r.step.outcome (waiting_control past)
    (All-weaker (Q past) (Q (r ∷ past)) (λ (m : Addressed) holds. kept.stays past r m run.1 holds) (waiting_control past) (messages_keep graph Q kept past run.0)))
    (kept.starts past r run.0 run.1)

-- ---- what is taken

-- the message that a record took waited
pub record MessageWaited (past : List Record) (m : Addressed) : Type 0 where
  pub place : ℕ
  pub waited : slice_get (waiting_control past) place ≡ Some m

found : (past : List Record) (place : ℕ) (o : Option Addressed) (m : Addressed) → slice_get (waiting_control past) place ≡ o → took_message o ≡ Message m → MessageWaited past m
found past place None m is took = cc
found past place (Some a) m is took = let same : a ≡ m = cc in record { place = place; waited = is ∙ ap (λ (x : Addressed). Some x) same }

no_packet : (past : List Record) (link : LinkId) (o : Option Packet) (m : Addressed) → took_at link o ≡ Message m → MessageWaited past m
no_packet past link None m took = cc
no_packet past link (Some p) m took = cc

item_by : (past : List Record) (event : Event) (m : Addressed) → item_at past event ≡ Message m → MessageWaited past m
item_by past (ControlTake place keep) m took = found past place (slice_get (waiting_control past) place) m refl took
item_by past (Take link place keep) m took = no_packet past link (slice_get (waiting_on link.0 past) place) m took
item_by past _ m took = cc

took_by : (idle : Bool) (past : List Record) (event : Event) (m : Addressed) → (if idle then Nothing else item_at past event) ≡ Message m → MessageWaited past m
took_by true past event m took = cc
took_by false past event m took = item_by past event m took

pub message_waited : (graph : Graph) (past : List Record) (r : Record) (m : Addressed) → IsStep graph past r → r.took ≡ Message m → MessageWaited past m
message_waited graph past r m step took = took_by (is_idle (outcome_of graph past r.event)) past r.event m (sym step.took_is ∙ took)

-- so what holds of each that waits holds of the one that is taken
pub taken_message : (graph : Graph) (P : Addressed → Type 0) (past : List Record) (r : Record) (m : Addressed) → IsStep graph past r → All P (waiting_control past)
    → r.took ≡ Message m → P m
taken_message graph P past r m step all took =
    let w = message_waited graph past r m step took in at_place P (waiting_control past) w.place m all w.waited
