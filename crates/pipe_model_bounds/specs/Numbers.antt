-- The numbers of a run are within the clock: no stamp is above the top of the network, and all other numbers of time are at most
-- one above it.
use Rattle.std.specs.Prelude.{◌≡◌, ℕ, ◌+◌, ◌≤◌, List, All, Option, Some, IfSome}
use Rattle.pipe_base.specs.declared.control.Announced.{Announced}
use Rattle.pipe_base.specs.declared.control.Control.{Control}
use Rattle.pipe_base.specs.declared.control.Control.TheVariants.{Down, Notice}
use Rattle.pipe_base.specs.declared.message.Service.{Service}
use Rattle.pipe_base.specs.declared.name.LinkId.{LinkId}
use Rattle.pipe_base.specs.declared.name.Ts.{Ts}
use Rattle.pipe_base.specs.declared.packet.Packet.{Packet}
use Rattle.pipe_base.specs.declared.packet.Plane.{Plane}
use Rattle.pipe_base.specs.declared.step.Fate.{Fate}
use Rattle.pipe_base.specs.declared.step.Fate.TheVariants.{Discarded, Late}
use Rattle.pipe_base.specs.declared.step.Outcome.{Outcome}
use Rattle.pipe_base.specs.declared.step.Outcome.TheVariants.{ClockEnd}
use Rattle.pipe_base.specs.declared.step.Step.{Step}
use Rattle.pipe_graph.specs.Graph.{Graph}
use Rattle.pipe_model.specs.declared.record.Record.{Record}
use Rattle.pipe_model.specs.declared.record.Took.{Took}
use Rattle.pipe_model.specs.declared.record.Took.TheVariants.{Link, Message}
use Rattle.pipe_model.specs.Acting.{own}
use Rattle.pipe_model.specs.Clock.{next, promise}
use Rattle.pipe_model.specs.Controller.{announced, view}
use Rattle.pipe_model.specs.Fate.{held}
use Rattle.pipe_model.specs.Marks.{marks}
use Rattle.pipe_model.specs.Moments.{barrier_at, noted_hosts}
use Rattle.pipe_model.specs.Packets.{OfAllPackets}
use Rattle.pipe_model.specs.Waiting.{waiting_control}

-- a number of time: at most one above the top
abbrev pub IsWithin : ℕ → Ts → Type 0
IsWithin top ts = ts.0 ≤ top + 1

-- the mark of a link, and the time of a host that was announced
abbrev pub IsMarkWithin : ℕ → (LinkId × Ts) → Type 0
IsMarkWithin top mark = IsWithin top mark.1

abbrev pub IsTimeWithin : ℕ → Announced → Type 0
IsTimeWithin top announced = IsWithin top announced.time

-- the timestamp of a packet is a stamp, its barriers are numbers of time
pub record IsPacketWithin (top : ℕ) (p : Packet) : Type 0 where
  pub stamp : p.ts.0 ≤ top
  pub best_effort : IsWithin top p.be
  pub commit : IsWithin top p.commit

-- what a control message tells of times
abbrev pub IsControlWithin : ℕ → Control → Type 0
IsControlWithin top (Down link value) = IsWithin top value
IsControlWithin top (Notice list) = All (IsTimeWithin top) list
IsControlWithin top _ = Unit {0}

-- what was taken
abbrev pub IsTookWithin : ℕ → Took → Type 0
IsTookWithin top (Link link p) = IsPacketWithin top p
IsTookWithin top (Message a) = IsControlWithin top a.control
IsTookWithin top _ = Unit {0}

abbrev pub IsOutcomeWithin : ℕ → Outcome → Type 0
IsOutcomeWithin top (ClockEnd next) = IsWithin top next
IsOutcomeWithin top _ = Unit {0}

abbrev pub IsFateWithin : ℕ → Option Fate → Type 0
IsFateWithin top (Some (Late barrier)) = IsWithin top barrier
IsFateWithin top (Some (Discarded time)) = IsWithin top time
IsFateWithin top _ = Unit {0}

-- all that a step tells
pub record IsStepWithin (top : ℕ) (step : Step) : Type 0 where
  pub stamped : IfSome step.stamped (λ ts. ts.0 ≤ top)
  pub outcome : IsOutcomeWithin top step.outcome
  pub fate : IsFateWithin top step.fate
  pub downed : All (IsMarkWithin top) step.downed
  pub noted : All (IsTimeWithin top) step.noted
  pub logged : All (λ e. e.1.key.ts.0 ≤ top) step.logged
  pub put : All (λ q. IsPacketWithin top q.1) step.put
  pub control : All (λ a. IsControlWithin top a.control) step.control

pub record IsRecordWithin (top : ℕ) (r : Record) : Type 0 where
  pub took : IsTookWithin top r.took
  pub step : IsStepWithin top r.step

-- what a node knows: its next timestamp and what it promises, its barriers, what it holds, its marks, and whom it noted
pub record IsNodeWithin (graph : Graph) (node : ℕ) (own : List Record) : Type 0 where
  pub next : next graph node own ≤ graph.top + 1
  pub promise : promise graph node own ≤ graph.top + 1
  pub barrier : (plane : Plane) → barrier_at plane graph node own ≤ graph.top + 1
  pub held : (service : Service) → All (λ m. m.0.ts.0 ≤ graph.top) (held service graph node own)
  pub marks : All (IsMarkWithin graph.top) (marks own)
  pub noted : All (IsTimeWithin graph.top) (noted_hosts own)

-- All numbers of a run are within the clock: of each packet and control message that waits or was received, of each record, and
-- of what each node and the controller know.
pub record AreNumbersWithin (graph : Graph) (past : List Record) : Type 0 where
  pub packets : OfAllPackets (IsPacketWithin graph.top) graph past
  pub control : All (λ a. IsControlWithin graph.top a.control) (waiting_control past)
  pub records : All (IsRecordWithin graph.top) past
  pub nodes : (node : ℕ) → IsNodeWithin graph node (own graph node past)
  pub announced : All (IsTimeWithin graph.top) (announced graph past)
  pub reports : (link : ℕ) (value : Ts) → (view graph past).reports link ≡ Some value → IsWithin graph.top value
