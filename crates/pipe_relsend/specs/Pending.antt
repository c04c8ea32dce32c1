-- A reliable scattering that is not settled: whether it is taken back, and a mark for each receiver that has answered.
use Rattle.std.specs.Prelude.{ℕ, ◌==◌, ◌&&◌, ◌||◌, not, if◌then◌else◌, Bool, true, false, List, [], ◌∷◌, map, zip}
use Rattle.std.specs.List.{list_any}
use Rattle.pipe_base.specs.declared.control.Announced.{Announced}
use Rattle.pipe_base.specs.declared.name.HostId.{HostId}
use Rattle.pipe_base.specs.declared.name.Ts.{Ts}
use Rattle.pipe_base.specs.declared.packet.Packet.{Packet}
use Rattle.pipe_base.specs.Failed.{is_announced}
use Rattle.pipe_base.specs.Packets.{Fields, prepare_to, recall_to}

-- The receivers in listed order, and beside each whether it is marked: it has acknowledged the scattering, or, where that is
-- recalled, it is not waited for.
pub record Pending : Type 0 where
  pub ts : Ts
  pub dests : List (HostId × List ℕ)
  pub marks : List Bool
  pub recalled : Bool

-- a scattering without marks
abbrev pub started : Ts → List (HostId × List ℕ) → Pending
started ts dests = record { ts = ts; dests = dests; marks = map (λ d. false) dests; recalled = false }

-- the host is a receiver that is marked
abbrev pub is_marked : ℕ → Pending → Bool
is_marked host p = list_any (λ q. (q.0.0.0 == host) && q.1) (zip p.dests p.marks)

-- the host is a receiver that is not marked
abbrev pub is_waited_for : ℕ → Pending → Bool
is_waited_for host p = list_any (λ q. (q.0.0.0 == host) && not q.1) (zip p.dests p.marks)

-- the marks with those of the receivers that a test names
abbrev pub marked : ((HostId × List ℕ) → Bool) → List (HostId × List ℕ) → List Bool → List Bool
marked test [] marks = []
marked test (d ∷ ds) [] = []
marked test (d ∷ ds) (m ∷ ms) = (m || test d) ∷ marked test ds ms

-- the receiver is this host
abbrev pub is_host : ℕ → (HostId × List ℕ) → Bool
is_host host d = d.0.0 == host

-- the receiver is among the failed hosts
abbrev pub is_among : List Announced → (HostId × List ℕ) → Bool
is_among failed d = is_announced d.0.0 failed

-- the scattering with the mark of this host, where it is a receiver
abbrev pub with_mark : ℕ → Pending → Pending
with_mark host p = record p { marks = marked (is_host host) p.dests p.marks }

-- the scattering with the marks of the failed hosts
abbrev pub with_failed : List Announced → Pending → Pending
with_failed failed p = record p { marks = marked (is_among failed) p.dests p.marks }

-- the scattering as it is taken back: it waits for all receivers but the failed ones
abbrev pub taken_back : List Announced → Pending → Pending
taken_back failed p = with_failed failed (record (started p.ts p.dests) { recalled = true })

-- a receiver failed that is not marked
abbrev pub has_lost : List Announced → Pending → Bool
has_lost failed p = list_any (λ q. is_announced q.0.0.0 failed && not q.1) (zip p.dests p.marks)

-- some receiver is not marked
abbrev pub is_open : Pending → Bool
is_open p = list_any not p.marks

-- the receivers that are not marked
abbrev pub open_dests : List (HostId × List ℕ) → List Bool → List (HostId × List ℕ)
open_dests [] marks = []
open_dests (d ∷ ds) [] = []
open_dests (d ∷ ds) (m ∷ ms) = if m then open_dests ds ms else d ∷ open_dests ds ms

-- what is put again to a receiver: the message, or its recall
abbrev pub again_to : Bool → HostId → Ts → Fields → (HostId × List ℕ) → Packet
again_to recalled src ts f dest = if recalled then recall_to src ts f dest else prepare_to src ts f dest

-- what is put again to each receiver that is not marked, in listed order
abbrev pub owed : HostId → Fields → Pending → List Packet
owed src f p = map (again_to p.recalled src p.ts f) (open_dests p.dests p.marks)
