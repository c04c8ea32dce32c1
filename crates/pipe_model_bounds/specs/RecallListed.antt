-- A recall goes to a receiver of the scattering that it takes back.
use Rattle.std.specs.Prelude.{◌≡◌, ℕ, true, List, Contains}
use Rattle.pipe_base.specs.declared.name.HostId.{HostId}
use Rattle.pipe_base.specs.declared.name.Ts.{Ts}
use Rattle.pipe_base.specs.declared.packet.Packet.{Packet}
use Rattle.pipe_graph.specs.Graph.{Graph}
use Rattle.pipe_base.specs.Scattering.{Scattering, SenderCall, begun}
use Rattle.pipe_base.specs.Settled.{is_recalled}
use Rattle.pipe_model.specs.declared.record.Record.{Record}
use Rattle.pipe_model.specs.Acting.{own}
use Rattle.pipe_model.specs.Packets.{OfAllPackets}
use Rattle.pipe_model.specs.Recalls.{is_recall}
use Rattle.pipe_model.specs.Sender.{sender_calls}

-- a scattering with this timestamp was begun, is recalled, and lists the host
pub record IsReceiverRecalled (calls : List SenderCall) (ts : Ts) (host : HostId) : Type 0 where
  pub scattering : Scattering
  pub sent : Contains (begun calls) scattering
  pub stamp : scattering.ts ≡ ts
  pub recalled : is_recalled calls scattering ≡ true
  pub body : List ℕ
  pub listed : Contains scattering.dests (host, body)

-- a recall belongs to such a scattering of its sender, which lists its receiver
abbrev pub IsRecallListed : Graph → List Record → Packet → Type 0
IsRecallListed graph past p = is_recall p.kind ≡ true
    → IsReceiverRecalled (sender_calls graph p.src.0 (own graph p.src.0 past)) p.ts p.dst

-- Recalls list their receivers: each that waits on a link or was received goes to a receiver of its scattering.
abbrev pub AreRecallsListed : Graph → List Record → Type 0
AreRecallsListed graph past = OfAllPackets (IsRecallListed graph past) graph past
