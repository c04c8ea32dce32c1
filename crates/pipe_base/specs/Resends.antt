-- What a sender puts again at a tick, for the receivers that have not answered.
use Rattle.std.specs.Prelude.{not, if◌then◌else◌, List, map, filter, flat_map}
use Rattle.pipe_base.specs.declared.name.HostId.{HostId}
use Rattle.pipe_base.specs.declared.packet.Packet.{Packet}
use Rattle.pipe_base.specs.Packets.{Fields, prepare_to, recall_to}
use Rattle.pipe_base.specs.Scattering.{Scattering, SenderCall}
use Rattle.pipe_base.specs.Settled.{awaits, is_acked, is_recalled, unsettled}

-- of one scattering: where it is recalled, a recall to each receiver that is waited for; otherwise the message to each
-- receiver that has not acknowledged it
abbrev pub resends_for : List SenderCall → HostId → Fields → Scattering → List Packet
resends_for calls src f s =
    if is_recalled calls s then map (recall_to src s.ts f) (filter (λ d. awaits calls s d.0.0) s.dests)
    else map (prepare_to src s.ts f) (filter (λ d. not (is_acked calls s.ts.0 d.0.0)) s.dests)

-- Of all scatterings that are not settled, the oldest first, and of each in listed order.
abbrev pub resends : List SenderCall → HostId → Fields → List Packet
resends calls src f = flat_map (resends_for calls src f) (unsettled calls)
