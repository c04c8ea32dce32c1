-- What a node received, and the moments of its in-links, from its own records.
use Rattle.std.specs.Prelude.{ℕ, ◌==◌, ◌&&◌, if◌then◌else◌, List, [], ◌∷◌, ◌++◌, Option, None, Some}
use Rattle.pipe_base.specs.declared.name.LinkId.{LinkId}
use Rattle.pipe_base.specs.declared.name.Ts.{Ts}
use Rattle.pipe_base.specs.declared.control.Announced.{Announced}
use Rattle.pipe_base.specs.declared.packet.Packet.{Packet}
use Rattle.pipe_base.specs.declared.packet.Plane.{Plane}
use Rattle.pipe_base.specs.declared.step.Step.{Step}
use Rattle.pipe_graph.specs.Graph.{Graph, ins_of}
use Rattle.pipe_base.specs.Entries.{with_entries}
use Rattle.pipe_base.specs.Moment.{Moment, is_up, keeps_links, with_received, with_downed}
use Rattle.pipe_base.specs.Silence.{QuietCall, Took as TookOn, Ticked}
use Rattle.pipe_base.specs.Barrier.{barrier}
use Rattle.pipe_model.specs.declared.event.Event.{Event}
use Rattle.pipe_model.specs.declared.event.Event.TheVariants.{Take, Tick}
use Rattle.pipe_model.specs.declared.record.Record.{Record}
use Rattle.pipe_model.specs.declared.record.Took.{Took}
use Rattle.pipe_model.specs.declared.record.Took.TheVariants.{Link}

-- the packet that a take of a link brings, where the link is up
abbrev pub taken_from : List Moment → ℕ → Took → Option (ℕ × Packet)
taken_from past link (Link l p) = if (l.0 == link) && is_up past link then Some (link, p) else None
taken_from past link _ = None

-- the packet received, with its link: a take of that link that is up
abbrev pub received_of : List Moment → Event → Took → Option (ℕ × Packet)
received_of past (Take link place keep) took = taken_from past link.0 took
received_of past _ took = None

-- the moments of a step at a node with these in-links: the packet received, then each link that went down, then each entry of
-- what was dropped
abbrev pub moments_after : List LinkId → List Moment → Event → Took → Step → List Moment
moments_after ins past event took step =
    with_entries ins step.dropped (with_downed step.downed (with_received (keeps_links step.downed step.dropped) (received_of past event took) past))

-- all moments of a node, from its own records
abbrev pub moments_of : Graph → ℕ → List Record → List Moment
moments_of graph node [] = []
moments_of graph node (r ∷ own) = moments_after (ins_of graph node) (moments_of graph node own) r.event r.took r.step

-- what the record received, after the node's own records before it
abbrev pub received : Graph → ℕ → List Record → Record → Option (ℕ × Packet)
received graph node own r = received_of (moments_of graph node own) r.event r.took

-- the reading of a tick
abbrev pub tick_of : Event → Option Ts
tick_of (Tick node now) = Some now
tick_of _ = None

-- what the silence of in-links rests on in a record: the link on which it received, or the reading of its tick
abbrev pub with_quiet : Option (ℕ × Packet) → Option Ts → List QuietCall → List QuietCall
with_quiet (Some q) tick past = TookOn q.0 ∷ past
with_quiet None (Some now) past = Ticked now.0 ∷ past
with_quiet None None past = past

-- the receipts and ticks of a node, from its own records
abbrev pub quiet_calls : Graph → ℕ → List Record → List QuietCall
quiet_calls graph node [] = []
quiet_calls graph node (r ∷ own) = with_quiet (received graph node own r) (tick_of r.event) (quiet_calls graph node own)

-- the node's barrier in a plane after its own records
abbrev pub barrier_at : Plane → Graph → ℕ → List Record → ℕ
barrier_at plane graph node own = barrier plane (ins_of graph node) (moments_of graph node own)

-- the failed hosts that a host has noted, in the order of coming to know
abbrev pub noted_hosts : List Record → List Announced
noted_hosts [] = []
noted_hosts (r ∷ own) = noted_hosts own ++ r.step.noted

-- the links that a node knows as dropped, in the order of coming to know
abbrev pub known_drops : List Record → List LinkId
known_drops [] = []
known_drops (r ∷ own) = known_drops own ++ r.step.dropped
