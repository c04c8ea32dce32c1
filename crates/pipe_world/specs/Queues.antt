-- How records move what waits in the network.
use Rattle.std.specs.Prelude.{◌≡◌, ℕ, ◌<◌, ◌-◌, if◌then◌else◌, List, [], ◌∷◌, ◌++◌, All, length, remove, slice_index_or, take, true, false}
use Rattle.pipe_base.specs.declared.control.Addressed.{Addressed}
use Rattle.pipe_base.specs.declared.name.LinkId.{LinkId}
use Rattle.pipe_base.specs.declared.packet.Packet.{Packet}
use Rattle.pipe_base.specs.declared.step.Outcome.{Outcome}
use Rattle.pipe_graph.specs.Graph.{Graph}
use Rattle.pipe_model.specs.declared.event.Event.{Event}
use Rattle.pipe_model.specs.declared.event.Event.TheVariants.{Take, Lose, ControlTake, ControlLose, Cut}
use Rattle.pipe_model.specs.declared.record.Record.{Record}
use Rattle.pipe_model.specs.Acting.{is_idle}
use Rattle.pipe_model.specs.Waiting.{is_cut, is_ok, takes_out, waiting_control, waiting_on}
use Rattle.pipe_net.specs.declared.line.Line.{Line}
use Rattle.pipe_net.specs.declared.line.Line.TheVariants.{Open, Cut as CutLine}
use Rattle.pipe_net.specs.Waits.{Waits, cut, on_link, waiting, with_packet, without_packet}

-- the links of these packets are among the first ones
abbrev pub AreKnown : ℕ → List (LinkId × Packet) → Type 0
AreKnown links puts = All (λ p. p.0.0 < links) puts

-- after packets were put on their links, in order
abbrev pub with_puts : List (LinkId × Packet) → Waits → Waits
with_puts [] waits = waits
with_puts (p ∷ ps) waits = with_puts ps (on_link p.0.0 (with_packet p.1) waits)

-- after control messages were put, in order
abbrev pub with_messages : List Addressed → Waits → Waits
with_messages messages waits = record waits { control = waits.control ++ messages }

-- after all that a record puts was put
abbrev pub with_items : Record → Waits → Waits
with_items r waits = with_messages r.step.control (with_puts r.step.put waits)

-- without the control message at a place, and without so many of the last ones
abbrev pub without_message : ℕ → Waits → Waits
without_message place waits = record waits { control = remove waits.control place }

abbrev pub without_last : ℕ → Waits → Waits
without_last count waits = record waits { control = take (length waits.control - count) waits.control }

-- after what an event takes, loses or cuts is gone
abbrev pub left_by : Event → Outcome → Waits → Waits
left_by (Take link place keep) outcome waits =
    if takes_out keep outcome then on_link link.0 (without_packet place) waits else waits
left_by (Lose link place) outcome waits = if is_ok outcome then on_link link.0 (without_packet place) waits else waits
left_by (ControlTake place keep) outcome waits = if takes_out keep outcome then without_message place waits else waits
left_by (ControlLose place) outcome waits = if is_ok outcome then without_message place waits else waits
left_by (Cut link) outcome waits = on_link link.0 cut waits
left_by _ outcome waits = waits

-- after a record
abbrev pub moved_by : Record → Waits → Waits
moved_by r waits = left_by r.event r.step.outcome (with_items r waits)

-- a packet waits at the place
abbrev pub IsThere : Waits → ℕ → ℕ → Type 0
IsThere waits link place = (link < length waits.lines) × (place < length (waiting link waits))

-- what the event takes or loses is there, unless nothing happens, and what it cuts is known
abbrev pub IsInPlace : Waits → Event → Outcome → Type 0
IsInPlace waits (Take link place keep) outcome = is_idle outcome ≡ false → IsThere waits link.0 place
IsInPlace waits (Lose link place) outcome = is_ok outcome ≡ true → IsThere waits link.0 place
IsInPlace waits (ControlTake place keep) outcome = is_idle outcome ≡ false → place < length waits.control
IsInPlace waits (ControlLose place) outcome = is_ok outcome ≡ true → place < length waits.control
IsInPlace waits (Cut link) outcome = link.0 < length waits.lines
IsInPlace waits _ outcome = Unit {0}

-- what waits on a link after the history
abbrev pub line_after : ℕ → List Record → Line
line_after link past = if is_cut link past then CutLine else Open (waiting_on link past)

-- what is kept is what waits after the history
pub record Stand (graph : Graph) (waits : Waits) (past : List Record) : Type 0 where
  pub count : length waits.lines ≡ length graph.links
  pub lines_are : (link : ℕ) → link < length graph.links
      → slice_index_or waits.lines link CutLine ≡ line_after link past
  pub control_is : waits.control ≡ waiting_control past
