-- What a half of a switch keeps, and what it stands for.
use Rattle.std.specs.Prelude.{◌≡◌, ℕ, if◌then◌else◌, Bool, true, List, [], ◌∷◌}
use Rattle.pipe_base.specs.declared.control.Addressed.{Addressed}
use Rattle.pipe_base.specs.declared.control.Control.{Control}
use Rattle.pipe_base.specs.declared.control.To.TheVariants.{Node}
use Rattle.pipe_base.specs.declared.name.LinkId.{LinkId}
use Rattle.pipe_base.specs.declared.name.NodeId.{NodeId}
use Rattle.pipe_base.specs.declared.name.Ts.{Ts}
use Rattle.pipe_base.specs.declared.packet.Packet.{Packet}
use Rattle.pipe_base.specs.declared.step.Step.{Step}
use Rattle.pipe_base.specs.declared.step.Outcome.TheVariants.{Ok}
use Rattle.pipe_graph.specs.Graph.{Graph, ins_of, is_half}
use Rattle.pipe_base.specs.Moment.{Received}
use Rattle.pipe_base.specs.Packets.{forwarded}
use Rattle.pipe_graph.specs.ShortestRoute.{route}
use Rattle.pipe_base.specs.Step.{quiet_step}
use Rattle.pipe_base.specs.Ways.{with_beacons, with_ways}
use Rattle.pipe_barrier.specs.declared.registers.Barriers.{Barriers}
use Rattle.pipe_barrier.specs.Registers.{AreBarriers}
use Rattle.pipe_links.specs.Links as links
use Rattle.pipe_model.specs.declared.event.Event.TheVariants.{ControlTake, Take, Tick}
use Rattle.pipe_model.specs.declared.record.Record.{Record}
use Rattle.pipe_model.specs.declared.record.Took.TheVariants.{Nothing, Link, Message}
use Rattle.pipe_model.specs.Got.{is_beacon}
use Rattle.pipe_model.specs.Moments.{known_drops, moments_of}
use Rattle.pipe_model.specs.Run.{IsNodeStep}
use Rattle.pipe_switch.specs.declared.half.Half.{Half}

-- What is kept is what the rules say of this half after its own records.
pub record Stands (graph : Graph) (node : ℕ) (own : List Record) (k : Half) : Type 0 where
  pub half : is_half graph node ≡ true
  pub links_are : links.Stands graph node own k.links

-- The same while a record is worked out: the ways after it are made already.
pub record StandsWith (graph : Graph) (node : ℕ) (own : List Record) (r : Record) (k : Half) : Type 0 where
  pub half : is_half graph node ≡ true
  pub links_are : links.StandsWith graph node own r k.links

-- the step of a tick: links go down, the controller is told this, and each of the links out has a beacon with these barriers
abbrev pub beat : List LinkId → Barriers → List (LinkId × Ts) → List Addressed → Step
beat outs b downed told =
    with_beacons outs (record { be = b.be.0; commit = b.commit.0 }) (record (quiet_step Ok) { downed = downed; control = told })

-- the packets that a half owes for a packet that it received: a beacon goes no further
abbrev pub passed_on : Barriers → Packet → List Packet
passed_on b p = if is_beacon p.kind then [] else forwarded (record { be = b.be.0; commit = b.commit.0 }) p ∷ []

-- the step of a received packet: it goes on with the barriers that it leads to
pub record IsPassing (k : Half) (link : LinkId) (p : Packet) (step : Step) : Type 0 where
  pub barriers : Barriers
  pub barriers_are : (graph : Graph) (node : ℕ) (own : List Record) → links.Stands graph node own k.links
      → AreBarriers (ins_of graph node) (Received link.0 p.be.0 p.commit.0 ∷ moments_of graph node own) barriers
  pub step_is : (graph : Graph) (node : ℕ) (own : List Record) → links.Stands graph node own k.links
      → step ≡ with_ways (route graph (known_drops own) node) (passed_on barriers p) (quiet_step Ok)

-- The step is what the rules say of the record, and afterwards the half stands for its records with that one.
pub record Does (graph : Graph) (node : ℕ) (own : List Record) (r : Record) (new : Half) : Type 0 where
  pub rules : IsNodeStep graph node own r
  pub stands : Stands graph node (r ∷ own) new

-- The step is what the rules say of the record, and the half is ready to follow it.
pub record Works (graph : Graph) (node : ℕ) (own : List Record) (r : Record) (new : Half) : Type 0 where
  pub rules : IsNodeStep graph node own r
  pub stands : StandsWith graph node own r new
