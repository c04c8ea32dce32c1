-- What is kept of the links of a node, and what it stands for.
use Rattle.std.specs.Prelude.{◌≡◌, ℕ, ◌<◌, Bool, true, false, List, ◌∷◌, None, unwrap_or}
use Rattle.pipe_base.specs.declared.packet.Packet.{Packet}
use Rattle.pipe_base.specs.declared.packet.Plane.TheVariants as plane
use Rattle.pipe_base.specs.declared.step.Outcome.{Outcome}
use Rattle.pipe_base.specs.declared.step.Outcome.TheVariants.{Ignored}
use Rattle.pipe_graph.specs.Graph.{Graph, ins_of}
use Rattle.pipe_barrier.specs.declared.in_links.InLinks.{InLinks}
use Rattle.pipe_barrier.specs.declared.registers.Barriers.{Barriers}
use Rattle.pipe_barrier.specs.InLinks as in_links
use Rattle.pipe_model.specs.declared.record.Record.{Record}
use Rattle.pipe_model.specs.Moments.{barrier_at, known_drops, moments_of, quiet_calls}
use Rattle.pipe_model.specs.Run.{IsNodeHistory}
use Rattle.pipe_links.specs.declared.links.Links.{Links}
use Rattle.pipe_links.specs.declared.links.Receipt.{Receipt}
use Rattle.pipe_links.specs.declared.ways.Ways.{Ways}
use Rattle.pipe_links.specs.Ways.{AreWays}

-- what is kept of the in-links is what the rules say after the node's own records
abbrev pub InsStand : Graph → ℕ → List Record → InLinks → Type 0
InsStand graph node own k =
    in_links.Stands (ins_of graph node) graph.patience k (moments_of graph node own) (quiet_calls graph node own)

-- What is kept of a node's links is what the rules say after the node's own records, each of which is what the node owes.
pub record Stands (graph : Graph) (node : ℕ) (own : List Record) (k : Links) : Type 0 where
  pub node_is : k.node.0 ≡ node
  pub within : node < graph.nodes
  pub ins_are : InsStand graph node own k.ins
  pub ways_are : AreWays graph node (known_drops own) k.ways
  pub none_ahead : k.ahead ≡ None
  pub history : IsNodeHistory graph node own

-- the ways that will hold next
abbrev pub next_ways : Links → Ways
next_ways k = unwrap_or k.ahead k.ways

-- The same while a record is worked out: the ways after it are made already.
pub record StandsWith (graph : Graph) (node : ℕ) (own : List Record) (r : Record) (k : Links) : Type 0 where
  pub stands : Stands graph node own (record k { ahead = None })
  pub ahead_are : AreWays graph node (known_drops (r ∷ own)) (next_ways k)

-- these are the node's two barriers after its own records
pub record AreBarriersAt (graph : Graph) (node : ℕ) (own : List Record) (b : Barriers) : Type 0 where
  pub be_is : b.be.0 ≡ barrier_at plane.BestEffort graph node own
  pub commit_is : b.commit.0 ≡ barrier_at plane.Commit graph node own

-- a received packet, as its link and its two barriers
abbrev pub receipt_of : (ℕ × Packet) → Receipt
receipt_of q = record { link = record { 0 = q.0 }; be = q.1.be; commit = q.1.commit }

-- the packet of a take is not looked at
abbrev pub is_ignored : Outcome → Bool
is_ignored Ignored = true
is_ignored _ = false
