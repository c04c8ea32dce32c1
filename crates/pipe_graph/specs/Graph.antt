-- The graph of a network: hosts, halves of switches, and the links between them.
use Rattle.std.specs.Prelude.{ℕ, ◌<◌, ◌≤◌, ◌==◌, nat_lt, nat_le, Bool, List, length, map, filter, slice_index_or}
use Rattle.std.specs.List.{range_with_len}
use Rattle.pipe_base.specs.declared.name.HostId.{HostId}
use Rattle.pipe_base.specs.declared.name.LinkId.{LinkId}
use Rattle.pipe_base.specs.declared.name.Link.{Link}

-- The hosts are the nodes below `hosts`, the other nodes are halves; a link is known by its place in `links`. A clock reads at
-- most `top`. The spares are hosts that are cabled and take no part yet: no network has one so far.
pub record Graph : Type 0 where
  pub hosts : ℕ
  pub nodes : ℕ
  pub links : List Link
  pub patience : ℕ
  pub top : ℕ
  pub spares : List HostId

abbrev pub no_link : Link
no_link = record { tail = record { 0 = 0 }; head = record { 0 = 0 } }

-- where a link begins and ends
abbrev pub tail_of : Graph → ℕ → ℕ
tail_of graph link = (slice_index_or graph.links link no_link).tail.0

abbrev pub head_of : Graph → ℕ → ℕ
head_of graph link = (slice_index_or graph.links link no_link).head.0

abbrev pub is_host : Graph → ℕ → Bool
is_host graph node = nat_lt node graph.hosts

abbrev pub is_half : Graph → ℕ → Bool
is_half graph node = nat_le graph.hosts node

abbrev pub link_id : ℕ → LinkId
link_id n = record { 0 = n }

abbrev pub all_links : Graph → List LinkId
all_links graph = map link_id (range_with_len 0 (length graph.links))

-- the links out of a node and into it, in rising number
abbrev pub outs_of : Graph → ℕ → List LinkId
outs_of graph node = filter (λ l. tail_of graph l.0 == node) (all_links graph)

abbrev pub ins_of : Graph → ℕ → List LinkId
ins_of graph node = filter (λ l. head_of graph l.0 == node) (all_links graph)

-- each host is a node, and each link joins two nodes
pub record IsGraph (graph : Graph) : Type 0 where
  pub hosts_in : graph.hosts ≤ graph.nodes
  pub tails_in : (l : ℕ) → l < length graph.links → tail_of graph l < graph.nodes
  pub heads_in : (l : ℕ) → l < length graph.links → head_of graph l < graph.nodes
