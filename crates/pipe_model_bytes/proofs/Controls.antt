-- Each control message of a run has a spelling: its times are within the clock, its names of the network, its lists and counts
-- fit it.
use Rattle.std.proofs.Common.{◌≡◌, ℕ, ◌+◌, ◌^◌, ◌<◌, ◌≤◌, List, length, refl, arith, le_trans}
use Rattle.std.specs.List.{All}
use Rattle.std.proofs.lemmas.List.Elements.{All-weaker}
use Rattle.pipe_base.specs.declared.control.Addressed.{Addressed}
use Rattle.pipe_base.specs.declared.control.Announced.{Announced}
use Rattle.pipe_base.specs.declared.control.Control.{Control}
use Rattle.pipe_base.specs.declared.control.Control.TheVariants.{Done, Down, DropLinks, Freeze, Gone, Notice}
use Rattle.pipe_base.specs.declared.control.To.{To}
use Rattle.pipe_base.specs.declared.control.To.TheVariants.{Controller, Node}
use Rattle.pipe_base.specs.declared.name.LinkId.{LinkId}
use Rattle.pipe_graph.specs.Graph.{Graph}
use Rattle.pipe_topo.specs.Tables.{IsNetwork}
use Rattle.pipe_codec.specs.Control.{HasContents, HasTwoByteNames, IsControl, IsReceiver}
use Rattle.pipe_model.specs.declared.record.Record.{Record}
use Rattle.pipe_model.specs.declared.record.Took.{Took}
use Rattle.pipe_model.specs.declared.record.Took.TheVariants.{Message}
use Rattle.pipe_model.specs.NeverLate.{AreOfGraph}
use Rattle.pipe_model.specs.Run.{IsHistory}
use Rattle.pipe_model_bounds.specs.Numbers.{IsControlWithin, IsTimeWithin, IsTookWithin}
use Rattle.pipe_model_bounds.specs.Sizes.{IsControlSized, IsTookSized}
use Rattle.pipe_model_bounds.proofs.Numbers.{numbers_within}
use Rattle.pipe_model_bounds.proofs.Sized.{lists_sized}
use Rattle.pipe_model_names.specs.Names.{IsControlOf, IsLinkOf, IsMessageOf, IsReceiverOf, IsTookOf}
use Rattle.pipe_model_names.proofs.Names.{names_known}
use Rattle.pipe_model_bytes.specs.Spelled.{AreControlsSpelled, IsTookSpelled}

module _ (graph : Graph) (switches : ℕ) (network : IsNetwork graph switches) where
  time_fits : (n : ℕ) → n ≤ graph.top + 1 → n < 2 ^ 48
  time_fits n within = let top = network.short in omega (arith, top, within)

  node_fits : (n : ℕ) → n < graph.nodes → n < 65535
  node_fits n known =
      let halves = network.halves in let hosts = network.few_hosts in let many = network.few_switches in omega (arith, halves, hosts, many, known)

  host_fits : (n : ℕ) → n ≤ graph.hosts → n < 2 ^ 16
  host_fits n known = let hosts = network.few_hosts in omega (arith, hosts, known)

  link_fits : (n : ℕ) → n ≤ length graph.links → n < 2 ^ 16
  link_fits n known = let links = network.few_links in omega (arith, links, known)

  receiver : (to : To) → IsReceiverOf graph to → IsReceiver to
  receiver Controller known = tt
  receiver (Node n) known = node_fits n.0 known

  contents : (c : Control) → IsControlWithin graph.top c → IsControlSized graph c → HasContents c
  contents (Down link value) within sized = time_fits value.0 within
  contents (Notice list) within sized =
      (sized.some, le_trans sized.few network.few_hosts, All-weaker (IsTimeWithin graph.top) (λ (a : Announced). a.time.0 < 2 ^ 48) (λ (a : Announced) low. time_fits a.time.0 low) list within)
  contents (DropLinks links) within sized = (sized.some, le_trans sized.few network.few_links)
  contents _ within sized = tt

  names : (c : Control) → IsControlOf graph c → IsControlSized graph c → HasTwoByteNames c
  names (Down link value) known sized = link_fits link.0 (omega (arith, known))
  names (Freeze link) known sized = link_fits link.0 (omega (arith, known))
  names (Notice list) known sized =
      All-weaker (λ (a : Announced). a.host.0 < graph.hosts) (λ (a : Announced). a.host.0 < 2 ^ 16) (λ (a : Announced) low. host_fits a.host.0 (omega (arith, low))) list known
  names (Done host count) known sized = (host_fits host.0 (omega (arith, known)), host_fits count sized)
  names (DropLinks links) known sized =
      All-weaker (IsLinkOf graph) (λ (l : LinkId). l.0 < 2 ^ 16) (λ (l : LinkId) low. link_fits l.0 (omega (arith, low))) links known
  names (Gone node count) known sized = (let few = node_fits node.0 known in omega (arith, few), link_fits count sized)

  one_spelled : (a : Addressed) → IsControlWithin graph.top a.control → IsMessageOf graph a → IsControlSized graph a.control → IsControl a
  one_spelled a within named sized = record {
    sendable = record { to = receiver a.to named.receiver; contents = contents a.control within sized };
    names = names a.control named.told sized;
  }

  took_spelled : (t : Took) → IsTookWithin graph.top t → IsTookOf graph t → IsTookSized graph t → IsTookSpelled t
  took_spelled (Message a) within named sized = one_spelled a within named sized
  took_spelled _ within named sized = tt

pub controls_spelled : (graph : Graph) (switches : ℕ) (past : List Record) → IsNetwork graph switches → 0 < graph.hosts → IsHistory graph past → AreOfGraph graph past
    → AreControlsSpelled past
controls_spelled graph switches past network some run known =
    let within = numbers_within graph past run known in
    let named = names_known graph past network.is_graph some run known in
    let sized = lists_sized graph past run in
    record {
      waiting = λ k d lt. one_spelled graph switches network _ (within.control k d lt) (named.messages k d lt) (sized.control k d lt);
      received = λ k d lt. took_spelled graph switches network _ (within.records k d lt).took (named.records k d lt).took_of (sized.records k d lt).took;
    }
