use Rattle.std.proofs.Common.{List, [], reverse, sym, subst, ap, arith}
use Rattle.std.proofs.lemmas.List.Elements.{All-nil}
use Rattle.pipe_graph.specs.Graph.{Graph}
use Rattle.pipe_graph.specs.Reach.{JoinsAllHosts}
use Rattle.pipe_model.specs.declared.record.Record.{Record}
use Rattle.pipe_model.specs.Event.{IsOfGraph}
use Rattle.pipe_net.specs.Waits.{Waits}
use Rattle.pipe_world.specs.Queues.{Stand}
use Rattle.pipe_world.specs.World.{Runs}
use Rattle.pipe_world.proofs.WaitingLists.{nothing_waits}
use Rattle.pipe_world.proofs.world.World.new.Goals as goal

pub invariant_of-result : goal.invariant_of-result
invariant_of-result c =
    let graph : Graph = c.args.topology in
    subst (λ (past : List Record). Runs graph c.in_ok-nodes.nodes.items c.in_ok-queues.queues c.in_ok-controller.controller past) (ap reverse (sym c.new-3.ensures))
    (record {
      controller_is = c.in_ok-controller.ensures;
      keeps = record {
        is_graph = c.nodes.ensures.graph;
        joined = subst JoinsAllHosts c.topology.view_is c.topology.invariant.joined;
        few_nodes = omega (arith, c.nodes.ensures.value, c.nodes.ensures.few);
        few_links = omega (arith, c.links.ensures.value, c.links.ensures.few);
        count = c.in_ok-nodes.ensures.count;
        nodes_are = c.in_ok-nodes.ensures.stand;
        queues_are = subst (λ (w : Waits). Stand graph w []) (sym c.in_ok-queues.ensures) (nothing_waits graph c.links.result c.links.ensures.value);
        rules = tt;
        names = All-nil (λ (r : Record). IsOfGraph graph r.event);
      };
    })
