-- The node that a test on all nodes tells is the one that the event names.
use Rattle.std.proofs.Common.{◌≡◌, ℕ, ◌==◌, ◌<◌, Bool, false, Option, None, Some, MatchOption, IfSome, refl, sym, subst, ap, ◌∙◌, arith, eq-eqb, eqb-true}
use Rattle.pipe_base.specs.declared.control.Addressed.{Addressed}
use Rattle.pipe_base.specs.declared.control.Control.{Control}
use Rattle.pipe_base.specs.declared.control.To.{To}
use Rattle.pipe_base.specs.declared.control.To.TheVariants.{Controller, Node}
use Rattle.pipe_base.specs.declared.name.NodeId.{NodeId}
use Rattle.pipe_graph.specs.Graph.{Graph, IsGraph, head_of}
use Rattle.pipe_model.specs.declared.event.Event.{Event}
use Rattle.pipe_model.specs.declared.event.Event.TheVariants.{Send, Tick, Take, Lose, ControlTake, ControlLose, Decide, Crash, Cut}
use Rattle.pipe_model.specs.declared.record.Took.{Took}
use Rattle.pipe_model.specs.declared.record.Took.TheVariants.{Message, Nothing}
use Rattle.pipe_model.specs.Acting.{acts, is_node, is_to, reached}
use Rattle.pipe_model.specs.Event.{IsOfGraph}
use Rattle.pipe_world.specs.Turn.{ActsAt, IsItem, IsOfNobody, IsToController, IsToNode, IsUndecided, ReachesKnown}

-- what the answer says where it is this node, and where it is none
told : (P : Type 0) (Q : NodeId → Type 0) (k : ℕ) (o : Option NodeId) → ((n : ℕ) → (k == n) ≡ is_node o n) → ((id : NodeId) → id.0 ≡ k → Q id) → MatchOption o P Q
told P Q k None tells found = let same : (k == k) ≡ false = tells k in let is = eq-eqb k k refl in cc
told P Q k (Some id) tells found = found id (eqb-true id.0 k (sym (tells k) ∙ eq-eqb k k refl))

untold : (P : Type 0) (Q : NodeId → Type 0) (o : Option NodeId) → ((n : ℕ) → false ≡ is_node o n) → P → MatchOption o P Q
untold P Q None tells none = none
untold P Q (Some id) tells none = let same : false ≡ (id.0 == id.0) = tells id.0 in let is = eq-eqb id.0 id.0 refl in cc

node_id : (id n : NodeId) → id.0 ≡ n.0 → id ≡ n
node_id id n same = ap {B = NodeId} (λ (k : ℕ). record { 0 = k }) same

reached_at : (to : To) (control : Control) (o : Option NodeId) → ((n : ℕ) → is_to n to ≡ is_node o n)
    → MatchOption o (IsToController (Message (record { to = to; control = control }))) (λ id. IsToNode id (Message (record { to = to; control = control })))
reached_at Controller control o tells =
    untold (IsToController (Message (record { to = Controller; control = control }))) (λ id. IsToNode id (Message (record { to = Controller; control = control }))) o tells (control, refl)
reached_at (Node n) control o tells =
    told (IsToController (Message (record { to = Node n; control = control }))) (λ id. IsToNode id (Message (record { to = Node n; control = control }))) n.0 o tells
    (λ id same. (control, ap {B = Took} (λ (m : NodeId). Message (record { to = Node m; control = control })) (sym (node_id id n same))))

-- the node that acts, where one does
pub acts_at : (graph : Graph) (event : Event) (took : Took) (o : Option NodeId) → IsUndecided event → IsItem event took → ((n : ℕ) → acts graph n event took ≡ is_node o n)
    → MatchOption o (IsOfNobody event took) (λ id. ActsAt graph id event took)
acts_at graph (Send host service now dests) took o undecided item tells =
    told (IsOfNobody (Send host service now dests) took) (λ id. ActsAt graph id (Send host service now dests) took) host.0 o tells (λ id same. (same, item))
acts_at graph (Tick n now) took o undecided item tells =
    told (IsOfNobody (Tick n now) took) (λ id. ActsAt graph id (Tick n now) took) n.0 o tells (λ id same. (node_id id n same, item))
acts_at graph (Take link place keep) took o undecided item tells =
    told (IsOfNobody (Take link place keep) took) (λ id. ActsAt graph id (Take link place keep) took) (head_of graph link.0) o tells (λ id same. (same, item.0, item.1))
acts_at graph (ControlTake place keep) took o undecided item tells =
    subst (λ (t : Took). MatchOption o (IsToController t) (λ id. IsToNode id t)) (sym item.1)
    (reached_at item.0.to item.0.control o (subst (λ (t : Took). (n : ℕ) → reached n t ≡ is_node o n) item.1 tells))
acts_at graph (Crash n) took o undecided item tells =
    told (IsOfNobody (Crash n) took) (λ id. ActsAt graph id (Crash n) took) n.0 o tells (λ id same. (node_id id n same, item))
acts_at graph (Lose link place) took o undecided item tells = untold (IsOfNobody (Lose link place) took) (λ id. ActsAt graph id (Lose link place) took) o tells tt
acts_at graph (ControlLose place) took o undecided item tells = untold (IsOfNobody (ControlLose place) took) (λ id. ActsAt graph id (ControlLose place) took) o tells tt
acts_at graph (Cut link) took o undecided item tells = untold (IsOfNobody (Cut link) took) (λ id. ActsAt graph id (Cut link) took) o tells tt
acts_at graph Decide took o undecided item tells = absurd undecided

-- the node that acts is one of the network
known : (graph : Graph) (event : Event) (took : Took) (id : NodeId) → IsGraph graph → IsOfGraph graph event → ReachesKnown graph took → ActsAt graph id event took → id.0 < graph.nodes
known graph (Send host service now dests) took id is of_graph reaches at = omega (arith, at.0, of_graph.host_in, is.hosts_in)
known graph (Tick n now) took id is of_graph reaches at = subst (λ (m : NodeId). m.0 < graph.nodes) (sym at.0) of_graph.0
known graph (Take link place keep) took id is of_graph reaches at = subst (λ (m : ℕ). m < graph.nodes) (sym at.0) (is.heads_in link.0 of_graph)
known graph (ControlTake place keep) took id is of_graph reaches at = subst (ReachesKnown graph) at.1 reaches
known graph (Crash n) took id is of_graph reaches at = subst (λ (m : NodeId). m.0 < graph.nodes) (sym at.0) of_graph
known graph _ took id is of_graph reaches at = absurd at

pub acts_known : (graph : Graph) (event : Event) (took : Took) (o : Option NodeId) → IsGraph graph → IsOfGraph graph event → ReachesKnown graph took
    → MatchOption o (IsOfNobody event took) (λ id. ActsAt graph id event took) → IfSome o (λ id. id.0 < graph.nodes)
acts_known graph event took None is of_graph reaches at = tt
acts_known graph event took (Some id) is of_graph reaches at = known graph event took id is of_graph reaches at
