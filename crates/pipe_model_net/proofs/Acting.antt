-- A record of a history is some node's own, or nobody's; then it puts no packet.
use Rattle.std.proofs.Common.{◌≡◌, ◌⊎◌, ℕ, ◌==◌, not, Bool, true, false, List, [], refl, inl, inr, ap, ◌∙◌, arith}
use Rattle.std.proofs.lemmas.Bool.{and_right}
use Rattle.pipe_base.specs.declared.control.To.{To}
use Rattle.pipe_base.specs.declared.control.To.TheVariants.{Node}
use Rattle.pipe_base.specs.declared.step.Step.{Step}
use Rattle.pipe_graph.specs.Graph.{Graph, head_of}
use Rattle.pipe_model.specs.declared.event.Event.{Event}
use Rattle.pipe_model.specs.declared.event.Event.TheVariants.{Send, Tick, Take, ControlTake, Crash}
use Rattle.pipe_model.specs.declared.record.Record.{Record}
use Rattle.pipe_model.specs.declared.record.Took.{Took}
use Rattle.pipe_model.specs.declared.record.Took.TheVariants.{Message}
use Rattle.pipe_model.specs.Acting.{acts, is_idle, is_own, is_to, reached}
use Rattle.pipe_model.specs.Controller.{view}
use Rattle.pipe_model.specs.Run.{IsStep}
use Rattle.pipe_model.proofs.Decisions.{nobodys_put}

same : (n : ℕ) → (n == n) ≡ true
same n = grind arith

-- nobody acts, or some node does
abbrev ActorOf : Graph → Event → Took → Type 0
ActorOf graph event took = ((n : ℕ) → acts graph n event took ≡ false) ⊎ ((n : ℕ) × (acts graph n event took ≡ true))

receiver : (to : To) → ((n : ℕ) → is_to n to ≡ false) ⊎ ((n : ℕ) × (is_to n to ≡ true))
receiver (Node n) = inr (n.0, same n.0)
receiver _ = inl (λ n. refl)

reader : (took : Took) → ((n : ℕ) → reached n took ≡ false) ⊎ ((n : ℕ) × (reached n took ≡ true))
reader (Message a) = receiver a.to
reader _ = inl (λ n. refl)

actor : (graph : Graph) (event : Event) (took : Took) → ActorOf graph event took
actor graph (Send host service now dests) took = inr (host.0, same host.0)
actor graph (Tick node now) took = inr (node.0, same node.0)
actor graph (Take link place keep) took = inr (head_of graph link.0, same (head_of graph link.0))
actor graph (ControlTake place keep) took = reader took
actor graph (Crash node) took = inr (node.0, same node.0)
actor graph _ took = inl (λ n. refl)

abbrev pub IsNobodys : Graph → Record → Type 0
IsNobodys graph r = (n : ℕ) → is_own graph n r ≡ false

by_actor : (idle : Bool) (graph : Graph) (r : Record) → is_idle r.step.outcome ≡ idle → ActorOf graph r.event r.took → IsNobodys graph r ⊎ ((n : ℕ) × (is_own graph n r ≡ true))
by_actor true graph r is a = inl (λ n. let awake : not (is_idle r.step.outcome) ≡ false = ap not is in and_right (acts graph n r.event r.took) (not (is_idle r.step.outcome)) awake)
by_actor false graph r is (inl nobody) = inl (λ n. rw (nobody n) refl)
by_actor false graph r is (inr a) = inr (a.0, rw (a.1, is) refl)

pub nobodys_or_own : (graph : Graph) (r : Record) → IsNobodys graph r ⊎ ((n : ℕ) × (is_own graph n r ≡ true))
nobodys_or_own graph r = by_actor (is_idle r.step.outcome) graph r refl (actor graph r.event r.took)

-- a record that is nobody's puts nothing
pub quiet_puts : (graph : Graph) (past : List Record) (r : Record) → IsStep graph past r → IsNobodys graph r → r.step.put ≡ []
quiet_puts graph past r step nobody = ap (λ (s : Step). s.put) (step.nobodys nobody) ∙ nobodys_put graph (view graph past) r.event r.step.outcome
