-- A stamp is not below the next timestamp of its host.
use Rattle.std.proofs.Common.{◌≡◌, ℕ, ◌≤◌, List, Option, None, Some, refl, sym, ap, ◌∙◌, arith}
use Rattle.pipe_base.specs.declared.name.Ts.{Ts}
use Rattle.pipe_base.specs.declared.step.Outcome.{Outcome}
use Rattle.pipe_base.specs.declared.step.Outcome.TheVariants.{Ok}
use Rattle.pipe_base.specs.Clock.{stamp_at}
use Rattle.pipe_graph.specs.Graph.{Graph}
use Rattle.pipe_model.specs.declared.event.Event.{Event}
use Rattle.pipe_model.specs.declared.event.Event.TheVariants.{Send}
use Rattle.pipe_model.specs.declared.record.Record.{Record}
use Rattle.pipe_model.specs.Clock.{next}
use Rattle.pipe_model.specs.OwnOutcome.{own_outcome, stamped, where_ok}
use Rattle.pipe_model.specs.Run.{IsNodeStep}
use Rattle.pipe_model.specs.Sender.{accepted_stamp, where_accepted}

stamp_where : (o : Outcome) (stamp : ℕ) (ts : Ts) → where_ok o stamp ≡ Some ts → stamp ≡ ts.0
stamp_where Ok stamp ts is = cc
stamp_where _ stamp ts is = cc

pub stamp_above : (graph : Graph) (node : ℕ) (own : List Record) (event : Event) (ts : Ts) → stamped graph node own event ≡ Some ts → next graph node own ≤ ts.0
stamp_above graph node own (Send host service now dests) ts is =
    let same : stamp_at now.0 (next graph node own) ≡ ts.0 =
    stamp_where (own_outcome graph node own (Send host service now dests)) (stamp_at now.0 (next graph node own)) ts is in omega arith
stamp_above graph node own _ ts is = cc

none_accepted : (o : Outcome) → where_accepted o None ≡ None
none_accepted Ok = refl
none_accepted _ = refl

ok_accepted : (o : Outcome) (stamp : ℕ) → where_accepted o (where_ok o stamp) ≡ where_ok o stamp
ok_accepted Ok stamp = refl
ok_accepted _ stamp = refl

own_accepted : (graph : Graph) (node : ℕ) (own : List Record) (event : Event)
    → where_accepted (own_outcome graph node own event) (stamped graph node own event) ≡ stamped graph node own event
own_accepted graph node own (Send host service now dests) =
    ok_accepted (own_outcome graph node own (Send host service now dests)) (stamp_at now.0 (next graph node own))
own_accepted graph node own event = none_accepted (own_outcome graph node own event)

-- what a node stamps stands in a record whose outcome is ok
pub stamps_accepted : (graph : Graph) (node : ℕ) (own : List Record) (r : Record) → IsNodeStep graph node own r → accepted_stamp r.step ≡ r.step.stamped
stamps_accepted graph node own r step =
    ap (λ (o : Outcome). where_accepted o r.step.stamped) step.outcome_is
    ∙ ap (where_accepted (own_outcome graph node own r.event)) step.stamped_is
    ∙ own_accepted graph node own r.event ∙ sym step.stamped_is
