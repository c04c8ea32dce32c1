-- Notices tell what was announced from the first on, so hosts note it in this order.
use Rattle.std.proofs.Common.{◌≡◌, ℕ, Bool, true, false, if◌then◌else◌, List, [], ◌∷◌, ◌++◌, refl, sym, subst}
use Rattle.pipe_base.specs.declared.control.Announced.{Announced}
use Rattle.pipe_base.specs.declared.control.Addressed.{Addressed}
use Rattle.pipe_base.specs.declared.control.Control.{Control}
use Rattle.pipe_base.specs.declared.control.Control.TheVariants.{Notice}
use Rattle.pipe_graph.specs.Graph.{Graph, is_host}
use Rattle.pipe_model.specs.declared.event.Event.{Event}
use Rattle.pipe_model.specs.declared.event.Event.TheVariants.{ControlTake}
use Rattle.pipe_model.specs.declared.record.Record.{Record}
use Rattle.pipe_model.specs.declared.record.Took.{Took}
use Rattle.pipe_model.specs.declared.record.Took.TheVariants.{Message}
use Rattle.pipe_model.specs.Acting.{is_own, own}
use Rattle.pipe_model.specs.Controller.{announced}
use Rattle.pipe_model.specs.Marks.{noted_by, told_hosts}
use Rattle.pipe_model.specs.Moments.{noted_hosts}
use Rattle.pipe_model.specs.Run.{IsHistory}
use Rattle.pipe_model.proofs.Own.{own_more, own_same}
use Rattle.pipe_model_atomic.specs.Begins.{Begins}
use Rattle.pipe_model_atomic.specs.ControlTrue.{IsControlTrue}
use Rattle.pipe_model_atomic.specs.NotedFirst.{AreNotedFirst}
use Rattle.pipe_model_atomic.proofs.Times.{begins_more, begins_still, known_and_told}
use Rattle.pipe_model_atomic.proofs.Told.{taken_true}
use Rattle.pipe_model_atomic.proofs.Views.{announced_more}

told_more : (graph : Graph) (past : List Record) (known : List Announced) (control : Control) → Begins known (announced graph past) → IsControlTrue graph past control
    → Begins (known ++ told_hosts known control) (announced graph past)
told_more graph past known (Notice list) mine told = known_and_told known list (announced graph past) mine told
told_more graph past known _ mine told = begins_still known (announced graph past) mine

noted_more : (graph : Graph) (past : List Record) (known : List Announced) (event : Event) (took : Took) → Begins known (announced graph past)
    → ((m : Addressed) → took ≡ Message m → IsControlTrue graph past m.control) → Begins (known ++ noted_by known event took) (announced graph past)
noted_more graph past known (ControlTake place keep) (Message a) mine told = told_more graph past known a.control mine (told a refl)
noted_more graph past known _ _ mine told = begins_still known (announced graph past) mine

host_notes : (b : Bool) (known new all : List Announced) → Begins known all → Begins (known ++ new) all → Begins (known ++ (if b then new else [])) all
host_notes true known new all same more = more
host_notes false known new all same more = begins_still known all same

node_notes : (graph : Graph) (past : List Record) (r : Record) (node : ℕ) → IsHistory graph (r ∷ past) → AreNotedFirst graph past → is_own graph node r ≡ true
    → Begins (noted_hosts (r ∷ own graph node past)) (announced graph past)
node_notes graph past r node run before mine =
    let known : List Announced = noted_hosts (own graph node past) in
    let told : Begins (known ++ noted_by known r.event r.took) (announced graph past) =
    noted_more graph past known r.event r.took (before node) (λ (m : Addressed) took. taken_true graph past r m run took) in
    subst (λ (new : List Announced). Begins (known ++ new) (announced graph past)) (sym (run.1.node node mine).noted_is)
    (host_notes (is_host graph node) known (noted_by known r.event r.took) (announced graph past) (before node) told)

noted_by_record : (b : Bool) (graph : Graph) (past : List Record) (r : Record) (node : ℕ) → IsHistory graph (r ∷ past) → AreNotedFirst graph past → is_own graph node r ≡ b
    → Begins (noted_hosts (own graph node (r ∷ past))) (announced graph past)
noted_by_record true graph past r node run before mine =
    subst (λ (o : List Record). Begins (noted_hosts o) (announced graph past)) (sym (own_more graph node r past mine)) (node_notes graph past r node run before mine)
noted_by_record false graph past r node run before other =
    subst (λ (o : List Record). Begins (noted_hosts o) (announced graph past)) (sym (own_same graph node r past other)) (before node)

-- what is noted after a record was announced before it
pub noted_in_time : (graph : Graph) (past : List Record) (r : Record) (node : ℕ) → IsHistory graph (r ∷ past) → AreNotedFirst graph past
    → Begins (noted_hosts (own graph node (r ∷ past))) (announced graph past)
noted_in_time graph past r node run before = noted_by_record (is_own graph node r) graph past r node run before refl

pub keeps_noted_first : (graph : Graph) (past : List Record) (r : Record) → IsHistory graph (r ∷ past) → AreNotedFirst graph past → AreNotedFirst graph (r ∷ past)
keeps_noted_first graph past r run before node =
    begins_more (noted_hosts (own graph node (r ∷ past))) (announced graph past) (announced graph (r ∷ past)) (noted_in_time graph past r node run before)
    (announced_more graph past r)
