-- A node's logs rise: what a record logs is from the barrier before it on, and what was logged before is below that.
use Rattle.std.proofs.Common.{◌≡◌, ℕ, ◌<◌, ◌≤◌, nat_lt, nat_le, List, [], ◌∷◌, ◌++◌, Option, Some, map, arith, subst, sym, ◌∙◌, ap, inl, true}
use Rattle.std.specs.List.{All}
use Rattle.std.proofs.lemmas.List.Elements.{All-nil, All-append, All-map, All-weaker, All-head, All-tail, All-filter, filter_passes}
use Rattle.std.proofs.lemmas.Bool.Decides.{nat_tests}
use Rattle.pipe_base.specs.declared.message.Entry.{Entry}
use Rattle.pipe_base.specs.declared.message.Key.{Key}
use Rattle.pipe_base.specs.declared.message.Service.{Service}
use Rattle.pipe_base.specs.declared.packet.Packet.{Packet}
use Rattle.pipe_base.specs.declared.step.Fate.{Fate}
use Rattle.pipe_base.specs.declared.step.Fate.TheVariants.{Held}
use Rattle.pipe_graph.specs.Graph.{Graph}
use Rattle.pipe_base.specs.Messages.{Messages, Before, IsInOrder, entry_of, from_barrier, below_barrier}
use Rattle.pipe_base.proofs.KeyOrder.{order_with, order_filter}
use Rattle.pipe_model.specs.declared.record.Record.{Record}
use Rattle.pipe_model.specs.Fate.{plane_of, fate_in, with_held, held}
use Rattle.pipe_model.specs.Got.{key_of, got}
use Rattle.pipe_model.specs.Logged.{passed_in, log, entries_of, standing}
use Rattle.pipe_model.specs.Moments.{barrier_at}
use Rattle.pipe_model.specs.Order.{IsRising}
use Rattle.pipe_model.specs.Run.{IsNodeHistory, IsNodeStep}
use Rattle.pipe_model.proofs.Rising.{barrier_rises}
use Rattle.pipe_model_node.proofs.Causal.{Below}
use Rattle.pipe_model.proofs.Entries.{entries_logged}

-- two lists that rise, the first below a bound and the second from it on, rise together
pub rising_both : (bound : ℕ) (xs ys : List Entry) → IsRising xs → IsRising ys → All (Below bound) xs → All (λ e. bound ≤ e.key.ts.0) ys → IsRising (xs ++ ys)
rising_both bound [] ys first second below above = second
rising_both bound (x ∷ xs) ys first second below above =
    let here : x.key.ts.0 < bound = All-head (Below bound) x xs below in
    let after : (e : Entry) → bound ≤ e.key.ts.0 → Before x.key e.key = λ e le. inl (omega arith) in (
      All-append (λ (e : Entry). Before x.key e.key) xs ys first.0
          (All-weaker (λ (e : Entry). bound ≤ e.key.ts.0) (λ (e : Entry). Before x.key e.key) after ys above),
      rising_both bound xs ys first.1 second (All-tail (Below bound) x xs below) above,
    )

-- messages in order are entries that rise
rising_entries : (ms : Messages) → IsInOrder ms → IsRising (map entry_of ms)
rising_entries [] order = tt
rising_entries (m ∷ ms) order =
    (All-map (λ (e : Entry). Before m.0 e.key) entry_of ms order.0, rising_entries ms order.1)

-- what a host holds is in order
order_more : (f : Option Fate) (o : Option Packet) (ms : Messages) → IsInOrder ms → IsInOrder (with_held f o ms)
order_more (Some Held) (Some p) ms order = order_with (key_of p) p.body ms order
order_more _ _ ms order = order

pub held_in_order : (service : Service) (graph : Graph) (node : ℕ) (own : List Record) → IsInOrder (held service graph node own)
held_in_order service graph node [] = tt
held_in_order service graph node (r ∷ own) =
    order_more (fate_in service graph node own r)
    (got service graph node own r) (held service graph node own) (held_in_order service graph node own)

-- what a record passes of a service: in order, from the barrier before on, and below the barrier after
abbrev barrier_of : Service → Graph → ℕ → List Record → ℕ
barrier_of service graph node own = barrier_at (plane_of service) graph node own

passed_rises : (service : Service) (graph : Graph) (node : ℕ) (own : List Record) (r : Record) → IsRising (map entry_of (passed_in service graph node own r))
passed_rises service graph node own r =
    rising_entries (passed_in service graph node own r)
    (order_filter _ _ (order_filter _ _ (order_filter _ _ (order_filter _ (held service graph node (r ∷ own)) (held_in_order service graph node (r ∷ own))))))

is_below : (bound : ℕ) (m : Key × List ℕ) → nat_lt m.0.ts.0 bound ≡ true → m.0.ts.0 < bound
is_below bound m is = grind (arith, nat_tests, is)

is_from : (bound : ℕ) (m : Key × List ℕ) → nat_le bound m.0.ts.0 ≡ true → bound ≤ m.0.ts.0
is_from bound m is = grind (arith, nat_tests, is)

passed_below : (service : Service) (graph : Graph) (node : ℕ) (own : List Record) (r : Record)
    → All (Below (barrier_of service graph node (r ∷ own))) (map entry_of (passed_in service graph node own r))
passed_below service graph node own r =
    let bound : ℕ = barrier_of service graph node (r ∷ own) in
    let ms : Messages = from_barrier (barrier_of service graph node own) (standing service graph node (r ∷ own)) in
    All-map (Below bound) entry_of (below_barrier bound ms)
    (All-weaker (λ (m : Key × List ℕ). nat_lt m.0.ts.0 bound ≡ true) (λ (m : Key × List ℕ). m.0.ts.0 < bound) (is_below bound) (below_barrier bound ms)
    (filter_passes (λ (m : Key × List ℕ). nat_lt m.0.ts.0 bound) ms))

passed_from : (service : Service) (graph : Graph) (node : ℕ) (own : List Record) (r : Record)
    → All (λ e. barrier_of service graph node own ≤ e.key.ts.0) (map entry_of (passed_in service graph node own r))
passed_from service graph node own r =
    let bound : ℕ = barrier_of service graph node own in
    let ms : Messages = standing service graph node (r ∷ own) in
    All-map (λ (e : Entry). bound ≤ e.key.ts.0) entry_of (passed_in service graph node own r)
    (All-filter _ (λ (m : Key × List ℕ). bound ≤ m.0.ts.0) (from_barrier bound ms)
    (All-weaker (λ (m : Key × List ℕ). nat_le bound m.0.ts.0 ≡ true) (λ (m : Key × List ℕ). bound ≤ m.0.ts.0) (is_from bound) (from_barrier bound ms)
    (filter_passes (λ (m : Key × List ℕ). nat_le bound m.0.ts.0) ms)))

-- the entries of a service in a record are what it passes
pub record Enters (service : Service) (graph : Graph) (node : ℕ) (own : List Record) (r : Record) : Type 0 where
  pub rises : IsRising (entries_of service r.step.logged)
  pub below : All (Below (barrier_of service graph node (r ∷ own))) (entries_of service r.step.logged)
  pub above : All (λ e. barrier_of service graph node own ≤ e.key.ts.0) (entries_of service r.step.logged)

abbrev Entered : Service → Graph → ℕ → List Record → Record → List Entry → Type 0
Entered service graph node own r es =
    IsRising es × All (Below (barrier_of service graph node (r ∷ own))) es × All (λ e. barrier_of service graph node own ≤ e.key.ts.0) es

entered : (service : Service) (graph : Graph) (node : ℕ) (own : List Record) (r : Record) (es : List Entry) → entries_of service r.step.logged ≡ es
    → Entered service graph node own r es → Enters service graph node own r
entered service graph node own r es is all =
    let now : Entered service graph node own r (entries_of service r.step.logged) = subst (Entered service graph node own r) (sym is) all in
    record { rises = now.0; below = now.1; above = now.2 }

enters : (service : Service) (graph : Graph) (node : ℕ) (own : List Record) (r : Record) → IsNodeStep graph node own r → Enters service graph node own r
enters service graph node own r step =
    entered service graph node own r (map entry_of (passed_in service graph node own r))
    (ap (entries_of service) step.logged_is ∙ entries_logged service graph node own r)
    (passed_rises service graph node own r, passed_below service graph node own r, passed_from service graph node own r)

-- all that a node logged is below its barrier
pub log_below_barrier : (service : Service) (graph : Graph) (node : ℕ) (own : List Record) → IsNodeHistory graph node own
    → All (Below (barrier_of service graph node own)) (log service own)
log_below_barrier service graph node [] history = All-nil (Below (barrier_of service graph node []))
log_below_barrier service graph node (r ∷ own) history =
    let rises : barrier_of service graph node own ≤ barrier_of service graph node (r ∷ own) = barrier_rises (plane_of service) graph node own r in
    let more : (e : Entry) → Below (barrier_of service graph node own) e → Below (barrier_of service graph node (r ∷ own)) e = λ e below. omega arith in
    All-append (Below (barrier_of service graph node (r ∷ own))) (log service own) (entries_of service r.step.logged)
    (All-weaker (Below (barrier_of service graph node own)) (Below (barrier_of service graph node (r ∷ own))) more (log service own)
    (log_below_barrier service graph node own history.0))
    (enters service graph node own r history.1).below

pub node_ordered : (service : Service) (graph : Graph) (node : ℕ) (own : List Record) → IsNodeHistory graph node own → IsRising (log service own)
node_ordered service graph node [] history = tt
node_ordered service graph node (r ∷ own) history =
    let e = enters service graph node own r history.1 in
    rising_both (barrier_of service graph node own) (log service own) (entries_of service r.step.logged)
    (node_ordered service graph node own history.0) e.rises (log_below_barrier service graph node own history.0) e.above
