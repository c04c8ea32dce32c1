-- The stamps of a host are within the clock, and what it logs is below the end of the type.
use Rattle.std.proofs.Common.{◌≡◌, ℕ, ◌-◌, ◌^◌, ◌<◌, ◌≤◌, nat_le, Bool, true, false, List, ◌∷◌, ◌++◌, Option, None, Some, IfSome, refl, sym, subst, arith}
use Rattle.std.proofs.lemmas.Bool.Decides.{nat_tests}
use Rattle.std.proofs.lemmas.List.Elements.{All-append, All-weaker}
use Rattle.pipe_base.specs.declared.control.Announced.{Announced}
use Rattle.pipe_base.specs.declared.message.Entry.{Entry}
use Rattle.pipe_base.specs.declared.message.Key.{Key}
use Rattle.pipe_base.specs.declared.message.Service.{Service}
use Rattle.pipe_base.specs.declared.message.Service.TheVariants.{BestEffort, Reliable}
use Rattle.pipe_base.specs.declared.name.HostId.{HostId}
use Rattle.pipe_base.specs.declared.name.Ts.{Ts}
use Rattle.pipe_base.specs.declared.packet.Plane.TheVariants as plane
use Rattle.pipe_base.specs.Clock.{stamp_at}
use Rattle.pipe_graph.specs.Graph.{Graph}
use Rattle.pipe_base.specs.Messages.{AreBelow, Messages, below_barrier, from_barrier, logged_of}
use Rattle.pipe_base.specs.Settled.{unsettled}
use Rattle.pipe_base.proofs.MessageLaws.{logged-below}
use Rattle.pipe_model.specs.declared.event.Event.{Event}
use Rattle.pipe_model.specs.declared.event.Event.TheVariants.{Send}
use Rattle.pipe_model.specs.declared.record.Record.{Record}
use Rattle.pipe_model.specs.Clock.{next}
use Rattle.pipe_model.specs.Logged.{logged, passed_in, standing}
use Rattle.pipe_model.specs.Moments.{barrier_at, noted_hosts}
use Rattle.pipe_model.specs.OwnOutcome.{clock_outcome, first_failed, is_window_full, send_outcome, stamped, where_ok}
use Rattle.pipe_model.specs.Sender.{sender_calls}
use Rattle.pipe_reorder.specs.Buffer.{let_out}
use Rattle.pipe_reorder.proofs.Walks.{out-below}

-- what a barrier within the type lets out is below the end of the type
pub out_below_end : (b : ℕ) (s : Service) (failed : List Announced) (stones : List Key) (ms : Messages) → b ≤ 2 ^ 64 - 1 → AreBelow (2 ^ 64 - 1) (let_out s failed stones b ms)
out_below_end b s failed stones ms within =
    All-weaker (λ (e : Service × Entry). e.1.key.ts.0 < b) (λ (e : Service × Entry). e.1.key.ts.0 < 2 ^ 64 - 1) (λ e lt. omega (arith, lt, within)) (let_out s failed stones b ms) (out-below s failed stones b ms)

-- what is below a barrier is below the end of the type, as the barrier is within it
pub below_end : (b : ℕ) (s : Service) (ms : Messages) → b ≤ 2 ^ 64 - 1 → AreBelow (2 ^ 64 - 1) (logged_of s (below_barrier b ms))
below_end b s ms within =
    All-weaker (λ (e : Service × Entry). e.1.key.ts.0 < b) (λ (e : Service × Entry). e.1.key.ts.0 < 2 ^ 64 - 1) (λ e lt. omega (arith, lt, within)) (logged_of s (below_barrier b ms)) (logged-below s b ms)

pub both_below_end : (xs ys : List (Service × Entry)) → AreBelow (2 ^ 64 - 1) xs → AreBelow (2 ^ 64 - 1) ys → AreBelow (2 ^ 64 - 1) (xs ++ ys)
both_below_end xs ys below more = All-append (λ (e : Service × Entry). e.1.key.ts.0 < 2 ^ 64 - 1) xs ys below more

short_by : (b : Bool) (top now next : ℕ) → nat_le (stamp_at now next) top ≡ b → IfSome (where_ok (clock_outcome top now next) (stamp_at now next)) (λ ts. ts.0 ≤ top)
short_by true top now next is = rw is (grind (arith, nat_tests, is))
short_by false top now next is = rw is tt

short_where : (failed : Option HostId) (full : Bool) (top now next : ℕ) → IfSome (where_ok (send_outcome failed full top now next) (stamp_at now next)) (λ ts. ts.0 ≤ top)
short_where (Some host) full top now next = tt
short_where None true top now next = tt
short_where None false top now next = short_by (nat_le (stamp_at now next) top) top now next refl

stamps_within : (graph : Graph) (node : ℕ) (own : List Record) (event : Event) → IfSome (stamped graph node own event) (λ ts. ts.0 ≤ graph.top)
stamps_within graph node own (Send host service now dests) = short_where (first_failed (noted_hosts own) dests) (is_window_full service (unsettled (sender_calls graph node own))) graph.top now.0 (next graph node own)
stamps_within graph node own _ = tt

-- a stamp is within the clock
pub stamp_within : (graph : Graph) (node : ℕ) (own : List Record) (event : Event) (o : Option Ts) → o ≡ stamped graph node own event → IfSome o (λ ts. ts.0 ≤ graph.top)
stamp_within graph node own event o is = subst (λ (s : Option Ts). IfSome s (λ ts. ts.0 ≤ graph.top)) (sym is) (stamps_within graph node own event)

-- all that a record logs, where the barriers after it are within the type
pub logged_below_end : (graph : Graph) (node : ℕ) (own : List Record) (r : Record) → barrier_at plane.BestEffort graph node (r ∷ own) ≤ 2 ^ 64 - 1
    → barrier_at plane.Commit graph node (r ∷ own) ≤ 2 ^ 64 - 1 → AreBelow (2 ^ 64 - 1) (logged graph node own r)
logged_below_end graph node own r best reliable =
    both_below_end (logged_of BestEffort (passed_in BestEffort graph node own r)) (logged_of Reliable (passed_in Reliable graph node own r))
    (below_end (barrier_at plane.BestEffort graph node (r ∷ own)) BestEffort (from_barrier (barrier_at plane.BestEffort graph node own) (standing BestEffort graph node (r ∷ own))) best)
    (below_end (barrier_at plane.Commit graph node (r ∷ own)) Reliable (from_barrier (barrier_at plane.Commit graph node own) (standing Reliable graph node (r ∷ own))) reliable)
