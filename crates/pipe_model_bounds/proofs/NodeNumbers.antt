-- What a node knows stays within the clock over a record of its own, and so is what the record tells, where what it took is.
use Rattle.std.proofs.Common.{◌≡◌, ℕ, ◌+◌, ◌<◌, ◌≤◌, ◌==◌, ◌&&◌, not, nat_le, nat_lt, cond, if◌then◌else◌, Bool, true, false, List, [], ◌∷◌, length, Option, None, Some, refl, sym, subst, ap, ◌∙◌, arith, le_trans}
use Rattle.std.specs.Prelude.{IfSome}
use Rattle.std.specs.Option.{option_or}
use Rattle.std.specs.List.{All, Contains}
use Rattle.std.proofs.lemmas.Bool.Decides.{nat_tests}
use Rattle.std.proofs.lemmas.List.Elements.{All-nil, All-contains, All-head, All-tail, All-append, All-drop, All-filter, All-map, All-weaker}
use Rattle.pipe_base.specs.declared.control.Addressed.{Addressed}
use Rattle.pipe_base.specs.declared.control.Announced.{Announced}
use Rattle.pipe_base.specs.declared.control.Control.{Control}
use Rattle.pipe_base.specs.declared.control.Control.TheVariants.{Notice}
use Rattle.pipe_base.specs.declared.message.Entry.{Entry}
use Rattle.pipe_base.specs.declared.message.Key.{Key}
use Rattle.pipe_base.specs.declared.message.Service.{Service}
use Rattle.pipe_base.specs.declared.message.Service.TheVariants.{BestEffort, Reliable}
use Rattle.pipe_base.specs.declared.name.HostId.{HostId}
use Rattle.pipe_base.specs.declared.name.LinkId.{LinkId}
use Rattle.pipe_base.specs.declared.name.Ts.{Ts}
use Rattle.pipe_base.specs.declared.packet.Packet.{Packet}
use Rattle.pipe_base.specs.declared.packet.Plane.{Plane}
use Rattle.pipe_base.specs.declared.packet.Plane.TheVariants as planes
use Rattle.pipe_base.specs.declared.step.Fate.{Fate}
use Rattle.pipe_base.specs.declared.step.Fate.TheVariants.{Discarded, Held, Late}
use Rattle.pipe_base.specs.declared.step.Outcome.TheVariants.{ClockEnd, Ignored, Ok}
use Rattle.pipe_base.specs.Clock.{after_logged, after_stamp, stamp_at}
use Rattle.pipe_base.specs.Entries.{with_entries}
use Rattle.pipe_base.specs.Failed.{time_of, without_void}
use Rattle.pipe_base.specs.Fate.{fate_among, fate_from}
use Rattle.pipe_base.specs.Messages.{Messages, entry_of, from_barrier, has_key, logged_of}
use Rattle.pipe_base.specs.Moment.{Moment, WentDown, Dropped, is_up, keeps_links, with_downed, with_received}
use Rattle.pipe_base.specs.Packets.{Fields, sent_to}
use Rattle.pipe_base.specs.Scattering.{Scattering, SenderCall, begun}
use Rattle.pipe_base.specs.Settled.{is_settled, unsettled}
use Rattle.pipe_base.proofs.BarrierLaws.{AreFieldsWithin, barrier-within, register-within}
use Rattle.pipe_base.proofs.KeyOrder.{insert_all}
use Rattle.pipe_graph.specs.Graph.{Graph, ins_of, is_host}
use Rattle.pipe_model.specs.declared.event.Event.{Event}
use Rattle.pipe_model.specs.declared.event.Event.TheVariants.{ControlTake, Send, Take, Tick}
use Rattle.pipe_model.specs.declared.record.Record.{Record}
use Rattle.pipe_model.specs.declared.record.Took.{Took}
use Rattle.pipe_model.specs.declared.record.Took.TheVariants.{Message}
use Rattle.pipe_model.specs.Clock.{next, promise, tick_reading}
use Rattle.pipe_model.specs.Duties.{control_of, fields, host_be}
use Rattle.pipe_model.specs.Event.{IsOfGraph}
use Rattle.pipe_model.specs.Fate.{failed_for, fate_for, fate_in, held, plane_of, recalled_for, with_held}
use Rattle.pipe_model.specs.Got.{carries, gets, gets_of, got, is_beacon, key_of, message_of}
use Rattle.pipe_model.specs.Logged.{passed_in, standing}
use Rattle.pipe_model.specs.Marks.{downed, marks, noted_by, told_hosts}
use Rattle.pipe_model.specs.Moments.{barrier_at, moments_of, noted_hosts, received}
use Rattle.pipe_model.specs.OnLink.{field}
use Rattle.pipe_model.specs.OwnOutcome.{first_failed, is_window_full, own_outcome, send_outcome, stamped, where_ok}
use Rattle.pipe_model.specs.Run.{IsNodeStep}
use Rattle.pipe_model.specs.Sender.{sender_calls}
use Rattle.pipe_model.proofs.Marks.{IsRegister, beside, downed_registers}
use Rattle.pipe_model.proofs.Promises.{begun_below_next, promise_within}
use Rattle.pipe_model_net.proofs.Owed.{puts_each}
use Rattle.pipe_model_net.proofs.Sent.{received_took}
use Rattle.pipe_model_atomic.proofs.Times.{time_gives}
use Rattle.pipe_model_bounds.specs.Numbers.{IsControlWithin, IsFateWithin, IsMarkWithin, IsNodeWithin, IsOutcomeWithin, IsPacketWithin, IsStepWithin, IsTimeWithin, IsTookWithin, IsWithin}
use Rattle.pipe_model_bounds.proofs.Told.{told_each}

-- what the node knows is within the clock, told by its next timestamp, the moments of its in-links, and its lists
pub record Knows (graph : Graph) (node : ℕ) (own : List Record) : Type 0 where
  pub clock : next graph node own ≤ graph.top + 1
  pub moments : (plane : Plane) → AreFieldsWithin plane (graph.top + 1) (moments_of graph node own)
  pub holds : (service : Service) → All (λ m. m.0.ts.0 ≤ graph.top) (held service graph node own)
  pub marked : All (IsMarkWithin graph.top) (marks own)
  pub noted : All (IsTimeWithin graph.top) (noted_hosts own)

pub knows_none : (graph : Graph) (node : ℕ) → Knows graph node []
knows_none graph node = record {
  clock = omega arith;
  moments = λ plane. tt;
  holds = λ service. All-nil (λ (m : Key × List ℕ). m.0.ts.0 ≤ graph.top);
  marked = All-nil (IsMarkWithin graph.top);
  noted = All-nil (IsTimeWithin graph.top);
}

pub barrier_in : (graph : Graph) (node : ℕ) (own : List Record) → Knows graph node own → (plane : Plane) → barrier_at plane graph node own ≤ graph.top + 1
barrier_in graph node own knows plane = barrier-within plane (graph.top + 1) (ins_of graph node) (moments_of graph node own) (knows.moments plane)

pub node_within : (graph : Graph) (node : ℕ) (own : List Record) → Knows graph node own → IsNodeWithin graph node own
node_within graph node own knows = record {
  next = knows.clock;
  promise = le_trans (promise_within graph node own) knows.clock;
  barrier = barrier_in graph node own knows;
  held = knows.holds;
  marks = knows.marked;
  noted = knows.noted;
}

-- ---- what is received

packet_same : (b : Bool) (p q : Packet) → (if b then Some p else None) ≡ Some q → p ≡ q
packet_same true p q is = cc
packet_same false p q is = cc

pub received_in : (graph : Graph) (node : ℕ) (own : List Record) (r : Record) (q : ℕ × Packet) → IsTookWithin graph.top r.took → received graph node own r ≡ Some q
    → IsPacketWithin graph.top q.1
received_in graph node own r q took is =
    let t = received_took (moments_of graph node own) r.event r.took q is in subst (IsTookWithin graph.top) t.1 took

gets_by : (graph : Graph) (node : ℕ) (own : List Record) (r : Record) (p : Packet) (o : Option (ℕ × Packet)) → IsTookWithin graph.top r.took → received graph node own r ≡ o
    → gets_of graph node o ≡ Some p → IsPacketWithin graph.top p
gets_by graph node own r p None took is got = cc
gets_by graph node own r p (Some q) took is got =
    subst (IsPacketWithin graph.top) (packet_same (is_host graph node && ((q.1.dst.0 == node) && not (is_beacon q.1.kind))) q.1 p got) (received_in graph node own r q took is)

gets_in : (graph : Graph) (node : ℕ) (own : List Record) (r : Record) (p : Packet) → IsTookWithin graph.top r.took → gets graph node own r ≡ Some p → IsPacketWithin graph.top p
gets_in graph node own r p took is = gets_by graph node own r p (received graph node own r) took refl is

message_same : (service : Service) (o : Option Packet) (p : Packet) → message_of service o ≡ Some p → o ≡ Some p
message_same service None p is = cc
message_same service (Some x) p is = ap (λ (y : Packet). Some y) (packet_same (carries service x.kind) x p is)

field_in : (top : ℕ) (plane : Plane) (p : Packet) → IsPacketWithin top p → field plane p ≤ top + 1
field_in top planes.BestEffort p within = within.best_effort
field_in top planes.Commit p within = within.commit

received_fields : (plane : Plane) (bound : ℕ) (looked : Bool) (o : Option (ℕ × Packet)) (past : List Moment) → ((q : ℕ × Packet) → o ≡ Some q → field plane q.1 ≤ bound)
    → AreFieldsWithin plane bound past → AreFieldsWithin plane bound (with_received looked o past)
received_fields plane bound looked None past new before = before
received_fields plane bound true (Some q) past new before = (new q refl, before)
received_fields plane bound false (Some q) past new before = (new q refl, before)

downed_fields : (plane : Plane) (bound : ℕ) (ds : List (LinkId × Ts)) (past : List Moment) → AreFieldsWithin plane bound past → AreFieldsWithin plane bound (with_downed ds past)
downed_fields plane bound [] past before = before
downed_fields plane bound (d ∷ ds) past before = downed_fields plane bound ds (WentDown d.0.0 ∷ past) before

dropped_fields : (plane : Plane) (bound : ℕ) (ins ls : List LinkId) (past : List Moment) → AreFieldsWithin plane bound past → AreFieldsWithin plane bound (with_entries ins ls past)
dropped_fields plane bound ins [] past before = before
dropped_fields plane bound ins (l ∷ ls) past before = dropped_fields plane bound ins ls (Dropped l.0 ∷ past) before

-- ---- the stamp and the outcome of a send

stamp_by : (b : Bool) (top now next : ℕ) (ts : Ts) → nat_le (stamp_at now next) top ≡ b → where_ok (if b then Ok else ClockEnd (record { 0 = next })) (stamp_at now next) ≡ Some ts
    → ts.0 ≤ top
stamp_by true top now next ts within is = let same : stamp_at now next ≡ ts.0 = cc in grind (arith, nat_tests, within, same)
stamp_by false top now next ts beyond is = cc

send_stamp : (failed : Option HostId) (full : Bool) (top now next : ℕ) (ts : Ts) → where_ok (send_outcome failed full top now next) (stamp_at now next) ≡ Some ts → ts.0 ≤ top
send_stamp (Some host) full top now next ts is = cc
send_stamp None true top now next ts is = cc
send_stamp None false top now next ts is = stamp_by (nat_le (stamp_at now next) top) top now next ts refl is

stamp_in : (graph : Graph) (node : ℕ) (own : List Record) (event : Event) (ts : Ts) → stamped graph node own event ≡ Some ts → ts.0 ≤ graph.top
stamp_in graph node own (Send host service now dests) ts is =
    send_stamp (first_failed (noted_hosts own) dests) (is_window_full service (unsettled (sender_calls graph node own))) graph.top now.0 (next graph node own) ts is
stamp_in graph node own _ ts is = cc

if_some : {A : Type 0} (P : A → Type 0) (o : Option A) → ((x : A) → o ≡ Some x → P x) → IfSome o P
if_some P None each = tt
if_some P (Some x) each = each x refl

clock_by : (b : Bool) (top next : ℕ) → next ≤ top + 1 → IsOutcomeWithin top (if b then Ok else ClockEnd (record { 0 = next }))
clock_by true top next within = tt
clock_by false top next within = within

send_in : (failed : Option HostId) (full : Bool) (top now next : ℕ) → next ≤ top + 1 → IsOutcomeWithin top (send_outcome failed full top now next)
send_in (Some host) full top now next within = tt
send_in None true top now next within = tt
send_in None false top now next within = clock_by (nat_le (stamp_at now next) top) top next within

take_in : (b : Bool) (top : ℕ) → IsOutcomeWithin top (if b then Ok else Ignored)
take_in true top = tt
take_in false top = tt

pub outcome_in : (graph : Graph) (node : ℕ) (own : List Record) (event : Event) → next graph node own ≤ graph.top + 1 → IsOutcomeWithin graph.top (own_outcome graph node own event)
outcome_in graph node own (Send host service now dests) within =
    send_in (first_failed (noted_hosts own) dests) (is_window_full service (unsettled (sender_calls graph node own))) graph.top now.0 (next graph node own) within
outcome_in graph node own (Take link place keep) within = take_in (is_up (moments_of graph node own) link.0) graph.top
outcome_in graph node own _ within = tt

-- ---- what is held and logged

abbrev IsHeldIn : ℕ → (Key × List ℕ) → Type 0
IsHeldIn top m = m.0.ts.0 ≤ top

held_more : (top : ℕ) (f : Option Fate) (o : Option Packet) (ms : Messages) → All (IsHeldIn top) ms → ((p : Packet) → o ≡ Some p → p.ts.0 ≤ top) → All (IsHeldIn top) (with_held f o ms)
held_more top (Some Held) (Some p) ms all new = insert_all (IsHeldIn top) (key_of p) p.body ms (new p refl) all
held_more top _ _ ms all new = all

held_in : (service : Service) (graph : Graph) (node : ℕ) (own : List Record) (r : Record) → Knows graph node own → IsTookWithin graph.top r.took
    → All (IsHeldIn graph.top) (held service graph node (r ∷ own))
held_in service graph node own r knows took =
    held_more graph.top (fate_in service graph node own r) (got service graph node own r) (held service graph node own) (knows.holds service)
    (λ p is. (gets_in graph node own r p took (message_same service (gets graph node own r) p is)).stamp)

passed_within : (service : Service) (graph : Graph) (node : ℕ) (own : List Record) (r : Record) → Knows graph node own → IsTookWithin graph.top r.took
    → All (IsHeldIn graph.top) (passed_in service graph node own r)
passed_within service graph node own r knows took =
    let P : Key × List ℕ → Type 0 = IsHeldIn graph.top in
    All-filter _ P (from_barrier (barrier_at (plane_of service) graph node own) (standing service graph node (r ∷ own)))
    (All-filter _ P (standing service graph node (r ∷ own))
    (All-filter _ P (without_void (failed_for service (r ∷ own)) (held service graph node (r ∷ own)))
    (All-filter _ P (held service graph node (r ∷ own)) (held_in service graph node own r knows took))))

abbrev IsLoggedIn : ℕ → (Service × Entry) → Type 0
IsLoggedIn top e = e.1.key.ts.0 ≤ top

logged_in : (graph : Graph) (node : ℕ) (own : List Record) (r : Record) → IsNodeStep graph node own r → Knows graph node own → IsTookWithin graph.top r.took
    → All (IsLoggedIn graph.top) r.step.logged
logged_in graph node own r step knows took =
    let one : (service : Service) → All (IsLoggedIn graph.top) (logged_of service (passed_in service graph node own r)) =
    λ service. All-map (IsLoggedIn graph.top) (λ (m : Key × List ℕ). (service, entry_of m)) (passed_in service graph node own r) (passed_within service graph node own r knows took) in
    subst (All (IsLoggedIn graph.top)) (sym step.logged_is)
    (All-append (IsLoggedIn graph.top) (logged_of BestEffort (passed_in BestEffort graph node own r)) (logged_of Reliable (passed_in Reliable graph node own r)) (one BestEffort) (one Reliable))

-- ---- the next timestamp

after_logged_in : (top : ℕ) (es : List (Service × Entry)) → All (IsLoggedIn top) es → after_logged es ≤ top + 1
after_logged_in top [] all = omega arith
after_logged_in top (e ∷ es) all =
    let first = All-head (IsLoggedIn top) e es all in let rest = after_logged_in top es (All-tail (IsLoggedIn top) e es all) in omega (arith, first, rest)

after_stamp_in : (top : ℕ) (o : Option Ts) → ((ts : Ts) → o ≡ Some ts → ts.0 ≤ top) → after_stamp o ≤ top + 1
after_stamp_in top None each = omega arith
after_stamp_in top (Some ts) each = let within = each ts refl in omega (arith, within)

reading_in : (graph : Graph) (event : Event) → IsOfGraph graph event → tick_reading event ≤ graph.top
reading_in graph (Tick node now) known = known.1
reading_in graph _ known = omega arith

clock_in : (graph : Graph) (node : ℕ) (own : List Record) (r : Record) → IsNodeStep graph node own r → IsOfGraph graph r.event → Knows graph node own → IsTookWithin graph.top r.took
    → next graph node (r ∷ own) ≤ graph.top + 1
clock_in graph node own r step known knows took =
    let before = knows.clock in
    let reading = reading_in graph r.event known in
    let stamp : after_stamp r.step.stamped ≤ graph.top + 1 = after_stamp_in graph.top r.step.stamped (λ ts is. stamp_in graph node own r.event ts (sym step.stamped_is ∙ is)) in
    let logs : after_logged r.step.logged ≤ graph.top + 1 = after_logged_in graph.top r.step.logged (logged_in graph node own r step knows took) in
    omega (arith, before, reading, stamp, logs)

-- ---- marks and those noted

downed_in : (graph : Graph) (node : ℕ) (own : List Record) (r : Record) → IsNodeStep graph node own r → Knows graph node own → All (IsMarkWithin graph.top) r.step.downed
downed_in graph node own r step knows =
    let past : List Moment = moments_of graph node own in
    subst (All (IsMarkWithin graph.top)) (sym step.downed_is)
    (All-weaker (IsRegister past) (IsMarkWithin graph.top)
    (λ (d : LinkId × Ts) is. let low = register-within planes.Commit (graph.top + 1) past d.0.0 (knows.moments planes.Commit) in omega (arith, is, low))
    (downed graph node own r) (downed_registers graph node own r))

told_in : (top : ℕ) (known : List Announced) (control : Control) → IsControlWithin top control → All (IsTimeWithin top) (told_hosts known control)
told_in top known (Notice list) within = All-drop (IsTimeWithin top) (length known) list within
told_in top known _ within = All-nil (IsTimeWithin top)

noted_by_in : (top : ℕ) (known : List Announced) (event : Event) (took : Took) → IsTookWithin top took → All (IsTimeWithin top) (noted_by known event took)
noted_by_in top known (ControlTake place keep) (Message a) within = told_in top known a.control within
noted_by_in top known _ _ within = All-nil (IsTimeWithin top)

where_host : (b : Bool) (top : ℕ) (list : List Announced) → All (IsTimeWithin top) list → All (IsTimeWithin top) (if b then list else [])
where_host true top list all = all
where_host false top list all = All-nil (IsTimeWithin top)

noted_in : (graph : Graph) (node : ℕ) (own : List Record) (r : Record) → IsNodeStep graph node own r → IsTookWithin graph.top r.took → All (IsTimeWithin graph.top) r.step.noted
noted_in graph node own r step took =
    subst (All (IsTimeWithin graph.top)) (sym step.noted_is)
    (where_host (is_host graph node) graph.top (noted_by (noted_hosts own) r.event r.took) (noted_by_in graph.top (noted_hosts own) r.event r.took took))

-- ---- so what it knows stays within

pub knows_more : (graph : Graph) (node : ℕ) (own : List Record) (r : Record) → IsNodeStep graph node own r → IsOfGraph graph r.event → Knows graph node own → IsTookWithin graph.top r.took
    → Knows graph node (r ∷ own)
knows_more graph node own r step known knows took =
    let past : List Moment = moments_of graph node own in
    let looked : Bool = keeps_links r.step.downed r.step.dropped in
    record {
      clock = clock_in graph node own r step known knows took;
      moments = λ plane.
          dropped_fields plane (graph.top + 1) (ins_of graph node) r.step.dropped (with_downed r.step.downed (with_received looked (received graph node own r) past))
          (downed_fields plane (graph.top + 1) r.step.downed (with_received looked (received graph node own r) past)
          (received_fields plane (graph.top + 1) looked (received graph node own r) past
          (λ q is. field_in graph.top plane q.1 (received_in graph node own r q took is)) (knows.moments plane)));
      holds = λ service. held_in service graph node own r knows took;
      marked = All-append (IsMarkWithin graph.top) (marks own) r.step.downed knows.marked (downed_in graph node own r step knows);
      noted = All-append (IsTimeWithin graph.top) (noted_hosts own) r.step.noted knows.noted (noted_in graph node own r step took);
    }

-- ---- the fate

among_in : (top : ℕ) (recalled there : Bool) (held : Messages) (key : Key) → has_key key held ≡ there → IsFateWithin top (Some (fate_among recalled held key))
among_in top true there held key is = tt
among_in top false true held key is = rw is tt
among_in top false false held key is = rw is tt

from_by : (b : Bool) (top : ℕ) (time : Ts) (f : Fate) → IsWithin top time → IsFateWithin top (Some f) → IsFateWithin top (Some (if b then Discarded time else f))
from_by true top time f within other = within
from_by false top time f within other = other

from_in : (top : ℕ) (time : Option Ts) (recalled : Bool) (held : Messages) (key : Key) → ((t : Ts) → time ≡ Some t → IsWithin top t)
    → IsFateWithin top (Some (fate_from time recalled held key))
from_in top None recalled held key within = among_in top recalled (has_key key held) held key refl
from_in top (Some t) recalled held key within =
    from_by (nat_le t.0 key.ts.0) top t (fate_among recalled held key) (within t refl) (among_in top recalled (has_key key held) held key refl)

late_by : (b : Bool) (top barrier : ℕ) (f : Fate) → barrier ≤ top + 1 → IsFateWithin top (Some f) → IsFateWithin top (Some (if b then Late (record { 0 = barrier }) else f))
late_by true top barrier f within other = within
late_by false top barrier f within other = other

fate_for_in : (top barrier : ℕ) (failed : List Announced) (recalled : Key → Bool) (held : Messages) (o : Option Packet) → barrier ≤ top + 1 → All (IsTimeWithin top) failed
    → IsFateWithin top (fate_for barrier failed recalled held o)
fate_for_in top barrier failed recalled held None within times = tt
fate_for_in top barrier failed recalled held (Some p) within times =
    late_by (nat_lt p.ts.0 barrier) top barrier (fate_from (time_of p.src.0 failed) (recalled (key_of p)) held (key_of p)) within
    (from_in top (time_of p.src.0 failed) (recalled (key_of p)) held (key_of p) (λ t is. time_gives (λ (host : ℕ) (time : Ts). IsWithin top time) p.src.0 t failed times is))

failed_in : (service : Service) (top : ℕ) (own : List Record) → All (IsTimeWithin top) (noted_hosts own) → All (IsTimeWithin top) (failed_for service own)
failed_in BestEffort top own all = All-nil (IsTimeWithin top)
failed_in Reliable top own all = all

either_fate : (top : ℕ) (one other : Option Fate) → IsFateWithin top one → IsFateWithin top other → IsFateWithin top (option_or one other)
either_fate top None other first second = second
either_fate top (Some f) other first second = first

fate_in_one : (service : Service) (graph : Graph) (node : ℕ) (own : List Record) (r : Record) → Knows graph node own → IsFateWithin graph.top (fate_in service graph node own r)
fate_in_one service graph node own r knows =
    fate_for_in graph.top (barrier_at (plane_of service) graph node own) (failed_for service own) (recalled_for service graph node own) (held service graph node own) (got service graph node own r)
    (barrier_in graph node own knows (plane_of service)) (failed_in service graph.top own knows.noted)

-- ---- the packets that are put

abbrev AreFieldsIn : ℕ → Fields → Type 0
AreFieldsIn top f = (f.be ≤ top + 1) × (f.commit ≤ top + 1)

either_fields : (b : Bool) (top : ℕ) (host half : Fields) → AreFieldsIn top host → AreFieldsIn top half → AreFieldsIn top (if b then host else half)
either_fields true top host half one other = one
either_fields false top host half one other = other

stamp_or_next : (top : ℕ) (o : Option Ts) (next : ℕ) → next ≤ top + 1 → ((ts : Ts) → o ≡ Some ts → ts.0 ≤ top) → host_be o next ≤ top + 1
stamp_or_next top None next within each = within
stamp_or_next top (Some ts) next within each = let low = each ts refl in omega (arith, low)

fields_in : (graph : Graph) (node : ℕ) (own : List Record) (r : Record) → IsNodeStep graph node own r → Knows graph node (r ∷ own) → AreFieldsIn graph.top (fields graph node own r)
fields_in graph node own r step knows =
    let stamp : host_be r.step.stamped (next graph node (r ∷ own)) ≤ graph.top + 1 =
    stamp_or_next graph.top r.step.stamped (next graph node (r ∷ own)) knows.clock (λ ts is. stamp_in graph node own r.event ts (sym step.stamped_is ∙ is)) in
    either_fields (is_host graph node) graph.top
    (record { be = host_be r.step.stamped (next graph node (r ∷ own)); commit = promise graph node (r ∷ own) })
    (record { be = barrier_at planes.BestEffort graph node (r ∷ own); commit = barrier_at planes.Commit graph node (r ∷ own) })
    (stamp, le_trans (promise_within graph node (r ∷ own)) knows.clock)
    (barrier_in graph node (r ∷ own) knows planes.BestEffort, barrier_in graph node (r ∷ own) knows planes.Commit)

sent_in : (service : Service) (top : ℕ) (src : HostId) (ts : Ts) (f : Fields) (d : HostId × List ℕ) → ts.0 ≤ top → AreFieldsIn top f → IsPacketWithin top (sent_to service src ts f d)
sent_in BestEffort top src ts f d stamp within = record { stamp = stamp; best_effort = within.0; commit = within.1 }
sent_in Reliable top src ts f d stamp within = record { stamp = stamp; best_effort = within.0; commit = within.1 }

-- a scattering that was begun was stamped
begun_in : (graph : Graph) (node : ℕ) (own : List Record) (s : Scattering) → Knows graph node own → Contains (unsettled (sender_calls graph node own)) s → s.ts.0 ≤ graph.top
begun_in graph node own s knows among =
    let calls : List SenderCall = sender_calls graph node own in
    let IsBelow : Scattering → Type 0 = λ t. t.ts.0 < next graph node own in
    let below : s.ts.0 < next graph node own =
    All-contains IsBelow (unsettled calls) s (All-filter (λ (t : Scattering). not (is_settled calls t)) IsBelow (begun calls) (begun_below_next graph node own)) among in
    let clock = knows.clock in omega (arith, below, clock)

puts_in : (graph : Graph) (node : ℕ) (own : List Record) (r : Record) → IsNodeStep graph node own r → Knows graph node (r ∷ own) → IsTookWithin graph.top r.took
    → All (λ q. IsPacketWithin graph.top q.1) r.step.put
puts_in graph node own r step knows took =
    let f : Fields = fields graph node own r in
    let within : AreFieldsIn graph.top f = fields_in graph node own r step knows in
    puts_each (IsPacketWithin graph.top) graph node own r step (record {
      sent = λ host service now ts dests event stamp d among. sent_in service graph.top host ts f d (stamp_in graph node own r.event ts (sym step.stamped_is ∙ stamp)) within;
      resent = λ s among d listed. sent_in Reliable graph.top (record { 0 = node }) s.ts f d (begun_in graph node (r ∷ own) s knows among) within;
      recalled = λ s among is d listed. record { stamp = begun_in graph node (r ∷ own) s knows among; best_effort = within.0; commit = within.1 };
      passed = λ q at half other. record { stamp = (received_in graph node own r q took at).stamp; best_effort = within.0; commit = within.1 };
      answered = λ p gets_is host reliable holding. record { stamp = (gets_in graph node own r p took gets_is).stamp; best_effort = within.0; commit = within.1 };
      took_back = λ p gets_is host is. record { stamp = (gets_in graph node own r p took gets_is).stamp; best_effort = within.0; commit = within.1 };
      beacon_too = record { stamp = omega arith; best_effort = within.0; commit = within.1 };
    })

-- ---- the control messages that are put

abbrev pub IsMessageWithin : ℕ → Addressed → Type 0
IsMessageWithin top m = IsControlWithin top m.control

mark_found : (top : ℕ) (ds : List (LinkId × Ts)) (link : ℕ) (value : Ts) → All (IsMarkWithin top) ds → beside link ds ≡ Some value → IsWithin top value
mark_found top [] link value all is = cc
mark_found top (d ∷ ds) link value all is = by (d.0.0 == link) is (mark_found top ds link value (All-tail (IsMarkWithin top) d ds all))
  where
    by : (b : Bool) → cond b (Some d.1) (beside link ds) ≡ Some value → (beside link ds ≡ Some value → IsWithin top value) → IsWithin top value
    by true here later = let same : d.1 ≡ value = cc in subst (IsWithin top) same (All-head (IsMarkWithin top) d ds all)
    by false there later = later there

control_in : (graph : Graph) (node : ℕ) (own : List Record) (event : Event) → All (IsMarkWithin graph.top) (marks own) → All (IsMessageWithin graph.top) (control_of graph node own event)
control_in graph node own event all =
    told_each (IsMessageWithin graph.top) graph node own event (record { down = λ l value is. mark_found graph.top (marks own) l.0 value all is; done = tt; gone = tt })

-- ---- the step

pub step_within : (graph : Graph) (node : ℕ) (own : List Record) (r : Record) → IsNodeStep graph node own r → IsOfGraph graph r.event → Knows graph node own → IsTookWithin graph.top r.took
    → IsStepWithin graph.top r.step
step_within graph node own r step known knows took =
    let after : Knows graph node (r ∷ own) = knows_more graph node own r step known knows took in
    record {
      stamped = if_some (λ (ts : Ts). ts.0 ≤ graph.top) r.step.stamped (λ ts is. stamp_in graph node own r.event ts (sym step.stamped_is ∙ is));
      outcome = subst (IsOutcomeWithin graph.top) (sym step.outcome_is) (outcome_in graph node own r.event knows.clock);
      fate = subst (IsFateWithin graph.top) (sym step.fate_is)
          (either_fate graph.top (fate_in BestEffort graph node own r) (fate_in Reliable graph node own r) (fate_in_one BestEffort graph node own r knows) (fate_in_one Reliable graph node own r knows));
      downed = downed_in graph node own r step knows;
      noted = noted_in graph node own r step took;
      logged = logged_in graph node own r step knows took;
      put = puts_in graph node own r step after took;
      control = subst (All (IsMessageWithin graph.top)) (sym step.control_is) (control_in graph node (r ∷ own) r.event after.marked);
    }
