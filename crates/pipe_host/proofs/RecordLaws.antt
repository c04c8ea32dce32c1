-- What a record does to what its host holds.
use Rattle.std.proofs.Common.{◌≡◌, ℕ, ◌≤◌, ◌==◌, ◌&&◌, not, if◌then◌else◌, Bool, true, false, nat_le, nat_lt, length, arith, eqb-true, List, [], ◌∷◌, ◌++◌, Option, None, Some, refl, sym, subst, ap, ap₂, ◌∙◌, append-nil}
use Rattle.std.specs.Option.{option_or}
use Rattle.pipe_base.specs.declared.control.Announced.{Announced}
use Rattle.pipe_base.specs.declared.message.Entry.{Entry}
use Rattle.pipe_base.specs.declared.message.Key.{Key}
use Rattle.pipe_base.specs.declared.message.Service.{Service}
use Rattle.pipe_base.specs.declared.message.Service.TheVariants.{BestEffort, Reliable}
use Rattle.pipe_base.specs.declared.name.LinkId.{LinkId}
use Rattle.pipe_base.specs.declared.packet.Packet.{Packet}
use Rattle.pipe_base.specs.declared.packet.PacketKind.{PacketKind}
use Rattle.pipe_base.specs.declared.packet.PacketKind.TheVariants.{Beacon, Plain, Prepare, Ack, Recall, RecallAck}
use Rattle.pipe_base.specs.declared.packet.Plane.TheVariants as plane
use Rattle.pipe_base.specs.declared.step.Fate.{Fate}
use Rattle.pipe_base.specs.Barrier.{barrier}
use Rattle.pipe_base.specs.Failed.{is_void, without_void}
use Rattle.pipe_graph.specs.Graph.{Graph, ins_of, is_host}
use Rattle.pipe_base.specs.Messages.{Messages, from_barrier, logged_of, below_barrier, without_keys}
use Rattle.pipe_base.specs.Moment.{Moment}
use Rattle.pipe_base.proofs.MessageLaws.{filter_swap, from_later, none_between}
use Rattle.pipe_barrier.specs.declared.registers.Barriers.{Barriers}
use Rattle.pipe_barrier.specs.Registers.{AreBarriers}
use Rattle.pipe_links.specs.Links.{AreBarriersAt}
use Rattle.pipe_model.specs.declared.event.Event.{Event}
use Rattle.pipe_model.specs.declared.event.Event.TheVariants.{Take}
use Rattle.pipe_model.specs.declared.record.Record.{Record}
use Rattle.pipe_model.specs.declared.record.Took.{Took}
use Rattle.pipe_model.specs.declared.record.Took.TheVariants.{Link, Message, Nothing}
use Rattle.pipe_model.specs.Fate.{failed_for, fate, fate_for, held, plane_of, recalled_for, with_held}
use Rattle.pipe_model.specs.Got.{gets, gets_of, got, is_beacon, message_of}
use Rattle.pipe_model.specs.Logged.{logged, passed_in, standing}
use Rattle.pipe_model.specs.Moments.{barrier_at, moments_of, noted_hosts, received, received_of}
use Rattle.pipe_model.specs.Recalls.{is_recall}
use Rattle.pipe_model.proofs.Rising.{barrier_rises}
use Rattle.pipe_model.proofs.Steps.{received_packet}
use Rattle.pipe_reorder.specs.Buffer.{Buffer, has_tombstone, keys_from, left_by, passed_by, with_no_buried, with_no_void}
use Rattle.pipe_reorder.proofs.VoidLaws.{Covers, covers_more, without_more}
use Rattle.pipe_host.specs.declared.buffers.Buffers.{Buffers}
use Rattle.pipe_host.specs.Buffers.{IsFresh, all_burying, all_joined, all_left, all_noting, burying, fate_among, fate_by, logged_by, newest_after, stones_with, where_mine}
use Rattle.pipe_host.specs.Host.{buffer_for, buffer_with, buffers_for, buffers_with, still_held, newest_during, stones, stones_during, stones_for}
use Rattle.pipe_host.proofs.HeldLaws.{Agree, brought, fate_kept, fresh, held_in_order, joined_kept, joins}
use Rattle.pipe_host.proofs.StoneLaws.{agrees, agrees_during, newest_goes, recalled_stays, without_stones}

pub buffers_are : (h : Buffers) (best reliable : Buffer) → h.best ≡ best → h.reliable ≡ reliable → h ≡ record { best = best; reliable = reliable }
buffers_are h best reliable best_is reliable_is = λ i. record { best = best_is i; reliable = reliable_is i }

-- the buffers without the message of the newest tombstone
abbrev pub without_buried : Buffers → Buffers
without_buried h = record { best = h.best; reliable = with_no_buried h.reliable }

-- ---- a record in which nothing is received

got_none : (service : Service) (graph : Graph) (node : ℕ) (own : List Record) (r : Record) → received graph node own r ≡ None → got service graph node own r ≡ None
got_none service graph node own r none = ap (λ (o : Option (ℕ × Packet)). message_of service (gets_of graph node o)) none

pub still_fate : (graph : Graph) (node : ℕ) (own : List Record) (r : Record) → received graph node own r ≡ None → None ≡ fate graph node own r
still_fate graph node own r none =
    let best : got BestEffort graph node own r ≡ None = got_none BestEffort graph node own r none in
    let reliable : got Reliable graph node own r ≡ None = got_none Reliable graph node own r none in rw (best, reliable) refl

holds_still : (service : Service) (graph : Graph) (node : ℕ) (own : List Record) (r : Record) → received graph node own r ≡ None → held service graph node (r ∷ own) ≡ held service graph node own
holds_still service graph node own r none = let got : got service graph node own r ≡ None = got_none service graph node own r none in rw got refl

pub still_failed : (service : Service) (own : List Record) (r : Record) → r.step.noted ≡ [] → failed_for service (r ∷ own) ≡ failed_for service own
still_failed BestEffort own r none = refl
still_failed Reliable own r none = ap (λ (news : List Announced). noted_hosts own ++ news) none ∙ append-nil (noted_hosts own)

-- what is held while a record is worked out, but for the hosts that it notes
abbrev pub buffer_joined : Service → Graph → ℕ → List Record → Record → Buffer
buffer_joined service graph node own r = record (buffer_with service graph node own r) { failed = failed_for service own }

abbrev pub buffers_joined : Graph → ℕ → List Record → Record → Buffers
buffers_joined graph node own r = record { best = buffer_joined BestEffort graph node own r; reliable = buffer_joined Reliable graph node own r }

-- where none is noted, that is all
pub none_noted : (graph : Graph) (node : ℕ) (own : List Record) (r : Record) → r.step.noted ≡ [] → buffers_with graph node own r ≡ buffers_joined graph node own r
none_noted graph node own r none =
    buffers_are (buffers_with graph node own r) (buffer_joined BestEffort graph node own r) (buffer_joined Reliable graph node own r) refl
    (ap {B = Buffer} (λ (failed : List Announced). record (buffer_with Reliable graph node own r) { failed = failed }) (still_failed Reliable own r none))

-- a buffer by what a record brings, and all messages that ever had the fate held
abbrev buffer_by : Service → Graph → ℕ → List Record → List Key → Option Key → Messages → Buffer
buffer_by service graph node own tombstones newest ms = record {
  service = service;
  barrier = barrier_at (plane_of service) graph node own;
  failed = failed_for service own;
  tombstones = tombstones;
  newest = newest;
  messages = still_held (barrier_at (plane_of service) graph node own) (failed_for service own) (recalled_for service graph node own) ms;
}

-- the tombstones by what a record brings
abbrev stones_by : Service → Graph → ℕ → List Record → Option Packet → List Key
stones_by BestEffort graph node own m = []
stones_by Reliable graph node own m = stones_with (barrier_at plane.Commit graph node own) m (stones graph node own)

abbrev newest_by : Service → Graph → ℕ → List Record → Option Packet → Option Key
newest_by BestEffort graph node own m = None
newest_by Reliable graph node own m = newest_after (barrier_at plane.Commit graph node own) m (stones graph node own)

still_one : (service : Service) (graph : Graph) (node : ℕ) (own : List Record) (r : Record) → received graph node own r ≡ None → buffer_joined service graph node own r ≡ buffer_for service graph node own
still_one BestEffort graph node own r none =
    ap (buffer_by BestEffort graph node own [] None) (holds_still BestEffort graph node own r none)
still_one Reliable graph node own r none =
    ap {B = Buffer} (λ (o : Option (ℕ × Packet)). buffer_by Reliable graph node own (stones_by Reliable graph node own (gets_of graph node o)) (newest_by Reliable graph node own (gets_of graph node o)) (held Reliable graph node (r ∷ own))) none
    ∙ ap (buffer_by Reliable graph node own (stones graph node own) None) (holds_still Reliable graph node own r none)

pub still_joined : (graph : Graph) (node : ℕ) (own : List Record) (r : Record) → received graph node own r ≡ None → buffers_joined graph node own r ≡ buffers_for graph node own
still_joined graph node own r none =
    buffers_are (buffers_joined graph node own r) (buffer_for BestEffort graph node own) (buffer_for Reliable graph node own) (still_one BestEffort graph node own r none) (still_one Reliable graph node own r none)

-- what is held stays
pub still_buffers : (graph : Graph) (node : ℕ) (own : List Record) (r : Record) → received graph node own r ≡ None → r.step.noted ≡ []
    → buffers_with graph node own r ≡ buffers_for graph node own
still_buffers graph node own r none no_news = none_noted graph node own r no_news ∙ still_joined graph node own r none

-- the hosts that a record notes are noted besides
pub still_noting : (graph : Graph) (node : ℕ) (own : List Record) (r : Record) → received graph node own r ≡ None
    → all_noting r.step.noted (buffers_for graph node own) ≡ buffers_with graph node own r
still_noting graph node own r none = ap (all_noting r.step.noted) (sym (still_joined graph node own r none))

passes_none : (service : Service) (graph : Graph) (node : ℕ) (own : List Record) (r : Record) → moments_of graph node (r ∷ own) ≡ moments_of graph node own → logged_of service (passed_in service graph node own r) ≡ []
passes_none service graph node own r same =
    let b : ℕ = barrier_at (plane_of service) graph node own in
    ap (λ (ms : List Moment). logged_of service (below_barrier (barrier (plane_of service) (ins_of graph node) ms) (from_barrier b (standing service graph node (r ∷ own))))) same
    ∙ ap (logged_of service) (none_between b (standing service graph node (r ∷ own)))

-- where the barriers stay nothing is logged
pub still_logged : (graph : Graph) (node : ℕ) (own : List Record) (r : Record) → moments_of graph node (r ∷ own) ≡ moments_of graph node own → [] ≡ logged graph node own r
still_logged graph node own r same =
    sym (ap (λ (es : List (Service × Entry)). es ++ logged_of Reliable (passed_in Reliable graph node own r)) (passes_none BestEffort graph node own r same)
    ∙ passes_none Reliable graph node own r same)

-- ---- a record in which a packet is received

-- the fate of what a packet brings
pub fate_with : (graph : Graph) (node : ℕ) (own : List Record) (r : Record) (q : ℕ × Packet) → received graph node own r ≡ Some q
    → fate_among (buffers_for graph node own) (gets_of graph node (Some q)) ≡ fate graph node own r
fate_with graph node own r q is =
    let among : Service → Option Packet → Option Fate =
    λ service. fate_for (barrier_at (plane_of service) graph node own) (failed_for service own) (recalled_for service graph node own) (held service graph node own) in
    let same : (service : Service) (m : Option Packet) → fate_by (buffer_for service graph node own) m ≡ among service m =
    λ service m. fate_kept (barrier_at (plane_of service) graph node own) (failed_for service own) (has_tombstone (stones_for service graph node own)) (recalled_for service graph node own)
    (held service graph node own) m (agrees service graph node own) in
    let m : Option Packet = gets_of graph node (Some q) in
    ap₂ (λ (f g : Option Fate). option_or f g) (same BestEffort (message_of BestEffort m)) (same Reliable (message_of Reliable m))
    ∙ ap (λ (o : Option (ℕ × Packet)). option_or (among BestEffort (message_of BestEffort (gets_of graph node o))) (among Reliable (message_of Reliable (gets_of graph node o)))) (sym is)

-- the messages that are kept with that of a packet
messages_with : (service : Service) (graph : Graph) (node : ℕ) (own : List Record) (r : Record) (link : ℕ) (p : Packet) → received graph node own r ≡ Some (link, p)
    → (f : Option Fate)
    → with_held f (message_of service (Some p)) (buffer_for service graph node own).messages
    ≡ with_held (fate_by (buffer_for service graph node own) (message_of service (gets_of graph node (Some (link, p)))))
    (message_of service (gets_of graph node (Some (link, p)))) (buffer_for service graph node own).messages
    → with_held f (message_of service (Some p)) (buffer_for service graph node own).messages ≡ (buffer_with service graph node own r).messages
messages_with service graph node own r link p is f joins_are =
    let b : ℕ = barrier_at (plane_of service) graph node own in
    let failed : List Announced = failed_for service own in
    let was : Key → Bool = recalled_for service graph node own in
    let ms : Messages = held service graph node own in
    joined_kept f (message_of service (Some p)) (message_of service (gets_of graph node (Some (link, p)))) b failed (has_tombstone (stones_for service graph node own)) was ms
    (held_in_order service graph node own) (agrees service graph node own) joins_are
    ∙ ap (λ (o : Option (ℕ × Packet)). still_held b failed was (with_held (fate_for b failed was ms (message_of service (gets_of graph node o))) (message_of service (gets_of graph node o)) ms)) (sym is)

-- the buffer with these messages, and the tombstone of what a packet takes back
abbrev buffer_taking : Service → Graph → ℕ → List Record → Option (ℕ × Packet) → Messages → Buffer
buffer_taking service graph node own o ms = record {
  service = service;
  barrier = barrier_at (plane_of service) graph node own;
  failed = failed_for service own;
  tombstones = stones_by service graph node own (gets_of graph node o);
  newest = newest_by service graph node own (gets_of graph node o);
  messages = ms;
}

-- what is held with what it brings
pub joined_with : (graph : Graph) (node : ℕ) (own : List Record) (r : Record) (link : ℕ) (p : Packet) → received graph node own r ≡ Some (link, p)
    → all_joined (fate_among (buffers_for graph node own) (gets_of graph node (Some (link, p)))) p (all_burying (gets_of graph node (Some (link, p))) (buffers_for graph node own))
    ≡ buffers_joined graph node own r
joined_with graph node own r link p is =
    let h : Buffers = buffers_for graph node own in
    let m : Option Packet = gets_of graph node (Some (link, p)) in
    let f : Option Fate = fate_among h m in
    buffers_are (all_joined f p (all_burying m h)) (buffer_joined BestEffort graph node own r) (buffer_joined Reliable graph node own r)
    (ap (buffer_taking BestEffort graph node own (Some (link, p))) (messages_with BestEffort graph node own r link p is f (joins BestEffort h p m h.best.messages (brought graph node link p))))
    (ap (buffer_taking Reliable graph node own (Some (link, p))) (messages_with Reliable graph node own r link p is f (joins Reliable h p m h.reliable.messages (brought graph node link p)))
    ∙ ap {B = Buffer} (λ (o : Option (ℕ × Packet)). buffer_taking Reliable graph node own o (buffer_with Reliable graph node own r).messages) (sym is))

pub held_with : (graph : Graph) (node : ℕ) (own : List Record) (r : Record) (link : ℕ) (p : Packet) → received graph node own r ≡ Some (link, p) → r.step.noted ≡ []
    → all_joined (fate_among (buffers_for graph node own) (gets_of graph node (Some (link, p)))) p (all_burying (gets_of graph node (Some (link, p))) (buffers_for graph node own))
    ≡ buffers_with graph node own r
held_with graph node own r link p is no_news = joined_with graph node own r link p is ∙ sym (none_noted graph node own r no_news)

-- what a host gets is what is addressed to it, as far as it takes messages back
buried_from : (host mine beacon recall : Bool) (p : Packet) (b : Buffer) → host ≡ true → (recall ≡ true → beacon ≡ false) → is_recall p.kind ≡ recall
    → burying (if host && (mine && not beacon) then Some p else None) b ≡ burying (where_mine mine p) b
buried_from true false beacon recall p b here apart is = refl
buried_from true true false recall p b here apart is = refl
buried_from true true true true p b here apart is = let other : true ≡ false = apart refl in cc
buried_from true true true false p b here apart is = rw is refl
buried_from false mine beacon recall p b here apart is = cc

no_beacon : (kind : PacketKind) → is_recall kind ≡ true → is_beacon kind ≡ false
no_beacon Beacon is = cc
no_beacon Plain is = refl
no_beacon Prepare is = refl
no_beacon Ack is = refl
no_beacon Recall is = refl
no_beacon RecallAck is = refl

pub buries_mine : (graph : Graph) (node link : ℕ) (p : Packet) (h : Buffers) → is_host graph node ≡ true
    → all_burying (where_mine (p.dst.0 == node) p) h ≡ all_burying (gets_of graph node (Some (link, p))) h
buries_mine graph node link p h host =
    ap {B = Buffers} (λ (b : Buffer). record { best = h.best; reliable = b })
    (sym (buried_from (is_host graph node) (p.dst.0 == node) (is_beacon p.kind) (is_recall p.kind) p h.reliable host (no_beacon p.kind) refl))

-- ---- the barriers after a record

-- what was void stays so
covers : (service : Service) (own : List Record) (r : Record) → Covers (failed_for service own) (failed_for service (r ∷ own))
covers BestEffort own r k is = is
covers Reliable own r k is = covers_more (noted_hosts own) r.step.noted k is

-- what is kept without what is void by others is kept without it from the start
voids : (b : ℕ) (failed more : List Announced) (was : Key → Bool) (ms : Messages) → Covers failed more → without_void more (still_held b failed was ms) ≡ still_held b more was ms
voids b failed more was ms cover =
    filter_swap (λ m. not (is_void more m.0)) (λ m. nat_le b m.0.ts.0) (without_keys was (without_void failed ms))
    ∙ ap (from_barrier b) (filter_swap (λ m. not (is_void more m.0)) (λ m. not (was m.0)) (without_void failed ms) ∙ ap (without_keys was) (without_more failed more ms cover))

-- what a barrier lets out of what was kept before, without what is void and what is taken back now
lets_out : (b n : ℕ) (failed more : List Announced) (stone was now : Key → Bool) (ms : Messages) → Covers failed more → Agree b stone now → ((k : Key) → was k ≡ true → now k ≡ true)
    → without_keys stone (without_void more (below_barrier n (still_held b failed was ms))) ≡ below_barrier n (still_held b more now ms)
lets_out b n failed more stone was now ms cover agree stays =
    ap (without_keys stone) (filter_swap (λ m. not (is_void more m.0)) (λ m. nat_lt m.0.ts.0 n) (still_held b failed was ms) ∙ ap (below_barrier n) (voids b failed more was ms cover))
    ∙ filter_swap (λ m. not (stone m.0)) (λ m. nat_lt m.0.ts.0 n) (still_held b more was ms)
    ∙ ap (below_barrier n) (without_stones b stone was now (without_void more ms) agree stays)

-- what they let out is what the record logs
pub logs : (graph : Graph) (node : ℕ) (own : List Record) (r : Record) (b : Barriers) → AreBarriers (ins_of graph node) (moments_of graph node (r ∷ own)) b
    → logged_by b (buffers_with graph node own r) ≡ logged graph node own r
logs graph node own r b are =
    let passed : Service → ℕ → List (Service × Entry) =
    λ service n. logged_of service (below_barrier n (from_barrier (barrier_at (plane_of service) graph node own) (standing service graph node (r ∷ own)))) in
    let lets : (service : Service) (n : ℕ) → passed_by n (buffer_with service graph node own r) ≡ passed service n =
    λ service n. ap (logged_of service)
    (lets_out (barrier_at (plane_of service) graph node own) n (failed_for service own) (failed_for service (r ∷ own)) (has_tombstone (stones_during service graph node own r))
    (recalled_for service graph node own) (recalled_for service graph node (r ∷ own)) (held service graph node (r ∷ own)) (covers service own r) (agrees_during service graph node own r)
    (recalled_stays service graph node own r)) in
    ap₂ (λ (xs ys : List (Service × Entry)). xs ++ ys) (lets BestEffort b.be.0) (lets Reliable b.commit.0)
    ∙ ap (λ (n : ℕ). passed BestEffort n ++ passed Reliable b.commit.0) are.be_is
    ∙ ap (λ (n : ℕ). passed BestEffort (barrier_at plane.BestEffort graph node (r ∷ own)) ++ passed Reliable n) are.commit_is

-- a buffer after a record's barrier, with what is void by these hosts, what was taken back as a test of keys, and the newest tombstone
abbrev buffer_past : Service → Graph → ℕ → List Record → Record → List Announced → (Key → Bool) → Option Key → Buffer
buffer_past service graph node own r failed was newest = record {
  service = service;
  barrier = barrier_at (plane_of service) graph node (r ∷ own);
  failed = failed_for service (r ∷ own);
  tombstones = keys_from (barrier_at (plane_of service) graph node (r ∷ own)) (stones_during service graph node own r);
  newest = newest;
  messages = still_held (barrier_at (plane_of service) graph node (r ∷ own)) failed was (held service graph node (r ∷ own));
}

left_is : (b c n : ℕ) (failed : List Announced) (was : Key → Bool) (ms : Messages) (k : Buffer) → k.messages ≡ still_held b failed was ms → n ≡ c → b ≤ c
    → left_by n k ≡ record k { barrier = c; tombstones = keys_from c k.tombstones; messages = still_held c failed was ms }
left_is b c n failed was ms k messages_are same rises =
    ap {B = Buffer} (λ (x : ℕ). left_by x k) same
    ∙ ap {B = Buffer} (λ (xs : Messages). record k { barrier = c; tombstones = keys_from c k.tombstones; messages = xs })
    (ap (from_barrier c) messages_are ∙ from_later b c (without_keys was (without_void failed ms)) rises)

leaves_one : (service : Service) (graph : Graph) (node : ℕ) (own : List Record) (r : Record) (n : ℕ) → n ≡ barrier_at (plane_of service) graph node (r ∷ own)
    → left_by n (buffer_with service graph node own r)
    ≡ buffer_past service graph node own r (failed_for service own) (recalled_for service graph node own) (newest_during service graph node own r)
leaves_one service graph node own r n is =
    left_is (barrier_at (plane_of service) graph node own) (barrier_at (plane_of service) graph node (r ∷ own)) n (failed_for service own) (recalled_for service graph node own)
    (held service graph node (r ∷ own)) (buffer_with service graph node own r) refl is (barrier_rises (plane_of service) graph node own r)

-- the newest tombstone's message goes
takes_back_one : (graph : Graph) (node : ℕ) (own : List Record) (r : Record)
    → with_no_buried (buffer_past Reliable graph node own r (noted_hosts own) (recalled_for Reliable graph node own) (newest_during Reliable graph node own r))
    ≡ buffer_past Reliable graph node own r (noted_hosts own) (recalled_for Reliable graph node (r ∷ own)) None
takes_back_one graph node own r =
    ap {B = Buffer} (λ (xs : Messages). record (buffer_past Reliable graph node own r (noted_hosts own) (recalled_for Reliable graph node own) None) { messages = xs })
    (newest_goes (barrier_at plane.Commit graph node own) (barrier_at plane.Commit graph node (r ∷ own)) (gets graph node own r) (stones graph node own) (recalled_for Reliable graph node own)
    (without_void (noted_hosts own) (held Reliable graph node (r ∷ own))) (barrier_rises plane.Commit graph node own r) (agrees Reliable graph node own))

-- what the barriers after a record leave, before what is void by it goes
abbrev pub buffer_left : Graph → ℕ → List Record → Record → Buffer
buffer_left graph node own r = buffer_past Reliable graph node own r (noted_hosts own) (recalled_for Reliable graph node (r ∷ own)) None

pub leaves : (graph : Graph) (node : ℕ) (own : List Record) (r : Record) (b : Barriers) → AreBarriersAt graph node (r ∷ own) b
    → without_buried (all_left b (buffers_with graph node own r)) ≡ record { best = buffer_for BestEffort graph node (r ∷ own); reliable = buffer_left graph node own r }
leaves graph node own r b are =
    buffers_are (without_buried (all_left b (buffers_with graph node own r))) (buffer_for BestEffort graph node (r ∷ own)) (buffer_left graph node own r)
    (leaves_one BestEffort graph node own r b.be.0 are.be_is)
    (ap with_no_buried (leaves_one Reliable graph node own r b.commit.0 are.commit_is) ∙ takes_back_one graph node own r)

-- then what is void by now goes, and the host holds what it is to
pub discards : (graph : Graph) (node : ℕ) (own : List Record) (r : Record) → with_no_void (buffer_left graph node own r) ≡ buffer_for Reliable graph node (r ∷ own)
discards graph node own r =
    ap {B = Buffer} (λ (xs : Messages). record (buffer_left graph node own r) { messages = xs })
    (voids (barrier_at plane.Commit graph node (r ∷ own)) (noted_hosts own) (noted_hosts (r ∷ own)) (recalled_for Reliable graph node (r ∷ own)) (held Reliable graph node (r ∷ own)) (covers Reliable own r))

-- where none is noted nothing more is void
pub discards_none : (graph : Graph) (node : ℕ) (own : List Record) (r : Record) → r.step.noted ≡ [] → buffer_left graph node own r ≡ buffer_for Reliable graph node (r ∷ own)
discards_none graph node own r none =
    ap {B = Buffer} (λ (failed : List Announced). buffer_past Reliable graph node own r failed (recalled_for Reliable graph node (r ∷ own)) None) (sym (still_failed Reliable own r none))

-- a record that brings no packet receives none
pub brings_none : (moments : List Moment) (event : Event) (t : Took) → ((l : LinkId) (p : Packet) → t ≡ Link l p → ⊥) → received_of moments event t ≡ None
brings_none moments (Take link place keep) (Link l p) no_link = absurd (no_link l p refl)
brings_none moments (Take link place keep) Nothing no_link = refl
brings_none moments (Take link place keep) (Message a) no_link = refl
brings_none moments _ t no_link = refl

-- a list of no items
pub empty_from : {A : Type 0} (xs : List A) → (length xs == 0) ≡ true → xs ≡ []
empty_from [] is = refl
empty_from (x ∷ xs) is = let none : length (x ∷ xs) ≡ 0 = eqb-true (length (x ∷ xs)) 0 is in absurd (omega (arith, none))

-- ---- a record that is refused: what was held for it had not been held before

pub record Returns (graph : Graph) (node : ℕ) (own : List Record) (r : Record) (p : Packet) : Type 0 where
  pub fresh : IsFresh r.step.fate p (buffers_for graph node own)
  pub got : Option Packet
  pub held_are : buffers_joined graph node own r ≡ all_joined r.step.fate p (all_burying got (buffers_for graph node own))

returns_none : (graph : Graph) (node : ℕ) (own : List Record) (r : Record) (p : Packet) → r.step.fate ≡ fate graph node own r → received graph node own r ≡ None → Returns graph node own r p
returns_none graph node own r p fate_is none =
    let h : Buffers = buffers_for graph node own in
    let no_fate : None ≡ r.step.fate = still_fate graph node own r none ∙ sym fate_is in
    record {
      fresh = subst (λ (f : Option Fate). IsFresh f p h) no_fate (λ service. tt);
      got = None;
      held_are = still_joined graph node own r none ∙ ap (λ (f : Option Fate). all_joined f p h) no_fate;
    }

returns_some : (graph : Graph) (node : ℕ) (own : List Record) (r : Record) (link : ℕ) (p : Packet) → r.step.fate ≡ fate graph node own r → received graph node own r ≡ Some (link, p) → Returns graph node own r p
returns_some graph node own r link p fate_is is =
    let h : Buffers = buffers_for graph node own in
    let m : Option Packet = gets_of graph node (Some (link, p)) in
    let fate_was : fate_among h m ≡ r.step.fate = fate_with graph node own r (link, p) is ∙ sym fate_is in
    record {
      fresh = subst (λ (f : Option Fate). IsFresh f p h) fate_was (fresh h p m (brought graph node link p));
      got = m;
      held_are = sym (joined_with graph node own r link p is) ∙ ap (λ (f : Option Fate). all_joined f p (all_burying m h)) fate_was;
    }

returns_by : (graph : Graph) (node : ℕ) (own : List Record) (r : Record) (l : LinkId) (p : Packet) (o : Option (ℕ × Packet)) → r.step.fate ≡ fate graph node own r → r.took ≡ Link l p
    → received graph node own r ≡ o → Returns graph node own r p
returns_by graph node own r l p None fate_is took is = returns_none graph node own r p fate_is is
returns_by graph node own r l p (Some q) fate_is took is =
    let same : p ≡ q.1 =
    received_packet (moments_of graph node own) r.event l p q (subst (λ (t : Took). received_of (moments_of graph node own) r.event t ≡ Some q) took is) in
    returns_some graph node own r q.0 p fate_is (is ∙ ap {B = Option (ℕ × Packet)} (λ (x : Packet). Some (q.0, x)) (sym same))

pub returns_held : (graph : Graph) (node : ℕ) (own : List Record) (r : Record) (l : LinkId) (p : Packet) → r.step.fate ≡ fate graph node own r → r.took ≡ Link l p → Returns graph node own r p
returns_held graph node own r l p fate_is took = returns_by graph node own r l p (received graph node own r) fate_is took refl
