-- What a host holds from its barriers on, against all that it ever held.
use Rattle.std.proofs.Common.{◌≡◌, ◌⊎◌, ℕ, ◌≤◌, ◌==◌, ◌&&◌, not, nat_le, Bool, true, false, List, [], ◌∷◌, if◌then◌else◌, Option, None, Some, refl, sym, subst, ap, ◌∙◌, inl, inr, le-leb}
use Rattle.std.specs.Prelude.{nat_lt}
use Rattle.std.specs.Option.{option_or}
use Rattle.std.proofs.lemmas.Bool.{ltb-false, not_from_false}
use Rattle.pipe_base.specs.declared.control.Announced.{Announced}
use Rattle.pipe_base.specs.declared.message.Key.{Key}
use Rattle.pipe_base.specs.declared.message.Service.{Service}
use Rattle.pipe_base.specs.declared.message.Service.TheVariants.{BestEffort, Reliable}
use Rattle.pipe_base.specs.declared.name.Ts.{Ts}
use Rattle.pipe_base.specs.declared.packet.Packet.{Packet}
use Rattle.pipe_base.specs.declared.packet.PacketKind.{PacketKind}
use Rattle.pipe_base.specs.declared.packet.PacketKind.TheVariants.{Beacon, Plain, Prepare, Ack, Recall, RecallAck}
use Rattle.pipe_base.specs.declared.step.Fate.{Fate}
use Rattle.pipe_base.specs.declared.step.Fate.TheVariants.{Held, Repeat, Late, Discarded, Recalled}
use Rattle.pipe_base.specs.Failed.{is_from, is_void, time_of, without_void}
use Rattle.pipe_base.specs.Fate.{fate_from, fate_of}
use Rattle.pipe_base.specs.Fate as fates
use Rattle.pipe_graph.specs.Graph.{Graph, is_host}
use Rattle.pipe_base.specs.Messages.{IsInOrder, Messages, from_barrier, has_key, without_keys}
use Rattle.pipe_base.proofs.KeyOrder.{order_filter, order_with}
use Rattle.pipe_base.proofs.MessageLaws.{has_from, has_passing, passing-with}
use Rattle.pipe_model.specs.declared.record.Record.{Record}
use Rattle.pipe_model.specs.Fate.{fate_for, fate_in, held, with_held}
use Rattle.pipe_model.specs.Got.{carries, got, gets_of, is_beacon, key_of, message_of}
use Rattle.pipe_host.specs.declared.buffers.Buffers.{Buffers}
use Rattle.pipe_reorder.specs.Buffer.{Buffer, has_tombstone}
use Rattle.pipe_reorder.proofs.VoidLaws.{has_standing, standing-with}
use Rattle.pipe_host.specs.Buffers.{IsFresh, IsNew, all_burying, buffer_of, fate_among, fate_by, joined}
use Rattle.pipe_host.specs.Host.{still_held}

-- a test of keys that a buffer answers is the one of the rules, for keys that the barrier has not passed
abbrev pub Agree : ℕ → (among was : Key → Bool) → Type 0
Agree b among was = (k : Key) → b ≤ k.ts.0 → among k ≡ was k

-- a message that is neither late nor void nor taken back has the fate that all messages ever held give it
among_kept : (t : Bool) (b : ℕ) (failed : List Announced) (was : Key → Bool) (ms : Messages) (k : Key) → b ≤ k.ts.0 → is_void failed k ≡ false → was k ≡ t
    → fates.fate_among t (still_held b failed was ms) k ≡ fates.fate_among t ms k
among_kept true b failed was ms k low stands is = refl
among_kept false b failed was ms k low stands is =
    ap (λ (h : Bool). if h then Repeat else Held)
    (has_from b k (without_keys was (without_void failed ms)) low
    ∙ has_passing (λ n. not (was n)) k (without_void failed ms) (not_from_false (was k) is)
    ∙ has_standing failed k ms stands)

discard_kept : (void : Bool) (time : Ts) (b : ℕ) (failed : List Announced) (was : Key → Bool) (ms : Messages) (k : Key) → b ≤ k.ts.0 → is_void failed k ≡ void
    → (if void then Discarded time else fates.fate_among (was k) (still_held b failed was ms) k) ≡ (if void then Discarded time else fates.fate_among (was k) ms k)
discard_kept true time b failed was ms k low is = refl
discard_kept false time b failed was ms k low is = among_kept (was k) b failed was ms k low is refl

void_kept : (t : Option Ts) (b : ℕ) (failed : List Announced) (was : Key → Bool) (ms : Messages) (k : Key) → b ≤ k.ts.0 → time_of k.src.0 failed ≡ t
    → fate_from t (was k) (still_held b failed was ms) k ≡ fate_from t (was k) ms k
void_kept None b failed was ms k low is = among_kept (was k) b failed was ms k low (ap (λ (o : Option Ts). is_from o k.ts) is) refl
void_kept (Some time) b failed was ms k low is =
    discard_kept (nat_le time.0 k.ts.0) time b failed was ms k low (ap (λ (o : Option Ts). is_from o k.ts) is)

late_kept : (late : Bool) (b : ℕ) (failed : List Announced) (among was : Key → Bool) (ms : Messages) (k : Key) → Agree b among was → nat_lt k.ts.0 b ≡ late
    → (if late then Late (record { 0 = b }) else fate_from (time_of k.src.0 failed) (among k) (still_held b failed was ms) k)
    ≡ (if late then Late (record { 0 = b }) else fate_from (time_of k.src.0 failed) (was k) ms k)
late_kept true b failed among was ms k agree is = refl
late_kept false b failed among was ms k agree is =
    let low : b ≤ k.ts.0 = ltb-false k.ts.0 b is in
    ap (λ (t : Bool). fate_from (time_of k.src.0 failed) t (still_held b failed was ms) k) (agree k low) ∙ void_kept (time_of k.src.0 failed) b failed was ms k low refl

pub fate_kept : (b : ℕ) (failed : List Announced) (among was : Key → Bool) (ms : Messages) (m : Option Packet) → Agree b among was
    → fate_for b failed among (still_held b failed was ms) m ≡ fate_for b failed was ms m
fate_kept b failed among was ms None agree = refl
fate_kept b failed among was ms (Some p) agree = ap (λ (f : Fate). Some f) (late_kept (nat_lt p.ts.0 b) b failed among was ms (key_of p) agree refl)

-- ---- a message with the fate held is neither late nor void nor taken back, and no message has its key

pub record IsHeld (b : ℕ) (failed : List Announced) (was : Key → Bool) (ms : Messages) (k : Key) : Type 0 where
  pub from : b ≤ k.ts.0
  pub stands : is_void failed k ≡ false
  pub wanted : was k ≡ false
  pub new : has_key k ms ≡ false

new_by : (recalled has : Bool) → (if recalled then Recalled else if has then Repeat else Held) ≡ Held → (recalled ≡ false) × (has ≡ false)
new_by true has is = cc
new_by false true is = cc
new_by false false is = (refl, refl)

among_by : (b : ℕ) (failed : List Announced) (was : Key → Bool) (ms : Messages) (k : Key) → b ≤ k.ts.0 → is_void failed k ≡ false → fates.fate_among (was k) ms k ≡ Held
    → IsHeld b failed was ms k
among_by b failed was ms k low stands held =
    let new = new_by (was k) (has_key k ms) held in
    record { from = low; stands = stands; wanted = new.0; new = new.1 }

discarded_by : (void : Bool) (time : Ts) (b : ℕ) (failed : List Announced) (was : Key → Bool) (ms : Messages) (k : Key) → b ≤ k.ts.0 → is_void failed k ≡ void
    → (if void then Discarded time else fates.fate_among (was k) ms k) ≡ Held → IsHeld b failed was ms k
discarded_by true time b failed was ms k low is held = cc
discarded_by false time b failed was ms k low is held = among_by b failed was ms k low is held

void_by : (t : Option Ts) (b : ℕ) (failed : List Announced) (was : Key → Bool) (ms : Messages) (k : Key) → b ≤ k.ts.0 → time_of k.src.0 failed ≡ t
    → fate_from t (was k) ms k ≡ Held → IsHeld b failed was ms k
void_by None b failed was ms k low is held = among_by b failed was ms k low (ap (λ (o : Option Ts). is_from o k.ts) is) held
void_by (Some time) b failed was ms k low is held =
    discarded_by (nat_le time.0 k.ts.0) time b failed was ms k low (ap (λ (o : Option Ts). is_from o k.ts) is) held

late_by : (late : Bool) (b : ℕ) (failed : List Announced) (was : Key → Bool) (ms : Messages) (k : Key) → nat_lt k.ts.0 b ≡ late
    → (if late then Late (record { 0 = b }) else fate_from (time_of k.src.0 failed) (was k) ms k) ≡ Held → IsHeld b failed was ms k
late_by true b failed was ms k is held = cc
late_by false b failed was ms k is held = void_by (time_of k.src.0 failed) b failed was ms k (ltb-false k.ts.0 b is) refl held

held_from : (b : ℕ) (failed : List Announced) (was : Key → Bool) (ms : Messages) (k : Key) → fate_of b (time_of k.src.0 failed) (was k) ms k ≡ Held → IsHeld b failed was ms k
held_from b failed was ms k held = late_by (nat_lt k.ts.0 b) b failed was ms k refl held

keeps_by : (f : Fate) (b : ℕ) (failed : List Announced) (was : Key → Bool) (ms : Messages) (p : Packet) → IsInOrder ms → (f ≡ Held → IsHeld b failed was ms (key_of p))
    → with_held (Some f) (Some p) (still_held b failed was ms) ≡ still_held b failed was (with_held (Some f) (Some p) ms)
keeps_by Held b failed was ms p order is =
    let held = is refl in
    let standing = order_filter (λ m. not (is_void failed m.0)) ms order in
    sym (ap (λ (xs : Messages). from_barrier b (without_keys was xs)) (standing-with failed (key_of p) p.body ms order held.stands)
    ∙ ap (from_barrier b) (passing-with (λ n. not (was n)) (key_of p) p.body (without_void failed ms) standing (not_from_false (was (key_of p)) held.wanted))
    ∙ passing-with (λ n. nat_le b n.ts.0) (key_of p) p.body (without_keys was (without_void failed ms)) (order_filter (λ m. not (was m.0)) (without_void failed ms) standing)
    (le-leb b p.ts.0 held.from))
keeps_by Repeat b failed was ms p order is = refl
keeps_by (Late c) b failed was ms p order is = refl
keeps_by (Discarded t) b failed was ms p order is = refl
keeps_by Recalled b failed was ms p order is = refl

-- what is kept with a message is kept of all that was ever held with it
pub held_kept : (b : ℕ) (failed : List Announced) (was : Key → Bool) (ms : Messages) (m : Option Packet) → IsInOrder ms
    → with_held (fate_for b failed was ms m) m (still_held b failed was ms) ≡ still_held b failed was (with_held (fate_for b failed was ms m) m ms)
held_kept b failed was ms None order = refl
held_kept b failed was ms (Some p) order =
    keeps_by (fate_of b (time_of p.src.0 failed) (was (key_of p)) ms (key_of p)) b failed was ms p order (held_from b failed was ms (key_of p))

order_with_held : (f : Option Fate) (m : Option Packet) (ms : Messages) → IsInOrder ms → IsInOrder (with_held f m ms)
order_with_held None m ms order = order
order_with_held (Some Held) None ms order = order
order_with_held (Some Held) (Some p) ms order = order_with (key_of p) p.body ms order
order_with_held (Some Repeat) m ms order = order
order_with_held (Some (Late b)) m ms order = order
order_with_held (Some (Discarded t)) m ms order = order
order_with_held (Some Recalled) m ms order = order

-- all that was ever held is in order
pub held_in_order : (service : Service) (graph : Graph) (node : ℕ) (own : List Record) → IsInOrder (held service graph node own)
held_in_order service graph node [] = tt
held_in_order service graph node (r ∷ own) =
    order_with_held (fate_in service graph node own r) (got service graph node own r) (held service graph node own) (held_in_order service graph node own)

-- a host gets the packet that it received, or nothing
abbrev pub Brought : Packet → Option Packet → Type 0
Brought p got = (got ≡ None) ⊎ (got ≡ Some p)

brought_by : (t : Bool) (p : Packet) → Brought p (if t then Some p else None)
brought_by true p = inr refl
brought_by false p = inl refl

pub brought : (graph : Graph) (node link : ℕ) (p : Packet) → Brought p (gets_of graph node (Some (link, p)))
brought graph node link p = brought_by (is_host graph node && ((p.dst.0 == node) && not (is_beacon p.kind))) p

-- where there is no message, none is held
pub held_none : (f : Option Fate) (ms : Messages) → with_held f None ms ≡ ms
held_none None ms = refl
held_none (Some Held) ms = refl
held_none (Some Repeat) ms = refl
held_none (Some (Late b)) ms = refl
held_none (Some (Discarded t)) ms = refl
held_none (Some Recalled) ms = refl

new_none : (f : Option Fate) (ms : Messages) → IsNew f None ms
new_none None ms = tt
new_none (Some Held) ms = tt
new_none (Some Repeat) ms = tt
new_none (Some (Late b)) ms = tt
new_none (Some (Discarded t)) ms = tt
new_none (Some Recalled) ms = tt

fresh_by : (f : Fate) (b : ℕ) (failed : List Announced) (was : Key → Bool) (ms : Messages) (p : Packet) → (f ≡ Held → IsHeld b failed was ms (key_of p))
    → IsNew (Some f) (Some p) ms
fresh_by Held b failed was ms p is = (is refl).new
fresh_by Repeat b failed was ms p is = tt
fresh_by (Late c) b failed was ms p is = tt
fresh_by (Discarded t) b failed was ms p is = tt
fresh_by Recalled b failed was ms p is = tt

-- a message with the fate held is new
pub new_for : (b : ℕ) (failed : List Announced) (was : Key → Bool) (ms : Messages) (m : Option Packet) → IsNew (fate_for b failed was ms m) m ms
new_for b failed was ms None = tt
new_for b failed was ms (Some p) =
    fresh_by (fate_of b (time_of p.src.0 failed) (was (key_of p)) ms (key_of p)) b failed was ms p (held_from b failed was ms (key_of p))

-- a packet carries a message of one service at most
pub apart : (kind : PacketKind) → carries Reliable kind ≡ true → carries BestEffort kind ≡ false
apart Beacon is = refl
apart Plain is = cc
apart Prepare is = refl
apart Ack is = refl
apart Recall is = refl
apart RecallAck is = refl

pub apart_too : (kind : PacketKind) → carries BestEffort kind ≡ true → carries Reliable kind ≡ false
apart_too Beacon is = refl
apart_too Plain is = refl
apart_too Prepare is = cc
apart_too Ack is = refl
apart_too Recall is = refl
apart_too RecallAck is = refl

-- the message of a packet, by whether it carries one
pub carried : (service : Service) (p : Packet) → carries service p.kind ≡ true → message_of service (Some p) ≡ Some p
carried service p is = rw is refl

pub not_carried : (service : Service) (p : Packet) → carries service p.kind ≡ false → message_of service (Some p) ≡ None
not_carried service p is = rw is refl

-- ---- the fate of a packet's message among the buffers of both services

-- the fate of the message of one service
abbrev pub fate_in_one : Service → Buffers → Option Packet → Option Fate
fate_in_one service h m = fate_by (buffer_of service h) (message_of service m)

-- a packet carries no message of the service, or its fate is that of the one message that it carries
abbrev Alike : Option Packet → Option Fate → Option Fate → Type 0
Alike message all one = (message ≡ None) ⊎ (all ≡ one)

best_alike : (c : Bool) (h : Buffers) (p : Packet) → carries BestEffort p.kind ≡ c → Alike (message_of BestEffort (Some p)) (fate_among h (Some p)) (fate_in_one BestEffort h (Some p))
best_alike false h p is = inl (not_carried BestEffort p is)
best_alike true h p is =
    let reliable : Option Fate = fate_in_one Reliable h (Some p) in
    inr (ap (λ (o : Option Packet). option_or (fate_by h.best o) reliable) (carried BestEffort p is) ∙ ap (fate_by h.best) (sym (carried BestEffort p is)))

reliable_alike : (c : Bool) (h : Buffers) (p : Packet) → carries Reliable p.kind ≡ c → Alike (message_of Reliable (Some p)) (fate_among h (Some p)) (fate_in_one Reliable h (Some p))
reliable_alike false h p is = inl (not_carried Reliable p is)
reliable_alike true h p is =
    inr (ap (λ (o : Option Packet). option_or (fate_by h.best o) (fate_in_one Reliable h (Some p))) (not_carried BestEffort p (apart p.kind is)))

alike : (service : Service) (h : Buffers) (p : Packet) → Alike (message_of service (Some p)) (fate_among h (Some p)) (fate_in_one service h (Some p))
alike BestEffort h p = best_alike (carries BestEffort p.kind) h p refl
alike Reliable h p = reliable_alike (carries Reliable p.kind) h p refl

same_held : (all one : Option Fate) (o : Option Packet) (ms : Messages) → Alike o all one → with_held all o ms ≡ with_held one o ms
same_held all one o ms (inl none) = subst (λ (m : Option Packet). with_held all m ms ≡ with_held one m ms) (sym none) (held_none all ms ∙ sym (held_none one ms))
same_held all one o ms (inr same) = ap (λ (f : Option Fate). with_held f o ms) same

same_new : (all one : Option Fate) (o : Option Packet) (ms : Messages) → Alike o all one → IsNew one o ms → IsNew all o ms
same_new all one o ms (inl none) new = subst (λ (m : Option Packet). IsNew all m ms) (sym none) (new_none all ms)
same_new all one o ms (inr same) new = subst (λ (f : Option Fate). IsNew f o ms) (sym same) new

-- what joins a buffer is what its own service gives a fate
pub joins : (service : Service) (h : Buffers) (p : Packet) (m : Option Packet) (ms : Messages) → Brought p m
    → with_held (fate_among h m) (message_of service (Some p)) ms ≡ with_held (fate_in_one service h m) (message_of service m) ms
joins service h p m ms (inl none) =
    subst (λ (o : Option Packet). with_held (fate_among h o) (message_of service (Some p)) ms ≡ with_held (fate_in_one service h o) (message_of service o) ms) (sym none) refl
joins service h p m ms (inr some) =
    subst (λ (o : Option Packet). with_held (fate_among h o) (message_of service (Some p)) ms ≡ with_held (fate_in_one service h o) (message_of service o) ms) (sym some)
    (same_held (fate_among h (Some p)) (fate_in_one service h (Some p)) (message_of service (Some p)) ms (alike service h p))

-- a message with the fate held is in no buffer
pub fresh : (h : Buffers) (p : Packet) (m : Option Packet) → Brought p m → IsFresh (fate_among h m) p h
fresh h p m (inl none) service = subst (λ (o : Option Packet). IsNew (fate_among h o) (message_of service (Some p)) (buffer_of service h).messages) (sym none) tt
fresh h p m (inr some) service =
    subst (λ (o : Option Packet). IsNew (fate_among h o) (message_of service (Some p)) (buffer_of service h).messages) (sym some)
    (same_new (fate_among h (Some p)) (fate_in_one service h (Some p)) (message_of service (Some p)) (buffer_of service h).messages (alike service h p)
    (new_for (buffer_of service h).barrier (buffer_of service h).failed (has_tombstone (buffer_of service h).tombstones) (buffer_of service h).messages (message_of service (Some p))))

-- a tombstone holds no message
pub fresh_burying : (got : Option Packet) (f : Option Fate) (p : Packet) (h : Buffers) → IsFresh f p h → IsFresh f p (all_burying got h)
fresh_burying got f p h new BestEffort = new BestEffort
fresh_burying got f p h new Reliable = new Reliable

-- the messages that are kept, with what joins them, are kept of all that were ever held with it
pub joined_kept : (f : Option Fate) (o m : Option Packet) (b : ℕ) (failed : List Announced) (among was : Key → Bool) (ms : Messages) → IsInOrder ms → Agree b among was
    → with_held f o (still_held b failed was ms) ≡ with_held (fate_for b failed among (still_held b failed was ms) m) m (still_held b failed was ms)
    → with_held f o (still_held b failed was ms) ≡ still_held b failed was (with_held (fate_for b failed was ms m) m ms)
joined_kept f o m b failed among was ms order agree is =
    is ∙ ap (λ (g : Option Fate). with_held g m (still_held b failed was ms)) (fate_kept b failed among was ms m agree) ∙ held_kept b failed was ms m order

-- a packet that carries no message of the service leaves its buffer alone
pub not_joined : (service : Service) (f : Option Fate) (p : Packet) (b : Buffer) → carries service p.kind ≡ false → joined service f p b ≡ b
not_joined service f p b is =
    ap {B = Buffer} (λ (o : Option Packet). record b { messages = with_held f o b.messages }) (not_carried service p is) ∙ ap {B = Buffer} (λ (ms : Messages). record b { messages = ms }) (held_none f b.messages)
