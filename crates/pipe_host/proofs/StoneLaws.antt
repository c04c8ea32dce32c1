-- The tombstones that a host keeps are those of the messages that it was told to take back and that the barrier has not passed.
use Rattle.std.proofs.Common.{◌≡◌, ℕ, ◌≤◌, ◌==◌, ◌&&◌, ◌||◌, not, nat_le, Bool, true, false, cond, if◌then◌else◌, List, [], ◌∷◌, filter, Option, None, Some, refl, sym, subst, ap, ap₂, ◌∙◌, le_trans, arith, leb-true, le-leb}
use Rattle.std.proofs.lemmas.Bool.Decides.{nat_tests}
use Rattle.std.proofs.lemmas.List.Elements.{filter_agree}
use Rattle.pipe_base.specs.declared.message.Key.{Key}
use Rattle.pipe_base.specs.declared.message.Service.{Service}
use Rattle.pipe_base.specs.declared.message.Service.TheVariants.{BestEffort, Reliable}
use Rattle.pipe_base.specs.declared.packet.Packet.{Packet}
use Rattle.pipe_base.specs.declared.packet.Plane.TheVariants.{Commit}
use Rattle.pipe_graph.specs.Graph.{Graph}
use Rattle.pipe_base.specs.Messages.{Messages, from_barrier, same_key, without_keys}
use Rattle.pipe_model.specs.declared.record.Record.{Record}
use Rattle.pipe_model.specs.Fate.{plane_of, recalled_for}
use Rattle.pipe_model.specs.Got.{gets, key_of}
use Rattle.pipe_model.specs.Moments.{barrier_at}
use Rattle.pipe_model.specs.Recalls.{got_recall, is_recall, takes_back}
use Rattle.pipe_model.proofs.Rising.{barrier_rises}
use Rattle.pipe_reorder.specs.Buffer.{Buffer, has_tombstone, is_buried_by, newest_with, with_tombstone, with_unburied, without_newest}
use Rattle.pipe_base.proofs.MessageLaws.{same_from_key}
use Rattle.pipe_reorder.proofs.TombstoneLaws.{has-from, has-put, there_by, unburied}
use Rattle.pipe_host.specs.Buffers.{burying, newest_after, stones_with}
use Rattle.pipe_host.specs.Host.{stones, stones_during, stones_for}
use Rattle.pipe_host.proofs.HeldLaws.{Agree}

-- ---- which keys have a tombstone

-- a test of keys, with that of the message that a host gets told to take back
abbrev pub with_recall : Option Packet → (Key → Bool) → Key → Bool
with_recall m was k = takes_back k m || was k

put_by : (t : Bool) (b : ℕ) (p : Packet) (ks : List Key) (was : Key → Bool) (k : Key) → b ≤ k.ts.0 → has_tombstone ks k ≡ was k
    → has_tombstone (if t then with_tombstone b (key_of p) ks else ks) k ≡ ((t && same_key (key_of p) k) || was k)
put_by true b p ks was k low same = has-put b (key_of p) k ks low ∙ ap (λ (x : Bool). same_key (key_of p) k || x) same
put_by false b p ks was k low same = same

pub stones_put : (b : ℕ) (m : Option Packet) (ks : List Key) (was : Key → Bool) → Agree b (has_tombstone ks) was → Agree b (has_tombstone (stones_with b m ks)) (with_recall m was)
stones_put b None ks was agree k low = agree k low
stones_put b (Some p) ks was agree k low = put_by (is_recall p.kind) b p ks was k low (agree k low)

-- the messages that a host got told to take back, as a test of keys
abbrev recalled_at : Graph → ℕ → List Record → Key → Bool
recalled_at graph node own k = got_recall graph node k own

stones_agree : (graph : Graph) (node : ℕ) (own : List Record) → Agree (barrier_at Commit graph node own) (has_tombstone (stones graph node own)) (recalled_at graph node own)
stones_agree graph node [] k low = refl
stones_agree graph node (r ∷ own) k low =
    let b : ℕ = barrier_at Commit graph node own in
    has-from (barrier_at Commit graph node (r ∷ own)) k (stones_with b (gets graph node own r) (stones graph node own)) low
    ∙ stones_put b (gets graph node own r) (stones graph node own) (recalled_at graph node own) (stones_agree graph node own) k (le_trans (barrier_rises Commit graph node own r) low)

pub agrees : (service : Service) (graph : Graph) (node : ℕ) (own : List Record)
    → Agree (barrier_at (plane_of service) graph node own) (has_tombstone (stones_for service graph node own)) (recalled_for service graph node own)
agrees BestEffort graph node own k low = refl
agrees Reliable graph node own k low = stones_agree graph node own k low

-- with what a record takes back
pub agrees_during : (service : Service) (graph : Graph) (node : ℕ) (own : List Record) (r : Record)
    → Agree (barrier_at (plane_of service) graph node own) (has_tombstone (stones_during service graph node own r)) (recalled_for service graph node (r ∷ own))
agrees_during BestEffort graph node own r k low = refl
agrees_during Reliable graph node own r k low =
    stones_put (barrier_at Commit graph node own) (gets graph node own r) (stones graph node own) (recalled_at graph node own) (stones_agree graph node own) k low

-- what was taken back stays so
pub recalled_stays : (service : Service) (graph : Graph) (node : ℕ) (own : List Record) (r : Record) (k : Key) → recalled_for service graph node own k ≡ true
    → recalled_for service graph node (r ∷ own) k ≡ true
recalled_stays BestEffort graph node own r k is = is
recalled_stays Reliable graph node own r k is = stays_by (takes_back k (gets graph node own r)) (got_recall graph node k own) is
  where
    stays_by : (a b : Bool) → b ≡ true → (a || b) ≡ true
    stays_by true b is = refl
    stays_by false b is = is

-- ---- a tombstone that is taken away again

unburied_by : (t : Bool) (p : Packet) (b : Buffer) → is_recall p.kind ≡ t → with_unburied b.newest (burying (Some p) b) ≡ b
unburied_by true p b is = rw is (unburied (key_of p) b)
unburied_by false p b is = rw is refl

pub unburied_got : (m : Option Packet) (b : Buffer) → with_unburied b.newest (burying m b) ≡ b
unburied_got None b = refl
unburied_got (Some p) b = unburied_by (is_recall p.kind) p b refl

-- ---- two tests, one after the other

fused_by : {X : Type 0} (p q : X → Bool) (x : X) (xs : List X) → filter p (filter q xs) ≡ filter (λ y. q y && p y) xs → (t u : Bool) → q x ≡ t → p x ≡ u
    → filter p (cond t (x ∷ filter q xs) (filter q xs)) ≡ cond (t && u) (x ∷ filter (λ y. q y && p y) xs) (filter (λ y. q y && p y) xs)
fused_by p q x xs rest true true q_is p_is = rw p_is (ap (λ ys. x ∷ ys) rest)
fused_by p q x xs rest true false q_is p_is = rw p_is rest
fused_by p q x xs rest false u q_is p_is = rest

fused : {X : Type 0} (p q : X → Bool) (xs : List X) → filter p (filter q xs) ≡ filter (λ y. q y && p y) xs
fused p q [] = refl
fused p q (x ∷ xs) = fused_by p q x xs (fused p q xs) (q x) (p x) refl refl

same_tests : {X : Type 0} (p q r s : X → Bool) → ((x : X) → (q x && p x) ≡ (s x && r x)) → (xs : List X) → filter p (filter q xs) ≡ filter r (filter s xs)
same_tests p q r s each xs = fused p q xs ∙ filter_agree (λ y. q y && p y) (λ y. s y && r y) each xs ∙ sym (fused r s xs)

-- ---- what is taken back goes

passes_by : (was now stone from : Bool) → (was ≡ true → now ≡ true) → (from ≡ true → stone ≡ now) → ((not was && from) && not stone) ≡ (not now && from)
passes_by was now stone from stays same = grind (arith, nat_tests, stays, same)

-- from a barrier on, where the tombstones are those of what is taken back by now
pub without_stones : (b : ℕ) (stone was now : Key → Bool) (ms : Messages) → Agree b stone now → ((k : Key) → was k ≡ true → now k ≡ true)
    → without_keys stone (from_barrier b (without_keys was ms)) ≡ from_barrier b (without_keys now ms)
without_stones b stone was now ms agree stays =
    ap (without_keys stone) (fused (λ m. nat_le b m.0.ts.0) (λ m. not (was m.0)) ms)
    ∙ same_tests (λ m. not (stone m.0)) (λ m. not (was m.0) && nat_le b m.0.ts.0) (λ m. nat_le b m.0.ts.0) (λ m. not (now m.0))
    (λ m. passes_by (was m.0) (now m.0) (stone m.0) (nat_le b m.0.ts.0) (stays m.0) (λ from. agree m.0 (leb-true b m.0.ts.0 from))) ms

same_key-sym : (a b : Key) → same_key a b ≡ same_key b a
same_key-sym a b = grind (arith, nat_tests)

taken_by : (was same from : Bool) → ((not was && from) && not same) ≡ (not (same || was) && from)
taken_by was same from = grind (arith, nat_tests)

gone_by : (was same from : Bool) → (same ≡ true → from ≡ true → was ≡ true) → (not was && from) ≡ (not (same || was) && from)
gone_by was same from gone = grind (arith, nat_tests, gone)

buried_by : (t : Bool) (b c : ℕ) (k : Key) (ks : List Key) (was : Key → Bool) (ms : Messages) → b ≤ c → Agree b (has_tombstone ks) was → is_buried_by b ks k ≡ t
    → without_newest (if t then Some k else None) (from_barrier c (without_keys was ms)) ≡ from_barrier c (without_keys (λ q. same_key k q || was q) ms)
buried_by true b c k ks was ms rises agree is =
    ap (filter (λ m. not (same_key m.0 k))) (fused (λ m. nat_le c m.0.ts.0) (λ m. not (was m.0)) ms)
    ∙ same_tests (λ m. not (same_key m.0 k)) (λ m. not (was m.0) && nat_le c m.0.ts.0) (λ m. nat_le c m.0.ts.0) (λ m. not (same_key k m.0 || was m.0))
    (λ m. ap (λ (s : Bool). (not (was m.0) && nat_le c m.0.ts.0) && not s) (same_key-sym m.0 k) ∙ taken_by (was m.0) (same_key k m.0) (nat_le c m.0.ts.0)) ms
buried_by false b c k ks was ms rises agree is =
    same_tests (λ m. nat_le c m.0.ts.0) (λ m. not (was m.0)) (λ m. nat_le c m.0.ts.0) (λ m. not (same_key k m.0 || was m.0))
    (λ m. gone_by (was m.0) (same_key k m.0) (nat_le c m.0.ts.0) (gone m.0)) ms
  where
    gone : (q : Key) → same_key k q ≡ true → nat_le c q.ts.0 ≡ true → was q ≡ true
    gone q same from =
        let here : k ≡ q = same_from_key k q same in
        let above : b ≤ k.ts.0 = le_trans rises (subst (λ (x : Key). c ≤ x.ts.0) (sym here) (leb-true c q.ts.0 from)) in
        subst (λ (x : Key). was x ≡ true) here (sym (agree k above) ∙ there_by (nat_le b k.ts.0) (has_tombstone ks k) is (le-leb b k.ts.0 above))

taken_back_by : (t : Bool) (b c : ℕ) (p : Packet) (ks : List Key) (was : Key → Bool) (ms : Messages) → b ≤ c → Agree b (has_tombstone ks) was
    → without_newest (if t then newest_with b (key_of p) ks else None) (from_barrier c (without_keys was ms))
    ≡ from_barrier c (without_keys (λ q. (t && same_key (key_of p) q) || was q) ms)
taken_back_by true b c p ks was ms rises agree = buried_by (is_buried_by b ks (key_of p)) b c (key_of p) ks was ms rises agree refl
taken_back_by false b c p ks was ms rises agree = refl

-- without the message of the newest tombstone, there are none of what is taken back by now
pub newest_goes : (b c : ℕ) (m : Option Packet) (ks : List Key) (was : Key → Bool) (ms : Messages) → b ≤ c → Agree b (has_tombstone ks) was
    → without_newest (newest_after b m ks) (from_barrier c (without_keys was ms)) ≡ from_barrier c (without_keys (with_recall m was) ms)
newest_goes b c None ks was ms rises agree = refl
newest_goes b c (Some p) ks was ms rises agree = taken_back_by (is_recall p.kind) b c p ks was ms rises agree
