-- Laws of messages in the total order: what a barrier leaves of them, and how a key is found, put and taken out.
use Rattle.std.proofs.Common.{◌≡◌, ℕ, ◌<◌, ◌≤◌, ◌==◌, ◌||◌, not, Bool, true, false, nat_lt, nat_le, List, [], ◌∷◌, ◌++◌, filter, All, is_some, refl, ap, ◌∙◌, le_trans, arith, eqb-true, le-leb, leb-true, ltb-true, le-ltb}
use Rattle.std.proofs.lemmas.Bool.{and_parts}
use Rattle.std.proofs.lemmas.Bool.Decides.{nat_tests}
use Rattle.std.specs.List.{AllByRecursion}
use Rattle.std.specs.List.Sorted.{IsStrictlySortedBy}
use Rattle.std.specs.Map.{keys_of, lookup, remove_entry}
use Rattle.std.specs.declared.cmp.Ordering.TheVariants.{Less, Equal}
use Rattle.std.specs.BTreeMap.{is_at}
use Rattle.std.proofs.lemmas.List.Elements.{All-nil, All-cons, All-filter, All-head, All-tail, All-weaker, All-map, filter_passes}
use Rattle.std.proofs.lemmas.Map.Keys.{sorted_head, sorted_tail}
use Rattle.std.proofs.lemmas.Map.Views.{any-filter_same}
use Rattle.pipe_base.specs.declared.message.Entry.{Entry}
use Rattle.pipe_base.specs.declared.message.Key.{Key}
use Rattle.pipe_base.specs.declared.message.Service.{Service}
use Rattle.pipe_base.specs.Messages.{Messages, key_cmp, Before, IsInOrder, with_message, without_message, same_key, has_key, from_barrier, below_barrier, entry_of, logged_of, AreBelow}
use Rattle.pipe_base.proofs.KeyOrder.{before_trans, less_before, equal_same, same_numbers}

-- ---- filters

-- all pass
pub filter_all : {X : Type 0} (p : X → Bool) (xs : List X) → All (λ x. p x ≡ true) xs → filter p xs ≡ xs
filter_all p [] each = refl
filter_all p (x ∷ xs) each =
    let here = All-head (λ y. p y ≡ true) x xs each in
    let rest = filter_all p xs (All-tail (λ y. p y ≡ true) x xs each) in grind (arith, nat_tests, here, rest)

-- none passes
pub filter_none : {X : Type 0} (p : X → Bool) (xs : List X) → All (λ x. p x ≡ false) xs → filter p xs ≡ []
filter_none p [] each = refl
filter_none p (x ∷ xs) each =
    let here = All-head (λ y. p y ≡ false) x xs each in
    let rest = filter_none p xs (All-tail (λ y. p y ≡ false) x xs each) in grind (arith, nat_tests, here, rest)

-- in which order two are made is the same
pub filter_swap : {X : Type 0} (p q : X → Bool) (xs : List X) → filter p (filter q xs) ≡ filter q (filter p xs)
filter_swap p q [] = refl
filter_swap p q (x ∷ xs) = let rest = filter_swap p q xs in grind (arith, nat_tests, rest)

-- the stricter one decides
pub filter_strict : {X : Type 0} (p q : X → Bool) (xs : List X) → ((x : X) → p x ≡ true → q x ≡ true) → filter p (filter q xs) ≡ filter p xs
filter_strict p q [] strict = refl
filter_strict p q (x ∷ xs) strict =
    let rest = filter_strict p q xs strict in let here = strict x in grind (arith, nat_tests, rest, here)

-- ---- a map's keys in order are messages in order

keys_after : (k : Key) (ms : Messages) → AllByRecursion (λ y. key_cmp k y ≡ Less) (keys_of ms) → All (λ n. Before k n.0) ms
keys_after k [] each = All-nil (λ (n : Key × List ℕ). Before k n.0)
keys_after k (m ∷ ms) each = All-cons (λ (n : Key × List ℕ). Before k n.0) m ms (less_before k m.0 each.0) (keys_after k ms each.1)

pub in_order-from_keys : (ms : Messages) → IsStrictlySortedBy key_cmp (keys_of ms) → IsInOrder ms
in_order-from_keys [] sorted = tt
in_order-from_keys (m ∷ ms) sorted =
    (keys_after m.0 ms (sorted_head key_cmp m.0 (keys_of ms) sorted), in_order-from_keys ms (sorted_tail key_cmp m.0 (keys_of ms) sorted))

-- ---- what a barrier leaves

pub before_le : (a b : Key) → Before a b → a.ts.0 ≤ b.ts.0
before_le a b before = grind (arith, before)

-- where the first message is not below the barrier, none is
later_from : (b : ℕ) (m : Key × List ℕ) (ms : Messages) → IsInOrder (m ∷ ms) → b ≤ m.0.ts.0 → All (λ n. b ≤ n.0.ts.0) (m ∷ ms)
later_from b m ms order low =
    All-cons (λ (n : Key × List ℕ). b ≤ n.0.ts.0) m ms low
    (All-weaker (λ (n : Key × List ℕ). Before m.0 n.0) (λ (n : Key × List ℕ). b ≤ n.0.ts.0) (λ n after. le_trans low (before_le m.0 n.0 after)) ms order.0)

pub below-none : (b : ℕ) (m : Key × List ℕ) (ms : Messages) → IsInOrder (m ∷ ms) → b ≤ m.0.ts.0 → below_barrier b (m ∷ ms) ≡ []
below-none b m ms order low =
    filter_none (λ n. nat_lt n.0.ts.0 b) (m ∷ ms)
    (All-weaker (λ (n : Key × List ℕ). b ≤ n.0.ts.0) (λ (n : Key × List ℕ). nat_lt n.0.ts.0 b ≡ false) (λ n from. le-ltb n.0.ts.0 b from) (m ∷ ms) (later_from b m ms order low))

pub from-all : (b : ℕ) (m : Key × List ℕ) (ms : Messages) → IsInOrder (m ∷ ms) → b ≤ m.0.ts.0 → from_barrier b (m ∷ ms) ≡ m ∷ ms
from-all b m ms order low =
    filter_all (λ n. nat_le b n.0.ts.0) (m ∷ ms)
    (All-weaker (λ (n : Key × List ℕ). b ≤ n.0.ts.0) (λ (n : Key × List ℕ). nat_le b n.0.ts.0 ≡ true) (λ n from. le-leb b n.0.ts.0 from) (m ∷ ms) (later_from b m ms order low))

-- the first message is below the barrier
pub below-first : (b : ℕ) (m : Key × List ℕ) (ms : Messages) → m.0.ts.0 < b → below_barrier b (m ∷ ms) ≡ m ∷ below_barrier b ms
below-first b m ms low = grind (arith, nat_tests, low)

pub from-rest : (b : ℕ) (m : Key × List ℕ) (ms : Messages) → m.0.ts.0 < b → from_barrier b (m ∷ ms) ≡ from_barrier b ms
from-rest b m ms low = grind (arith, nat_tests, low)

pub below-all : (b : ℕ) (ms : Messages) → All (λ m. m.0.ts.0 < b) (below_barrier b ms)
below-all b ms =
    All-weaker (λ (m : Key × List ℕ). nat_lt m.0.ts.0 b ≡ true) (λ (m : Key × List ℕ). m.0.ts.0 < b) (λ m is. ltb-true m.0.ts.0 b is) (below_barrier b ms)
    (filter_passes (λ m. nat_lt m.0.ts.0 b) ms)

pub from-above : (b : ℕ) (ms : Messages) → All (λ m. b ≤ m.0.ts.0) (from_barrier b ms)
from-above b ms =
    All-weaker (λ (m : Key × List ℕ). nat_le b m.0.ts.0 ≡ true) (λ (m : Key × List ℕ). b ≤ m.0.ts.0) (λ m is. leb-true b m.0.ts.0 is) (from_barrier b ms)
    (filter_passes (λ m. nat_le b m.0.ts.0) ms)

-- nothing is both from a barrier on and below it
pub none_between : (b : ℕ) (ms : Messages) → below_barrier b (from_barrier b ms) ≡ []
none_between b ms =
    filter_none (λ m. nat_lt m.0.ts.0 b) (from_barrier b ms)
    (All-weaker (λ (m : Key × List ℕ). b ≤ m.0.ts.0) (λ (m : Key × List ℕ). nat_lt m.0.ts.0 b ≡ false) (λ m from. le-ltb m.0.ts.0 b from) (from_barrier b ms) (from-above b ms))

-- of two barriers the later one decides
pub from_later : (b c : ℕ) (ms : Messages) → b ≤ c → from_barrier c (from_barrier b ms) ≡ from_barrier c ms
from_later b c ms le =
    filter_strict (λ m. nat_le c m.0.ts.0) (λ m. nat_le b m.0.ts.0) ms (λ m high. le-leb b m.0.ts.0 (le_trans le (leb-true c m.0.ts.0 high)))

-- messages in order are those below a barrier, then those from it on
pub below-append-from : (b : ℕ) (ms : Messages) → IsInOrder ms → below_barrier b ms ++ from_barrier b ms ≡ ms
below-append-from b [] order = refl
below-append-from b (m ∷ ms) order =
    let rest = below-append-from b ms order.1 in
    let none = below-none b m ms order in
    let all = from-all b m ms order in grind (arith, nat_tests, rest, none, all)

-- ---- keys

pub same_key-refl : (k : Key) → same_key k k ≡ true
same_key-refl k = grind (arith, nat_tests)

pub same_from_key : (a b : Key) → same_key a b ≡ true → a ≡ b
same_from_key a b is =
    let parts = and_parts (a.ts.0 == b.ts.0) (a.src.0 == b.src.0) is in
    same_numbers a b (eqb-true a.ts.0 b.ts.0 parts.0) (eqb-true a.src.0 b.src.0 parts.1)

pub before_apart : (a b : Key) → Before a b → same_key b a ≡ false
before_apart a b before = grind (arith, nat_tests, before)

pub before_apart_too : (a b : Key) → Before a b → same_key a b ≡ false
before_apart_too a b before = grind (arith, nat_tests, before)

-- the order finds a key where it is the same
pub is_at-same_key : (k m : Key) → is_at (key_cmp k) m ≡ same_key m k
is_at-same_key k m = grind (arith, nat_tests)

-- what a map answers for a key
pub found_is : (k : Key) (ms : Messages) → is_some (lookup (is_at (key_cmp k)) ms) ≡ has_key k ms
found_is k [] = refl
found_is k (m ∷ ms) = let rest = found_is k ms in grind (arith, nat_tests, rest)

-- a key that passes is held or not whatever a test leaves out
pub has_passing : (test : Key → Bool) (k : Key) (ms : Messages) → test k ≡ true → has_key k (filter (λ m. test m.0) ms) ≡ has_key k ms
has_passing test k ms is = any-filter_same (λ m. same_key m.0 k) (λ m. test m.0) true (λ m same. ap test (same_from_key m.0 k same) ∙ is) ms

pub has_from : (b : ℕ) (k : Key) (ms : Messages) → b ≤ k.ts.0 → has_key k (from_barrier b ms) ≡ has_key k ms
has_from b k ms low = has_passing (λ n. nat_le b n.ts.0) k ms (le-leb b k.ts.0 low)

-- ---- one message more, one message less

pub has_with : (k : Key) (v : List ℕ) (q : Key) (ms : Messages) → has_key q (with_message k v ms) ≡ (same_key k q || has_key q ms)
has_with k v q [] = refl
has_with k v q (m ∷ ms) = let rest = has_with k v q ms in grind (arith, nat_tests, rest)

-- a message that comes before all others is put before them
put_first : (k : Key) (v : List ℕ) (ms : Messages) → All (λ n. Before k n.0) ms → with_message k v ms ≡ (k, v) ∷ ms
put_first k v [] before = refl
put_first k v (m ∷ ms) before =
    let first = All-head (λ (n : Key × List ℕ). Before k n.0) m ms before in grind (arith, nat_tests, first)

-- a message that passes a test of keys is put among those that pass
pub passing-with : (test : Key → Bool) (k : Key) (v : List ℕ) (ms : Messages) → IsInOrder ms → test k ≡ true
    → filter (λ m. test m.0) (with_message k v ms) ≡ with_message k v (filter (λ m. test m.0) ms)
passing-with test k v [] order is = rw is refl
passing-with test k v (m ∷ ms) order is =
    let rest = passing-with test k v ms order.1 is in
    let same : key_cmp k m.0 ≡ Equal → test k ≡ test m.0 = λ equal. ap test (equal_same k m.0 equal) in
    let passing : Messages = filter (λ n. test n.0) ms in
    let first : Before k m.0 → with_message k v passing ≡ (k, v) ∷ passing = λ before.
    put_first k v passing (All-filter (λ n. test n.0) (λ (n : Key × List ℕ). Before k n.0) ms
    (All-weaker (λ (n : Key × List ℕ). Before m.0 n.0) (λ (n : Key × List ℕ). Before k n.0) (λ n after. before_trans k m.0 n.0 before after) ms order.0)) in
    grind (arith, nat_tests, rest, same, first, is)

-- without a key that is not there, all stay
pub without-absent : (k : Key) (ms : Messages) → has_key k ms ≡ false → without_message k ms ≡ ms
without-absent k [] absent = refl
without-absent k (m ∷ ms) absent = let rest = without-absent k ms in grind (arith, nat_tests, rest, absent)

-- what was put at a key that was not there is taken out again
pub without-with : (k : Key) (v : List ℕ) (ms : Messages) → has_key k ms ≡ false → without_message k (with_message k v ms) ≡ ms
without-with k v [] absent = let self = same_key-refl k in grind (arith, nat_tests, self)
without-with k v (m ∷ ms) absent =
    let rest = without-with k v ms in let others = without-absent k ms in grind (arith, nat_tests, rest, others, absent)

-- what a map removes at a key
pub removed_is : (k : Key) (ms : Messages) → IsInOrder ms → remove_entry (is_at (key_cmp k)) ms ≡ without_message k ms
removed_is k [] order = refl
removed_is k (m ∷ ms) order =
    let rest = removed_is k ms order.1 in
    let others : same_key m.0 k ≡ true → without_message k ms ≡ ms = λ same.
    filter_all (λ n. not (same_key n.0 k)) ms
    (All-weaker (λ (n : Key × List ℕ). Before m.0 n.0) (λ (n : Key × List ℕ). not (same_key n.0 k) ≡ true) (λ n after. grind (arith, nat_tests, after, same)) ms order.0) in
    grind (arith, nat_tests, rest, others)

-- what is logged is below the barrier: one more than its timestamp is at most the barrier
pub logged-below : (service : Service) (b : ℕ) (ms : Messages) → AreBelow b (logged_of service (below_barrier b ms))
logged-below service b ms =
    All-map (λ (e : Service × Entry). e.1.key.ts.0 < b) (λ (m : Key × List ℕ). (service, entry_of m)) (below_barrier b ms) (below-all b ms)
