-- The total order of keys, and that messages stay in it.
use Rattle.std.proofs.Common.{◌≡◌, ℕ, Bool, List, [], ◌∷◌, filter, refl, subst, ap, ◌∙◌, arith}
use Rattle.std.proofs.lemmas.Bool.Decides.{nat_tests}
use Rattle.std.specs.List.{All}
use Rattle.std.specs.Ordering.{match_ordering}
use Rattle.std.specs.declared.cmp.Ordering.{Ordering}
use Rattle.std.specs.declared.cmp.Ordering.TheVariants.{Less, Equal, Greater}
use Rattle.std.specs.BTreeMap.{insert_entry}
use Rattle.std.proofs.lemmas.List.Elements.{All-nil, All-cons, All-head, All-tail, All-filter, All-weaker}
use Rattle.pipe_base.specs.declared.message.Key.{Key}
use Rattle.pipe_base.specs.Messages.{Messages, key_cmp, Before, IsInOrder, with_message}

pub less_before : (a b : Key) → key_cmp a b ≡ Less → Before a b
less_before a b is = grind (arith, nat_tests, is)

pub greater_after : (a b : Key) → key_cmp a b ≡ Greater → Before b a
greater_after a b is = grind (arith, nat_tests, is)

key_from : ℕ → ℕ → Key
key_from ts src = record { ts = record { 0 = ts }; src = record { 0 = src } }

pub same_numbers : (a b : Key) → a.ts.0 ≡ b.ts.0 → a.src.0 ≡ b.src.0 → a ≡ b
unfolding key_from
same_numbers a b ts src =
    let left : a ≡ key_from a.ts.0 a.src.0 = refl in
    let right : key_from b.ts.0 b.src.0 ≡ b = refl in
    left ∙ ap (λ (t : ℕ). key_from t a.src.0) ts ∙ ap (λ (s : ℕ). key_from b.ts.0 s) src ∙ right

same_ts : (a b : Key) → key_cmp a b ≡ Equal → a.ts.0 ≡ b.ts.0
same_ts a b is = grind (arith, nat_tests, is)

same_src : (a b : Key) → key_cmp a b ≡ Equal → a.src.0 ≡ b.src.0
same_src a b is = grind (arith, nat_tests, is)

pub equal_same : (a b : Key) → key_cmp a b ≡ Equal → a ≡ b
equal_same a b is = same_numbers a b (same_ts a b is) (same_src a b is)

pub before_trans : (a b c : Key) → Before a b → Before b c → Before a c
before_trans a b c ab bc = grind (arith, ab, bc)

-- what holds of all messages and of a new one, holds of them with the new one
insert_by : (P : Key × List ℕ → Type 0) (k : Key) (v : List ℕ) (m : Key × List ℕ) (ms : Messages) (o : Ordering) → key_cmp k m.0 ≡ o
    → P (k, v) → P m → All P ms → All P (insert_entry key_cmp ms k v)
    → All P (match_ordering o ((k, v) ∷ m ∷ ms) ((m.0, v) ∷ ms) (m ∷ insert_entry key_cmp ms k v))
insert_by P k v m ms Less is new here all more = All-cons P (k, v) (m ∷ ms) new (All-cons P m ms here all)
insert_by P k v m ms Equal is new here all more =
    All-cons P (m.0, v) ms (subst (λ (key : Key). P (key, v)) (equal_same k m.0 is) new) all
insert_by P k v m ms Greater is new here all more = All-cons P m (insert_entry key_cmp ms k v) here more

pub insert_all : (P : Key × List ℕ → Type 0) (k : Key) (v : List ℕ) (ms : Messages) → P (k, v) → All P ms → All P (with_message k v ms)
insert_all P k v [] new all = All-cons P (k, v) [] new (All-nil P)
insert_all P k v (m ∷ ms) new all =
    insert_by P k v m ms (key_cmp k m.0) refl new (All-head P m ms all) (All-tail P m ms all) (insert_all P k v ms new (All-tail P m ms all))

-- messages stay in order with a new one
pub order_with : (k : Key) (v : List ℕ) (ms : Messages) → IsInOrder ms → IsInOrder (with_message k v ms)
order_with k v [] order = (All-nil (λ (n : Key × List ℕ). Before k n.0), tt)
order_with k v (m ∷ ms) order =
    let rest = order_with k v ms order.1 in
    let first : Before k m.0 → All (λ n. Before k n.0) (m ∷ ms) = λ before.
    All-cons (λ (n : Key × List ℕ). Before k n.0) m ms before
    (All-weaker (λ (n : Key × List ℕ). Before m.0 n.0) (λ (n : Key × List ℕ). Before k n.0) (λ n after. before_trans k m.0 n.0 before after) ms order.0) in
    let later : Before m.0 k → All (λ n. Before m.0 n.0) (with_message k v ms) = λ before.
    insert_all (λ (n : Key × List ℕ). Before m.0 n.0) k v ms before order.0 in
    grind (arith, nat_tests, rest, first, later, order)

-- messages that are left out leave the others in order
pub order_filter : (p : Key × List ℕ → Bool) (ms : Messages) → IsInOrder ms → IsInOrder (filter p ms)
order_filter p [] order = tt
order_filter p (m ∷ ms) order =
    let first = All-filter p (λ (n : Key × List ℕ). Before m.0 n.0) ms order.0 in
    let rest = order_filter p ms order.1 in grind (arith, nat_tests, first, rest)
