-- The walks over held messages: what is copied so far, and where a barrier ends the walk.
use Rattle.std.proofs.Common.{◌≡◌, ℕ, ◌<◌, ◌≤◌, ◌||◌, not, cond, nat_lt, Bool, true, false, List, [], ◌∷◌, ◌++◌, length, Some, slice_get, refl, sym, subst, ap, ◌∙◌, append_assoc, append-nil, ltb-true, ltb-false, lt-ltb, true≢false, arith}
use Rattle.pipe_base.specs.declared.control.Announced.{Announced}
use Rattle.pipe_base.specs.declared.message.Entry.{Entry}
use Rattle.pipe_base.specs.declared.message.Key.{Key}
use Rattle.pipe_base.specs.declared.message.Service.{Service}
use Rattle.pipe_base.specs.Failed.{is_void, without_void}
use Rattle.pipe_base.specs.Messages.{Messages, AreBelow, IsInOrder, from_barrier, below_barrier, entry_of, logged_of, without_keys}
use Rattle.std.proofs.lemmas.List.Elements.{All-filter, All-map}
use Rattle.pipe_base.proofs.MessageLaws.{below-all, below-none, below-first, from-all}
use Rattle.pipe_reorder.specs.Buffer.{has_tombstone, let_out}

-- some of what the barrier lets out was appended, and the rest is what it lets out of the messages that are left
abbrev pub HasCopied : Service → List Announced → List Key → ℕ → Messages → List (Service × Entry) → List (Service × Entry) → Messages → Type 0
HasCopied service failed stones b all old out left =
    (done : List (Service × Entry)) × (out ≡ old ++ done) × (let_out service failed stones b all ≡ done ++ let_out service failed stones b left)

pub copied_none : (service : Service) (failed : List Announced) (stones : List Key) (b : ℕ) (all left : Messages) (old : List (Service × Entry)) → left ≡ all
    → HasCopied service failed stones b all old old left
copied_none service failed stones b all left old is =
    ([], sym (append-nil old), ap (let_out service failed stones b) (sym is))

-- the message is left out: it is void, or has a tombstone
abbrev pub is_left_out : List Announced → List Key → Key → Bool
is_left_out failed stones key = is_void failed key || has_tombstone stones key

-- what is logged of these messages
abbrev logs_of : Service → List Announced → List Key → Messages → List (Service × Entry)
logs_of service failed stones ms = logged_of service (without_keys (has_tombstone stones) (without_void failed ms))

-- the first message below the barrier goes out, where it is not left out
out_first : (service : Service) (failed : List Announced) (stones : List Key) (m : Key × List ℕ) (ms : Messages) → (void buried : Bool)
    → is_void failed m.0 ≡ void → has_tombstone stones m.0 ≡ buried
    → logs_of service failed stones (m ∷ ms) ≡ cond (void || buried) (logs_of service failed stones ms) ((service, entry_of m) ∷ logs_of service failed stones ms)
out_first service failed stones m ms true buried is stone = rw is refl
out_first service failed stones m ms false true is stone = rw (is, stone) refl
out_first service failed stones m ms false false is stone = rw (is, stone) refl

out_of : (service : Service) (failed : List Announced) (stones : List Key) (b : ℕ) (ms left : Messages) (m : Key × List ℕ) → ms ≡ m ∷ left → m.0.ts.0 < b → (out : Bool)
    → is_left_out failed stones m.0 ≡ out
    → let_out service failed stones b ms ≡ cond out (let_out service failed stones b left) ((service, entry_of m) ∷ let_out service failed stones b left)
out_of service failed stones b ms left m ms_is low out is =
    ap (let_out service failed stones b) ms_is ∙ ap (logs_of service failed stones) (below-first b m left low)
    ∙ out_first service failed stones m (below_barrier b left) (is_void failed m.0) (has_tombstone stones m.0) refl refl
    ∙ ap (λ (t : Bool). cond t (let_out service failed stones b left) ((service, entry_of m) ∷ let_out service failed stones b left)) is

pub copied_more : (service : Service) (failed : List Announced) (stones : List Key) (b : ℕ) (all ms left : Messages) (m : Key × List ℕ) (old out now : List (Service × Entry))
    → ms ≡ m ∷ left → m.0.ts.0 < b → is_left_out failed stones m.0 ≡ false → now ≡ out ++ (service, entry_of m) ∷ [] → HasCopied service failed stones b all old out ms
    → HasCopied service failed stones b all old now left
copied_more service failed stones b all ms left m old out now ms_is low stays now_is copied =
    let x : Service × Entry = (service, entry_of m) in
    let put : now ≡ old ++ (copied.0 ++ x ∷ []) =
    now_is ∙ ap (λ (xs : List (Service × Entry)). xs ++ x ∷ []) copied.1 ∙ append_assoc old copied.0 (x ∷ []) in
    let all_are : let_out service failed stones b all ≡ (copied.0 ++ x ∷ []) ++ let_out service failed stones b left =
    copied.2 ∙ ap (λ (xs : List (Service × Entry)). copied.0 ++ xs) (out_of service failed stones b ms left m ms_is low false stays)
    ∙ sym (append_assoc copied.0 (x ∷ []) (let_out service failed stones b left)) in
    (copied.0 ++ x ∷ [], put, all_are)

-- at a message that is not below the barrier all are copied
pub copied_all : (service : Service) (failed : List Announced) (stones : List Key) (b : ℕ) (all ms left : Messages) (m : Key × List ℕ) (old out : List (Service × Entry))
    → ms ≡ m ∷ left → IsInOrder ms → b ≤ m.0.ts.0 → HasCopied service failed stones b all old out ms → out ≡ old ++ let_out service failed stones b all
copied_all service failed stones b all ms left m old out ms_is order high copied =
    let none : below_barrier b ms ≡ [] =
    ap (below_barrier b) ms_is ∙ below-none b m left (subst IsInOrder ms_is order) high in
    let all_are : let_out service failed stones b all ≡ copied.0 =
    copied.2 ∙ ap (λ (ns : Messages). copied.0 ++ logs_of service failed stones ns) none ∙ append-nil copied.0 in
    copied.1 ∙ ap (λ (xs : List (Service × Entry)). old ++ xs) (sym all_are)

-- what a barrier lets out is below it
pub out-below : (service : Service) (failed : List Announced) (stones : List Key) (b : ℕ) (ms : Messages) → AreBelow b (let_out service failed stones b ms)
out-below service failed stones b ms =
    All-map (λ (e : Service × Entry). e.1.key.ts.0 < b) (λ (m : Key × List ℕ). (service, entry_of m)) (without_keys (has_tombstone stones) (without_void failed (below_barrier b ms)))
    (All-filter (λ m. not (has_tombstone stones m.0)) (λ (m : Key × List ℕ). m.0.ts.0 < b) (without_void failed (below_barrier b ms))
    (All-filter (λ m. not (is_void failed m.0)) (λ (m : Key × List ℕ). m.0.ts.0 < b) (below_barrier b ms) (below-all b ms)))

-- where the first message is not below the barrier, all stay
pub all_stay : (b : ℕ) (ms : Messages) (m : Key × List ℕ) → IsInOrder ms → slice_get ms 0 ≡ Some m → b ≤ m.0.ts.0 → from_barrier b ms ≡ ms
all_stay b [] m order first high = cc
all_stay b (n ∷ ms) m order first high = let same : m ≡ n = cc in from-all b n ms order (subst (λ (k : Key × List ℕ). b ≤ k.0.ts.0) same high)

some_are : (m : Key × List ℕ) (ms : Messages) → nat_lt 0 (length (m ∷ ms)) ≡ true
some_are m ms = lt-ltb 0 (length (m ∷ ms)) (omega arith)

-- the first message tells whether some message is below the barrier
below_is : (b : ℕ) (n : Key × List ℕ) (ms : Messages) → IsInOrder (n ∷ ms) → (low : Bool) → nat_lt n.0.ts.0 b ≡ low → low ≡ nat_lt 0 (length (below_barrier b (n ∷ ms)))
below_is b n ms order true is =
    sym (ap (λ (xs : Messages). nat_lt 0 (length xs)) (below-first b n ms (ltb-true n.0.ts.0 b is)) ∙ some_are n (below_barrier b ms))
below_is b n ms order false is = sym (ap (λ (xs : Messages). nat_lt 0 (length xs)) (below-none b n ms order (ltb-false n.0.ts.0 b is)))

pub first_tells : (b : ℕ) (ms : Messages) (m : Key × List ℕ) → IsInOrder ms → slice_get ms 0 ≡ Some m → nat_lt m.0.ts.0 b ≡ nat_lt 0 (length (below_barrier b ms))
first_tells b [] m order first = cc
first_tells b (n ∷ ms) m order first =
    let same : n ≡ m = cc in
    subst (λ (k : Key × List ℕ). nat_lt k.0.ts.0 b ≡ nat_lt 0 (length (below_barrier b (n ∷ ms)))) same (below_is b n ms order (nat_lt n.0.ts.0 b) refl)

no_logs : (service : Service) (failed : List Announced) (stones : List Key) (ms : Messages) → nat_lt 0 (length ms) ≡ false → logs_of service failed stones ms ≡ []
no_logs service failed stones [] none = refl
no_logs service failed stones (m ∷ ms) none = absurd (true≢false (sym (some_are m ms) ∙ none))

-- where none is below it, it lets nothing out
pub none_out : (service : Service) (failed : List Announced) (stones : List Key) (b : ℕ) (ms : Messages) → nat_lt 0 (length (below_barrier b ms)) ≡ false → let_out service failed stones b ms ≡ []
none_out service failed stones b ms none = no_logs service failed stones (below_barrier b ms) none
