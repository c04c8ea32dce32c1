-- What is settled stays settled whatever happens, the promise is below each scattering that is not settled, and rises.
use Rattle.std.proofs.Common.{◌≡◌, ℕ, ◌<◌, ◌≤◌, ◌&&◌, ◌==◌, not, Bool, true, false, if◌then◌else◌, List, [], ◌∷◌, ◌++◌, filter, refl, sym, subst, arith}
use Rattle.std.specs.List.{All, list_all, list_any}
use Rattle.std.proofs.lemmas.Bool.{and_right, or_from, or_left, or_right}
use Rattle.std.proofs.lemmas.Bool.Decides.{nat_tests}
use Rattle.std.proofs.lemmas.List.Elements.{All-nil, All-cons, All-head, All-tail, All-weaker, All-append, All-filter, filter-append}
use Rattle.pipe_base.specs.Failed.{is_announced}
use Rattle.pipe_base.specs.Promise.{least_from, least_or, promise_of}
use Rattle.pipe_base.specs.Scattering.{Scattering, SenderCall, Acked, Began, Noted, RecallAcked, AreRising, begun, is_begun}
use Rattle.pipe_base.specs.Settled.{awaits, has_failed, is_acked, is_noted, is_prepared, is_recall_acked, is_recalled, is_settled, unsettled}

-- an acknowledgement that counts keeps counting
pub acked_stays : (c : SenderCall) (calls : List SenderCall) (ts host : ℕ) → is_acked calls ts host ≡ true → is_acked (c ∷ calls) ts host ≡ true
acked_stays (Began s) calls ts host is = is
acked_stays (Acked t h) calls ts host is = or_right (((ts == t) && (host == h)) && is_begun calls ts) (is_acked calls ts host) is
acked_stays (Noted failed) calls ts host is = is
acked_stays (RecallAcked t h) calls ts host is = is

-- a host that is noted as failed stays noted
pub noted_stays : (c : SenderCall) (calls : List SenderCall) (host : ℕ) → is_noted calls host ≡ true → is_noted (c ∷ calls) host ≡ true
noted_stays (Began s) calls host is = is
noted_stays (Acked t h) calls host is = is
noted_stays (Noted failed) calls host is = or_right (is_announced host failed) (is_noted calls host) is
noted_stays (RecallAcked t h) calls host is = is

-- what is recalled stays recalled
pub recalled_stays : (c : SenderCall) (calls : List SenderCall) (s : Scattering) → is_recalled calls s ≡ true → is_recalled (c ∷ calls) s ≡ true
recalled_stays (Began t) calls s is = is
recalled_stays (Acked t h) calls s is = is
recalled_stays (Noted failed) calls s is = or_left (is_recalled calls s) (is_begun calls s.ts.0 && has_failed (Noted failed ∷ calls) s) is
recalled_stays (RecallAcked t h) calls s is = is

-- what a host took back stays taken back
pub recall_acked_stays : (c : SenderCall) (calls : List SenderCall) (s : Scattering) (host : ℕ) → is_recall_acked calls s host ≡ true → is_recall_acked (c ∷ calls) s host ≡ true
recall_acked_stays (Began t) calls s host is = is
recall_acked_stays (Acked t h) calls s host is = is
recall_acked_stays (Noted failed) calls s host is = is
recall_acked_stays (RecallAcked t h) calls s host is = or_right (((s.ts.0 == t) && (host == h)) && is_recalled calls s) (is_recall_acked calls s host) is

-- a receiver that is not waited for is never waited for again
pub unwaited_stays : (c : SenderCall) (calls : List SenderCall) (s : Scattering) (host : ℕ) → awaits calls s host ≡ false → awaits (c ∷ calls) s host ≡ false
unwaited_stays c calls s host is =
    let noted = noted_stays c calls host in
    let back = recall_acked_stays c calls s host in grind (arith, nat_tests, noted, back, is)

all_more : {X : Type 0} (p q : X → Bool) (xs : List X) → ((x : X) → p x ≡ true → q x ≡ true) → list_all p xs ≡ true → list_all q xs ≡ true
all_more p q [] more all = refl
all_more p q (x ∷ xs) more all =
    let here = more x in let rest = all_more p q xs more in grind (arith, nat_tests, here, rest, all)

none_more : {X : Type 0} (p q : X → Bool) (xs : List X) → ((x : X) → p x ≡ false → q x ≡ false) → list_any p xs ≡ false → list_any q xs ≡ false
none_more p q [] less none = refl
none_more p q (x ∷ xs) less none =
    let here = less x in let rest = none_more p q xs less in grind (arith, nat_tests, here, rest, none)

-- what all receivers acknowledged they acknowledged for good
pub prepared_stays : (c : SenderCall) (calls : List SenderCall) (s : Scattering) → is_prepared calls s ≡ true → is_prepared (c ∷ calls) s ≡ true
prepared_stays c calls s is =
    all_more (λ d. is_acked calls s.ts.0 d.0.0) (λ d. is_acked (c ∷ calls) s.ts.0 d.0.0) s.dests (λ d acked. acked_stays c calls s.ts.0 d.0.0 acked) is

none_without : {X : Type 0} (p q : X → Bool) (xs : List X) → list_all q xs ≡ true → list_any (λ x. p x && not (q x)) xs ≡ false
none_without p q [] all = refl
none_without p q (x ∷ xs) all = let rest = none_without p q xs in grind (arith, nat_tests, rest, all)

-- what all receivers acknowledged, and is not recalled, is never recalled
pub unrecalled_stays : (c : SenderCall) (calls : List SenderCall) (s : Scattering) → is_prepared calls s ≡ true → is_recalled calls s ≡ false → is_recalled (c ∷ calls) s ≡ false
unrecalled_stays (Began t) calls s prepared is = is
unrecalled_stays (Acked t h) calls s prepared is = is
unrecalled_stays (Noted failed) calls s prepared is =
    or_from (is_recalled calls s) (is_begun calls s.ts.0 && has_failed (Noted failed ∷ calls) s) is
    (and_right (is_begun calls s.ts.0) (has_failed (Noted failed ∷ calls) s)
    (none_without (λ d. is_noted (Noted failed ∷ calls) d.0.0) (λ d. is_acked calls s.ts.0 d.0.0) s.dests prepared))
unrecalled_stays (RecallAcked t h) calls s prepared is = is

-- what is settled stays settled
pub settled_stays : (c : SenderCall) (calls : List SenderCall) (s : Scattering) → is_settled calls s ≡ true → is_settled (c ∷ calls) s ≡ true
settled_stays c calls s is =
    let recalled = recalled_stays c calls s in
    let unrecalled = unrecalled_stays c calls s in
    let prepared = prepared_stays c calls s in
    let waiting = none_more (λ d. awaits calls s d.0.0) (λ d. awaits (c ∷ calls) s d.0.0) s.dests (λ d less. unwaited_stays c calls s d.0.0 less) in
    grind (arith, nat_tests, recalled, unrecalled, prepared, waiting, is)

-- what holds of all that a weaker test keeps holds of all that a stronger one keeps
stays_of : (c : SenderCall) (calls : List SenderCall) (P : Scattering → Type 0) (s : Scattering) (ss : List Scattering) (before now : Bool)
    → (before ≡ true → now ≡ true) → All P (if not before then s ∷ filter (λ t. not (is_settled calls t)) ss else filter (λ t. not (is_settled calls t)) ss)
    → (All P (filter (λ t. not (is_settled calls t)) ss) → All P (filter (λ t. not (is_settled (c ∷ calls) t)) ss))
    → All P (if not now then s ∷ filter (λ t. not (is_settled (c ∷ calls) t)) ss else filter (λ t. not (is_settled (c ∷ calls) t)) ss)
stays_of c calls P s ss true true more all rest = rest all
stays_of c calls P s ss true false more all rest = let no : false ≡ true = more refl in cc
stays_of c calls P s ss false true more all rest = rest (All-tail P s (filter (λ (t : Scattering). not (is_settled calls t)) ss) all)
stays_of c calls P s ss false false more all rest =
    All-cons P s (filter (λ (t : Scattering). not (is_settled (c ∷ calls) t)) ss) (All-head P s (filter (λ (t : Scattering). not (is_settled calls t)) ss) all)
    (rest (All-tail P s (filter (λ (t : Scattering). not (is_settled calls t)) ss) all))

-- what holds of all scatterings that are not settled holds of those of them that are not settled after one call more
pub unsettled_left : (c : SenderCall) (calls : List SenderCall) (P : Scattering → Type 0) (ss : List Scattering)
    → All P (filter (λ t. not (is_settled calls t)) ss) → All P (filter (λ t. not (is_settled (c ∷ calls) t)) ss)
unsettled_left c calls P [] all = all
unsettled_left c calls P (s ∷ ss) all =
    stays_of c calls P s ss (is_settled calls s) (is_settled (c ∷ calls) s) (settled_stays c calls s) all (unsettled_left c calls P ss)

-- the least is at most each, and at least what all are at least
least_below : (n : ℕ) (ss : List Scattering) → least_from n ss ≤ n
least_below n [] = omega arith
least_below n (s ∷ ss) = omega (arith, least_below n ss)

least_from_each : (n : ℕ) (ss : List Scattering) → All (λ s. least_from n ss ≤ s.ts.0) ss
least_from_each n [] = All-nil (λ (s : Scattering). n ≤ s.ts.0)
least_from_each n (s ∷ ss) =
    let more : (t : Scattering) → least_from n ss ≤ t.ts.0 → least_from n (s ∷ ss) ≤ t.ts.0 = λ t le. omega arith in
    All-cons (λ (t : Scattering). least_from n (s ∷ ss) ≤ t.ts.0) s ss (omega arith)
    (All-weaker (λ (t : Scattering). least_from n ss ≤ t.ts.0) (λ (t : Scattering). least_from n (s ∷ ss) ≤ t.ts.0) more ss (least_from_each n ss))

-- the least timestamp is at most each
pub least_of_each : (next : ℕ) (ss : List Scattering) → All (λ s. least_or next ss ≤ s.ts.0) ss
least_of_each next [] = All-nil (λ (s : Scattering). next ≤ s.ts.0)
least_of_each next (s ∷ ss) =
    All-cons (λ (t : Scattering). least_from s.ts.0 ss ≤ t.ts.0) s ss (least_below s.ts.0 ss) (least_from_each s.ts.0 ss)

least_from_above : (n m : ℕ) (ss : List Scattering) → n ≤ m → All (λ s. n ≤ s.ts.0) ss → n ≤ least_from m ss
least_from_above n m [] le all = le
least_from_above n m (s ∷ ss) le all =
    let here : n ≤ s.ts.0 = All-head (λ (t : Scattering). n ≤ t.ts.0) s ss all in
    let rest : n ≤ least_from m ss = least_from_above n m ss le (All-tail (λ (t : Scattering). n ≤ t.ts.0) s ss all) in omega arith

-- what is at most each, and at most the next timestamp, is at most the least
pub least_above : (n next : ℕ) (ss : List Scattering) → n ≤ next → All (λ s. n ≤ s.ts.0) ss → n ≤ least_or next ss
least_above n next [] le all = le
least_above n next (s ∷ ss) le all =
    least_from_above n s.ts.0 ss (All-head (λ (t : Scattering). n ≤ t.ts.0) s ss all) (All-tail (λ (t : Scattering). n ≤ t.ts.0) s ss all)

-- where each is below the next timestamp, the least is at most that
pub least_below_next : (next : ℕ) (ss : List Scattering) → All (λ s. s.ts.0 < next) ss → least_or next ss ≤ next
least_below_next next [] all = omega arith
least_below_next next (s ∷ ss) all =
    let here : s.ts.0 < next = All-head (λ (t : Scattering). t.ts.0 < next) s ss all in omega (arith, least_below s.ts.0 ss)

-- in rising order the first is the least
pub first_is_least : (s : Scattering) (ss : List Scattering) → All (λ t. s.ts.0 < t.ts.0) ss → least_from s.ts.0 ss ≡ s.ts.0
first_is_least s ss rising =
    let le : (t : Scattering) → s.ts.0 < t.ts.0 → s.ts.0 ≤ t.ts.0 = λ t lt. omega arith in
    let above : s.ts.0 ≤ least_from s.ts.0 ss =
    least_from_above s.ts.0 s.ts.0 ss (omega arith) (All-weaker (λ (t : Scattering). s.ts.0 < t.ts.0) (λ (t : Scattering). s.ts.0 ≤ t.ts.0) le ss rising) in
    omega (arith, above, least_below s.ts.0 ss)

-- scatterings rise with one above them
pub rising_more : (ss : List Scattering) (s : Scattering) → AreRising ss → All (λ t. t.ts.0 < s.ts.0) ss → AreRising (ss ++ s ∷ [])
rising_more [] s rising below = (All-nil (λ (t : Scattering). s.ts.0 < t.ts.0), tt)
rising_more (x ∷ ss) s rising below = (
  All-append (λ (t : Scattering). x.ts.0 < t.ts.0) ss (s ∷ []) rising.0
      (All-cons (λ (t : Scattering). x.ts.0 < t.ts.0) s [] (All-head (λ (t : Scattering). t.ts.0 < s.ts.0) x ss below) (All-nil (λ (t : Scattering). x.ts.0 < t.ts.0))),
  rising_more ss s rising.1 (All-tail (λ (t : Scattering). t.ts.0 < s.ts.0) x ss below),
)

-- ---- the promise, one call on

-- where the call begins a scattering, that is not below the bound
abbrev pub BeginsFrom : ℕ → SenderCall → Type 0
BeginsFrom bound (Began s) = bound ≤ s.ts.0
BeginsFrom bound _ = Unit {0}

-- what is not settled is not below a bound, one call on
pub left_from : (bound : ℕ) (c : SenderCall) (calls : List SenderCall) → BeginsFrom bound c → All (λ s. bound ≤ s.ts.0) (unsettled calls) → All (λ s. bound ≤ s.ts.0) (unsettled (c ∷ calls))
left_from bound (Began s) calls from all =
    let P : Scattering → Type 0 = λ t. bound ≤ t.ts.0 in
    let left : Scattering → Bool = λ t. not (is_settled (Began s ∷ calls) t) in
    subst (All P) (sym (filter-append left (begun calls) (s ∷ [])))
    (All-append P (filter left (begun calls)) (filter left (s ∷ [])) (unsettled_left (Began s) calls P (begun calls) all) (All-filter left P (s ∷ []) (All-cons P s [] from (All-nil P))))
left_from bound (Acked t h) calls from all = unsettled_left (Acked t h) calls (λ (s : Scattering). bound ≤ s.ts.0) (begun calls) all
left_from bound (Noted failed) calls from all = unsettled_left (Noted failed) calls (λ (s : Scattering). bound ≤ s.ts.0) (begun calls) all
left_from bound (RecallAcked t h) calls from all = unsettled_left (RecallAcked t h) calls (λ (s : Scattering). bound ≤ s.ts.0) (begun calls) all

-- the promise rises, where scatterings are begun from the next timestamp on
pub promise_stays : (next later : ℕ) (c : SenderCall) (calls : List SenderCall) → next ≤ later → BeginsFrom (promise_of next calls) c → All (λ s. s.ts.0 < next) (unsettled calls)
    → promise_of next calls ≤ promise_of later (c ∷ calls)
promise_stays next later c calls le from below =
    let within : promise_of next calls ≤ next = least_below_next next (unsettled calls) below in
    least_above (promise_of next calls) later (unsettled (c ∷ calls)) (omega (arith, within, le)) (left_from (promise_of next calls) c calls from (least_of_each next (unsettled calls)))
