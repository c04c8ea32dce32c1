-- What a sender keeps, after each kind of call.
use Rattle.std.proofs.Common.{◌≡◌, ℕ, ◌<◌, ◌-◌, ◌||◌, ◌==◌, not, Bool, true, false, List, [], ◌∷◌, ◌++◌, length, take, map, filter, Option, None, Some, refl, sym, ap, ap₂, arith, ◌∙◌, if◌then◌else◌}
use Rattle.std.specs.Prelude.{flat_map}
use Rattle.std.specs.List.{All, list_any}
use Rattle.std.proofs.lemmas.Bool.{or_right}
use Rattle.std.proofs.lemmas.Bool.Decides.{nat_tests}
use Rattle.std.proofs.lemmas.List.{map-append, length-append, length-map}
use Rattle.std.proofs.Math.Seq.{take-append_seam}
use Rattle.std.proofs.lemmas.List.Elements.{All-nil, All-cons, All-head, All-tail, All-weaker, All-filter, filter-append}
use Rattle.pipe_base.specs.declared.control.Announced.{Announced}
use Rattle.pipe_base.specs.declared.name.HostId.{HostId}
use Rattle.pipe_base.specs.declared.name.Ts.{Ts}
use Rattle.pipe_base.specs.declared.packet.Packet.{Packet}
use Rattle.pipe_base.specs.Packets.{Fields, prepare_to, recall_to}
use Rattle.pipe_base.specs.Promise.{least_or, promise_of}
use Rattle.pipe_base.specs.Resends.{resends, resends_for}
use Rattle.pipe_base.specs.Scattering.{Scattering, SenderCall, Acked, Began, Noted, RecallAcked, AreRising, IsAboveBegun, begun, is_begun}
use Rattle.pipe_base.specs.Settled.{is_acked, is_noted, is_recall_acked, is_recalled, unsettled}
use Rattle.pipe_base.proofs.SenderLaws.{first_is_least, rising_more}
use Rattle.pipe_relsend.specs.declared.state.Answer.{Answer}
use Rattle.pipe_relsend.specs.declared.state.Answer.TheVariants.{Ack, RecallAck}
use Rattle.pipe_relsend.specs.Pending.{Pending, again_to, is_open, owed, started}
use Rattle.pipe_relsend.specs.Sending.{KnowsAll, Stands, after_ack, after_recall_ack, answered, before, first_or, has_answered, kept_of, noted}
use Rattle.pipe_relsend.specs.State.{after_answer, after_note, where_open}
use Rattle.pipe_relsend.proofs.MarkLaws.{open_by}
use Rattle.pipe_relsend.proofs.KeptLaws.{answer_by, begins_kept, begun_open, call_of, is_left, kept_other, left_is, not_begun, note_by, open_none, open_some, settled_gone}

abbrev Dest : Type 0
Dest = HostId × List ℕ

-- ---- a scattering is begun, or that is taken back

filter_one : (p : Scattering → Bool) (s : Scattering) → p s ≡ true → filter p (s ∷ []) ≡ s ∷ []
filter_one p s is = rw is refl

unsettled_begun : (calls : List SenderCall) (s : Scattering) → IsAboveBegun s.ts.0 calls → 0 < length s.dests → unsettled (Began s ∷ calls) ≡ unsettled calls ++ s ∷ []
unsettled_begun calls s above some =
    filter-append (is_left calls) (begun calls) (s ∷ [])
    ∙ ap (λ (ss : List Scattering). unsettled calls ++ ss) (filter_one (is_left calls) s (begun_open calls s above some))

kept_begun : (calls : List SenderCall) (s : Scattering) → IsAboveBegun s.ts.0 calls → 0 < length s.dests
    → map (kept_of (Began s ∷ calls)) (unsettled (Began s ∷ calls)) ≡ map (kept_of calls) (unsettled calls) ++ kept_of calls s ∷ []
kept_begun calls s above some = ap (map (kept_of calls)) (unsettled_begun calls s above some) ∙ map-append (kept_of calls) (unsettled calls) (s ∷ [])

pub stands_begun : (calls : List SenderCall) (kept : List Pending) (s : Scattering) → Stands calls kept → IsAboveBegun s.ts.0 calls → 0 < length s.dests
    → Stands (Began s ∷ calls) (kept ++ started s.ts s.dests ∷ [])
stands_begun calls kept s stands above some = record {
  rising = rising_more (begun calls) s stands.rising above;
  kept_are = ap (λ (ps : List Pending). ps ++ started s.ts s.dests ∷ []) stands.kept_are
      ∙ ap (λ (p : Pending). map (kept_of calls) (unsettled calls) ++ p ∷ []) (begins_kept calls s (not_begun s.ts.0 (begun calls) above))
      ∙ sym (kept_begun calls s above some);
}

all_left : (P : Scattering → Type 0) (xs ys : List Scattering) → All P (xs ++ ys) → All P xs
all_left P [] ys all = All-nil P
all_left P (x ∷ xs) ys all = All-cons P x xs (All-head P x (xs ++ ys) all) (all_left P xs ys (All-tail P x (xs ++ ys) all))

all_last : (P : Scattering → Type 0) (xs : List Scattering) (y : Scattering) → All P (xs ++ y ∷ []) → P y
all_last P [] y all = All-head P y [] all
all_last P (x ∷ xs) y all = all_last P xs y (All-tail P x (xs ++ y ∷ []) all)

rising_left : (ss : List Scattering) (s : Scattering) → AreRising (ss ++ s ∷ []) → AreRising ss × All (λ t. t.ts.0 < s.ts.0) ss
rising_left [] s rising = (tt, All-nil (λ (t : Scattering). t.ts.0 < s.ts.0))
rising_left (x ∷ ss) s rising =
    let rest = rising_left ss s rising.1 in (
      (all_left (λ (t : Scattering). x.ts.0 < t.ts.0) ss (s ∷ []) rising.0, rest.0),
      All-cons (λ (t : Scattering). t.ts.0 < s.ts.0) x ss (all_last (λ (t : Scattering). x.ts.0 < t.ts.0) ss s rising.0) rest.1,
    )

last_off : (ps : List Pending) (p : Pending) → take (length (ps ++ p ∷ []) - 1) (ps ++ p ∷ []) ≡ ps
last_off ps p =
    let count : length (ps ++ p ∷ []) - 1 ≡ length ps = omega (arith, length-append ps (p ∷ [])) in
    ap (λ (n : ℕ). take n (ps ++ p ∷ [])) count ∙ take-append_seam ps (p ∷ [])

pub stands_unbegun : (calls : List SenderCall) (kept : List Pending) (s : Scattering) → Stands (Began s ∷ calls) kept → 0 < length s.dests → Stands calls (take (length kept - 1) kept)
stands_unbegun calls kept s stands some =
    let order = rising_left (begun calls) s stands.rising in
    record {
      rising = order.0;
      kept_are = ap (λ (ps : List Pending). take (length ps - 1) ps) (stands.kept_are ∙ kept_begun calls s order.1 some)
          ∙ last_off (map (kept_of calls) (unsettled calls)) (kept_of calls s);
    }

-- what is kept of some scatterings
abbrev kept_among : List SenderCall → List Scattering → List Pending
kept_among calls ss = map (kept_of calls) (filter (is_left calls) ss)

among_more : (calls : List SenderCall) (s : Scattering) (ss : List Scattering) → kept_among calls (s ∷ ss) ≡ before (where_open (kept_of calls s)) (kept_among calls ss)
among_more calls s ss = let left = left_is calls s in grind (arith, nat_tests, left)

-- ---- an answer among scatterings

step_here : (answer : Answer) (ts host : ℕ) (p q : Pending) (left rest : List Pending) → (p.ts.0 == ts) ≡ true
    → (is_open p ≡ true → after_answer answer host p ≡ where_open q) → (is_open p ≡ false → is_open q ≡ false) → answered answer ts host rest ≡ rest → left ≡ rest
    → before (where_open q) left ≡ answered answer ts host (before (where_open p) rest)
step_here answer ts host p q left rest is moves stays same lefts = grind (arith, nat_tests, is, moves, stays, same, lefts)

step_other : (answer : Answer) (ts host : ℕ) (p q : Pending) (left rest : List Pending) → (p.ts.0 == ts) ≡ false → q ≡ p → left ≡ answered answer ts host rest
    → before (where_open q) left ≡ answered answer ts host (before (where_open p) rest)
step_other answer ts host p q left rest is same lefts = grind (arith, nat_tests, is, same, lefts)

abbrev AreOthers : ℕ → List Scattering → Type 0
AreOthers ts ss = All (λ s. (s.ts.0 == ts) ≡ false) ss

-- where none has the timestamp, nothing changes
none_after : (answer : Answer) (ts host : ℕ) (calls : List SenderCall) (ss : List Scattering) → AreOthers ts ss
    → kept_among (call_of answer ts host ∷ calls) ss ≡ kept_among calls ss
none_after answer ts host calls [] others = refl
none_after answer ts host calls (s ∷ ss) others =
    let c = call_of answer ts host in
    let same = kept_other answer ts host calls s (All-head (λ (t : Scattering). (t.ts.0 == ts) ≡ false) s ss others) in
    let rest = none_after answer ts host calls ss (All-tail (λ (t : Scattering). (t.ts.0 == ts) ≡ false) s ss others) in
    among_more (c ∷ calls) s ss
    ∙ ap₂ {A = Pending} {B = List Pending} {C = List Pending} (λ p ps. before (where_open p) ps) same rest
    ∙ sym (among_more calls s ss)

none_here : (answer : Answer) (ts host : ℕ) (calls : List SenderCall) (ss : List Scattering) → AreOthers ts ss
    → answered answer ts host (map (kept_of calls) ss) ≡ map (kept_of calls) ss
none_here answer ts host calls [] others = refl
none_here answer ts host calls (s ∷ ss) others =
    let first : (s.ts.0 == ts) ≡ false = All-head (λ (t : Scattering). (t.ts.0 == ts) ≡ false) s ss others in
    rw first (ap (λ (ps : List Pending). kept_of calls s ∷ ps) (none_here answer ts host calls ss (All-tail (λ (t : Scattering). (t.ts.0 == ts) ≡ false) s ss others)))

answer_one : (answer : Answer) (ts host : ℕ) (calls : List SenderCall) (s : Scattering) (ss : List Scattering) (b : Bool) → (s.ts.0 == ts) ≡ b → All (λ t. s.ts.0 < t.ts.0) ss
    → is_begun calls s.ts.0 ≡ true → kept_among (call_of answer ts host ∷ calls) ss ≡ answered answer ts host (kept_among calls ss)
    → before (where_open (kept_of (call_of answer ts host ∷ calls) s)) (kept_among (call_of answer ts host ∷ calls) ss)
    ≡ answered answer ts host (before (where_open (kept_of calls s)) (kept_among calls ss))
answer_one answer ts host calls s ss true is above was rest =
    let others = All-weaker (λ (t : Scattering). s.ts.0 < t.ts.0) (λ (t : Scattering). (t.ts.0 == ts) ≡ false) (λ (t : Scattering) lt. grind (arith, nat_tests, is, lt)) ss above in
    let c = call_of answer ts host in
    step_here answer ts host (kept_of calls s) (kept_of (c ∷ calls) s) (kept_among (c ∷ calls) ss) (kept_among calls ss) is
    (answer_by answer ts host calls s (is_recalled calls s) refl is was) (settled_gone c calls s)
    (none_here answer ts host calls (filter (is_left calls) ss) (All-filter (is_left calls) (λ (t : Scattering). (t.ts.0 == ts) ≡ false) ss others))
    (none_after answer ts host calls ss others)
answer_one answer ts host calls s ss false is above was rest =
    let c = call_of answer ts host in
    step_other answer ts host (kept_of calls s) (kept_of (c ∷ calls) s) (kept_among (c ∷ calls) ss) (kept_among calls ss) is
    (kept_other answer ts host calls s is) rest

abbrev WereBegun : List SenderCall → List Scattering → Type 0
WereBegun calls ss = All (λ s. is_begun calls s.ts.0 ≡ true) ss

answer_all : (answer : Answer) (ts host : ℕ) (calls : List SenderCall) (ss : List Scattering) → AreRising ss → WereBegun calls ss
    → kept_among (call_of answer ts host ∷ calls) ss ≡ answered answer ts host (kept_among calls ss)
answer_all answer ts host calls [] rising were = refl
answer_all answer ts host calls (s ∷ ss) rising were =
    let rest = All-tail (λ (t : Scattering). is_begun calls t.ts.0 ≡ true) s ss were in
    among_more (call_of answer ts host ∷ calls) s ss
    ∙ answer_one answer ts host calls s ss (s.ts.0 == ts) refl rising.0 (All-head (λ (t : Scattering). is_begun calls t.ts.0 ≡ true) s ss were)
    (answer_all answer ts host calls ss rising.1 rest)
    ∙ ap (answered answer ts host) (sym (among_more calls s ss))

-- ---- noted failed hosts among scatterings

note_step : (failed : List Announced) (p q : Pending) (left rest : List Pending) → (is_open p ≡ true → after_note failed p ≡ where_open q)
    → (is_open p ≡ false → is_open q ≡ false) → left ≡ noted failed rest → before (where_open q) left ≡ noted failed (before (where_open p) rest)
note_step failed p q left rest moves stays lefts = grind (arith, nat_tests, moves, stays, lefts)

note_all : (failed : List Announced) (calls : List SenderCall) (ss : List Scattering) → WereBegun calls ss → KnowsAll failed calls
    → kept_among (Noted failed ∷ calls) ss ≡ noted failed (kept_among calls ss)
note_all failed calls [] were knows = refl
note_all failed calls (s ∷ ss) were knows =
    let was = All-head (λ (t : Scattering). is_begun calls t.ts.0 ≡ true) s ss were in
    among_more (Noted failed ∷ calls) s ss
    ∙ note_step failed (kept_of calls s) (kept_of (Noted failed ∷ calls) s) (kept_among (Noted failed ∷ calls) ss) (kept_among calls ss)
    (note_by failed calls s (is_recalled calls s) refl was knows) (settled_gone (Noted failed) calls s)
    (note_all failed calls ss (All-tail (λ (t : Scattering). is_begun calls t.ts.0 ≡ true) s ss were) knows)
    ∙ ap (noted failed) (sym (among_more calls s ss))

-- ---- what the sender keeps, one call on

-- each scattering that was begun was begun
are_begun : (ss : List Scattering) → All (λ s. list_any (λ t. t.ts.0 == s.ts.0) ss ≡ true) ss
are_begun [] = All-nil (λ (s : Scattering). false ≡ true)
are_begun (x ∷ ss) =
    All-cons (λ (s : Scattering). list_any (λ (t : Scattering). t.ts.0 == s.ts.0) (x ∷ ss) ≡ true) x ss (grind (arith, nat_tests))
    (All-weaker (λ (s : Scattering). list_any (λ (t : Scattering). t.ts.0 == s.ts.0) ss ≡ true) (λ (s : Scattering). list_any (λ (t : Scattering). t.ts.0 == s.ts.0) (x ∷ ss) ≡ true)
    (λ (s : Scattering) is. or_right (x.ts.0 == s.ts.0) (list_any (λ (t : Scattering). t.ts.0 == s.ts.0) ss) is) ss (are_begun ss))

pub stands_acked : (calls : List SenderCall) (kept : List Pending) (ts host : ℕ) → Stands calls kept → Stands (Acked ts host ∷ calls) (after_ack ts host kept)
stands_acked calls kept ts host stands = record {
  rising = stands.rising;
  kept_are = ap (after_ack ts host) stands.kept_are ∙ sym (answer_all Ack ts host calls (begun calls) stands.rising (are_begun (begun calls)));
}

pub stands_recall_acked : (calls : List SenderCall) (kept : List Pending) (ts host : ℕ) → Stands calls kept → Stands (RecallAcked ts host ∷ calls) (after_recall_ack ts host kept)
stands_recall_acked calls kept ts host stands = record {
  rising = stands.rising;
  kept_are = ap (after_recall_ack ts host) stands.kept_are ∙ sym (answer_all RecallAck ts host calls (begun calls) stands.rising (are_begun (begun calls)));
}

pub stands_noted : (calls : List SenderCall) (kept : List Pending) (failed : List Announced) → Stands calls kept → KnowsAll failed calls → Stands (Noted failed ∷ calls) (noted failed kept)
stands_noted calls kept failed stands knows = record {
  rising = stands.rising;
  kept_are = ap (noted failed) stands.kept_are ∙ sym (note_all failed calls (begun calls) (are_begun (begun calls)) knows);
}

-- the promise is the first timestamp, as they rise
rising_filter : (p : Scattering → Bool) (ss : List Scattering) → AreRising ss → AreRising (filter p ss)
rising_filter p [] rising = tt
rising_filter p (s ∷ ss) rising =
    let above = All-filter p (λ (t : Scattering). s.ts.0 < t.ts.0) ss rising.0 in
    let rest = rising_filter p ss rising.1 in grind (arith, nat_tests, above, rest)

first_least : (next : ℕ) (calls : List SenderCall) (ss : List Scattering) → AreRising ss → first_or next (map (kept_of calls) ss) ≡ least_or next ss
first_least next calls [] rising = refl
first_least next calls (s ∷ ss) rising = sym (first_is_least s ss rising.0)

pub promise_first : (next : ℕ) (calls : List SenderCall) (kept : List Pending) → Stands calls kept → first_or next kept ≡ promise_of next calls
promise_first next calls kept stands =
    ap (first_or next) stands.kept_are ∙ first_least next calls (unsettled calls) (rising_filter (is_left calls) (begun calls) stands.rising)

first_more : (later : ℕ) (kept : List Pending) (p : Pending) → first_or p.ts.0 kept ≡ first_or later (kept ++ p ∷ [])
first_more later [] p = refl
first_more later (x ∷ kept) p = refl

pub promise_begun : (later : ℕ) (calls : List SenderCall) (kept : List Pending) (s : Scattering) → Stands calls kept → IsAboveBegun s.ts.0 calls → 0 < length s.dests
    → first_or s.ts.0 kept ≡ promise_of later (Began s ∷ calls)
promise_begun later calls kept s stands above some =
    first_more later kept (started s.ts s.dests)
    ∙ promise_first later (Began s ∷ calls) (kept ++ started s.ts s.dests ∷ []) (stands_begun calls kept s stands above some)

pub count_left : (calls : List SenderCall) (kept : List Pending) → Stands calls kept → length kept ≡ length (unsettled calls)
count_left calls kept stands = ap (λ (ps : List Pending). length ps) stands.kept_are ∙ length-map (unsettled calls) (kept_of calls)

-- some scattering is recalled
any_kept : (calls : List SenderCall) (ss : List Scattering) → list_any (λ p. p.recalled) (map (kept_of calls) ss) ≡ list_any (λ s. is_recalled calls s) ss
any_kept calls [] = refl
any_kept calls (s ∷ ss) = ap (λ (b : Bool). is_recalled calls s || b) (any_kept calls ss)

pub recalling_is : (calls : List SenderCall) (kept : List Pending) → Stands calls kept → list_any (λ p. p.recalled) kept ≡ list_any (λ s. is_recalled calls s) (unsettled calls)
recalling_is calls kept stands = ap (λ (ps : List Pending). list_any (λ p. p.recalled) ps) stands.kept_are ∙ any_kept calls (unsettled calls)

-- what is owed again
owed_by : (b : Bool) (src : HostId) (ts : Ts) (f : Fields) (x y : Dest → Bool) (ds : List Dest)
    → map (again_to b src ts f) (filter (λ d. not (if b then x d else y d)) ds)
    ≡ (if b then map (recall_to src ts f) (filter (λ d. not (x d)) ds) else map (prepare_to src ts f) (filter (λ d. not (y d)) ds))
owed_by true src ts f x y ds = refl
owed_by false src ts f x y ds = refl

resend_one : (calls : List SenderCall) (src : HostId) (f : Fields) (s : Scattering) → owed src f (kept_of calls s) ≡ resends_for calls src f s
resend_one calls src f s =
    ap (map (again_to (is_recalled calls s) src s.ts f)) (open_by (has_answered calls s) s.dests)
    ∙ owed_by (is_recalled calls s) src s.ts f (λ d. is_noted calls d.0.0 || is_recall_acked calls s d.0.0) (λ d. is_acked calls s.ts.0 d.0.0) s.dests

resend_all : (calls : List SenderCall) (src : HostId) (f : Fields) (ss : List Scattering) → flat_map (owed src f) (map (kept_of calls) ss) ≡ flat_map (resends_for calls src f) ss
resend_all calls src f [] = refl
resend_all calls src f (s ∷ ss) =
    ap (λ (ps : List Packet). ps ++ flat_map (owed src f) (map (kept_of calls) ss)) (resend_one calls src f s)
    ∙ ap (λ (ps : List Packet). resends_for calls src f s ++ ps) (resend_all calls src f ss)

pub resends_are : (next : ℕ) (calls : List SenderCall) (kept : List Pending) (src : HostId) → Stands calls kept
    → flat_map (owed src (record { be = next; commit = first_or next kept })) kept ≡ resends calls src (record { be = next; commit = promise_of next calls })
resends_are next calls kept src stands =
    let f : Fields = record { be = next; commit = promise_of next calls } in
    ap (λ (n : ℕ). flat_map (owed src (record { be = next; commit = n })) kept) (promise_first next calls kept stands)
    ∙ ap (flat_map (owed src f)) stands.kept_are ∙ resend_all calls src f (unsettled calls)
