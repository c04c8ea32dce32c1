-- What is kept of one scattering, after each kind of call.
use Rattle.std.proofs.Common.{◌≡◌, ℕ, ◌<◌, ◌||◌, ◌&&◌, ◌==◌, not, Bool, true, false, List, [], ◌∷◌, length, map, None, Some, refl, sym, ap, ap₂, arith, ◌∙◌, if◌then◌else◌}
use Rattle.std.specs.List.{All, list_any, list_all}
use Rattle.std.proofs.lemmas.Bool.{and_left, and_right, cond-false, cond-true, not-false, or_parts}
use Rattle.std.proofs.lemmas.Bool.Decides.{nat_tests}
use Rattle.std.proofs.lemmas.List.Elements.{All-weaker}
use Rattle.std.proofs.lemmas.List.Folds.{list_any-append, list_any_none}
use Rattle.pipe_base.specs.declared.control.Announced.{Announced}
use Rattle.pipe_base.specs.declared.name.HostId.{HostId}
use Rattle.pipe_base.specs.Failed.{is_announced}
use Rattle.pipe_base.specs.Scattering.{Scattering, SenderCall, Acked, Began, Noted, RecallAcked, IsAboveBegun, begun, is_begun}
use Rattle.pipe_base.specs.Settled.{awaits, has_failed, is_acked, is_noted, is_prepared, is_recall_acked, is_recalled, is_settled}
use Rattle.pipe_base.proofs.SenderLaws.{recalled_stays, settled_stays}
use Rattle.pipe_relsend.specs.declared.state.Answer.{Answer}
use Rattle.pipe_relsend.specs.declared.state.Answer.TheVariants.{Ack, RecallAck}
use Rattle.pipe_relsend.specs.Pending.{Pending, has_lost, is_among, is_host, is_open, started, taken_back, with_failed, with_mark}
use Rattle.pipe_relsend.specs.Sending.{KnowsAll, has_answered, kept_of}
use Rattle.pipe_relsend.specs.State.{after_answer, after_loss, after_note, counts, where_open}
use Rattle.pipe_relsend.proofs.MarkLaws.{any_beside, marked_by}

abbrev Dest : Type 0
Dest = HostId × List ℕ

-- the scattering is not settled
abbrev pub is_left : List SenderCall → Scattering → Bool
is_left calls s = not (is_settled calls s)

-- ---- before a scattering is begun

-- a timestamp above all that were begun was not begun
pub not_begun : (ts : ℕ) (ss : List Scattering) → All (λ s. s.ts.0 < ts) ss → list_any (λ s. s.ts.0 == ts) ss ≡ false
not_begun ts ss above =
    list_any_none (λ (s : Scattering). s.ts.0 == ts) ss
    (All-weaker (λ (s : Scattering). s.ts.0 < ts) (λ (s : Scattering). (s.ts.0 == ts) ≡ false) (λ (s : Scattering) lt. grind (arith, nat_tests, lt)) ss above)

not_begun_before : (s : Scattering) (past : List SenderCall) (ts : ℕ) → is_begun (Began s ∷ past) ts ≡ false → is_begun past ts ≡ false
not_begun_before s past ts none =
    (or_parts (is_begun past ts) (list_any (λ (t : Scattering). t.ts.0 == ts) (s ∷ [])) (sym (list_any-append (λ (t : Scattering). t.ts.0 == ts) (begun past) (s ∷ [])) ∙ none)).0

-- before it is begun no acknowledgement counts
not_acked : (calls : List SenderCall) (ts host : ℕ) → is_begun calls ts ≡ false → is_acked calls ts host ≡ false
not_acked [] ts host none = refl
not_acked (Began s ∷ past) ts host none = not_acked past ts host (not_begun_before s past ts none)
not_acked (Acked t h ∷ past) ts host none = let old = not_acked past ts host none in grind (arith, nat_tests, none, old)
not_acked (Noted failed ∷ past) ts host none = not_acked past ts host none
not_acked (RecallAcked t h ∷ past) ts host none = not_acked past ts host none

-- before it is begun it is not taken back
not_recalled : (calls : List SenderCall) (s : Scattering) → is_begun calls s.ts.0 ≡ false → is_recalled calls s ≡ false
not_recalled [] s none = refl
not_recalled (Began t ∷ past) s none = not_recalled past s (not_begun_before t past s.ts.0 none)
not_recalled (Acked t h ∷ past) s none = not_recalled past s none
not_recalled (Noted failed ∷ past) s none = let old = not_recalled past s none in grind (arith, nat_tests, none, old)
not_recalled (RecallAcked t h ∷ past) s none = not_recalled past s none

-- before it is taken back no host told that it took it back
not_recall_acked : (calls : List SenderCall) (s : Scattering) (host : ℕ) → is_recalled calls s ≡ false → is_recall_acked calls s host ≡ false
not_recall_acked [] s host none = refl
not_recall_acked (Began t ∷ past) s host none = not_recall_acked past s host none
not_recall_acked (Acked t h ∷ past) s host none = not_recall_acked past s host none
not_recall_acked (Noted failed ∷ past) s host none =
    not_recall_acked past s host (or_parts (is_recalled past s) (is_begun past s.ts.0 && has_failed (Noted failed ∷ past) s) none).0
not_recall_acked (RecallAcked t h ∷ past) s host none =
    let old = not_recall_acked past s host none in grind (arith, nat_tests, none, old)

none_acked : (calls : List SenderCall) (ts : ℕ) (ds : List Dest) → is_begun calls ts ≡ false → 0 < length ds → list_all (λ d. is_acked calls ts d.0.0) ds ≡ false
none_acked calls ts [] none some = absurd (omega arith)
none_acked calls ts (d ∷ ds) none some = let first : is_acked calls ts d.0.0 ≡ false = not_acked calls ts d.0.0 none in rw first refl

map_same : (f g : Dest → Bool) (ds : List Dest) → ((d : Dest) → f d ≡ g d) → map f ds ≡ map g ds
map_same f g [] same = refl
map_same f g (d ∷ ds) same = let first : f d ≡ g d = same d in rw first (ap (λ (bs : List Bool). g d ∷ bs) (map_same f g ds same))

-- what is kept of a scattering, by its parts
same_kept : (s : Scattering) (f g : Dest → Bool) (a b : Bool) → ((d : Dest) → f d ≡ g d) → a ≡ b
    → ◌≡◌ {A = Pending} (record { ts = s.ts; dests = s.dests; marks = map f s.dests; recalled = a }) (record { ts = s.ts; dests = s.dests; marks = map g s.dests; recalled = b })
same_kept s f g a b same is =
    ap₂ {A = List Bool} {B = Bool} {C = Pending} (λ bs c. record { ts = s.ts; dests = s.dests; marks = bs; recalled = c }) (map_same f g s.dests same) is

-- a scattering begins without marks
pub begins_kept : (calls : List SenderCall) (s : Scattering) → is_begun calls s.ts.0 ≡ false → started s.ts s.dests ≡ kept_of calls s
begins_kept calls s none =
    let whole : is_recalled calls s ≡ false = not_recalled calls s none in
    same_kept s (λ d. false) (has_answered calls s) false (is_recalled calls s)
    (λ d. sym (cond-false (is_recalled calls s) (is_noted calls d.0.0 || is_recall_acked calls s d.0.0) (is_acked calls s.ts.0 d.0.0) whole ∙ not_acked calls s.ts.0 d.0.0 none)) (sym whole)

-- a scattering that is begun is not settled
pub begun_open : (calls : List SenderCall) (s : Scattering) → IsAboveBegun s.ts.0 calls → 0 < length s.dests → is_left calls s ≡ true
begun_open calls s above some =
    let unknown : is_begun calls s.ts.0 ≡ false = not_begun s.ts.0 (begun calls) above in
    ap not (cond-false (is_recalled calls s) (not (list_any (λ d. awaits calls s d.0.0) s.dests)) (is_prepared calls s) (not_recalled calls s unknown) ∙ none_acked calls s.ts.0 s.dests unknown some)

-- ---- an unsettled scattering is one with a receiver that is not marked

unmarked_all : (f : Dest → Bool) (ds : List Dest) → not (list_all f ds) ≡ list_any not (map f ds)
unmarked_all f [] = refl
unmarked_all f (d ∷ ds) = let rest = unmarked_all f ds in grind (arith, nat_tests, rest)

unmarked_any : (f : Dest → Bool) (ds : List Dest) → list_any (λ d. not (f d)) ds ≡ list_any not (map f ds)
unmarked_any f [] = refl
unmarked_any f (d ∷ ds) = ap (λ (b : Bool). not (f d) || b) (unmarked_any f ds)

open_by_state : (b : Bool) (f g : Dest → Bool) (ds : List Dest)
    → not (if b then not (list_any (λ d. not (f d)) ds) else list_all g ds) ≡ list_any not (map (λ d. if b then f d else g d) ds)
open_by_state true f g ds = let any = unmarked_any f ds in grind (arith, nat_tests, any)
open_by_state false f g ds = unmarked_all g ds

-- some receiver is not marked exactly where the scattering is not settled
pub left_is : (calls : List SenderCall) (s : Scattering) → is_left calls s ≡ is_open (kept_of calls s)
left_is calls s = open_by_state (is_recalled calls s) (λ d. is_noted calls d.0.0 || is_recall_acked calls s d.0.0) (λ d. is_acked calls s.ts.0 d.0.0) s.dests

-- what is settled stays so
pub settled_gone : (c : SenderCall) (calls : List SenderCall) (s : Scattering) → is_open (kept_of calls s) ≡ false → is_open (kept_of (c ∷ calls) s) ≡ false
settled_gone c calls s is =
    sym (left_is (c ∷ calls) s) ∙ ap not (settled_stays c calls s (not-false (is_settled calls s) (left_is calls s ∙ is)))

pub open_some : (p : Pending) → is_open p ≡ true → where_open p ≡ Some p
open_some p is = cond-true (is_open p) (Some p) None is

pub open_none : (p : Pending) → is_open p ≡ false → where_open p ≡ None
open_none p is = cond-false (is_open p) (Some p) None is

-- ---- what an answer does to one scattering

-- the call by which a host answers
abbrev pub call_of : Answer → ℕ → ℕ → SenderCall
call_of Ack ts host = Acked ts host
call_of RecallAck ts host = RecallAcked ts host

-- an acknowledgement changes nothing of a recalled scattering, and nothing of another one
acked_same : (calls : List SenderCall) (ts host : ℕ) (s : Scattering) → (not (is_recalled calls s) && (s.ts.0 == ts)) ≡ false → (d : Dest)
    → has_answered (Acked ts host ∷ calls) s d ≡ has_answered calls s d
acked_same calls ts host s free d = grind (arith, nat_tests, free)

recall_acked_same : (calls : List SenderCall) (ts host : ℕ) (s : Scattering) → (is_recalled calls s && (s.ts.0 == ts)) ≡ false → (d : Dest)
    → has_answered (RecallAcked ts host ∷ calls) s d ≡ has_answered calls s d
recall_acked_same calls ts host s free d = grind (arith, nat_tests, free)

kept_same : (c : SenderCall) (calls : List SenderCall) (s : Scattering) → ((d : Dest) → has_answered (c ∷ calls) s d ≡ has_answered calls s d) → is_recalled (c ∷ calls) s ≡ is_recalled calls s
    → kept_of (c ∷ calls) s ≡ kept_of calls s
kept_same c calls s same is = same_kept s (has_answered (c ∷ calls) s) (has_answered calls s) (is_recalled (c ∷ calls) s) (is_recalled calls s) same is

-- an answer for another scattering changes nothing
pub kept_other : (answer : Answer) (ts host : ℕ) (calls : List SenderCall) (s : Scattering) → (s.ts.0 == ts) ≡ false → kept_of (call_of answer ts host ∷ calls) s ≡ kept_of calls s
kept_other Ack ts host calls s is =
    kept_same (Acked ts host) calls s (acked_same calls ts host s (and_right (not (is_recalled calls s)) (s.ts.0 == ts) is)) refl
kept_other RecallAck ts host calls s is =
    kept_same (RecallAcked ts host) calls s (recall_acked_same calls ts host s (and_right (is_recalled calls s) (s.ts.0 == ts) is)) refl

kept_marked : (calls : List SenderCall) (host : ℕ) (c : SenderCall) (s : Scattering) → is_recalled (c ∷ calls) s ≡ is_recalled calls s
    → ((d : Dest) → has_answered (c ∷ calls) s d ≡ (has_answered calls s d || (d.0.0 == host))) → kept_of (c ∷ calls) s ≡ with_mark host (kept_of calls s)
kept_marked calls host c s whole more =
    same_kept s (has_answered (c ∷ calls) s) (λ d. has_answered calls s d || (d.0.0 == host)) (is_recalled (c ∷ calls) s) (is_recalled calls s) more whole
    ∙ ap {B = Pending} (λ (bs : List Bool). record { ts = s.ts; dests = s.dests; marks = bs; recalled = is_recalled calls s }) (sym (marked_by (is_host host) (has_answered calls s) s.dests))

acked_here : (calls : List SenderCall) (ts host : ℕ) (s : Scattering) → is_recalled calls s ≡ false → (s.ts.0 == ts) ≡ true → is_begun calls s.ts.0 ≡ true → (d : Dest)
    → has_answered (Acked ts host ∷ calls) s d ≡ (has_answered calls s d || (d.0.0 == host))
acked_here calls ts host s whole is was d = grind (arith, nat_tests, whole, is, was)

recall_acked_here : (calls : List SenderCall) (ts host : ℕ) (s : Scattering) → is_recalled calls s ≡ true → (s.ts.0 == ts) ≡ true → (d : Dest)
    → has_answered (RecallAcked ts host ∷ calls) s d ≡ (has_answered calls s d || (d.0.0 == host))
recall_acked_here calls ts host s whole is d = grind (arith, nat_tests, whole, is)

-- an answer that counts, and one that does not
counting : (answer : Answer) (host : ℕ) (p q : Pending) → counts answer p ≡ true → q ≡ with_mark host p → after_answer answer host p ≡ where_open q
counting answer host p q is same = cond-true (counts answer p) (where_open (with_mark host p)) (Some p) is ∙ ap where_open (sym same)

idle : (answer : Answer) (host : ℕ) (p q : Pending) → counts answer p ≡ false → q ≡ p → is_open p ≡ true → after_answer answer host p ≡ where_open q
idle answer host p q is same opened = cond-false (counts answer p) (where_open (with_mark host p)) (Some p) is ∙ sym (ap where_open same ∙ open_some p opened)

-- an answer for this scattering
pub answer_by : (answer : Answer) (ts host : ℕ) (calls : List SenderCall) (s : Scattering) (r : Bool) → is_recalled calls s ≡ r → (s.ts.0 == ts) ≡ true → is_begun calls s.ts.0 ≡ true
    → is_open (kept_of calls s) ≡ true → after_answer answer host (kept_of calls s) ≡ where_open (kept_of (call_of answer ts host ∷ calls) s)
answer_by Ack ts host calls s true whole is was opened =
    idle Ack host (kept_of calls s) (kept_of (Acked ts host ∷ calls) s) (ap not whole) (kept_same (Acked ts host) calls s (acked_same calls ts host s (and_left (not (is_recalled calls s)) (s.ts.0 == ts) (ap not whole))) refl) opened
answer_by Ack ts host calls s false whole is was opened =
    counting Ack host (kept_of calls s) (kept_of (Acked ts host ∷ calls) s) (ap not whole) (kept_marked calls host (Acked ts host) s refl (acked_here calls ts host s whole is was))
answer_by RecallAck ts host calls s true whole is was opened =
    counting RecallAck host (kept_of calls s) (kept_of (RecallAcked ts host ∷ calls) s) whole (kept_marked calls host (RecallAcked ts host) s refl (recall_acked_here calls ts host s whole is))
answer_by RecallAck ts host calls s false whole is was opened =
    idle RecallAck host (kept_of calls s) (kept_of (RecallAcked ts host ∷ calls) s) whole
    (kept_same (RecallAcked ts host) calls s (recall_acked_same calls ts host s (and_left (is_recalled calls s) (s.ts.0 == ts) whole)) refl) opened

-- ---- what noted failed hosts do to one scattering

-- where all that were noted before are among them, a host is noted exactly where it is among them
noted_is : (failed : List Announced) (calls : List SenderCall) (host : ℕ) → KnowsAll failed calls → is_noted (Noted failed ∷ calls) host ≡ is_announced host failed
noted_is failed calls host knows = let before = knows host in grind (arith, nat_tests, before)

any_same : (f g : Dest → Bool) (ds : List Dest) → ((d : Dest) → f d ≡ g d) → list_any f ds ≡ list_any g ds
any_same f g [] same = refl
any_same f g (d ∷ ds) same = ap₂ {A = Bool} {B = Bool} {C = Bool} (λ a b. a || b) (same d) (any_same f g ds same)

-- a receiver is lost exactly where a failed one has not acknowledged the scattering
lost_is : (failed : List Announced) (calls : List SenderCall) (s : Scattering) → is_recalled calls s ≡ false → KnowsAll failed calls
    → has_lost failed (kept_of calls s) ≡ has_failed (Noted failed ∷ calls) s
lost_is failed calls s whole knows =
    any_beside (has_answered calls s) (λ q. is_announced q.0.0.0 failed && not q.1) s.dests
    ∙ any_same (λ d. is_announced d.0.0 failed && not (has_answered calls s d)) (λ d. is_noted (Noted failed ∷ calls) d.0.0 && not (is_acked calls s.ts.0 d.0.0)) s.dests
    (λ d. ap₂ {A = Bool} {B = Bool} {C = Bool} (λ a b. a && not b) (sym (noted_is failed calls d.0.0 knows))
    (cond-false (is_recalled calls s) (is_noted calls d.0.0 || is_recall_acked calls s d.0.0) (is_acked calls s.ts.0 d.0.0) whole))

-- a recalled scattering does not wait for those that are noted
note_recalled : (failed : List Announced) (calls : List SenderCall) (s : Scattering) → is_recalled calls s ≡ true → kept_of (Noted failed ∷ calls) s ≡ with_failed failed (kept_of calls s)
note_recalled failed calls s is =
    let again : is_recalled (Noted failed ∷ calls) s ≡ true = recalled_stays (Noted failed) calls s is in
    let now : Dest → Bool = λ d. has_answered calls s d || is_announced d.0.0 failed in
    let each : (d : Dest) → has_answered (Noted failed ∷ calls) s d ≡ now d = λ d. grind (arith, nat_tests, is, again) in
    same_kept s (has_answered (Noted failed ∷ calls) s) now (is_recalled (Noted failed ∷ calls) s) (is_recalled calls s) each (again ∙ sym is)
    ∙ ap {B = Pending} (λ (bs : List Bool). record { ts = s.ts; dests = s.dests; marks = bs; recalled = is_recalled calls s }) (sym (marked_by (is_among failed) (has_answered calls s) s.dests))

recalled_is : (failed : List Announced) (calls : List SenderCall) (s : Scattering) → is_recalled calls s ≡ false → is_begun calls s.ts.0 ≡ true → KnowsAll failed calls
    → is_recalled (Noted failed ∷ calls) s ≡ has_lost failed (kept_of calls s)
recalled_is failed calls s whole was knows =
    let lost = lost_is failed calls s whole knows in grind (arith, nat_tests, whole, was, lost)

-- it is taken back
note_recalls : (failed : List Announced) (calls : List SenderCall) (s : Scattering) → is_recalled calls s ≡ false → is_recalled (Noted failed ∷ calls) s ≡ true → KnowsAll failed calls
    → kept_of (Noted failed ∷ calls) s ≡ taken_back failed (kept_of calls s)
note_recalls failed calls s whole now knows =
    let each : (d : Dest) → has_answered (Noted failed ∷ calls) s d ≡ (false || is_announced d.0.0 failed) = λ d.
    let noted = noted_is failed calls d.0.0 knows in
    let told = not_recall_acked calls s d.0.0 whole in grind (arith, nat_tests, now, noted, told) in
    same_kept s (has_answered (Noted failed ∷ calls) s) (λ d. false || is_announced d.0.0 failed) (is_recalled (Noted failed ∷ calls) s) true each now
    ∙ ap {B = Pending} (λ (bs : List Bool). record { ts = s.ts; dests = s.dests; marks = bs; recalled = true }) (sym (marked_by (is_among failed) (λ d. false) s.dests))

-- it stays as it is
note_same : (failed : List Announced) (calls : List SenderCall) (s : Scattering) → is_recalled calls s ≡ false → is_recalled (Noted failed ∷ calls) s ≡ false
    → kept_of (Noted failed ∷ calls) s ≡ kept_of calls s
note_same failed calls s whole now =
    kept_same (Noted failed) calls s (λ d. grind (arith, nat_tests, now, whole)) (now ∙ sym whole)

note_loses : (failed : List Announced) (calls : List SenderCall) (s : Scattering) (lost : Bool) → is_recalled calls s ≡ false → is_begun calls s.ts.0 ≡ true → KnowsAll failed calls
    → is_open (kept_of calls s) ≡ true → has_lost failed (kept_of calls s) ≡ lost → after_loss failed (kept_of calls s) ≡ where_open (kept_of (Noted failed ∷ calls) s)
note_loses failed calls s true whole was knows opened is =
    cond-true (has_lost failed (kept_of calls s)) (where_open (taken_back failed (kept_of calls s))) (Some (kept_of calls s)) is
    ∙ ap where_open (sym (note_recalls failed calls s whole (recalled_is failed calls s whole was knows ∙ is) knows))
note_loses failed calls s false whole was knows opened is =
    cond-false (has_lost failed (kept_of calls s)) (where_open (taken_back failed (kept_of calls s))) (Some (kept_of calls s)) is
    ∙ sym (ap where_open (note_same failed calls s whole (recalled_is failed calls s whole was knows ∙ is)) ∙ open_some (kept_of calls s) opened)

pub note_by : (failed : List Announced) (calls : List SenderCall) (s : Scattering) (r : Bool) → is_recalled calls s ≡ r → is_begun calls s.ts.0 ≡ true → KnowsAll failed calls
    → is_open (kept_of calls s) ≡ true → after_note failed (kept_of calls s) ≡ where_open (kept_of (Noted failed ∷ calls) s)
note_by failed calls s true is was knows opened =
    cond-true (is_recalled calls s) (where_open (with_failed failed (kept_of calls s))) (after_loss failed (kept_of calls s)) is
    ∙ ap where_open (sym (note_recalled failed calls s is))
note_by failed calls s false is was knows opened =
    cond-false (is_recalled calls s) (where_open (with_failed failed (kept_of calls s))) (after_loss failed (kept_of calls s)) is
    ∙ note_loses failed calls s (has_lost failed (kept_of calls s)) is was knows opened refl
