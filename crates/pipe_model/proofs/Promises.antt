-- A host's reliable scatterings rise, what is settled stays settled, and what a node promises never falls.
use Rattle.std.proofs.Common.{◌≡◌, ℕ, ◌<◌, ◌≤◌, ◌+◌, not, Bool, true, false, if◌then◌else◌, List, [], ◌∷◌, ◌++◌, ◌==◌, ◌||◌, Option, None, Some, refl, sym, subst, ap, ◌∙◌, arith}
use Rattle.std.specs.List.{All}
use Rattle.std.proofs.lemmas.List.{append-nil}
use Rattle.std.proofs.lemmas.List.Folds.{list_any-append}
use Rattle.std.proofs.lemmas.List.Elements.{All-nil, All-cons, All-weaker, All-append, All-filter}
use Rattle.pipe_base.specs.declared.control.Announced.{Announced}
use Rattle.pipe_base.specs.declared.message.Service.TheVariants.{Reliable}
use Rattle.pipe_base.specs.declared.name.HostId.{HostId}
use Rattle.pipe_base.specs.declared.name.Ts.{Ts}
use Rattle.pipe_base.specs.declared.packet.Packet.{Packet}
use Rattle.pipe_base.specs.declared.packet.Plane.{Plane}
use Rattle.pipe_base.specs.declared.packet.Plane.TheVariants as planes
use Rattle.pipe_base.specs.declared.step.Outcome.{Outcome}
use Rattle.pipe_base.specs.declared.step.Outcome.TheVariants.{Ok}
use Rattle.pipe_base.specs.Clock.{after_stamp}
use Rattle.pipe_base.specs.Failed.{is_announced}
use Rattle.pipe_graph.specs.Graph.{Graph, is_host}
use Rattle.pipe_base.specs.Scattering.{Scattering, SenderCall, Began, Acked, Noted, RecallAcked, AreRising, begun}
use Rattle.pipe_base.specs.Settled.{is_noted, is_settled, unsettled}
use Rattle.pipe_base.proofs.SenderLaws.{BeginsFrom, least_above, least_below_next, least_of_each, left_from, rising_more, settled_stays}
use Rattle.pipe_model.specs.declared.event.Event.{Event}
use Rattle.pipe_model.specs.declared.event.Event.TheVariants.{Send}
use Rattle.pipe_model.specs.declared.record.Record.{Record}
use Rattle.pipe_model.specs.Clock.{next, promise}
use Rattle.pipe_model.specs.Got.{gets}
use Rattle.pipe_model.specs.Moments.{barrier_at, noted_hosts}
use Rattle.pipe_model.specs.NodePromise.{host_promise, node_promise}
use Rattle.pipe_model.specs.Run.{IsNodeHistory, IsNodeStep}
use Rattle.pipe_model.specs.Sender.{accepted_stamp, is_ack, is_recall_ack, sender_calls, where_accepted, with_answer, with_begun, with_noted}
use Rattle.pipe_model.proofs.Rising.{barrier_rises}
use Rattle.pipe_model.proofs.Stamps.{stamp_above}

-- ---- a property of a sender's calls, one record on

-- the call begins no scattering
abbrev pub BeginsNone : SenderCall → Type 0
BeginsNone (Began s) = ⊥
BeginsNone _ = Unit {0}

pub begun_same : (c : SenderCall) (past : List SenderCall) → BeginsNone c → begun (c ∷ past) ≡ begun past
begun_same (Began s) past none = absurd none
begun_same (Acked ts host) past none = refl
begun_same (Noted failed) past none = refl
begun_same (RecallAcked ts host) past none = refl

-- what the property asks of all other calls
abbrev pub WhereNoneBegun : (List SenderCall → Type 0) → Type 0
WhereNoneBegun P = (past : List SenderCall) (c : SenderCall) → BeginsNone c → P past → P (c ∷ past)

answered : (P : List SenderCall → Type 0) (past : List SenderCall) (ack recall_ack : Bool) (ts host : ℕ) → P past → P (Acked ts host ∷ past) → P (RecallAcked ts host ∷ past)
    → P (if ack then Acked ts host ∷ past else if recall_ack then RecallAcked ts host ∷ past else past)
answered P past true recall_ack ts host same acked taken = acked
answered P past false true ts host same acked taken = taken
answered P past false false ts host same acked taken = same

with_answer_by : (P : List SenderCall → Type 0) (o : Option Packet) (past : List SenderCall) → WhereNoneBegun P → P past → P (with_answer o past)
with_answer_by P None past others same = same
with_answer_by P (Some p) past others same =
    answered P past (is_ack p.kind) (is_recall_ack p.kind) p.ts.0 p.src.0 same (others past (Acked p.ts.0 p.src.0) tt same) (others past (RecallAcked p.ts.0 p.src.0) tt same)

with_noted_by : (P : List SenderCall → Type 0) (noted new : List Announced) (past : List SenderCall) → WhereNoneBegun P → P past → P (with_noted noted new past)
with_noted_by P noted [] past others same = same
with_noted_by P noted (a ∷ more) past others same = others past (Noted noted) tt same

-- what the property asks where the event begins a scattering
abbrev pub WhereBegun : (List SenderCall → Type 0) → Event → Option Ts → List SenderCall → Type 0
WhereBegun P event stamp past =
    (host : HostId) (now ts : Ts) (dests : List (HostId × List ℕ)) → event ≡ Send host Reliable now dests → stamp ≡ Some ts
    → P (Began (record { ts = ts; dests = dests }) ∷ past)

with_begun_by : (P : List SenderCall → Type 0) (event : Event) (stamp : Option Ts) (past : List SenderCall) → P past → WhereBegun P event stamp past
    → P (with_begun event stamp past)
with_begun_by P (Send host Reliable now dests) (Some ts) past same more = more host now ts dests refl refl
with_begun_by P _ _ past same more = same

was_stamped : (outcome : Outcome) (stamp : Option Ts) (ts : Ts) → where_accepted outcome stamp ≡ Some ts → stamp ≡ Some ts
was_stamped Ok stamp ts is = is
was_stamped _ stamp ts is = cc

-- where a scattering that is begun keeps the property, and so do all other calls, a record does
pub calls_after : (P : List SenderCall → Type 0) (graph : Graph) (node : ℕ) (own : List Record) (r : Record) → WhereBegun P r.event r.step.stamped (sender_calls graph node own)
    → WhereNoneBegun P → P (sender_calls graph node own) → P (sender_calls graph node (r ∷ own))
calls_after P graph node own r begins others before =
    let first : List SenderCall = with_begun r.event (accepted_stamp r.step) (sender_calls graph node own) in
    let answers : List SenderCall = with_answer (gets graph node own r) first in
    with_noted_by P (noted_hosts (r ∷ own)) r.step.noted answers others
    (with_answer_by P (gets graph node own r) first others (with_begun_by P r.event (accepted_stamp r.step) (sender_calls graph node own) before
    (λ host now ts dests event stamp. begins host now ts dests event (was_stamped r.step.outcome r.step.stamped ts stamp))))

-- a property of the scatterings that were begun asks nothing of other calls
pub begun_after : (P : List Scattering → Type 0) (graph : Graph) (node : ℕ) (own : List Record) (r : Record)
    → WhereBegun (λ c. P (begun c)) r.event r.step.stamped (sender_calls graph node own) → P (begun (sender_calls graph node own)) → P (begun (sender_calls graph node (r ∷ own)))
begun_after P graph node own r begins before =
    calls_after (λ (c : List SenderCall). P (begun c)) graph node own r begins (λ past c none same. subst P (sym (begun_same c past none)) same) before

-- ---- the sender was told of all failed hosts that are noted

begun_notes : (event : Event) (stamp : Option Ts) (past : List SenderCall) (host : ℕ) → is_noted (with_begun event stamp past) host ≡ is_noted past host
begun_notes event stamp past host = with_begun_by (λ (c : List SenderCall). is_noted c host ≡ is_noted past host) event stamp past refl (λ h now ts dests e s. refl)

answer_by_kind : (ack recall_ack : Bool) (ts from : ℕ) (past : List SenderCall) (host : ℕ)
    → is_noted (if ack then Acked ts from ∷ past else if recall_ack then RecallAcked ts from ∷ past else past) host ≡ is_noted past host
answer_by_kind true recall_ack ts from past host = refl
answer_by_kind false true ts from past host = refl
answer_by_kind false false ts from past host = refl

answer_notes : (o : Option Packet) (past : List SenderCall) (host : ℕ) → is_noted (with_answer o past) host ≡ is_noted past host
answer_notes None past host = refl
answer_notes (Some p) past host = answer_by_kind (is_ack p.kind) (is_recall_ack p.kind) p.ts.0 p.src.0 past host

or_again : (a b : Bool) → ((a || b) || a) ≡ (a || b)
or_again true b = refl
or_again false true = refl
or_again false false = refl

noted_both : (host : ℕ) (old new : List Announced) (past : List SenderCall) → is_noted past host ≡ is_announced host old
    → is_noted (with_noted (old ++ new) new past) host ≡ is_announced host (old ++ new)
noted_both host old [] past before = before ∙ ap (is_announced host) (sym (append-nil old))
noted_both host old (a ∷ more) past before =
    let both : is_announced host (old ++ a ∷ more) ≡ (is_announced host old || is_announced host (a ∷ more)) = list_any-append (λ (x : Announced). x.host.0 == host) old (a ∷ more) in
    ap (λ (b : Bool). b || is_noted past host) both ∙ ap (λ (b : Bool). (is_announced host old || is_announced host (a ∷ more)) || b) before
    ∙ or_again (is_announced host old) (is_announced host (a ∷ more)) ∙ sym both

pub noted_is : (graph : Graph) (node : ℕ) (own : List Record) (host : ℕ) → is_noted (sender_calls graph node own) host ≡ is_announced host (noted_hosts own)
noted_is graph node [] host = refl
noted_is graph node (r ∷ own) host =
    let first : List SenderCall = with_begun r.event (accepted_stamp r.step) (sender_calls graph node own) in
    noted_both host (noted_hosts own) r.step.noted (with_answer (gets graph node own r) first)
    (answer_notes (gets graph node own r) first host ∙ begun_notes r.event (accepted_stamp r.step) (sender_calls graph node own) host ∙ noted_is graph node own host)

-- ---- scatterings and their timestamps

-- what is settled stays settled
pub settled_still : (graph : Graph) (node : ℕ) (own : List Record) (r : Record) (s : Scattering) → is_settled (sender_calls graph node own) s ≡ true
    → is_settled (sender_calls graph node (r ∷ own)) s ≡ true
settled_still graph node own r s is =
    calls_after (λ (c : List SenderCall). is_settled c s ≡ true) graph node own r
    (λ host now ts dests event stamp. settled_stays (Began (record { ts = ts; dests = dests })) (sender_calls graph node own) s is)
    (λ past c none before. settled_stays c past s before) is

-- stamps are below the next timestamp, and not below that before
pub stamp_below : (graph : Graph) (node : ℕ) (own : List Record) (r : Record) (ts : Ts) → r.step.stamped ≡ Some ts → ts.0 < next graph node (r ∷ own)
stamp_below graph node own r ts is = let same : after_stamp r.step.stamped ≡ ts.0 + 1 = ap after_stamp is in omega arith

pub next_rises : (graph : Graph) (node : ℕ) (own : List Record) (r : Record) → next graph node own ≤ next graph node (r ∷ own)
next_rises graph node own r = omega arith

stamped_above : (graph : Graph) (node : ℕ) (own : List Record) (r : Record) (ts : Ts) → IsNodeStep graph node own r → r.step.stamped ≡ Some ts → next graph node own ≤ ts.0
stamped_above graph node own r ts step is = stamp_above graph node own r.event ts (sym step.stamped_is ∙ is)

-- all that were begun are below the next timestamp
abbrev BegunBelow : ℕ → List SenderCall → Type 0
BegunBelow bound calls = All (λ s. s.ts.0 < bound) (begun calls)

pub begun_below_next : (graph : Graph) (node : ℕ) (own : List Record) → BegunBelow (next graph node own) (sender_calls graph node own)
begun_below_next graph node [] = All-nil (λ (s : Scattering). s.ts.0 < 0)
begun_below_next graph node (r ∷ own) =
    let calls = sender_calls graph node own in
    let bound = next graph node (r ∷ own) in
    let rises = next_rises graph node own r in
    let before : BegunBelow bound calls =
    All-weaker (λ (s : Scattering). s.ts.0 < next graph node own) (λ (s : Scattering). s.ts.0 < bound) (λ (s : Scattering) lt. omega (arith, lt, rises)) (begun calls) (begun_below_next graph node own) in
    begun_after (λ (ss : List Scattering). All (λ s. s.ts.0 < bound) ss) graph node own r
    (λ host now ts dests event stamp.
    All-append (λ (s : Scattering). s.ts.0 < bound) (begun calls) (record { ts = ts; dests = dests } ∷ []) before
    (All-cons (λ (s : Scattering). s.ts.0 < bound) (record { ts = ts; dests = dests }) [] (stamp_below graph node own r ts stamp) (All-nil (λ (s : Scattering). s.ts.0 < bound))))
    before

-- scatterings rise
pub begun_rise : (graph : Graph) (node : ℕ) (own : List Record) → IsNodeHistory graph node own → AreRising (begun (sender_calls graph node own))
begun_rise graph node [] history = tt
begun_rise graph node (r ∷ own) history =
    let calls = sender_calls graph node own in
    let before = begun_rise graph node own history.0 in
    begun_after AreRising graph node own r
    (λ host now ts dests event stamp.
    let above = stamped_above graph node own r ts history.1 stamp in
    rising_more (begun calls) (record { ts = ts; dests = dests }) before
    (All-weaker (λ (s : Scattering). s.ts.0 < next graph node own) (λ (s : Scattering). s.ts.0 < ts.0) (λ (s : Scattering) lt. omega (arith, lt, above)) (begun calls) (begun_below_next graph node own)))
    before

-- ---- the promise of a host

-- the promise is at most the next timestamp
pub promise_within : (graph : Graph) (node : ℕ) (own : List Record) → promise graph node own ≤ next graph node own
promise_within graph node own =
    least_below_next (next graph node own) (unsettled (sender_calls graph node own))
    (All-filter (λ (s : Scattering). not (is_settled (sender_calls graph node own) s)) (λ (s : Scattering). s.ts.0 < next graph node own) (begun (sender_calls graph node own)) (begun_below_next graph node own))

-- what is not settled is at or above the promise
pub promise_bounds : (graph : Graph) (node : ℕ) (own : List Record) → All (λ s. promise graph node own ≤ s.ts.0) (unsettled (sender_calls graph node own))
promise_bounds graph node own = least_of_each (next graph node own) (unsettled (sender_calls graph node own))

-- what is not settled after a record is at or above the promise before it
abbrev LeftAbove : ℕ → List SenderCall → Type 0
LeftAbove bound calls = All (λ s. bound ≤ s.ts.0) (unsettled calls)

none_from : (bound : ℕ) (c : SenderCall) → BeginsNone c → BeginsFrom bound c
none_from bound (Began s) none = absurd none
none_from bound (Acked ts host) none = tt
none_from bound (Noted failed) none = tt
none_from bound (RecallAcked ts host) none = tt

pub promise_rises : (graph : Graph) (node : ℕ) (own : List Record) (r : Record) → IsNodeStep graph node own r → promise graph node own ≤ promise graph node (r ∷ own)
promise_rises graph node own r step =
    let bound = promise graph node own in
    let calls = sender_calls graph node own in
    let within = promise_within graph node own in
    let before : LeftAbove bound calls = promise_bounds graph node own in
    let after : LeftAbove bound (sender_calls graph node (r ∷ own)) =
    calls_after (LeftAbove bound) graph node own r
    (λ host now ts dests event stamp.
    let above = stamped_above graph node own r ts step stamp in
    left_from bound (Began (record { ts = ts; dests = dests })) calls (omega (arith, above, within)) before)
    (λ past c none all. left_from bound c past (none_from bound c none) all) before in
    least_above bound (next graph node (r ∷ own)) (unsettled (sender_calls graph node (r ∷ own))) (omega (arith, within, next_rises graph node own r)) after

-- ---- what any node promises

host_rises : (plane : Plane) (graph : Graph) (node : ℕ) (own : List Record) (r : Record) → IsNodeStep graph node own r
    → host_promise plane graph node own ≤ host_promise plane graph node (r ∷ own)
host_rises planes.BestEffort graph node own r step = next_rises graph node own r
host_rises planes.Commit graph node own r step = promise_rises graph node own r step

chosen_rises : (b : Bool) (h f k g : ℕ) → h ≤ k → f ≤ g → (if b then h else f) ≤ (if b then k else g)
chosen_rises true h f k g host half = host
chosen_rises false h f k g host half = half

pub node_rises : (plane : Plane) (graph : Graph) (node : ℕ) (own : List Record) (r : Record) → IsNodeStep graph node own r
    → node_promise plane graph node own ≤ node_promise plane graph node (r ∷ own)
node_rises plane graph node own r step =
    chosen_rises (is_host graph node) (host_promise plane graph node own) (barrier_at plane graph node own)
    (host_promise plane graph node (r ∷ own)) (barrier_at plane graph node (r ∷ own))
    (host_rises plane graph node own r step) (barrier_rises plane graph node own r)
