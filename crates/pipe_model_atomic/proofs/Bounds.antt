-- What a host promises bounds the commit barriers of all that it reaches, and so does each report on the way.
use Rattle.std.proofs.Common.{◌≡◌, ◌⊎◌, ℕ, ◌<◌, ◌≤◌, ◌&&◌, not, nat_le, Bool, true, false, List, [], ◌∷◌, ◌++◌, length, Option, None, Some, refl, inl, inr, sym, subst, ap, ◌∙◌, arith, le_trans, true≢false}
use Rattle.std.proofs.lemmas.Bool.{and_from, cases_lt}
use Rattle.std.proofs.lemmas.Bool.Decides.{nat_tests}
use Rattle.std.proofs.lemmas.List.Elements.{All-weaker}
use Rattle.pipe_base.specs.declared.name.Ts.{Ts}
use Rattle.pipe_base.specs.declared.packet.Plane.TheVariants.{Commit}
use Rattle.pipe_base.specs.Barrier.{register}
use Rattle.pipe_base.specs.Failed.{is_announced, time_of}
use Rattle.pipe_graph.specs.Graph.{Graph, head_of, ins_of, is_half, is_host, tail_of}
use Rattle.pipe_graph.specs.Path.{IsPath, Leads, LeavesBy}
use Rattle.pipe_base.specs.Scattering.{Scattering}
use Rattle.pipe_base.specs.Settled.{unsettled}
use Rattle.pipe_base.proofs.BarrierLaws.{barrier-le_register}
use Rattle.pipe_graph.proofs.PathLaws.{path_carries, path_split}
use Rattle.pipe_graph.proofs.Rounds.{has_path}
use Rattle.pipe_model.specs.declared.record.Record.{Record}
use Rattle.pipe_model.specs.Acting.{own}
use Rattle.pipe_model.specs.Clock.{promise}
use Rattle.pipe_model.specs.Controller.{announced, is_live, is_member, view}
use Rattle.pipe_model.specs.Moments.{barrier_at, moments_of, noted_hosts}
use Rattle.pipe_model.specs.NodePromise.{node_promise}
use Rattle.pipe_model.specs.Run.{IsHistory}
use Rattle.pipe_model.specs.Sender.{sender_calls}
use Rattle.pipe_model.proofs.Links.{comes_by}
use Rattle.pipe_model.proofs.Marks.{mark_is_frozen}
use Rattle.pipe_model.proofs.Own.{node_history}
use Rattle.pipe_model.proofs.Promises.{promise_bounds as least_unsettled}
use Rattle.pipe_model.proofs.Steps.{no_host}
use Rattle.pipe_model_atomic.specs.NotedOrCutOff.{IsCutOff, is_open, is_within}
use Rattle.pipe_model_atomic.specs.Present.{IsPresent}
use Rattle.pipe_model_atomic.specs.Sentences.{Bounding}
use Rattle.pipe_model_atomic.specs.UnsettledAbove.{AreUnsettledAbove}
use Rattle.pipe_model_atomic.proofs.Reaching.{IsWay, way_of, way_reaches}
use Rattle.pipe_model_atomic.proofs.Times.{is_timed}
use Rattle.pipe_model_atomic.proofs.Views.{live_in}

-- a node's commit barrier, and what it promises
abbrev pub commit_of : Graph → List Record → ℕ → ℕ
commit_of graph past node = barrier_at Commit graph node (own graph node past)

abbrev pub promised_of : Graph → List Record → ℕ → ℕ
promised_of graph past node = node_promise Commit graph node (own graph node past)

-- a link that counts carries: the barrier at its head is at most what was received on it, and that at most what its tail promises
live_received : (graph : Graph) (past : List Record) → Bounding graph past → (link : ℕ) → link < length graph.links → is_live graph past link ≡ true
    → commit_of graph past (head_of graph link) ≤ register Commit (moments_of graph (head_of graph link) (own graph (head_of graph link) past)) link
live_received graph past holds link lt live =
    let head : ℕ = head_of graph link in
    barrier-le_register Commit (ins_of graph head) (moments_of graph head (own graph head past)) link (comes_by graph head link lt refl) (holds.live_are_used link live)

live_carries : (graph : Graph) (past : List Record) → Bounding graph past → (link : ℕ) → link < length graph.links → is_live graph past link ≡ true
    → commit_of graph past (head_of graph link) ≤ promised_of graph past (tail_of graph link)
live_carries graph past holds link lt live = le_trans (live_received graph past holds link lt live) (holds.fields_promised link).received

pub half_passes_on : (graph : Graph) (past : List Record) (node : ℕ) → is_half graph node ≡ true → promised_of graph past node ≡ commit_of graph past node
half_passes_on graph past node half = let other : is_host graph node ≡ false = no_host graph node half in rw other refl

pub promise_bounds : (graph : Graph) (past : List Record) → Bounding graph past → (start end : ℕ) (path : List ℕ) → IsPath graph (is_live graph past) start end path
    → commit_of graph past end ≤ promised_of graph past start
promise_bounds graph past holds start end path leads =
    path_carries graph (is_live graph past) (commit_of graph past) (promised_of graph past) (half_passes_on graph past) (live_carries graph past holds) start end path leads

pub host_promises : (graph : Graph) (past : List Record) (host : ℕ) → host < graph.hosts → promised_of graph past host ≡ promise graph host (own graph host past)
host_promises graph past host host_in = let is : is_host graph host ≡ true = grind (arith, nat_tests, host_in) in rw is refl

pub unsettled_above : (graph : Graph) (past : List Record) → Bounding graph past → AreUnsettledAbove graph past
unsettled_above graph past holds sender host sender_in present member =
    let o : List Record = own graph sender past in
    let way = has_path graph (is_live graph past) sender host (holds.members_joined sender host (holds.present_are_members sender sender_in present) member) in
    let bound : commit_of graph past host ≤ promise graph sender o =
    subst (λ (n : ℕ). commit_of graph past host ≤ n) (host_promises graph past sender sender_in) (promise_bounds graph past holds sender host way.0 way.1) in
    All-weaker (λ (s : Scattering). promise graph sender o ≤ s.ts.0) (λ (s : Scattering). commit_of graph past host ≤ s.ts.0) (λ (s : Scattering) low. le_trans bound low)
    (unsettled (sender_calls graph sender o)) (least_unsettled graph sender o)

-- ---- reports

-- a report is what was received on its link, now and later
pub report_received : (graph : Graph) (past : List Record) → IsHistory graph past → Bounding graph past → (link : ℕ) (value : Ts) → (view graph past).reports link ≡ Some value
    → register Commit (moments_of graph (head_of graph link) (own graph (head_of graph link) past)) link ≡ value.0
report_received graph past run holds link value is =
    let head : ℕ = head_of graph link in
    mark_is_frozen graph head (own graph head past) link value (node_history graph head past run) (holds.reports_are_marks link value is).marked

-- and it bounds the barrier at the head
report_bounds_head : (graph : Graph) (past : List Record) → IsHistory graph past → Bounding graph past → (link : ℕ) (value : Ts) → (view graph past).reports link ≡ Some value
    → commit_of graph past (head_of graph link) ≤ value.0
report_bounds_head graph past run holds link value is =
    let live : is_live graph past link ≡ true = (holds.reports_are_marks link value is).live in
    let known : link < length graph.links = live_in graph past link live in
    subst (λ (n : ℕ). commit_of graph past (head_of graph link) ≤ n) (report_received graph past run holds link value is)
    (live_received graph past holds link known live)

-- barriers do not rise along what leads on from a half
rest_carries : (graph : Graph) (past : List Record) → Bounding graph past → (node end : ℕ) (links : List ℕ) → Leads graph (is_live graph past) node end links
    → commit_of graph past end ≤ commit_of graph past node
rest_carries graph past holds node end [] leads = let same : commit_of graph past node ≡ commit_of graph past end = ap (commit_of graph past) leads in omega (arith, same)
rest_carries graph past holds node end (l ∷ ls) leads =
    subst (λ (n : ℕ). commit_of graph past end ≤ n) (half_passes_on graph past node leads.0)
    (promise_bounds graph past holds node end (l ∷ ls) (leads.1, leads.2))

pub report_bounds : (graph : Graph) (past : List Record) → IsHistory graph past → Bounding graph past → (start end link : ℕ) (value : Ts) (before after : List ℕ)
    → IsPath graph (is_live graph past) start end (before ++ link ∷ after) → (view graph past).reports link ≡ Some value → commit_of graph past end ≤ value.0
report_bounds graph past run holds start end link value before after path is =
    le_trans
    (rest_carries graph past holds (head_of graph link) end after (path_split graph (is_live graph past) start end link before after path).1)
    (report_bounds_head graph past run holds link value is)

-- ---- announced hosts

-- a link that counts is open, or reported of at most the time
open_by : (o : Option Ts) (live : Bool) (time : Ts) → live ≡ true → ((live && not (is_within time o)) ≡ true) ⊎ ((value : Ts) × (o ≡ Some value) × (value.0 ≤ time.0))
open_by None live time is = inl (and_from live true is refl)
open_by (Some value) live time is =
    elim (cases_lt time.0 value.0) [
      | inl above ↦ let late : nat_le value.0 time.0 ≡ false = grind (arith, nat_tests, above) in inl (and_from live (not (nat_le value.0 time.0)) is (ap not late))
      | inr within ↦ inr (value, refl, within)
    ]

-- what leads on by links that count does so by open ones, or the barrier at its end is at most the time
module _ (graph : Graph) (past : List Record) (run : IsHistory graph past) (holds : Bounding graph past) (time : Ts) where
  leaves_or_bounded : (node end l : ℕ) (ls : List ℕ) → LeavesBy graph (is_live graph past) node l → Leads graph (is_live graph past) (head_of graph l) end ls
      → LeavesBy graph (is_open (view graph past) time) node l ⊎ (commit_of graph past end ≤ time.0)
  leaves_or_bounded node end l ls leaves leads =
      elim (open_by ((view graph past).reports l) (is_live graph past l) time leaves.used) [
        | inl open_still ↦ inl (record { known = leaves.known; used = open_still; begins = leaves.begins })
        | inr told ↦ inr (le_trans (rest_carries graph past holds (head_of graph l) end ls leads) (le_trans (report_bounds_head graph past run holds l told.0 told.1) told.2))
      ]

  leads_or_bounded : (node end : ℕ) (ls : List ℕ) → Leads graph (is_live graph past) node end ls
      → Leads graph (is_open (view graph past) time) node end ls ⊎ (commit_of graph past end ≤ time.0)
  leads_or_bounded node end [] leads = inl leads
  leads_or_bounded node end (l ∷ ls) leads =
      elim (leaves_or_bounded node end l ls leads.1 leads.2) [
        | inl leaves ↦ elim (leads_or_bounded (head_of graph l) end ls leads.2) [
          | inl rest ↦ inl (leads.0, leaves, rest)
          | inr bound ↦ inr bound
        ]
        | inr bound ↦ inr bound
      ]

  way_or_bounded : (start end : ℕ) → IsWay graph (is_live graph past) start end → IsWay graph (is_open (view graph past) time) start end ⊎ (commit_of graph past end ≤ time.0)
  way_or_bounded start end way =
      elim (leaves_or_bounded start end way.first way.rest way.leaves way.leads) [
        | inl leaves ↦ elim (leads_or_bounded (head_of graph way.first) end way.rest way.leads) [
          | inl rest ↦ inl (record { first = way.first; rest = way.rest; leaves = leaves; leads = rest; short = way.short })
          | inr bound ↦ inr bound
        ]
        | inr bound ↦ inr bound
      ]

cut_bounds : (graph : Graph) (past : List Record) → IsHistory graph past → Bounding graph past → (host other : ℕ) (time : Ts)
    → is_member graph past host ≡ true → is_member graph past other ≡ true → IsCutOff graph past host time other → commit_of graph past other ≤ time.0
cut_bounds graph past run holds host other time one two cut =
    elim (way_or_bounded graph past run holds time host other (way_of graph (is_live graph past) host other (holds.members_joined host other one two))) [
      | inl way ↦ absurd (true≢false (sym (way_reaches graph (is_open (view graph past) time) host other way) ∙ cut))
      | inr bound ↦ bound
    ]

time_bounds_by : (member : Bool) (graph : Graph) (past : List Record) → IsHistory graph past → Bounding graph past → (host other : ℕ) (time : Ts) → is_member graph past host ≡ member
    → time_of host (announced graph past) ≡ Some time → IsPresent graph past other → is_announced host (noted_hosts (own graph other past)) ≡ false
    → commit_of graph past other ≤ time.0
time_bounds_by true graph past run holds host other time member is present unnoted =
    elim (holds.noted_or_cut_off host other time is member present) [
      | inl noted ↦ absurd (true≢false (sym noted ∙ unnoted))
      | inr cut ↦ cut_bounds graph past run holds host other time member present.member cut
    ]
time_bounds_by false graph past run holds host other time gone is present unnoted =
    absurd (true≢false (sym (holds.gone_are_noted host other (is_timed host time (announced graph past) is) gone present.member) ∙ unnoted))

-- the commit barrier of a present host that has not noted a host that was announced is at most its time
pub time_bounds : (graph : Graph) (past : List Record) → IsHistory graph past → Bounding graph past → (host other : ℕ) (time : Ts)
    → time_of host (announced graph past) ≡ Some time → IsPresent graph past other → is_announced host (noted_hosts (own graph other past)) ≡ false
    → commit_of graph past other ≤ time.0
time_bounds graph past run holds host other time is present unnoted =
    time_bounds_by (is_member graph past host) graph past run holds host other time refl is present unnoted
