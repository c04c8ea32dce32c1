-- Any two hosts that take part reach each other, and a host that was not announced takes part: where links are dropped, the hosts
-- that stay are partners by the links without reports, and every host that leaves was announced.
use Rattle.std.proofs.Common.{◌≡◌, ℕ, ◌<◌, ◌||◌, nat_lt, not, Bool, true, false, List, [], ◌∷◌, length, refl, inl, inr, sym, ◌∙◌, true≢false, arith}
use Rattle.std.proofs.lemmas.Bool.{and_from, and_parts, false_from_ne_true, lt-ltb, ltb-true, not-true, not_from_false, or_cases}
use Rattle.std.proofs.lemmas.Bool.Decides.{nat_tests}
use Rattle.pipe_graph.specs.Doomed.{is_left}
use Rattle.pipe_base.specs.Failed.{is_announced}
use Rattle.pipe_graph.specs.Graph.{Graph, is_host}
use Rattle.pipe_graph.specs.Path.{every_link}
use Rattle.pipe_graph.specs.Reach.{JoinsAllHosts, reaches}
use Rattle.pipe_graph.specs.Reported.{is_reported}
use Rattle.pipe_graph.specs.Useless.{is_useless}
use Rattle.pipe_failtime.proofs.RoundLaws.{kept_reach}
use Rattle.pipe_failtime.proofs.UselessLaws.{useless_in_words}
use Rattle.pipe_graph.proofs.ReachLaws.{reaches_alike}
use Rattle.pipe_model.specs.declared.record.Record.{Record}
use Rattle.pipe_model.specs.Controller.{is_live, view}
use Rattle.pipe_model.specs.Decision.{after_doom, all_over, is_dead, newly_announced}
use Rattle.pipe_model.specs.View.{View, intact, is_kept}
use Rattle.pipe_model_atomic.specs.MembersJoined.{AreMembersJoined}
use Rattle.pipe_model_atomic.specs.PresentAreMembers.{ArePresentMembers}
use Rattle.pipe_model_atomic.proofs.Announcing.{IsOver, over_at}
use Rattle.pipe_model_atomic.proofs.Reaching.{AreFedIn, reaches_fed}
use Rattle.pipe_model_atomic.proofs.Times.{announced_before}
use Rattle.pipe_model_atomic.proofs.Views.{decision_after, dropped_view, member_in, told_view, untold, view_after}

-- at first all hosts take part, and all links of the graph count
pub joined_first : (graph : Graph) → JoinsAllHosts graph → AreMembersJoined graph []
joined_first graph joined a b one other =
    reaches_alike graph (is_live graph []) every_link a b (λ link known. lt-ltb link (length graph.links) known)
    ∙ joined a b (ltb-true a graph.hosts one) (ltb-true b graph.hosts other)

pub present_first : (graph : Graph) → ArePresentMembers graph []
present_first graph host known present = lt-ltb host graph.hosts known

-- ---- dropping

-- a link without a report that a kept host feeds is not dead
fed_alive : (graph : Graph) (v : View) (host : ℕ) → host < graph.hosts → is_kept v host ≡ true → AreFedIn graph (intact v) (intact v) host (dropped_view graph v).live
fed_alive graph v host host_in kept link known whole fed =
    let parts = and_parts (v.live link) (not (is_reported v.reports link)) whole in
    let useless : Bool = is_useless graph (intact v) (is_kept v) link in
    let dead : Bool = is_dead graph v link in
    and_from (v.live link) (not dead) parts.0
    (not_from_false dead (false_from_ne_true dead (λ is.
    elim (or_cases (is_reported v.reports link) useless (and_parts (v.live link) (is_reported v.reports link || useless) is).1) [
      | inl told ↦ true≢false (sym told ∙ not-true (is_reported v.reports link) parts.1)
      | inr idle ↦ true≢false (sym fed ∙ (useless_in_words graph (intact v) (is_kept v) link idle).unfed host host_in kept)
    ])))

-- two hosts that stay reach each other by what is left
stay_joined : (graph : Graph) (v : View) (a b : ℕ) → a < graph.hosts → b < graph.hosts → is_kept (told_view graph v) a ≡ true → is_kept (told_view graph v) b ≡ true
    → reaches graph (dropped_view graph (told_view graph v)).live a b ≡ true
stay_joined graph v a b a_in b_in one other =
    let w : View = told_view graph v in
    let left : (host : ℕ) → host < graph.hosts → is_kept w host ≡ true → is_left graph v.members w.doomed host ≡ true =
    λ host host_in kept. and_from (is_host graph host) (is_kept w host) (lt-ltb host graph.hosts host_in) kept in
    reaches_fed graph (intact v) (intact v) (dropped_view graph w).live a b (λ link known is. is) (fed_alive graph w a a_in one)
    (kept_reach graph (intact v) v.members v.doomed a b (left a a_in one) (left b b_in other))

pub keeps_members_joined : (graph : Graph) (past : List Record) (r : Record) → AreMembersJoined graph past → AreMembersJoined graph (r ∷ past)
keeps_members_joined graph past r before a b one other =
    let v : View = view graph past in
    let P : View → Type 0 = λ w. w.members a ≡ true → w.members b ≡ true → reaches graph w.live a b ≡ true in
    view_after P graph r.event r.took r.step.outcome v (untold P v r.took (λ link value. before a b) (λ host count. before a b) (λ node count. before a b))
    (λ decides. decision_after P graph v (before a b) (λ over. stay_joined graph v a b (member_in graph (r ∷ past) a one) (member_in graph (r ∷ past) b other)))
    (before a b) one other

-- ---- who is not announced stays

pub trusted_told : (graph : Graph) (v : View) (host : ℕ) → is_announced host (told_view graph v).announced ≡ false → is_announced host v.announced ≡ false
trusted_told graph v host trusted = announced_before host v.announced (told_view graph v).announced (newly_announced graph (after_doom graph v), refl) trusted

stays : (graph : Graph) (v : View) (host : ℕ) → host < graph.hosts → (is_announced host v.announced ≡ false → v.members host ≡ true)
    → all_over graph (told_view graph v) ≡ true → is_announced host (told_view graph v).announced ≡ false → is_kept (told_view graph v) host ≡ true
stays graph v host host_in before over trusted =
    let w : View = told_view graph v in
    let done : IsOver w host = over_at graph w host over host_in in
    and_from (v.members host) (not (w.doomed host)) (before (trusted_told graph v host trusted)) (not_from_false (w.doomed host) (done.trusted trusted))

pub keeps_present_members : (graph : Graph) (past : List Record) (r : Record) → ArePresentMembers graph past → ArePresentMembers graph (r ∷ past)
keeps_present_members graph past r before host host_in =
    let v : View = view graph past in
    let P : View → Type 0 = λ w. is_announced host w.announced ≡ false → w.members host ≡ true in
    let old : P v = before host host_in in
    view_after P graph r.event r.took r.step.outcome v (untold P v r.took (λ link value. old) (λ other count. old) (λ node count. old))
    (λ decides. decision_after P graph v (λ trusted. old (trusted_told graph v host trusted)) (λ over. stays graph v host host_in old over)) old
