-- Lemmas on hosts that are cut off.
use Rattle.std.proofs.Common.{◌≡◌, ℕ, ◌<◌, ◌==◌, Bool, true, false, ◌&&◌, ◌||◌, not, List, [], ◌∷◌, ◌++◌, length, Option, ◌⊎◌, inl, inr, refl, sym, ◌∙◌, true≢false}
use Rattle.std.specs.List.{list_any}
use Rattle.std.proofs.lemmas.Bool.{and_from, and_parts, eqb-true, false_from_ne_true, not-true, not_from_false, or_cases, or_left, or_right}
use Rattle.pipe_base.specs.declared.name.Ts.{Ts}
use Rattle.pipe_graph.specs.Below.{any_below}
use Rattle.pipe_graph.specs.Graph.{Graph, IsGraph, tail_of, head_of, is_half}
use Rattle.pipe_graph.specs.Path.{LeavesBy, Leads, IsPath}
use Rattle.pipe_graph.specs.Reach.{feeds, reaches}
use Rattle.pipe_graph.proofs.BelowLaws.{none_below}
use Rattle.pipe_graph.proofs.PathLaws.{path_append, path_more}
use Rattle.pipe_graph.proofs.Rounds.{has_path, is_reach}
use Rattle.pipe_graph.specs.Cut.{IsCut, is_cut}
use Rattle.pipe_graph.specs.Reported.{is_reported, unreported}
use Rattle.pipe_failtime.proofs.TestLaws.{and_fails, none_from}

-- a link and what leads on from it by live links do so by unreported ones, or there is a reported link
link_or_reported : (g : Graph) (live : ℕ → Bool) (reports : ℕ → Option Ts) (n b l : ℕ) (ls : List ℕ) → LeavesBy g live n l
    → (list_any (is_reported reports) ls ≡ true) ⊎ Leads g (unreported live reports) (head_of g l) b ls
    → (list_any (is_reported reports) (l ∷ ls) ≡ true) ⊎ (LeavesBy g (unreported live reports) n l × Leads g (unreported live reports) (head_of g l) b ls)
link_or_reported g live reports n b l ls leaves rest = by_report (is_reported reports l) refl
  where
    by_report : (t : Bool) → is_reported reports l ≡ t
        → (list_any (is_reported reports) (l ∷ ls) ≡ true) ⊎ (LeavesBy g (unreported live reports) n l × Leads g (unreported live reports) (head_of g l) b ls)
    by_report true is = inl (or_left (is_reported reports l) (list_any (is_reported reports) ls) is)
    by_report false isnt = elim rest [
      | inl later ↦ inl (or_right (is_reported reports l) (list_any (is_reported reports) ls) later)
      | inr way ↦ inr (
        record {
          known = leaves.known;
          used = and_from (live l) (not (is_reported reports l)) leaves.used (not_from_false (is_reported reports l) isnt);
          begins = leaves.begins;
        },
        way,
      )
    ]

-- a path by live links is one by unreported ones, or has a reported link
leads_or_reported : (g : Graph) (live : ℕ → Bool) (reports : ℕ → Option Ts) (n b : ℕ) (ls : List ℕ) → Leads g live n b ls
    → (list_any (is_reported reports) ls ≡ true) ⊎ Leads g (unreported live reports) n b ls
leads_or_reported g live reports n b [] leads = inr leads
leads_or_reported g live reports n b (l ∷ ls) leads =
    elim (link_or_reported g live reports n b l ls leads.1 (leads_or_reported g live reports (head_of g l) b ls leads.2)) [
      | inl reported ↦ inl reported
      | inr way ↦ inr (leads.0, way.0, way.1)
    ]

path_or_reported : (g : Graph) (live : ℕ → Bool) (reports : ℕ → Option Ts) (a b : ℕ) (path : List ℕ) → IsPath g live a b path
    → (list_any (is_reported reports) path ≡ true) ⊎ IsPath g (unreported live reports) a b path
path_or_reported g live reports a b [] path = absurd path
path_or_reported g live reports a b (l ∷ ls) path =
    link_or_reported g live reports a b l ls path.0 (leads_or_reported g live reports (head_of g l) b ls path.1)

-- a path by unreported links has no reported link
link_unreported : (live : ℕ → Bool) (reports : ℕ → Option Ts) (l : ℕ) (ls : List ℕ) → unreported live reports l ≡ true → list_any (is_reported reports) ls ≡ false
    → list_any (is_reported reports) (l ∷ ls) ≡ false
link_unreported live reports l ls used rest =
    neither (is_reported reports l) (list_any (is_reported reports) ls) (not-true (is_reported reports l) (and_parts (live l) (not (is_reported reports l)) used).1) rest
  where
    neither : (s t : Bool) → s ≡ false → t ≡ false → (s || t) ≡ false
    neither true t h k = absurd (true≢false h)
    neither false t h k = k

leads_unreported : (g : Graph) (live : ℕ → Bool) (reports : ℕ → Option Ts) (n b : ℕ) (ls : List ℕ) → Leads g (unreported live reports) n b ls → list_any (is_reported reports) ls ≡ false
leads_unreported g live reports n b [] leads = refl
leads_unreported g live reports n b (l ∷ ls) leads =
    link_unreported live reports l ls leads.1.used (leads_unreported g live reports (head_of g l) b ls leads.2)

path_unreported : (g : Graph) (live : ℕ → Bool) (reports : ℕ → Option Ts) (a b : ℕ) (path : List ℕ) → IsPath g (unreported live reports) a b path → list_any (is_reported reports) path ≡ false
path_unreported g live reports a b [] path = absurd path
path_unreported g live reports a b (l ∷ ls) path =
    link_unreported live reports l ls path.0.used (leads_unreported g live reports (head_of g l) b ls path.1)

-- a host that is cut reaches no kept host
pub cut_reaches_none : (g : Graph) (by kept : ℕ → Bool) (host end : ℕ) → is_cut g by kept host ≡ true → end < g.hosts → kept end ≡ true → reaches g by host end ≡ false
cut_reaches_none g by kept host end cut lt is =
    and_fails (kept end) (reaches g by host end)
    (none_below (λ k. kept k && reaches g by host k) g.hosts end (not-true (any_below (λ k. kept k && reaches g by host k) g.hosts) cut) lt) is

pub cut_by_paths : (g : Graph) (live : ℕ → Bool) (reports : ℕ → Option Ts) (kept : ℕ → Bool) (host : ℕ) → IsGraph g
    → is_cut g (unreported live reports) kept host ≡ true → IsCut g live reports kept host
cut_by_paths g live reports kept host graph cut end path lt is live_path =
    elim (path_or_reported g live reports host end path live_path) [
      | inl reported ↦ reported
      | inr way ↦ absurd (true≢false (sym (is_reach g (unreported live reports) host end path graph way)
          ∙ cut_reaches_none g (unreported live reports) kept host end cut lt is))
    ]

pub paths_cut : (g : Graph) (live : ℕ → Bool) (reports : ℕ → Option Ts) (kept : ℕ → Bool) (host : ℕ)
    → IsCut g live reports kept host → is_cut g (unreported live reports) kept host ≡ true
paths_cut g live reports kept host cut =
    not_from_false (any_below (λ k. kept k && reaches g (unreported live reports) host k) g.hosts)
    (none_from (λ k. kept k && reaches g (unreported live reports) host k) g.hosts
    (λ end lt both.
    let parts = and_parts (kept end) (reaches g (unreported live reports) host end) both in
    let way = has_path g (unreported live reports) host end parts.1 in
    let by_live = path_more g (unreported live reports) live host end way.0 (λ l inside used. (and_parts (live l) (not (is_reported reports l)) used).0) way.1 in
    true≢false (sym (cut end way.0 lt parts.0 by_live) ∙ path_unreported g live reports host end way.0 way.1)))

-- what feeds a link reaches its head
pub fed_reaches : (g : Graph) (by : ℕ → Bool) (host link : ℕ) → IsGraph g → link < length g.links → by link ≡ true → feeds g by host link ≡ true → reaches g by host (head_of g link) ≡ true
fed_reaches g by host link graph inside used fed =
    elim (or_cases (host == tail_of g link) (is_half g (tail_of g link) && reaches g by host (tail_of g link)) fed) [
      | inl first ↦ is_reach g by host (head_of g link) (link ∷ []) graph (record { known = inside; used = used; begins = sym (eqb-true host (tail_of g link) first) }, refl)
      | inr later ↦
          let parts = and_parts (is_half g (tail_of g link)) (reaches g by host (tail_of g link)) later in
          let way = has_path g by host (tail_of g link) parts.1 in
          is_reach g by host (head_of g link) (way.0 ++ link ∷ []) graph
          (path_append g by host (tail_of g link) (head_of g link) way.0 (link ∷ []) parts.0 way.1 (record { known = inside; used = used; begins = refl }, refl))
    ]

-- a host that is cut feeds no link to a kept host
pub cut_feeds_none : (g : Graph) (by kept : ℕ → Bool) (host link : ℕ) → IsGraph g → is_cut g by kept host ≡ true
    → link < length g.links → by link ≡ true → head_of g link < g.hosts → kept (head_of g link) ≡ true → feeds g by host link ≡ false
cut_feeds_none g by kept host link graph cut inside used head_lt head_kept =
    false_from_ne_true (feeds g by host link) (λ fed.
    true≢false (sym (fed_reaches g by host link graph inside used fed) ∙ cut_reaches_none g by kept host (head_of g link) cut head_lt head_kept))
