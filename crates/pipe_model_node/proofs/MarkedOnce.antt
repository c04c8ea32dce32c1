-- A node marks no link twice: what it marks was up before, and what it marked is up no more.
use Rattle.std.proofs.Common.{◌≡◌, ◌≢◌, ℕ, suc, ◌<◌, ◌==◌, ◌&&◌, if◌then◌else◌, Bool, true, false, List, [], ◌∷◌, ◌++◌, length, get_or, map, filter, refl, sym, subst, ap, arith, eq-eqb}
use Rattle.std.specs.List.{All, AllPairs}
use Rattle.std.proofs.lemmas.Bool.{and_parts}
use Rattle.std.proofs.lemmas.List.Elements.{All-nil, All-cons, All-head, All-tail, All-append, All-map, All-weaker, filter_passes}
use Rattle.std.proofs.lemmas.List.FromFn.{get_or-map-range_with_len, length-map-range_with_len}
use Rattle.std.proofs.lemmas.List.Kept.{AllPairs-cons, AllPairs-filter}
use Rattle.pipe_base.specs.declared.control.Control.{Control}
use Rattle.pipe_base.specs.declared.control.Control.TheVariants.{Freeze}
use Rattle.pipe_base.specs.declared.name.LinkId.{LinkId}
use Rattle.pipe_base.specs.declared.name.Ts.{Ts}
use Rattle.pipe_graph.specs.Graph.{Graph, all_links, head_of, ins_of, link_id}
use Rattle.pipe_base.specs.Moment.{Moment, WentDown, has_link, is_up, keeps_links, with_downed, with_received}
use Rattle.pipe_base.specs.Silence.{goes_down, is_silent, mark_of, quiet_start}
use Rattle.pipe_model.specs.declared.event.Event.{Event}
use Rattle.pipe_model.specs.declared.event.Event.TheVariants.{ControlTake, Tick}
use Rattle.pipe_model.specs.declared.record.Record.{Record}
use Rattle.pipe_model.specs.declared.record.Took.{Took}
use Rattle.pipe_model.specs.declared.record.Took.TheVariants.{Message}
use Rattle.pipe_model.specs.Marks.{downed_by, marks, told_marks}
use Rattle.pipe_model.specs.Moments.{moments_of, quiet_calls, received}
use Rattle.pipe_model.specs.Run.{IsNodeHistory}
use Rattle.pipe_model.proofs.Marks.{down_downed, down_dropped, down_still}

-- the marks are of different links
abbrev pub OfOthers : (LinkId × Ts) → (LinkId × Ts) → Type 0
OfOthers a b = a.0.0 ≢ b.0.0

-- the link of a mark is up, and is not
abbrev IsUp : List Moment → (LinkId × Ts) → Type 0
IsUp moments m = is_up moments m.0.0 ≡ true

abbrev IsDown : List Moment → (LinkId × Ts) → Type 0
IsDown moments m = is_up moments m.0.0 ≡ false

-- ---- pairs in a list made of two

pub pairs_tail : {X : Type 0} (R : X → X → Type 0) (x : X) (xs : List X) → AllPairs R (x ∷ xs) → AllPairs R xs
pairs_tail R x xs all = λ i j d lt within. all (suc i) (suc j) d (omega arith) (omega arith)

pub pairs_head : {X : Type 0} (R : X → X → Type 0) (x : X) (xs : List X) → AllPairs R (x ∷ xs) → All (R x) xs
pairs_head R x xs all = λ k d within. all 0 (suc k) d (omega arith) (omega arith)

pub pairs_both : {X : Type 0} (R : X → X → Type 0) (xs ys : List X) → AllPairs R xs → AllPairs R ys → All (λ x. All (R x) ys) xs → AllPairs R (xs ++ ys)
pairs_both R [] ys one other across = other
pairs_both R (x ∷ xs) ys one other across =
    AllPairs-cons R x (xs ++ ys) (All-append (R x) xs ys (pairs_head R x xs one) (All-head (λ z. All (R z) ys) x xs across))
    (pairs_both R xs ys (pairs_tail R x xs one) other (All-tail (λ z. All (R z) ys) x xs across))

pub pairs_map : {X Y : Type 0} (R : Y → Y → Type 0) (f : X → Y) (xs : List X) → AllPairs (λ x z. R (f x) (f z)) xs → AllPairs R (map f xs)
pairs_map R f [] all = λ i j d lt within. absurd (omega arith)
pairs_map R f (x ∷ xs) all =
    AllPairs-cons R (f x) (map f xs) (All-map (R (f x)) f xs (pairs_head (λ z w. R (f z) (f w)) x xs all)) (pairs_map R f xs (pairs_tail (λ z w. R (f z) (f w)) x xs all))

-- ---- what a record marks: links that are up, each once

abbrev pub AreTwo : LinkId → LinkId → Type 0
AreTwo a b = a.0 ≢ b.0

pub links_differ : (graph : Graph) → AllPairs AreTwo (all_links graph)
links_differ graph = λ i j d lt within same.
    let n : ℕ = length graph.links in
    let last : j < n = omega (arith, within, length-map-range_with_len link_id 0 n) in
    let one : (get_or (all_links graph) i d).0 ≡ i = ap (λ (l : LinkId). l.0) (get_or-map-range_with_len link_id 0 n i i d (omega arith) (omega arith)) in
    let other : (get_or (all_links graph) j d).0 ≡ j = ap (λ (l : LinkId). l.0) (get_or-map-range_with_len link_id 0 n j j d last (omega arith)) in
    omega (arith, one, other, same)

-- the marks of a step are of links that are up, no two of one
pub record AreNew (moments : List Moment) (ds : List (LinkId × Ts)) : Type 0 where
  pub ups : All (IsUp moments) ds
  pub differ : AllPairs OfOthers ds

none_new : (moments : List Moment) → AreNew moments []
none_new moments = record { ups = All-nil (IsUp moments); differ = λ i j d lt within. absurd (omega arith) }

silent_new : (graph : Graph) (node now : ℕ) (own : List Record) → AreNew (moments_of graph node own) (map (mark_of (moments_of graph node own)) (filter (goes_down graph.patience (moments_of graph node own) (quiet_calls graph node own) now) (ins_of graph node)))
silent_new graph node now own =
    let moments : List Moment = moments_of graph node own in
    let goes : LinkId → Bool = goes_down graph.patience moments (quiet_calls graph node own) now in
    let going : List LinkId = filter goes (ins_of graph node) in
    record {
      ups =
          All-map (IsUp moments) (mark_of moments) going
          (All-weaker (λ (l : LinkId). goes l ≡ true) (λ (l : LinkId). is_up moments l.0 ≡ true)
          (λ l is. (and_parts (is_up moments l.0) (is_silent graph.patience now (quiet_start (quiet_calls graph node own) l.0)) is).0) going (filter_passes goes (ins_of graph node)));
      differ =
          pairs_map OfOthers (mark_of moments) going
          (AllPairs-filter AreTwo goes (ins_of graph node) (AllPairs-filter AreTwo (λ l. head_of graph l.0 == node) (all_links graph) (links_differ graph)));
    }

told_new : (ins : List LinkId) (moments : List Moment) (c : Control) → AreNew moments (told_marks ins moments c)
told_new ins moments (Freeze l) = either (has_link l.0 ins) (is_up moments l.0) refl
  where
    either : (a b : Bool) → is_up moments l.0 ≡ b → AreNew moments (if a && b then mark_of moments l ∷ [] else [])
    either true true up = record {
      ups = All-cons (IsUp moments) (mark_of moments l) [] up (All-nil (IsUp moments));
      differ = λ i j d lt within. absurd (omega arith);
    }
    either true false down = none_new moments
    either false b is = none_new moments
told_new ins moments _ = none_new moments

new_by : (graph : Graph) (node : ℕ) (own : List Record) (event : Event) (took : Took) → AreNew (moments_of graph node own) (downed_by graph node own event took)
new_by graph node own (Tick n now) took = silent_new graph node now.0 own
new_by graph node own (ControlTake place keep) (Message a) = told_new (ins_of graph node) (moments_of graph node own) a.control
new_by graph node own _ _ = none_new (moments_of graph node own)

-- ---- what a node marked is up no more

listed_down : (ds : List (LinkId × Ts)) (past : List Moment) → All (IsDown (with_downed ds past)) ds
listed_down [] past = All-nil (IsDown past)
listed_down (d ∷ ds) past =
    let first : is_up (WentDown d.0.0 ∷ past) d.0.0 ≡ false = let same : (d.0.0 == d.0.0) ≡ true = eq-eqb d.0.0 d.0.0 refl in rw same refl in
    All-cons (IsDown (with_downed ds (WentDown d.0.0 ∷ past))) d ds (down_downed ds (WentDown d.0.0 ∷ past) d.0.0 first) (listed_down ds (WentDown d.0.0 ∷ past))

marks_down : (graph : Graph) (node : ℕ) (own : List Record) → All (IsDown (moments_of graph node own)) (marks own)
marks_down graph node [] = All-nil (IsDown [])
marks_down graph node (r ∷ own) =
    let now : List Moment = moments_of graph node (r ∷ own) in
    let ds : List (LinkId × Ts) = r.step.downed in
    let received_too : List Moment = with_received (keeps_links ds r.step.dropped) (received graph node own r) (moments_of graph node own) in
    All-append (IsDown now) (marks own) ds
    (All-weaker (IsDown (moments_of graph node own)) (IsDown now) (λ (m : LinkId × Ts) down. down_still graph node own r m.0.0 down) (marks own) (marks_down graph node own))
    (All-weaker (IsDown (with_downed ds received_too)) (IsDown now) (λ (m : LinkId × Ts) down. down_dropped (ins_of graph node) r.step.dropped (with_downed ds received_too) m.0.0 down) ds (listed_down ds received_too))

across : (before : List Moment) (ms ds : List (LinkId × Ts)) → All (IsDown before) ms → All (IsUp before) ds → All (λ m. All (OfOthers m) ds) ms
across before ms ds downs ups =
    All-weaker (IsDown before) (λ (m : LinkId × Ts). All (OfOthers m) ds)
    (λ (m : LinkId × Ts) down. All-weaker (IsUp before) (OfOthers m) (λ (d : LinkId × Ts) up same. let number : is_up before m.0.0 ≡ is_up before d.0.0 = ap (is_up before) same in cc) ds ups) ms downs

-- no link is marked twice, whatever the node is handed
pub marked_once : (graph : Graph) (node : ℕ) (own : List Record) → IsNodeHistory graph node own → AllPairs OfOthers (marks own)
marked_once graph node [] history = λ i j d lt within. absurd (omega arith)
marked_once graph node (r ∷ own) history =
    let new : AreNew (moments_of graph node own) r.step.downed = subst (AreNew (moments_of graph node own)) (sym history.1.downed_is) (new_by graph node own r.event r.took) in
    pairs_both OfOthers (marks own) r.step.downed (marked_once graph node own history.0) new.differ
    (across (moments_of graph node own) (marks own) r.step.downed (marks_down graph node own) new.ups)
