-- What a tick tells the controller, by the registers of the in-links: of each that is not up and not dropped, its commit register.
use Rattle.std.proofs.Common.{◌≡◌, ℕ, ◌==◌, ◌&&◌, ◌||◌, not, if◌then◌else◌, Bool, true, false, List, [], ◌∷◌, ◌++◌, Option, None, Some, filter, refl, sym, ap, ◌∙◌}
use Rattle.std.specs.Prelude.{flat_map}
use Rattle.std.specs.List.{All, list_any}
use Rattle.std.proofs.lemmas.List.Elements.{All-head, All-tail, All-weaker, filter_passes}
use Rattle.std.proofs.lemmas.List.Folds.{list_any-append}
use Rattle.pipe_base.specs.declared.control.Addressed.{Addressed}
use Rattle.pipe_base.specs.declared.name.LinkId.{LinkId}
use Rattle.pipe_base.specs.declared.name.Ts.{Ts}
use Rattle.pipe_base.specs.declared.packet.Plane.TheVariants.{Commit}
use Rattle.pipe_base.specs.Barrier.{register}
use Rattle.pipe_graph.specs.Graph.{Graph, ins_of}
use Rattle.pipe_base.specs.Moment.{Moment, Dropped, is_retained, is_up, keeps_links, with_received, with_downed}
use Rattle.pipe_base.specs.Entries.{with_entries}
use Rattle.pipe_graph.specs.Passable.{not_dropped}
use Rattle.pipe_model.specs.declared.record.Record.{Record}
use Rattle.pipe_model.specs.Duties.{down_told, downs_told}
use Rattle.pipe_model.specs.Marks.{mark}
use Rattle.pipe_model.specs.Moments.{known_drops, moments_of, received}
use Rattle.pipe_model.proofs.Marks.{IsMarkedBy, kept_downed, kept_received}

-- ---- a link is kept where it is not known as dropped

both_kept : (here before more : Bool) → ((if here then false else before) && not more) ≡ (before && not (here || more))
both_kept true true more = refl
both_kept true false more = refl
both_kept false before more = refl

kept_dropped : (ins : List LinkId) (ls : List LinkId) (past : List Moment) (link : ℕ) → is_retained (with_entries ins ls past) link ≡ (is_retained past link && not_dropped ls link)
kept_dropped ins [] past link = always (is_retained past link)
  where
    always : (b : Bool) → b ≡ (b && true)
    always true = refl
    always false = refl
kept_dropped ins (l ∷ ls) past link =
    kept_dropped ins ls (Dropped l.0 ∷ past) link ∙ both_kept (l.0 == link) (is_retained past link) (list_any (λ (m : LinkId). m.0 == link) ls)

neither : (a b : Bool) → (not a && not b) ≡ not (a || b)
neither true b = refl
neither false b = refl

pub kept_by_drops : (graph : Graph) (node : ℕ) (own : List Record) (link : ℕ) → is_retained (moments_of graph node own) link ≡ not_dropped (known_drops own) link
kept_by_drops graph node [] link = refl
kept_by_drops graph node (r ∷ own) link =
    let test : LinkId → Bool = λ l. l.0 == link in
    let looked : Bool = keeps_links r.step.downed r.step.dropped in
    let received_too : List Moment = with_received looked (received graph node own r) (moments_of graph node own) in
    let before : is_retained (with_downed r.step.downed received_too) link ≡ not_dropped (known_drops own) link =
    kept_downed r.step.downed received_too link ∙ kept_received looked (received graph node own r) (moments_of graph node own) link ∙ kept_by_drops graph node own link in
    kept_dropped (ins_of graph node) r.step.dropped (with_downed r.step.downed received_too) link ∙ ap (λ (b : Bool). b && not_dropped r.step.dropped link) before
    ∙ neither (list_any test (known_drops own)) (list_any test r.step.dropped) ∙ ap not (sym (list_any-append test (known_drops own) r.step.dropped))

-- ---- the mark of a link that is kept

-- the frozen value of a link that is not up
abbrev pub frozen_at : List Moment → ℕ → Option Ts
frozen_at moments link = if is_up moments link then None else Some (record { 0 = register Commit moments link })

by_mark : (up : Bool) (moments : List Moment) (link : ℕ) (o : Option Ts) → is_up moments link ≡ up → is_retained moments link ≡ true → IsMarkedBy moments link o
    → o ≡ (if up then None else Some (record { 0 = register Commit moments link }))
by_mark true moments link None is kept marked = refl
by_mark true moments link (Some value) is kept marked = let never : true ≡ false = sym is ∙ marked.0 in cc
by_mark false moments link None is kept marked = let never : false ≡ true = sym is ∙ marked kept in cc
by_mark false moments link (Some value) is kept marked =
    let at : ℕ → Option Ts = λ n. Some (record { 0 = n }) in ap at (sym marked.1)

pub mark_at : (moments : List Moment) (link : ℕ) (o : Option Ts) → is_retained moments link ≡ true → IsMarkedBy moments link o → o ≡ frozen_at moments link
mark_at moments link o kept marked = by_mark (is_up moments link) moments link o refl kept marked

-- ---- what is told

each_same : (one other : LinkId → List Addressed) (ls : List LinkId) → All (λ l. one l ≡ other l) ls → flat_map one ls ≡ flat_map other ls
each_same one other [] all = refl
each_same one other (l ∷ ls) all =
    let here : one l ≡ other l = All-head (λ (m : LinkId). one m ≡ other m) l ls all in
    let rest : flat_map one ls ≡ flat_map other ls = each_same one other ls (All-tail (λ (m : LinkId). one m ≡ other m) l ls all) in
    ap (λ (xs : List Addressed). xs ++ flat_map one ls) here ∙ ap (λ (xs : List Addressed). other l ++ xs) rest

-- the marks of all links say what they are to
abbrev pub AreMarked : Graph → ℕ → List Record → Type 0
AreMarked graph node own = (link : ℕ) → IsMarkedBy (moments_of graph node own) link (mark own link)

pub downs_at : (graph : Graph) (node : ℕ) (own : List Record) → AreMarked graph node own
    → downs_told graph node own ≡ flat_map (λ l. down_told l (frozen_at (moments_of graph node own) l.0)) (filter (λ l. not_dropped (known_drops own) l.0) (ins_of graph node))
downs_at graph node own marked =
    let kept : LinkId → Bool = λ l. not_dropped (known_drops own) l.0 in
    let by_marks : LinkId → List Addressed = λ l. down_told l (mark own l.0) in
    let by_moments : LinkId → List Addressed = λ l. down_told l (frozen_at (moments_of graph node own) l.0) in
    each_same by_marks by_moments (filter kept (ins_of graph node))
    (All-weaker (λ (l : LinkId). kept l ≡ true) (λ (l : LinkId). by_marks l ≡ by_moments l)
    (λ (l : LinkId) is. ap (down_told l) (mark_at (moments_of graph node own) l.0 (mark own l.0) (kept_by_drops graph node own l.0 ∙ is) (marked l.0)))
    (filter kept (ins_of graph node)) (filter_passes kept (ins_of graph node)))
