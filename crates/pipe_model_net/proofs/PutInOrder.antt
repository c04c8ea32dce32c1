-- What waits on a link was put by its tail, in the same order, and the fields that a node puts on a link never fall.
use Rattle.std.proofs.Common.{◌≡◌, ℕ, zero, suc, ◌≤◌, ◌==◌, ◌&&◌, not, if◌then◌else◌, Bool, true, false, List, [], ◌∷◌, ◌++◌, refl, inl, inr, sym, subst, ap, ◌∙◌, arith, le_trans}
use Rattle.std.specs.List.{All, remove}
use Rattle.std.proofs.lemmas.List.{append-nil}
use Rattle.std.proofs.lemmas.List.Elements.{All-nil, All-head, All-tail, All-append, All-weaker}
use Rattle.pipe_base.specs.declared.packet.Packet.{Packet}
use Rattle.pipe_base.specs.declared.packet.Plane.{Plane}
use Rattle.pipe_base.specs.declared.packet.Plane.TheVariants as plane
use Rattle.pipe_base.specs.declared.step.Outcome.{Outcome}
use Rattle.pipe_graph.specs.Graph.{Graph, tail_of}
use Rattle.pipe_model.specs.declared.event.Event.{Event}
use Rattle.pipe_model.specs.declared.event.Event.TheVariants.{Take, Lose}
use Rattle.pipe_model.specs.declared.record.Record.{Record}
use Rattle.pipe_model.specs.Acting.{is_idle, is_own, own}
use Rattle.pipe_model.specs.Duties.{fields}
use Rattle.pipe_model.specs.NodePromise.{node_promise}
use Rattle.pipe_model.specs.OnLink.{AreSomeOf, NeverFalls, field, put_along}
use Rattle.pipe_model.specs.Run.{IsHistory, IsNodeHistory, IsStep}
use Rattle.pipe_model.specs.Waiting.{is_cut, is_ok, left_after, put_on, waiting_on}
use Rattle.pipe_model.proofs.Own.{own_more, own_same}
use Rattle.pipe_model.proofs.Promises.{node_rises}
use Rattle.pipe_model_net.proofs.Acting.{nobodys_or_own, quiet_puts}
use Rattle.pipe_model_net.proofs.Promised.{FieldBelow}
use Rattle.pipe_model_net.proofs.Puts.{Carries, IsOn, field_between, field_in, puts_on}

-- ---- the fields of a node never fall

-- the field is at least the bound
abbrev FieldAbove : Plane → ℕ → Packet → Type 0
FieldAbove plane bound p = bound ≤ field plane p

same_never_fall : (plane : Plane) (value : ℕ) (ps : List Packet) → All (Carries plane value) ps → NeverFalls plane ps
same_never_fall plane value [] all = tt
same_never_fall plane value (p ∷ ps) all =
    let here : Carries plane value p = All-head (Carries plane value) p ps all in
    let rest : All (Carries plane value) ps = All-tail (Carries plane value) p ps all in (
      All-weaker (Carries plane value) (FieldAbove plane (field plane p)) (λ q carries. omega (arith, here, carries)) ps rest,
      same_never_fall plane value ps rest,
    )

both_never_fall : (plane : Plane) (bound : ℕ) (ps qs : List Packet) → NeverFalls plane ps → NeverFalls plane qs → All (FieldBelow plane bound) ps
    → All (FieldAbove plane bound) qs → NeverFalls plane (ps ++ qs)
both_never_fall plane bound [] qs first second below above = second
both_never_fall plane bound (p ∷ ps) qs first second below above =
    let here : FieldBelow plane bound p = All-head (FieldBelow plane bound) p ps below in
    let value : ℕ = field plane p in (
      All-append (FieldAbove plane value) ps qs first.0 (All-weaker (FieldAbove plane bound) (FieldAbove plane value) (λ q le. le_trans here le) qs above),
      both_never_fall plane bound ps qs first.1 second (All-tail (FieldBelow plane bound) p ps below) above,
    )

-- all that a node put on a link is at most what it promises
put_promised : (plane : Plane) (graph : Graph) (node link : ℕ) (own : List Record) → IsNodeHistory graph node own
    → All (FieldBelow plane (node_promise plane graph node own)) (put_along link own)
put_promised plane graph node link [] history = All-nil (FieldBelow plane (node_promise plane graph node []))
put_promised plane graph node link (r ∷ own) history =
    let before : ℕ = node_promise plane graph node own in
    let now : ℕ = node_promise plane graph node (r ∷ own) in
    let value : ℕ = field_in plane (fields graph node own r) in
    let between = field_between plane graph node own r history.1 in
    let rises : before ≤ now = node_rises plane graph node own r history.1 in
    All-append (FieldBelow plane now) (put_along link own) (put_on link r.step.put)
    (All-weaker (FieldBelow plane before) (FieldBelow plane now) (λ p low. le_trans low rises) (put_along link own) (put_promised plane graph node link own history.0))
    (All-weaker (IsOn plane graph node link value) (FieldBelow plane now) (λ p on. omega (arith, on.1, between.1)) (put_on link r.step.put)
    (puts_on plane graph node link own r history.1))

pub node_never_falls : (plane : Plane) (graph : Graph) (node link : ℕ) (own : List Record) → IsNodeHistory graph node own → NeverFalls plane (put_along link own)
node_never_falls plane graph node link [] history = tt
node_never_falls plane graph node link (r ∷ own) history =
    let before : ℕ = node_promise plane graph node own in
    let value : ℕ = field_in plane (fields graph node own r) in
    let between = field_between plane graph node own r history.1 in
    let puts : All (IsOn plane graph node link value) (put_on link r.step.put) = puts_on plane graph node link own r history.1 in
    both_never_fall plane before (put_along link own) (put_on link r.step.put) (node_never_falls plane graph node link own history.0)
    (same_never_fall plane value (put_on link r.step.put)
    (All-weaker (IsOn plane graph node link value) (Carries plane value) (λ p on. on.1) (put_on link r.step.put) puts))
    (put_promised plane graph node link own history.0)
    (All-weaker (IsOn plane graph node link value) (FieldAbove plane before) (λ p on. omega (arith, on.1, between.0)) (put_on link r.step.put) puts)

-- ---- some of a list, in order

some_none : (qs : List Packet) → AreSomeOf [] qs
some_none [] = refl
some_none (q ∷ qs) = inl (some_none qs)

some_same : (ps : List Packet) → AreSomeOf ps ps
some_same [] = refl
some_same (p ∷ ps) = inr (ps, (refl, some_same ps))

some_more : (ps qs more : List Packet) → AreSomeOf ps qs → AreSomeOf (ps ++ more) (qs ++ more)
some_more ps [] more none = subst (λ (xs : List Packet). AreSomeOf (xs ++ more) more) (sym none) (some_same more)
some_more ps (q ∷ qs) more (inl later) = inl (some_more ps qs more later)
some_more ps (q ∷ qs) more (inr here) =
    inr (here.0 ++ more, (ap (λ (xs : List Packet). xs ++ more) here.1.0, some_more here.0 qs more here.1.1))

removed_none : (place : ℕ) → remove {X = Packet} [] place ≡ []
removed_none zero = refl
removed_none (suc place) = refl

some_removed : (ps qs : List Packet) (place : ℕ) → AreSomeOf ps qs → AreSomeOf (remove ps place) qs
some_removed ps [] place none = ap (λ (xs : List Packet). remove xs place) none ∙ removed_none place
some_removed ps (q ∷ qs) place (inl later) = inl (some_removed ps qs place later)
some_removed ps (q ∷ qs) zero (inr here) = subst (λ (xs : List Packet). AreSomeOf (remove xs 0) (q ∷ qs)) (sym here.1.0) (inl here.1.1)
some_removed ps (q ∷ qs) (suc place) (inr here) =
    subst (λ (xs : List Packet). AreSomeOf (remove xs (suc place)) (q ∷ qs)) (sym here.1.0)
    (inr (remove here.0 place, (refl, some_removed here.0 qs place here.1.1)))

chosen_some : (b : Bool) (ps rest qs : List Packet) → AreSomeOf rest qs → AreSomeOf ps qs → AreSomeOf (if b then rest else ps) qs
chosen_some true ps rest qs some all = some
chosen_some false ps rest qs some all = all

some_left : (link : ℕ) (event : Event) (outcome : Outcome) (ps qs : List Packet) → AreSomeOf ps qs → AreSomeOf (left_after link event outcome ps) qs
some_left link (Take l place keep) outcome ps qs some =
    chosen_some ((l.0 == link) && (not keep && not (is_idle outcome))) ps (remove ps place) qs (some_removed ps qs place some) some
some_left link (Lose l place) outcome ps qs some =
    chosen_some ((l.0 == link) && is_ok outcome) ps (remove ps place) qs (some_removed ps qs place some) some
some_left link _ outcome ps qs some = some

-- ---- what waits on a link

none_of : (P : Packet → Type 0) (ps : List Packet) → All P ps → ((p : Packet) → P p → ⊥) → ps ≡ []
none_of P [] all never = refl
none_of P (p ∷ ps) all never = absurd (never p (All-head P p ps all))

-- a record that is not the tail's own puts nothing on the link
put_elsewhere : (graph : Graph) (link : ℕ) (past : List Record) (r : Record) → IsStep graph past r → is_own graph (tail_of graph link) r ≡ false
    → put_on link r.step.put ≡ []
put_elsewhere graph link past r step other =
    elim (nobodys_or_own graph r) [
      | inl quiet ↦ ap (put_on link) (quiet_puts graph past r step quiet)
      | inr mine ↦
          let o : List Record = own graph mine.0 past in
          none_of (IsOn plane.BestEffort graph mine.0 link (fields graph mine.0 o r).be) (put_on link r.step.put)
          (puts_on plane.BestEffort graph mine.0 link o r (step.node mine.0 mine.1))
          (λ p on. let its : is_own graph (tail_of graph link) r ≡ true = ap (λ (n : ℕ). is_own graph n r) on.0 ∙ mine.1 in cc)
    ]

-- what waits is some of what the tail put
abbrev WaitsInOrder : Graph → ℕ → List Record → Type 0
WaitsInOrder graph link past = AreSomeOf (waiting_on link past) (put_along link (own graph (tail_of graph link) past))

by_tail : (b : Bool) (graph : Graph) (link : ℕ) (past : List Record) (r : Record) → is_own graph (tail_of graph link) r ≡ b → IsStep graph past r
    → WaitsInOrder graph link past
    → AreSomeOf (left_after link r.event r.step.outcome (waiting_on link past) ++ put_on link r.step.put) (put_along link (own graph (tail_of graph link) (r ∷ past)))
by_tail true graph link past r mine step before =
    let o : List Record = own graph (tail_of graph link) past in
    let left : List Packet = left_after link r.event r.step.outcome (waiting_on link past) in
    subst (λ (x : List Record). AreSomeOf (left ++ put_on link r.step.put) (put_along link x)) (sym (own_more graph (tail_of graph link) r past mine))
    (some_more left (put_along link o) (put_on link r.step.put) (some_left link r.event r.step.outcome (waiting_on link past) (put_along link o) before))
by_tail false graph link past r other step before =
    let o : List Record = own graph (tail_of graph link) past in
    let left : List Packet = left_after link r.event r.step.outcome (waiting_on link past) in
    let same : left ≡ left ++ put_on link r.step.put =
    sym (append-nil left) ∙ ap (λ (xs : List Packet). left ++ xs) (sym (put_elsewhere graph link past r step other)) in
    subst (λ (x : List Record). AreSomeOf (left ++ put_on link r.step.put) (put_along link x)) (sym (own_same graph (tail_of graph link) r past other))
    (subst (λ (xs : List Packet). AreSomeOf xs (put_along link o)) same (some_left link r.event r.step.outcome (waiting_on link past) (put_along link o) before))

pub waits_in_order : (graph : Graph) (past : List Record) → IsHistory graph past → (link : ℕ) → WaitsInOrder graph link past
waits_in_order graph [] run link = refl
waits_in_order graph (r ∷ past) run link =
    let put : List Packet = put_along link (own graph (tail_of graph link) (r ∷ past)) in
    chosen_some (is_cut link (r ∷ past)) (left_after link r.event r.step.outcome (waiting_on link past) ++ put_on link r.step.put) [] put (some_none put)
    (by_tail (is_own graph (tail_of graph link) r) graph link past r refl run.1 (waits_in_order graph past run.0 link))
