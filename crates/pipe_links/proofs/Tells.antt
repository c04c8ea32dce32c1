-- What the controller is told at a tick, by what is kept of the in-links.
use Rattle.std.proofs.Common.{◌≡◌, ℕ, ◌&&◌, not, cond, if◌then◌else◌, Bool, true, false, List, [], ◌∷◌, ◌++◌, None, Some, map, filter, refl, sym, ap, ap₂, ◌∙◌}
use Rattle.std.specs.Prelude.{flat_map}
use Rattle.pipe_base.specs.declared.control.Addressed.{Addressed}
use Rattle.pipe_base.specs.declared.control.Control.TheVariants.{Down}
use Rattle.pipe_base.specs.declared.control.To.TheVariants.{Controller}
use Rattle.pipe_base.specs.declared.name.LinkId.{LinkId}
use Rattle.pipe_base.specs.declared.name.Ts.{Ts}
use Rattle.pipe_base.specs.declared.packet.Plane.TheVariants.{Commit}
use Rattle.pipe_base.specs.Barrier.{register}
use Rattle.pipe_graph.specs.Graph.{Graph, ins_of}
use Rattle.pipe_base.specs.Moment.{Moment, is_retained, is_up}
use Rattle.pipe_graph.specs.Passable.{not_dropped}
use Rattle.pipe_barrier.specs.Register.{register_of, told_of}
use Rattle.pipe_barrier.specs.Registers.{downs, is_down}
use Rattle.pipe_model.specs.declared.record.Record.{Record}
use Rattle.pipe_model.specs.Duties.{down_told, downs_told}
use Rattle.pipe_model.specs.Marks.{downed}
use Rattle.pipe_model.specs.Moments.{known_drops, moments_of}
use Rattle.pipe_model.specs.Run.{IsNodeHistory}
use Rattle.pipe_model.proofs.Downs.{AreMarked, downs_at, frozen_at, kept_by_drops}
use Rattle.pipe_model.proofs.Marks.{mark_follows, marked}

-- one link more: it's told where it is kept and not up
told_first : (kept up : Bool) (l : LinkId) (value : Ts) (all : LinkId → Addressed) (each : LinkId → List Addressed) (ls ms : List LinkId)
    → all l ≡ record { to = Controller; control = Down l value } → each l ≡ down_told l (if up then None else Some value) → map all ls ≡ flat_map each ms
    → map all (cond (kept && not up) (l ∷ ls) ls) ≡ flat_map each (cond kept (l ∷ ms) ms)
told_first false up l value all each ls ms all_is each_is rest = rest
told_first true true l value all each ls ms all_is each_is rest = rest ∙ ap (λ (bs : List Addressed). bs ++ flat_map each ms) (sym each_is)
told_first true false l value all each ls ms all_is each_is rest =
    ap₂ (λ (a : Addressed) (bs : List Addressed). a ∷ bs) all_is rest ∙ ap (λ (bs : List Addressed). bs ++ flat_map each ms) (sym each_is)

told_same : (moments : List Moment) (drops : List LinkId) → ((link : ℕ) → is_retained moments link ≡ not_dropped drops link) → (ins : List LinkId)
    → downs ins moments ≡ flat_map (λ l. down_told l (frozen_at moments l.0)) (filter (λ l. not_dropped drops l.0) ins)
told_same moments drops kept [] = refl
told_same moments drops kept (l ∷ ls) =
    let all : LinkId → Addressed = λ m. told_of (register_of moments m) in
    let rest : List LinkId = filter (is_down moments) ls in
    ap (λ (k : Bool). map all (cond (k && not (is_up moments l.0)) (l ∷ rest) rest)) (kept l.0)
    ∙ told_first (not_dropped drops l.0) (is_up moments l.0) l (record { 0 = register Commit moments l.0 }) all (λ m. down_told m (frozen_at moments m.0)) rest
    (filter (λ m. not_dropped drops m.0) ls) refl refl (told_same moments drops kept ls)

-- After a record that takes down what it is to, the registers tell of the marks.
pub tells_marks : (graph : Graph) (node : ℕ) (own : List Record) (r : Record) → IsNodeHistory graph node own → r.step.downed ≡ downed graph node own r
    → downs (ins_of graph node) (moments_of graph node (r ∷ own)) ≡ downs_told graph node (r ∷ own)
tells_marks graph node own r history downed_is =
    let after : AreMarked graph node (r ∷ own) = λ link. mark_follows graph node own r link downed_is (marked graph node own history link) in
    told_same (moments_of graph node (r ∷ own)) (known_drops (r ∷ own)) (kept_by_drops graph node (r ∷ own)) (ins_of graph node) ∙ sym (downs_at graph node (r ∷ own) after)
