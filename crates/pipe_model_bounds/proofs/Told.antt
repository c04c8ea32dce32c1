-- What a node tells the controller, kind by kind: what holds of each kind holds of all that it tells.
use Rattle.std.proofs.Common.{◌≡◌, ℕ, ◌&&◌, not, nat_lt, Bool, List, [], ◌∷◌, ◌++◌, length, Option, None, Some, filter, refl}
use Rattle.std.specs.Prelude.{flat_map}
use Rattle.std.specs.List.{All}
use Rattle.std.proofs.lemmas.List.Elements.{All-nil, All-cons, All-append}
use Rattle.pipe_base.specs.declared.control.Addressed.{Addressed}
use Rattle.pipe_base.specs.declared.control.Control.TheVariants.{Done, Down, Gone}
use Rattle.pipe_base.specs.declared.control.To.TheVariants.{Controller}
use Rattle.pipe_base.specs.declared.name.LinkId.{LinkId}
use Rattle.pipe_base.specs.declared.name.Ts.{Ts}
use Rattle.pipe_base.specs.Settled.{is_recalling}
use Rattle.pipe_graph.specs.Graph.{Graph, ins_of, is_host}
use Rattle.pipe_graph.specs.Passable.{not_dropped}
use Rattle.pipe_model.specs.declared.event.Event.{Event}
use Rattle.pipe_model.specs.declared.event.Event.TheVariants.{Tick}
use Rattle.pipe_model.specs.declared.record.Record.{Record}
use Rattle.pipe_model.specs.Duties.{control_of, done_told, down_told, downs_told, gone_told}
use Rattle.pipe_model.specs.Marks.{mark}
use Rattle.pipe_model.specs.Moments.{known_drops, noted_hosts}
use Rattle.pipe_model.specs.Sender.{sender_calls}
use Rattle.pipe_model_net.proofs.Packets.{chosen}

-- what is asked of each kind
pub record OfEachTold (P : Addressed → Type 0) (node : ℕ) (own : List Record) : Type 0 where
  pub down : (l : LinkId) (value : Ts) → mark own l.0 ≡ Some value → P (record { to = Controller; control = Down l value })
  pub done : P (record { to = Controller; control = Done (record { 0 = node }) (length (noted_hosts own)) })
  pub gone : P (record { to = Controller; control = Gone (record { 0 = node }) (length (known_drops own)) })

one_down : (P : Addressed → Type 0) (l : LinkId) (o : Option Ts) → ((value : Ts) → o ≡ Some value → P (record { to = Controller; control = Down l value })) → All P (down_told l o)
one_down P l None each = All-nil P
one_down P l (Some value) each = All-cons P _ [] (each value refl) (All-nil P)

all_down : (P : Addressed → Type 0) (own : List Record) (ls : List LinkId) → ((l : LinkId) (value : Ts) → mark own l.0 ≡ Some value → P (record { to = Controller; control = Down l value }))
    → All P (flat_map (λ l. down_told l (mark own l.0)) ls)
all_down P own [] each = All-nil P
all_down P own (l ∷ ls) each =
    All-append P (down_told l (mark own l.0)) (flat_map (λ k. down_told k (mark own k.0)) ls) (one_down P l (mark own l.0) (each l)) (all_down P own ls each)

pub told_each : (P : Addressed → Type 0) (graph : Graph) (node : ℕ) (own : List Record) (event : Event) → OfEachTold P node own → All P (control_of graph node own event)
told_each P graph node own (Tick n now) each =
    let many : Bool = is_host graph node && (nat_lt 0 (length (noted_hosts own)) && not (is_recalling (sender_calls graph node own))) in
    All-append P (downs_told graph node own ++ done_told graph node own) (gone_told node own)
    (All-append P (downs_told graph node own) (done_told graph node own) (all_down P own (filter (λ l. not_dropped (known_drops own) l.0) (ins_of graph node)) each.down)
    (chosen many P _ [] (All-cons P _ [] each.done (All-nil P)) (All-nil P)))
    (chosen (nat_lt 0 (length (known_drops own))) P _ [] (All-cons P _ [] each.gone (All-nil P)) (All-nil P))
told_each P graph node own _ each = All-nil P
