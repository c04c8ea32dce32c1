-- A stamp is not below the next timestamp, and that is above all stamps before.
use Rattle.std.proofs.Common.{◌≡◌, ℕ, ◌<◌, ◌≤◌, List, [], ◌∷◌, Option, None, Some, IfSome, refl, sym, ◌∙◌, arith}
use Rattle.std.proofs.lemmas.List.Elements.{All-nil, All-cons, All-weaker}
use Rattle.pipe_base.specs.declared.name.Ts.{Ts}
use Rattle.pipe_base.specs.Clock.{after_stamp}
use Rattle.pipe_graph.specs.Graph.{Graph}
use Rattle.pipe_model.specs.declared.record.Record.{Record}
use Rattle.pipe_model.specs.Clock.{next}
use Rattle.pipe_model.specs.Run.{IsNodeHistory}
use Rattle.pipe_model.proofs.Stamps.{stamp_above}
use Rattle.pipe_model_runs.specs.StampOrder.{IsAboveStamps, DoStampsRise}

abbrev IsBelow : ℕ → Option Ts → Type 0
IsBelow bound stamp = IfSome stamp (λ ts. ts.0 < bound)

still_below : (low high : ℕ) (stamp : Option Ts) → low ≤ high → IsBelow low stamp → IsBelow high stamp
still_below low high None le below = tt
still_below low high (Some ts) le below = omega arith

below_after : (stamp : Option Ts) (bound : ℕ) → after_stamp stamp ≤ bound → IsBelow bound stamp
below_after None bound le = tt
below_after (Some ts) bound le = omega arith

weaker : (low high : ℕ) (own : List Record) → low ≤ high → IsAboveStamps low own → IsAboveStamps high own
weaker low high own le =
    All-weaker (λ (r : Record). IsBelow low r.step.stamped) (λ (r : Record). IsBelow high r.step.stamped) (λ r. still_below low high r.step.stamped le) own

next_above : (graph : Graph) (node : ℕ) (own : List Record) → IsAboveStamps (next graph node own) own
next_above graph node [] = All-nil (λ (r : Record). IsBelow 0 r.step.stamped)
next_above graph node (r ∷ own) =
    let after : ℕ = next graph node (r ∷ own) in
    All-cons (λ (x : Record). IsBelow after x.step.stamped) r own (below_after r.step.stamped after (omega arith))
    (weaker (next graph node own) after own (omega arith) (next_above graph node own))

above : (graph : Graph) (node : ℕ) (own : List Record) (stamp : Option Ts) → ((ts : Ts) → stamp ≡ Some ts → next graph node own ≤ ts.0)
    → IfSome stamp (λ ts. IsAboveStamps ts.0 own)
above graph node own None least = tt
above graph node own (Some ts) least = weaker (next graph node own) ts.0 own (least ts refl) (next_above graph node own)

pub stamps_rise : (graph : Graph) (node : ℕ) (own : List Record) → IsNodeHistory graph node own → DoStampsRise own
stamps_rise graph node [] history = tt
stamps_rise graph node (r ∷ own) history =
    (stamps_rise graph node own history.0, above graph node own r.step.stamped (λ ts is. stamp_above graph node own r.event ts (sym history.1.stamped_is ∙ is)))
