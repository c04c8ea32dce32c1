-- What holds of the events of a run holds of its records, in either order.
use Rattle.std.proofs.Common.{◌≡◌, ◌-◌, ◌<◌, List, [], ◌∷◌, length, map, reverse, sym, subst, arith}
use Rattle.std.specs.List.{All}
use Rattle.std.proofs.lemmas.List.{get_or-reverse, length-reverse}
use Rattle.std.proofs.lemmas.List.Elements.{All-nil, All-cons, All-head, All-tail}
use Rattle.pipe_model.specs.declared.event.Event.{Event}
use Rattle.pipe_model.specs.declared.record.Record.{Record}
use Rattle.pipe_model.specs.Run.{event_of}

-- what holds of the event of a record
abbrev pub OfEvent : (Event → Type 0) → Record → Type 0
OfEvent P r = P r.event

of_events : (P : Event → Type 0) (trace : List Record) → All P (map event_of trace) → All (OfEvent P) trace
of_events P [] all = All-nil (OfEvent P)
of_events P (r ∷ trace) all =
    All-cons (OfEvent P) r trace (All-head P r.event (map event_of trace) all) (of_events P trace (All-tail P r.event (map event_of trace) all))

reversed : (P : Record → Type 0) (trace : List Record) → All P trace → All P (reverse trace)
reversed P trace all k d within =
    let inside : k < length trace = omega (arith, length-reverse trace) in
    subst P (sym (get_or-reverse trace k d inside)) (all (length trace - 1 - k) d (omega arith))

pub of_history : (P : Event → Type 0) (events : List Event) (trace : List Record) → map event_of trace ≡ events → All P events → All (OfEvent P) (reverse trace)
of_history P events trace is all = reversed (OfEvent P) trace (of_events P trace (subst (All P) (sym is) all))
