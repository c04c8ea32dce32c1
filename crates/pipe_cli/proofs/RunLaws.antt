-- Lemmas on running events one by one.
use Rattle.std.proofs.Common.{◌≡◌, ℕ, List, [], ◌∷◌, ◌++◌, map, refl, ap, sym, subst, ◌∙◌, append_assoc}
use Rattle.std.proofs.lemmas.List.{map-append}
use Rattle.pipe_graph.specs.Graph.{Graph}
use Rattle.pipe_model.specs.declared.event.Event.{Event}
use Rattle.pipe_model.specs.declared.record.Record.{Record}
use Rattle.pipe_model.specs.Items.{Overfills}
use Rattle.pipe_model.specs.Run.{event_of}
use Rattle.pipe_model_runs.proofs.OneRun.{run_only}
use Rattle.pipe_cli.specs.Running.{IsStopped}

-- one event moves from those that are left to those that happened
pub happened_more : (trace now : List Record) (added : Record) (event : Event) (old new events : List Event) → now ≡ trace ++ added ∷ []
    → added.event ≡ event → old ≡ event ∷ new → map event_of trace ++ old ≡ events → map event_of now ++ new ≡ events
happened_more trace now added event old new events appended event_is is so_far =
    ap (λ rs. map event_of rs ++ new) appended
    ∙ ap (λ es. es ++ new) (map-append event_of trace (added ∷ []))
    ∙ ap (λ e. (map event_of trace ++ e ∷ []) ++ new) event_is
    ∙ append_assoc (map event_of trace) (event ∷ []) new
    ∙ ap (λ es. map event_of trace ++ es) (sym is)
    ∙ so_far

-- the run stops at an event that would put too much
pub stopped_at : (graph : Graph) (trace : List Record) (event : Event) (old new events : List Event) (items : ℕ) → old ≡ event ∷ new
    → map event_of trace ++ old ≡ events → Overfills graph trace event items → IsStopped graph events items
stopped_at graph trace event old new events items is so_far overfills = record {
  before = map event_of trace;
  event = event;
  after = new;
  events_are = sym so_far ∙ ap (λ (es : List Event). map event_of trace ++ es) is;
  overfills = subst (λ (t : List Record). Overfills graph t event items) (run_only graph (map event_of trace) trace (record { events_are = refl; rules = overfills.past })) overfills;
}
