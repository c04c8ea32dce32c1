-- Lemmas on schedules.
use Rattle.std.proofs.Common.{◌≡◌, ℕ, ◌+◌, Bool, true, false, List, [], ◌∷◌, ◌++◌, Option, Some, None, IfSome, IfNone, Result, Ok, Err, All, refl, ap, sym, subst, ◌∙◌, append_assoc, if◌then◌else◌}
use Rattle.std.specs.Option.{option_to_list}
use Rattle.std.proofs.lemmas.List.{append-nil}
use Rattle.std.proofs.lemmas.List.Elements.{All-push}
use Rattle.std.specs.Str.Lines.{lines}
use Rattle.pipe_graph.specs.Graph.{Graph}
use Rattle.pipe_model.specs.declared.event.Event.{Event}
use Rattle.pipe_text.specs.declared.kind.LineKind.{LineKind}
use Rattle.pipe_text.specs.Words.{words_of, is_skipped}
use Rattle.pipe_text_schedule.specs.Line.{line_event}
use Rattle.pipe_text_schedule.specs.Plain.{IsFirstBad, IsFirstRead}
use Rattle.pipe_text_schedule.specs.Schedule.{schedule_of, event_onto}

-- events that were read before the rest
abbrev pub after_events : List Event → Result (List Event) (ℕ × LineKind) → Result (List Event) (ℕ × LineKind)
after_events before (Ok events) = Ok (before ++ events)
after_events before (Err fault) = Err fault

pub after_none : (all : Result (List Event) (ℕ × LineKind)) → after_events [] all ≡ all
after_none (Ok events) = refl
after_none (Err fault) = refl

-- an event moves from the front of the rest to the end of what is read
onto_end : (before : List Event) (event : Event) (at : ℕ) (rest : Result (List Event) (ℕ × LineKind))
    → after_events before (event_onto at (Ok event) rest) ≡ after_events (before ++ event ∷ []) rest
onto_end before event at (Ok events) = ap Ok (sym (append_assoc before (event ∷ []) events))
onto_end before event at (Err fault) = refl

-- the events of a line and those after it, by whether the line is skipped
abbrev line_then : Graph → List (List ℕ) → ℕ → List ℕ → List (List ℕ) → Bool → Result (List Event) (ℕ × LineKind)
line_then graph names at line more skipped =
    if skipped then schedule_of graph names (at + 1) more
    else event_onto at (line_event graph names (words_of line)) (schedule_of graph names (at + 1) more)

-- a line more that is skipped
schedule_skip : (graph : Graph) (names : List (List ℕ)) (before : List Event) (at : ℕ) (text line rest : List ℕ) (all : Result (List Event) (ℕ × LineKind))
    → lines text ≡ line ∷ lines rest → is_skipped (words_of line) ≡ true
    → after_events before (schedule_of graph names at (lines text)) ≡ all → after_events before (schedule_of graph names (at + 1) (lines rest)) ≡ all
schedule_skip graph names before at text line rest all split skipped so_far =
    ap (λ t. after_events before (line_then graph names at line (lines rest) t)) (sym skipped)
    ∙ ap (λ ls. after_events before (schedule_of graph names at ls)) (sym split) ∙ so_far

-- a line more with an event
schedule_event : (graph : Graph) (names : List (List ℕ)) (before now : List Event) (event : Event) (at : ℕ) (text line rest : List ℕ)
    (all : Result (List Event) (ℕ × LineKind))
    → lines text ≡ line ∷ lines rest → is_skipped (words_of line) ≡ false → line_event graph names (words_of line) ≡ Ok event
    → now ≡ before ++ event ∷ []
    → after_events before (schedule_of graph names at (lines text)) ≡ all → after_events now (schedule_of graph names (at + 1) (lines rest)) ≡ all
schedule_event graph names before now event at text line rest all split is read push so_far =
    ap (λ es. after_events es (schedule_of graph names (at + 1) (lines rest))) push
    ∙ sym (onto_end before event at (schedule_of graph names (at + 1) (lines rest)))
    ∙ ap (λ e. after_events before (event_onto at e (schedule_of graph names (at + 1) (lines rest)))) (sym read)
    ∙ ap (λ t. after_events before (line_then graph names at line (lines rest) t)) (sym is)
    ∙ ap (λ ls. after_events before (schedule_of graph names at ls)) (sym split)
    ∙ so_far

-- one line more with these words, whose event there is unless it is skipped
schedule_more : (graph : Graph) (names : List (List ℕ)) (before now : List Event) (event : Option Event) (at : ℕ) (text line rest : List ℕ)
    (words : List (List ℕ)) (all : Result (List Event) (ℕ × LineKind))
    → lines text ≡ line ∷ lines rest → words ≡ words_of line → IfNone event (is_skipped words ≡ true)
    → IfSome event (λ e. (is_skipped words ≡ false) × (line_event graph names words ≡ Ok e))
    → now ≡ before ++ option_to_list event
    → after_events before (schedule_of graph names at (lines text)) ≡ all → after_events now (schedule_of graph names (at + 1) (lines rest)) ≡ all
schedule_more graph names before now None at text line rest words all split words_are skipped read push so_far =
    ap (λ es. after_events es (schedule_of graph names (at + 1) (lines rest))) (push ∙ append-nil before)
    ∙ schedule_skip graph names before at text line rest all split (ap is_skipped (sym words_are) ∙ skipped) so_far
schedule_more graph names before now (Some event) at text line rest words all split words_are skipped read push so_far =
    schedule_event graph names before now event at text line rest all split (ap is_skipped (sym words_are) ∙ read.0)
    (ap (line_event graph names) (sym words_are) ∙ read.1) push so_far

-- a line more that is bad
schedule_fault : (graph : Graph) (names : List (List ℕ)) (before : List Event) (at : ℕ) (text line rest : List ℕ)
    (words : List (List ℕ)) (kind : LineKind) (all : Result (List Event) (ℕ × LineKind))
    → lines text ≡ line ∷ lines rest → words ≡ words_of line → is_skipped words ≡ false → line_event graph names words ≡ Err kind
    → after_events before (schedule_of graph names at (lines text)) ≡ all → all ≡ Err (at, kind)
schedule_fault graph names before at text line rest words kind all split words_are is bad so_far =
    sym so_far
    ∙ ap (λ ls. after_events before (schedule_of graph names at ls)) split
    ∙ ap (λ t. after_events before (line_then graph names at line (lines rest) t)) (ap is_skipped (sym words_are) ∙ is)
    ∙ ap (λ e. after_events before (event_onto at e (schedule_of graph names (at + 1) (lines rest)))) (ap (line_event graph names) (sym words_are) ∙ bad)

-- what holds of the events holds with one more, where there is one
pub known_more : (P : Event → Type 0) (before now : List Event) (event : Option Event) → now ≡ before ++ option_to_list event → All P before → IfSome event P
    → All P now
known_more P before now None push all one = subst (All P) (sym (push ∙ append-nil before)) all
known_more P before now (Some event) push all one = subst (All P) (sym push) (All-push P before event all one)

-- the first line more
pub first_more : (graph : Graph) (names : List (List ℕ)) (before now : List Event) (event : Option Event) (at : ℕ) (text rest : List ℕ)
    (all : Result (List Event) (ℕ × LineKind))
    → IsFirstRead graph names text rest event → now ≡ before ++ option_to_list event
    → after_events before (schedule_of graph names at (lines text)) ≡ all → after_events now (schedule_of graph names (at + 1) (lines rest)) ≡ all
first_more graph names before now event at text rest all first push so_far =
    schedule_more graph names before now event at text first.line.0 rest first.words all first.line.1 first.line.2 first.skipped first.event push so_far

-- a first line that is bad
pub first_fault : (graph : Graph) (names : List (List ℕ)) (before : List Event) (at : ℕ) (text : List ℕ) (kind : LineKind)
    (all : Result (List Event) (ℕ × LineKind))
    → IsFirstBad graph names text kind → after_events before (schedule_of graph names at (lines text)) ≡ all → all ≡ Err (at, kind)
first_fault graph names before at text kind all first so_far =
    schedule_fault graph names before at text first.line.0 first.rest first.words kind all first.line.1 first.line.2 first.read first.bad so_far
