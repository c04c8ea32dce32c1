-- An input asks for one status alone.
use Rattle.std.proofs.Common.{◌≡◌, ◌⊎◌, ℕ, ◌+◌, ◌<◌, ◌≤◌, List, [], ◌∷◌, ◌++◌, reverse, refl, ap, sym, subst, ◌∙◌, arith, inl, inr, append_assoc}
use Rattle.std.specs.Prelude.{sum_by}
use Rattle.std.specs.Prelude as result
use Rattle.std.proofs.lemmas.List.{reverse-append, reverse-reverse}
use Rattle.std.proofs.lemmas.List.Sums.{sum_by-append}
use Rattle.pipe_base.specs.declared.fault.Size.{Size}
use Rattle.pipe_base.specs.declared.fault.Size.TheVariants.{Bytes, Events, Items}
use Rattle.pipe_graph.specs.Graph.{Graph}
use Rattle.pipe_base.specs.Limits.{most_items}
use Rattle.pipe_model.specs.declared.event.Event.{Event}
use Rattle.pipe_model.specs.declared.record.Record.{Record}
use Rattle.pipe_model.specs.Items.{items_in, items_of}
use Rattle.pipe_model.specs.OneRun.{history_of, record_after, run_of}
use Rattle.pipe_model.specs.Run.{IsRun}
use Rattle.pipe_model_runs.proofs.OneRun.{run_only}
use Rattle.pipe_text_input.specs.Content.{Content}
use Rattle.pipe_topo.specs.Plan.{graph_of}
use Rattle.pipe_cli.specs.declared.status.Status.{Status}
use Rattle.pipe_cli.specs.declared.status.Status.TheVariants.{Ok, Usage, ReadFault, WriteFault, BadTopology, BadSchedule, TooLong, NoMemory}
use Rattle.pipe_cli.specs.Answer.{AsksFor}
use Rattle.pipe_cli.specs.Input.{says}
use Rattle.pipe_cli.specs.Replay.{IsTooLong}
use Rattle.pipe_cli.specs.Running.{IsStopped}

-- the history of later events begins with that of the earlier ones
history_begins : (graph : Graph) (later earlier : List Event) → (newer : List Record) × (history_of graph (later ++ earlier) ≡ newer ++ history_of graph earlier)
history_begins graph [] earlier = ([], refl)
history_begins graph (event ∷ later) earlier =
    let r : Record = record_after graph (history_of graph (later ++ earlier)) event in
    let more = history_begins graph later earlier in (r ∷ more.0, ap (λ (rs : List Record). r ∷ rs) more.1)

-- so does the run
run_begins : (graph : Graph) (before after : List Event) → (back : List Record) × (run_of graph (before ++ after) ≡ run_of graph before ++ back)
run_begins graph before after =
    let more = history_begins graph (reverse after) (reverse before) in (
      reverse more.0,
      ap (λ (es : List Event). reverse (history_of graph es)) (reverse-append before after) ∙ ap reverse more.1
          ∙ reverse-append more.0 (history_of graph (reverse before)),
    )

-- the run of one event more
run_then : (graph : Graph) (before : List Event) (event : Event)
    → run_of graph (before ++ event ∷ []) ≡ run_of graph before ++ record_after graph (reverse (run_of graph before)) event ∷ []
run_then graph before event =
    let h : List Record = history_of graph (reverse before) in
    ap (λ (es : List Event). reverse (history_of graph es)) (reverse-append before (event ∷ []))
    ∙ reverse-append (record_after graph h event ∷ []) h
    ∙ ap (λ (past : List Record). reverse h ++ record_after graph past event ∷ []) (sym (reverse-reverse h))

-- where a run has to stop, all of it puts too much
stopped_over : (graph : Graph) (events : List Event) (items : ℕ) → IsStopped graph events items → most_items < items_of (run_of graph events)
stopped_over graph events items stopped =
    let before : List Record = run_of graph stopped.before in
    let next : Record = record_after graph (reverse before) stopped.event in
    let split : events ≡ (stopped.before ++ stopped.event ∷ []) ++ stopped.after =
    stopped.events_are ∙ sym (append_assoc stopped.before (stopped.event ∷ []) stopped.after) in
    let more = run_begins graph (stopped.before ++ stopped.event ∷ []) stopped.after in
    let all : run_of graph events ≡ (before ++ next ∷ []) ++ more.0 =
    ap (run_of graph) split ∙ more.1 ∙ ap (λ (rs : List Record). rs ++ more.0) (run_then graph stopped.before stopped.event) in
    omega (
      arith,
      ap items_of all,
      sum_by-append items_in (before ++ next ∷ []) more.0,
      sum_by-append items_in before (next ∷ []),
      stopped.overfills.over.items_are,
      stopped.overfills.over.many,
    )

-- A run that stays within the limit has no event at which it has to stop.
never_stops : (graph : Graph) (events : List Event) (trace : List Record) (items : ℕ) → IsRun graph events trace → items_of trace ≤ most_items → IsStopped graph events items → ⊥
never_stops graph events trace items run within stopped =
    let over : most_items < items_of (run_of graph events) = stopped_over graph events items stopped in
    omega (arith, over, within, ap items_of (run_only graph events trace run))

-- two places in a list: the first comes before, the second does, or they are the same
module _ (X : Type 0) where
  abbrev Places : (a c : List X) (x y : X) → Type 0
  Places a c x y = ((m : List X) × (c ≡ a ++ x ∷ m)) ⊎ (((m : List X) × (a ≡ c ++ y ∷ m)) ⊎ ((a ≡ c) × (x ≡ y)))

  places : (a b c d : List X) (x y : X) → a ++ x ∷ b ≡ c ++ y ∷ d → Places a c x y
  places [] b [] d x y is = inr (inr (refl, cc))
  places [] b (z ∷ c) d x y is = inl (c, cc)
  places (w ∷ a) b [] d x y is = inr (inl (a, cc))
  places (w ∷ a) b (z ∷ c) d x y is =
      let same : w ≡ z = cc in
      elim (places a b c d x y cc) [
        | inl first ↦ inl (first.0, cc (same, first.1))
        | inr rest ↦ elim rest [
          | inl second ↦ inr (inl (second.0, cc (same, second.1)))
          | inr both ↦ inr (inr (cc (same, both.0), both.1))
        ]
      ]

-- A run stops before what it has to stop for, so no run goes on beyond it.
stops_later : (graph : Graph) (events : List Event) (items more : ℕ) (one : IsStopped graph events items) (other : IsStopped graph events more) (m : List Event)
    → other.before ≡ one.before ++ one.event ∷ m → ⊥
stops_later graph events items more one other m is =
    let over : most_items < items_of (run_of graph other.before) =
    stopped_over graph other.before items (record { before = one.before; event = one.event; after = m; events_are = is; overfills = one.overfills }) in
    let within : items_of (run_of graph other.before) ≤ most_items = other.overfills.over.within in omega (arith, over, within)

-- how much the run puts with one event more
abbrev items_after : Graph → List Event → Event → ℕ
items_after graph before event = items_of (run_of graph before) + items_in (record_after graph (reverse (run_of graph before)) event)

stops_once : (graph : Graph) (events : List Event) (items more : ℕ) → IsStopped graph events items → IsStopped graph events more → items ≡ more
stops_once graph events items more one other =
    elim (places Event one.before one.after other.before other.after one.event other.event (sym one.events_are ∙ other.events_are)) [
      | inl first ↦ absurd (stops_later graph events items more one other first.0 first.1)
      | inr rest ↦ elim rest [
        | inl second ↦ absurd (stops_later graph events more items other one second.0 second.1)
        | inr both ↦
            one.overfills.over.items_are ∙ ap (λ (es : List Event). items_after graph es one.event) both.0
            ∙ ap (items_after graph other.before) both.1 ∙ sym other.overfills.over.items_are
      ]
    ]

-- how a run may end: whole, or stopped
abbrev Ends : Content → Status → Type 0
Ends content s =
    ((s ≡ Ok) × ((trace : List Record) × IsRun (graph_of content.plan) content.events trace × (items_of trace ≤ most_items)))
    ⊎ ((items : ℕ) × (s ≡ TooLong Items items) × IsStopped (graph_of content.plan) content.events items)

ends_once : (content : Content) (s t : Status) → Ends content s → Ends content t → s ≡ t
ends_once content s t (inl one) (inl other) = one.0 ∙ sym other.0
ends_once content s t (inl one) (inr other) = absurd (never_stops (graph_of content.plan) content.events one.1.0 other.0 one.1.1 one.1.2 other.2)
ends_once content s t (inr one) (inl other) = absurd (never_stops (graph_of content.plan) content.events other.1.0 one.0 other.1.1 other.1.2 one.2)
ends_once content s t (inr one) (inr other) =
    one.1 ∙ ap (λ (n : ℕ). TooLong Items n) (stops_once (graph_of content.plan) content.events one.0 other.0 one.2 other.2) ∙ sym other.1

abbrev Asked : List ℕ → Status → Type 0
Asked bytes s = (says bytes ≡ result.Err s) ⊎ ((content : Content) × (says bytes ≡ result.Ok content) × Ends content s)

too_long_asked : (bytes : List ℕ) (what : Size) (count : ℕ) → IsTooLong bytes what count → Asked bytes (TooLong what count)
too_long_asked bytes Bytes count asks = inl asks
too_long_asked bytes Events count asks = inl asks
too_long_asked bytes Items count asks = inr (asks.content, asks.said, inr (count, refl, asks.stopped))

asked : (bytes : List ℕ) (s : Status) → AsksFor bytes s → Asked bytes s
asked bytes Ok asks = inr (asks.content, asks.said, inl (refl, (asks.trace, asks.run.run, asks.run.within)))
asked bytes Usage asks = absurd asks
asked bytes ReadFault asks = absurd asks
asked bytes WriteFault asks = absurd asks
asked bytes (BadTopology fault) asks = inl asks
asked bytes (BadSchedule line kind) asks = inl asks
asked bytes (TooLong what count) asks = too_long_asked bytes what count asks
asked bytes NoMemory asks = absurd asks

asked_once : (bytes : List ℕ) (s t : Status) → Asked bytes s → Asked bytes t → s ≡ t
asked_once bytes s t (inl one) (inl other) = cc
asked_once bytes s t (inl one) (inr other) = cc (one, other.1)
asked_once bytes s t (inr one) (inl other) = cc (one.1, other)
asked_once bytes s t (inr one) (inr other) =
    let same : one.0 ≡ other.0 = cc (one.1, other.1) in
    ends_once other.0 s t (subst (λ (c : Content). Ends c s) same one.2) other.2

pub one_status : (bytes : List ℕ) (s t : Status) → AsksFor bytes s → AsksFor bytes t → s ≡ t
one_status bytes s t one other = asked_once bytes s t (asked bytes s one) (asked bytes t other)
