-- A node's next timestamp is above all that it logged, and its stamps are not below it.
use Rattle.std.proofs.Common.{◌≡◌, ℕ, ◌<◌, ◌≤◌, List, [], ◌∷◌, Option, None, Some, IfSome, refl, arith, sym, ◌∙◌}
use Rattle.std.specs.List.{All}
use Rattle.std.proofs.lemmas.List.Elements.{All-nil, All-cons, All-append, All-weaker}
use Rattle.pipe_base.specs.declared.message.Entry.{Entry}
use Rattle.pipe_base.specs.declared.message.Service.{Service}
use Rattle.pipe_base.specs.declared.name.Ts.{Ts}
use Rattle.pipe_base.specs.Clock.{after_logged}
use Rattle.pipe_graph.specs.Graph.{Graph}
use Rattle.pipe_model.specs.declared.record.Record.{Record}
use Rattle.pipe_model.specs.Clock.{next}
use Rattle.pipe_model.specs.Logged.{log, entries_of}
use Rattle.pipe_model.specs.Order.{IsAboveLogs, IsCausal}
use Rattle.pipe_model.specs.Run.{IsNodeHistory}
use Rattle.pipe_model.proofs.Entries.{entries_all}
use Rattle.pipe_model.proofs.Stamps.{stamp_above}

-- an entry below a timestamp
abbrev pub Below : ℕ → Entry → Type 0
Below bound e = e.key.ts.0 < bound

-- all that was logged is below what comes after it
logged_below : (logged : List (Service × Entry)) → All (λ e. Below (after_logged logged) e.1) logged
logged_below [] = All-nil (λ (e : Service × Entry). Below 0 e.1)
logged_below (e ∷ es) =
    let more : (x : Service × Entry) → Below (after_logged es) x.1 → Below (after_logged (e ∷ es)) x.1 = λ x below. omega arith in
    All-cons (λ (x : Service × Entry). Below (after_logged (e ∷ es)) x.1) e es (omega arith)
    (All-weaker (λ (x : Service × Entry). Below (after_logged es) x.1) (λ (x : Service × Entry). Below (after_logged (e ∷ es)) x.1) more es (logged_below es))

-- a host's next timestamp is above all that it logged
pub log_below_next : (graph : Graph) (node : ℕ) (service : Service) (own : List Record) → All (Below (next graph node own)) (log service own)
log_below_next graph node service [] = All-nil (Below 0)
log_below_next graph node service (r ∷ own) =
    let before : (e : Entry) → Below (next graph node own) e → Below (next graph node (r ∷ own)) e = λ e below. omega arith in
    let now : (e : Entry) → Below (after_logged r.step.logged) e → Below (next graph node (r ∷ own)) e = λ e below. omega arith in
    All-append (Below (next graph node (r ∷ own))) (log service own) (entries_of service r.step.logged)
    (All-weaker (Below (next graph node own)) (Below (next graph node (r ∷ own))) before (log service own) (log_below_next graph node service own))
    (All-weaker (Below (after_logged r.step.logged)) (Below (next graph node (r ∷ own))) now (entries_of service r.step.logged)
    (entries_all (Below (after_logged r.step.logged)) service r.step.logged (logged_below r.step.logged)))

above_logs : (graph : Graph) (node : ℕ) (own : List Record) (o : Option Ts) → ((ts : Ts) → o ≡ Some ts → next graph node own ≤ ts.0) → IfSome o (λ ts. IsAboveLogs ts.0 own)
above_logs graph node own None above = tt
above_logs graph node own (Some ts) above = λ service.
    let le : next graph node own ≤ ts.0 = above ts refl in
    All-weaker (Below (next graph node own)) (Below ts.0) (λ (e : Entry) below. omega arith) (log service own) (log_below_next graph node service own)

pub node_causal : (graph : Graph) (node : ℕ) (own : List Record) → IsNodeHistory graph node own → IsCausal own
node_causal graph node [] history = tt
node_causal graph node (r ∷ own) history =
    (node_causal graph node own history.0, above_logs graph node own r.step.stamped (λ ts is. stamp_above graph node own r.event ts (sym history.1.stamped_is ∙ is)))
