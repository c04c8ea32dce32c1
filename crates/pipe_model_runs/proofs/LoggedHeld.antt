-- What a host logs it holds, and what it holds a record of its own brought.
use Rattle.std.proofs.Common.{◌≡◌, ℕ, List, [], ◌∷◌, Option, Some, map, refl, inl, inr, sym, ap, subst, ◌∙◌}
use Rattle.std.specs.List.{All}
use Rattle.std.proofs.lemmas.List.Elements.{All-nil, All-append, All-filter, All-map, All-weaker}
use Rattle.pipe_base.specs.declared.message.Entry.{Entry}
use Rattle.pipe_base.specs.declared.message.Key.{Key}
use Rattle.pipe_base.specs.declared.message.Service.{Service}
use Rattle.pipe_base.specs.declared.packet.Packet.{Packet}
use Rattle.pipe_base.specs.declared.step.Fate.{Fate}
use Rattle.pipe_base.specs.declared.step.Fate.TheVariants.{Held}
use Rattle.pipe_base.specs.Messages.{Messages, entry_of}
use Rattle.pipe_base.proofs.KeyOrder.{insert_all}
use Rattle.pipe_graph.specs.Graph.{Graph}
use Rattle.pipe_model.specs.declared.record.Record.{Record}
use Rattle.pipe_model.specs.Fate.{fate_in, held, with_held}
use Rattle.pipe_model.specs.Got.{got, key_of}
use Rattle.pipe_model.specs.Logged.{entries_of, log, passed_in}
use Rattle.pipe_model.specs.Run.{IsNodeHistory, IsNodeStep}
use Rattle.pipe_model.proofs.Entries.{entries_logged}
use Rattle.pipe_model_runs.specs.Holding.{WasHeld}

-- the entries of a service in a record are what it passes
pub entries_passed : (service : Service) (graph : Graph) (node : ℕ) (own : List Record) (r : Record) → IsNodeStep graph node own r
    → entries_of service r.step.logged ≡ map entry_of (passed_in service graph node own r)
entries_passed service graph node own r step = ap (entries_of service) step.logged_is ∙ entries_logged service graph node own r

held_more : (P : Key × List ℕ → Type 0) (f : Option Fate) (o : Option Packet) (ms : Messages) → All P ms
    → ((p : Packet) → o ≡ Some p → f ≡ Some Held → P (key_of p, p.body)) → All P (with_held f o ms)
held_more P (Some Held) (Some p) ms all new = insert_all P (key_of p) p.body ms (new p refl refl) all
held_more P _ _ ms all new = all

abbrev Was : Service → Graph → ℕ → List Record → Key × List ℕ → Type 0
Was service graph node own m = WasHeld service graph node (entry_of m) own

all_was_held : (service : Service) (graph : Graph) (node : ℕ) (own : List Record) → All (Was service graph node own) (held service graph node own)
all_was_held service graph node [] = All-nil (Was service graph node [])
all_was_held service graph node (r ∷ own) =
    held_more (Was service graph node (r ∷ own)) (fate_in service graph node own r) (got service graph node own r) (held service graph node own)
    (All-weaker (Was service graph node own) (Was service graph node (r ∷ own)) (λ m was. inr was) (held service graph node own) (all_was_held service graph node own))
    (λ p is kept. inl (record { packet = p; received = is; is_held = kept; message = refl }))

pub logged_was_held : (service : Service) (graph : Graph) (node : ℕ) (own : List Record) → IsNodeHistory graph node own
    → All (λ e. WasHeld service graph node e own) (log service own)
logged_was_held service graph node [] history = All-nil (λ (e : Entry). WasHeld service graph node e [])
logged_was_held service graph node (r ∷ own) history =
    let P : Entry → Type 0 = λ e. WasHeld service graph node e (r ∷ own) in
    All-append P (log service own) (entries_of service r.step.logged)
    (All-weaker (λ (e : Entry). WasHeld service graph node e own) P (λ e was. inr was) (log service own) (logged_was_held service graph node own history.0))
    (subst (All P) (sym (entries_passed service graph node own r history.1))
    (All-map P entry_of (passed_in service graph node own r)
    (All-filter _ (Was service graph node (r ∷ own)) _ (All-filter _ (Was service graph node (r ∷ own)) _
    (All-filter _ (Was service graph node (r ∷ own)) _ (All-filter _ (Was service graph node (r ∷ own)) (held service graph node (r ∷ own)) (all_was_held service graph node (r ∷ own))))))))
