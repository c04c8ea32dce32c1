-- The entries of a record, service by service.
use Rattle.std.proofs.Common.{◌≡◌, Bool, true, false, if◌then◌else◌, ℕ, List, [], ◌∷◌, ◌++◌, map, filter, refl, ap, sym, subst, ◌∙◌}
use Rattle.std.specs.List.{All}
use Rattle.std.proofs.lemmas.List.{append-nil}
use Rattle.std.proofs.lemmas.List.Elements.{All-nil, All-cons, All-head, All-tail}
use Rattle.pipe_base.specs.declared.message.Entry.{Entry}
use Rattle.pipe_base.specs.declared.message.Service.{Service}
use Rattle.pipe_base.specs.declared.message.Service.TheVariants.{BestEffort, Reliable}
use Rattle.pipe_graph.specs.Graph.{Graph}
use Rattle.pipe_base.specs.Messages.{Messages, entry_of, logged_of}
use Rattle.pipe_model.specs.declared.record.Record.{Record}
use Rattle.pipe_model.specs.Logged.{entries_of, logged, passed_in, same_service}

-- all entries of a service are its own
same_refl : (service : Service) → same_service service service ≡ true
same_refl BestEffort = refl
same_refl Reliable = refl

first_kept : (b : Bool) (e : Service × Entry) (es : List (Service × Entry)) (rest : List Entry) → b ≡ true → map (λ x. x.1) es ≡ rest
    → map (λ (x : Service × Entry). x.1) (if b then e ∷ es else es) ≡ e.1 ∷ rest
first_kept true e es rest is same = ap (λ (xs : List Entry). e.1 ∷ xs) same
first_kept false e es rest is same = cc

first_left : (b : Bool) (e : Service × Entry) (es : List (Service × Entry)) (rest : List Entry) → b ≡ false → map (λ x. x.1) es ≡ rest
    → map (λ (x : Service × Entry). x.1) (if b then e ∷ es else es) ≡ rest
first_left true e es rest is same = cc
first_left false e es rest is same = same

own_entries : (service : Service) (ms : Messages) (more : List (Service × Entry)) → entries_of service more ≡ []
    → entries_of service (logged_of service ms ++ more) ≡ map entry_of ms
own_entries service [] more none = none
own_entries service (m ∷ ms) more none =
    first_kept (same_service service service) (service, entry_of m) (filter (λ (x : Service × Entry). same_service service x.0) (logged_of service ms ++ more))
    (map entry_of ms) (same_refl service) (own_entries service ms more none)

-- what another service logs before them does not count
other_entries : (service other : Service) (ms : Messages) (more : List (Service × Entry)) → same_service service other ≡ false
    → entries_of service (logged_of other ms ++ more) ≡ entries_of service more
other_entries service other [] more apart = refl
other_entries service other (m ∷ ms) more apart =
    first_left (same_service service other) (other, entry_of m) (filter (λ (x : Service × Entry). same_service service x.0) (logged_of other ms ++ more))
    (entries_of service more) apart (other_entries service other ms more apart)

-- the entries of a service in a record are what it passes of that service
pub entries_logged : (service : Service) (graph : Graph) (node : ℕ) (own : List Record) (r : Record)
    → entries_of service (logged graph node own r) ≡ map entry_of (passed_in service graph node own r)
entries_logged BestEffort graph node own r =
    let reliable : Messages = passed_in Reliable graph node own r in
    own_entries BestEffort (passed_in BestEffort graph node own r) (logged_of Reliable reliable)
    (ap (entries_of BestEffort) (sym (append-nil (logged_of Reliable reliable))) ∙ other_entries BestEffort Reliable reliable [] refl)
entries_logged Reliable graph node own r =
    let best : Messages = passed_in BestEffort graph node own r in
    let reliable : Messages = passed_in Reliable graph node own r in
    other_entries Reliable BestEffort best (logged_of Reliable reliable) refl
    ∙ ap (entries_of Reliable) (sym (append-nil (logged_of Reliable reliable))) ∙ own_entries Reliable reliable [] refl

-- what holds of all that was logged holds of the entries of a service
chosen : (b : Bool) (P : Entry → Type 0) (e : Service × Entry) (es : List (Service × Entry)) (rest : List Entry) → P e.1 → All P rest
    → rest ≡ map (λ e. e.1) es → All P (map (λ e. e.1) (if b then e ∷ es else es))
chosen true P e es rest here all is = All-cons P e.1 (map (λ (x : Service × Entry). x.1) es) here (subst (All P) is all)
chosen false P e es rest here all is = subst (All P) is all

pub entries_all : (P : Entry → Type 0) (service : Service) (logged : List (Service × Entry)) → All (λ e. P e.1) logged → All P (entries_of service logged)
entries_all P service [] all = All-nil P
entries_all P service (e ∷ es) all =
    chosen (same_service service e.0) P e (filter (λ (x : Service × Entry). same_service service x.0) es) (entries_of service es)
    (All-head (λ (x : Service × Entry). P x.1) e es all) (entries_all P service es (All-tail (λ (x : Service × Entry). P x.1) e es all)) refl
