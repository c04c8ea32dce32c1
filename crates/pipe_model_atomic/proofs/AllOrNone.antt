-- All or none: what is void is logged by nobody; of the rest, what is unsettled is passed by nobody; what is prepared was held by all,
-- so it is logged by all that passed it; and what was recalled is logged by nobody.
use Rattle.std.proofs.Common.{◌≡◌, ℕ, ◌<◌, ◌≤◌, ◌||◌, Bool, true, false, List, [], ◌∷◌, get_or, length, refl, inl, inr, sym, ◌∙◌, true≢false, arith}
use Rattle.std.specs.List.{All, Contains, list_any}
use Rattle.std.proofs.lemmas.List.Elements.{All-contains_itself, All-head, All-tail}
use Rattle.pipe_base.specs.declared.control.Announced.{Announced}
use Rattle.pipe_base.specs.declared.message.Entry.{Entry}
use Rattle.pipe_base.specs.declared.message.Key.{Key}
use Rattle.pipe_base.specs.declared.message.Service.TheVariants.{Reliable}
use Rattle.pipe_base.specs.Failed.{is_announced, is_void}
use Rattle.pipe_graph.specs.Graph.{Graph}
use Rattle.pipe_base.specs.Messages.{same_key}
use Rattle.pipe_base.specs.Scattering.{Scattering, SenderCall}
use Rattle.pipe_base.specs.Settled.{is_noted, is_recalled, is_settled}
use Rattle.pipe_graph.specs.Reach.{JoinsAllHosts}
use Rattle.pipe_model.specs.declared.record.Record.{Record}
use Rattle.pipe_model.specs.Acting.{own}
use Rattle.pipe_model.specs.AllOrNone.{IsAllOrNone, IsInAllOrNone, IsPassed, key_from}
use Rattle.pipe_model.specs.Controller.{announced}
use Rattle.pipe_model.specs.Correct.{IsCorrect}
use Rattle.pipe_model.specs.Logged.{log}
use Rattle.pipe_model.specs.Moments.{noted_hosts}
use Rattle.pipe_model.specs.PreparedHeld.{IsHeldByAll}
use Rattle.pipe_model.specs.Run.{IsHistory}
use Rattle.pipe_model.specs.Sender.{sender_calls}
use Rattle.pipe_model.proofs.Own.{node_history}
use Rattle.pipe_model.proofs.Promises.{noted_is}
use Rattle.pipe_model_node.proofs.Passed.{passed_logged}
use Rattle.pipe_model_node.proofs.Untaken.{not_logged}
use Rattle.pipe_model_atomic.specs.Present.{IsPresent}
use Rattle.pipe_model_atomic.specs.Sentences.{Sentences}
use Rattle.pipe_model_atomic.proofs.Bounds.{commit_of}
use Rattle.pipe_model_atomic.proofs.Holds.{sentences_hold}
use Rattle.pipe_model_atomic.proofs.Passing.{begun_by, not_passed}
use Rattle.pipe_model_atomic.proofs.Recorded.{trusted_is}
use Rattle.pipe_model_atomic.proofs.Stages.{not_taken_back, settled_answered, settled_prepared}
use Rattle.pipe_model_atomic.proofs.Times.{announced_before, not_void_first}
use Rattle.pipe_model.proofs.Void.{same_void}

-- a correct host is present
correct_present : (graph : Graph) (past : List Record) (host : ℕ) → IsHistory graph past → Sentences graph past → IsCorrect graph past host → IsPresent graph past host
correct_present graph past host run holds correct =
    let trusted : is_announced host (announced graph past) ≡ false = trusted_is graph past host run correct in
    record { member = holds.bounding.present_are_members host correct.host_in trusted; trusted = trusted }

-- ---- what is settled

-- where a scattering was held by all and not recalled, each that passed it has logged it
held_by_all : (graph : Graph) (past : List Record) → IsHistory graph past → Sentences graph past → (sender : ℕ) (s : Scattering) → IsHeldByAll graph sender past s
    → Contains (begun_by graph past sender) s → is_recalled (sender_calls graph sender (own graph sender past)) s ≡ false
    → is_void (announced graph past) (key_from sender s) ≡ false → IsPassed graph past s → IsInAllOrNone graph past s (key_from sender s)
held_by_all graph past run holds sender s held among kept valid passed =
    inl (λ j d lt correct.
    let host : ℕ = (get_or s.dests j d).0.0 in
    passed_logged graph host (own graph host past) (key_from sender s) (node_history graph host past run) (held j d lt) (not_taken_back graph past sender host s run among kept)
    (not_void_first (key_from sender s) (noted_hosts (own graph host past)) (announced graph past) (holds.knowing.noted_first host) valid) (passed j d lt correct))

-- where it is settled as recalled, each got the recall in time, so none has logged it
recalled_by_none : (graph : Graph) (past : List Record) → IsHistory graph past → Sentences graph past → (sender k : ℕ) (s : Scattering) → sender < graph.hosts
    → k < length (begun_by graph past sender) → is_void (announced graph past) (key_from sender (get_or (begun_by graph past sender) k s)) ≡ false
    → is_settled (sender_calls graph sender (own graph sender past)) (get_or (begun_by graph past sender) k s) ≡ true
    → is_recalled (sender_calls graph sender (own graph sender past)) (get_or (begun_by graph past sender) k s) ≡ true
    → IsInAllOrNone graph past (get_or (begun_by graph past sender) k s) (key_from sender (get_or (begun_by graph past sender) k s))
recalled_by_none graph past run holds sender k s sender_in lt valid settled recalled =
    let o : List Record = own graph sender past in
    let calls : List SenderCall = sender_calls graph sender o in
    let x : Scattering = get_or (begun_by graph past sender) k s in
    inr (λ j d at correct.
    let host : ℕ = (get_or x.dests j d).0.0 in
    let unnoted : is_noted calls host ≡ false =
    noted_is graph sender o host ∙ announced_before host (noted_hosts o) (announced graph past) (holds.knowing.noted_first sender) (trusted_is graph past host run correct) in
    not_logged graph host (own graph host past) (key_from sender x) (node_history graph host past run)
    (holds.recalls_in_time sender sender_in k s lt valid j d at (settled_answered calls x settled recalled j d at unnoted) correct.host_in (trusted_is graph past host run correct)))

-- ---- what is void

-- no entry has the key of a void message where none is void
none_has : (failed : List Announced) (key : Key) (es : List Entry) → is_void failed key ≡ true → All (λ e. is_void failed e.key ≡ false) es
    → list_any (λ e. same_key e.key key) es ≡ false
none_has failed key [] void all = refl
none_has failed key (e ∷ es) void all =
    by (same_key e.key key) refl (none_has failed key es void (All-tail (λ (x : Entry). is_void failed x.key ≡ false) e es all))
  where
    by : (b : Bool) → same_key e.key key ≡ b → list_any (λ x. same_key x.key key) es ≡ false → (b || list_any (λ x. same_key x.key key) es) ≡ false
    by true same rest =
        absurd (true≢false (sym void ∙ sym (same_void failed e.key key same) ∙ All-head (λ (x : Entry). is_void failed x.key ≡ false) e es all))
    by false other rest = rest

void_by_none : (graph : Graph) (past : List Record) → IsHistory graph past → Sentences graph past → (sender : ℕ) (s : Scattering) → is_void (announced graph past) (key_from sender s) ≡ true
    → IsInAllOrNone graph past s (key_from sender s)
void_by_none graph past run holds sender s void =
    inr (λ j d lt correct.
    let host : ℕ = (get_or s.dests j d).0.0 in
    none_has (announced graph past) (key_from sender s) (log Reliable (own graph host past)) void
    (holds.none_void_logged host (correct_present graph past host run holds correct)))

-- ---- each scattering

by_stage : (graph : Graph) (past : List Record) → IsHistory graph past → Sentences graph past → (sender k : ℕ) (s : Scattering) (void settled recalled : Bool) → sender < graph.hosts
    → k < length (begun_by graph past sender)
    → is_void (announced graph past) (key_from sender (get_or (begun_by graph past sender) k s)) ≡ void
    → is_settled (sender_calls graph sender (own graph sender past)) (get_or (begun_by graph past sender) k s) ≡ settled
    → is_recalled (sender_calls graph sender (own graph sender past)) (get_or (begun_by graph past sender) k s) ≡ recalled
    → IsPassed graph past (get_or (begun_by graph past sender) k s)
    → IsInAllOrNone graph past (get_or (begun_by graph past sender) k s) (key_from sender (get_or (begun_by graph past sender) k s))
by_stage graph past run holds sender k s true settled recalled sender_in lt void is back passed =
    void_by_none graph past run holds sender (get_or (begun_by graph past sender) k s) void
by_stage graph past run holds sender k s false true true sender_in lt valid is back passed = recalled_by_none graph past run holds sender k s sender_in lt valid is back
by_stage graph past run holds sender k s false true false sender_in lt valid is kept passed =
    let x : Scattering = get_or (begun_by graph past sender) k s in
    held_by_all graph past run holds sender x
    (holds.prepared_held sender k s lt (settled_prepared (sender_calls graph sender (own graph sender past)) x is kept))
    (All-contains_itself (begun_by graph past sender) k s lt) kept valid passed
by_stage graph past run holds sender k s false false recalled sender_in lt valid is back passed =
    inl (λ j d at correct.
    let host : ℕ = (get_or (get_or (begun_by graph past sender) k s).dests j d).0.0 in
    let low : commit_of graph past host ≤ (get_or (begun_by graph past sender) k s).ts.0 =
    not_passed graph past holds.bounding holds.times_promised sender host sender_in (correct_present graph past host run holds correct) k s lt valid is in
    absurd (omega (arith, low, passed j d at correct)))

pub all_or_none : (graph : Graph) (past : List Record) → JoinsAllHosts graph → IsHistory graph past → IsAllOrNone graph past
all_or_none graph past joined run sender sender_in k s lt passed =
    let x : Scattering = get_or (begun_by graph past sender) k s in
    let calls : List SenderCall = sender_calls graph sender (own graph sender past) in
    by_stage graph past run (sentences_hold graph past joined run) sender k s (is_void (announced graph past) (key_from sender x)) (is_settled calls x) (is_recalled calls x) sender_in lt
    refl refl refl passed
