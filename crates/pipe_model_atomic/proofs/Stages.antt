-- What a settled scattering is: prepared, and then no host was told to take it back; or recalled, and then each receiver that is not
-- noted as failed has answered.
use Rattle.std.proofs.Common.{◌≡◌, ℕ, ◌==◌, ◌||◌, not, if◌then◌else◌, Bool, true, false, List, [], ◌∷◌, get_or, Option, None, Some, refl, inl, inr, sym, subst, ◌∙◌, eqb-true, true≢false}
use Rattle.std.specs.List.{All, Contains, list_any}
use Rattle.std.proofs.lemmas.Bool.{and_parts, false_from_ne_true, or_cases}
use Rattle.std.proofs.lemmas.List.Elements.{All-contains}
use Rattle.std.proofs.lemmas.List.Folds.{list_any_at}
use Rattle.pipe_base.specs.declared.message.Key.{Key}
use Rattle.pipe_base.specs.declared.name.HostId.{HostId}
use Rattle.pipe_base.specs.declared.packet.Packet.{Packet}
use Rattle.pipe_graph.specs.Graph.{Graph}
use Rattle.pipe_base.specs.Messages.{same_key}
use Rattle.pipe_base.specs.Scattering.{Scattering, SenderCall}
use Rattle.pipe_base.specs.Settled.{awaits, is_noted, is_prepared, is_recall_acked, is_recalled, is_settled}
use Rattle.pipe_model.specs.declared.record.Record.{Record}
use Rattle.pipe_model.specs.Acting.{own}
use Rattle.pipe_model.specs.AllOrNone.{key_from}
use Rattle.pipe_model.specs.Got.{gets, key_of}
use Rattle.pipe_model.specs.Moments.{received}
use Rattle.pipe_model.specs.Packets.{receipts}
use Rattle.pipe_model.specs.Recalled.{IsRecallTrue, IsTakenBack}
use Rattle.pipe_model.specs.Recalls.{got_recall, is_recall, takes_back}
use Rattle.pipe_model.specs.Run.{IsHistory}
use Rattle.pipe_model.specs.Sender.{sender_calls}
use Rattle.pipe_model_net.proofs.Prepared.{is_got, newest, rest_of}
use Rattle.pipe_model_net.proofs.TakenBack.{recalls_true}
use Rattle.pipe_model_atomic.proofs.Passing.{begun_by}

prepared_by : (recalled waits prepared : Bool) → recalled ≡ false → (if recalled then not waits else prepared) ≡ true → prepared ≡ true
prepared_by true waits prepared h is = absurd (true≢false h)
prepared_by false waits prepared h is = is

pub settled_prepared : (calls : List SenderCall) (s : Scattering) → is_settled calls s ≡ true → is_recalled calls s ≡ false → is_prepared calls s ≡ true
settled_prepared calls s settled isnt =
    prepared_by (is_recalled calls s) (list_any (λ (d : HostId × List ℕ). awaits calls s d.0.0) s.dests) (is_prepared calls s) isnt settled

-- ---- recalled

answered_by : (noted answered : Bool) → noted ≡ false → (not (noted || answered) ≡ true → ⊥) → answered ≡ true
answered_by true answered h none = absurd (true≢false h)
answered_by false true h none = refl
answered_by false false h none = absurd (none refl)

none_waits : (recalled waits prepared : Bool) → recalled ≡ true → (if recalled then not waits else prepared) ≡ true → waits ≡ true → ⊥
none_waits true true prepared h is k = true≢false (sym is)
none_waits true false prepared h is k = true≢false (sym k)
none_waits false waits prepared h is k = true≢false (sym h)

pub settled_answered : (calls : List SenderCall) (s : Scattering) → is_settled calls s ≡ true → is_recalled calls s ≡ true
    → All (λ d. is_noted calls d.0.0 ≡ false → is_recall_acked calls s d.0.0 ≡ true) s.dests
settled_answered calls s settled recalled j d at unnoted =
    let host : ℕ = (get_or s.dests j d).0.0 in
    let waits : HostId × List ℕ → Bool = λ e. awaits calls s e.0.0 in
    answered_by (is_noted calls host) (is_recall_acked calls s host) unnoted (λ still.
    none_waits (is_recalled calls s) (list_any waits s.dests) (is_prepared calls s) recalled settled (list_any_at waits s.dests j d at still))

-- ---- not recalled: no host was told to take it back

-- what a host was told to take back is taken back at its sender
abbrev IsBack : Graph → List Record → Key → Type 0
IsBack graph past key = IsTakenBack (sender_calls graph key.src.0 (own graph key.src.0 past)) key.ts.0

back_now : (graph : Graph) (past : List Record) (key : Key) (o : Option Packet) → ((p : Packet) → o ≡ Some p → IsRecallTrue graph past p) → takes_back key o ≡ true → IsBack graph past key
back_now graph past key None holds is = absurd (true≢false (sym is))
back_now graph past key (Some p) holds is =
    let parts = and_parts (is_recall p.kind) (same_key (key_of p) key) is in
    let both = and_parts (p.ts.0 == key.ts.0) (p.src.0 == key.src.0) parts.1 in
    subst (λ (n : ℕ). IsTakenBack (sender_calls graph key.src.0 (own graph key.src.0 past)) n) (eqb-true p.ts.0 key.ts.0 both.0)
    (subst (λ (n : ℕ). IsTakenBack (sender_calls graph n (own graph n past)) p.ts.0) (eqb-true p.src.0 key.src.0 both.1) (holds p refl parts.0))

abbrev Receipt : Graph → List Record → (ℕ × Packet) → Type 0
Receipt graph past q = IsRecallTrue graph past q.1

got_back : (graph : Graph) (past : List Record) (host : ℕ) (key : Key) (own : List Record) → All (Receipt graph past) (receipts graph host own) → got_recall graph host key own ≡ true → IsBack graph past key
got_back graph past host key [] all is = absurd (true≢false (sym is))
got_back graph past host key (r ∷ own) all is =
    elim (or_cases (takes_back key (gets graph host own r)) (got_recall graph host key own) is) [
      | inl now ↦ back_now graph past key (gets graph host own r)
          (λ p got. let w = is_got graph host (received graph host own r) p got in newest (Receipt graph past) (received graph host own r) (w.link, p) (receipts graph host own) w.received_is all) now
      | inr before ↦ got_back graph past host key own (rest_of (Receipt graph past) (received graph host own r) (receipts graph host own) all) before
    ]

pub not_taken_back : (graph : Graph) (past : List Record) (sender host : ℕ) (s : Scattering) → IsHistory graph past → Contains (begun_by graph past sender) s
    → is_recalled (sender_calls graph sender (own graph sender past)) s ≡ false → got_recall graph host (key_from sender s) (own graph host past) ≡ false
not_taken_back graph past sender host s run among isnt =
    let calls : List SenderCall = sender_calls graph sender (own graph sender past) in
    false_from_ne_true (got_recall graph host (key_from sender s) (own graph host past)) (λ got.
    let back : IsTakenBack calls s.ts.0 = got_back graph past host (key_from sender s) (own graph host past) ((recalls_true graph past run).received host) got in
    true≢false (sym (All-contains (λ (x : Scattering). x.ts.0 ≡ s.ts.0 → is_recalled calls x ≡ true) (begun_by graph past sender) s back.recalled among refl) ∙ isnt))
