-- No present host has passed an unsettled scattering that is not void: the promise of its sender bounds all barriers, or the time of
-- the sender is above the timestamp and at most the promise.
use Rattle.std.proofs.Common.{◌≡◌, ℕ, ◌<◌, ◌≤◌, not, Bool, true, false, List, get_or, length, refl, ap, arith}
use Rattle.std.specs.List.{All}
use Rattle.pipe_base.specs.Failed.{is_announced, is_void}
use Rattle.pipe_graph.specs.Graph.{Graph}
use Rattle.pipe_base.specs.Scattering.{Scattering, SenderCall, begun}
use Rattle.pipe_base.specs.Settled.{is_settled}
use Rattle.pipe_graph.proofs.Listed.{filter_all}
use Rattle.pipe_model.specs.declared.record.Record.{Record}
use Rattle.pipe_model.specs.Acting.{own}
use Rattle.pipe_model.specs.AllOrNone.{key_from}
use Rattle.pipe_model.specs.Clock.{promise}
use Rattle.pipe_model.specs.Controller.{announced}
use Rattle.pipe_model.specs.Sender.{sender_calls}
use Rattle.pipe_model.proofs.Promises.{promise_bounds as least_unsettled}
use Rattle.pipe_model_atomic.specs.Present.{IsPresent}
use Rattle.pipe_model_atomic.specs.Sentences.{Bounding}
use Rattle.pipe_model_atomic.specs.TimesPromised.{AreTimesPromised}
use Rattle.pipe_model_atomic.proofs.Bounds.{commit_of, unsettled_above}
use Rattle.pipe_model_atomic.proofs.Times.{has_time, time_above}

-- the scatterings that a host began
abbrev pub begun_by : Graph → List Record → ℕ → List Scattering
begun_by graph past host = begun (sender_calls graph host (own graph host past))

-- what is unsettled is at or above the promise of its sender
promised_below : (graph : Graph) (past : List Record) (sender : ℕ)
    → All (λ s. is_settled (sender_calls graph sender (own graph sender past)) s ≡ false → promise graph sender (own graph sender past) ≤ s.ts.0) (begun_by graph past sender)
promised_below graph past sender k s lt open_still =
    let o : List Record = own graph sender past in
    let calls : List SenderCall = sender_calls graph sender o in
    filter_all (λ (x : Scattering). not (is_settled calls x)) (λ (x : Scattering). promise graph sender o ≤ x.ts.0) (begun calls)
    (least_unsettled graph sender o) k s lt (ap not open_still)

-- no host that takes part has passed an unsettled scattering of a host that was not announced
trusted_not_passed : (graph : Graph) (past : List Record) → Bounding graph past → (sender host : ℕ) → sender < graph.hosts
    → is_announced sender (announced graph past) ≡ false → IsPresent graph past host
    → All (λ s. is_settled (sender_calls graph sender (own graph sender past)) s ≡ false → commit_of graph past host ≤ s.ts.0) (begun_by graph past sender)
trusted_not_passed graph past holds sender host sender_in trusted present k s lt open_still =
    let calls : List SenderCall = sender_calls graph sender (own graph sender past) in
    filter_all (λ (x : Scattering). not (is_settled calls x)) (λ (x : Scattering). commit_of graph past host ≤ x.ts.0) (begun calls)
    (unsettled_above graph past holds sender host sender_in trusted present.member) k s lt (ap not open_still)

-- and no present host one that is not void: its sender's time would be at most its timestamp
not_passed_by : (gone : Bool) (graph : Graph) (past : List Record) → Bounding graph past → AreTimesPromised graph past → (sender host k : ℕ) (d : Scattering) → sender < graph.hosts → IsPresent graph past host
    → is_announced sender (announced graph past) ≡ gone → k < length (begun_by graph past sender)
    → is_void (announced graph past) (key_from sender (get_or (begun_by graph past sender) k d)) ≡ false
    → is_settled (sender_calls graph sender (own graph sender past)) (get_or (begun_by graph past sender) k d) ≡ false
    → commit_of graph past host ≤ (get_or (begun_by graph past sender) k d).ts.0
not_passed_by true graph past holds times sender host k d sender_in present was lt valid open_still =
    let s : Scattering = get_or (begun_by graph past sender) k d in
    let at = has_time sender (announced graph past) was in
    let above : s.ts.0 < at.0.0 = time_above (key_from sender s) at.0 (announced graph past) valid at.1 in
    let low : at.0.0 ≤ promise graph sender (own graph sender past) = times sender at.0 at.1 in
    let bound : promise graph sender (own graph sender past) ≤ s.ts.0 = promised_below graph past sender k d lt open_still in
    absurd (omega (arith, above, low, bound))
not_passed_by false graph past holds times sender host k d sender_in present trusted lt valid open_still =
    trusted_not_passed graph past holds sender host sender_in trusted present k d lt open_still

pub not_passed : (graph : Graph) (past : List Record) → Bounding graph past → AreTimesPromised graph past → (sender host : ℕ) → sender < graph.hosts → IsPresent graph past host
    → All (λ s. is_void (announced graph past) (key_from sender s) ≡ false → is_settled (sender_calls graph sender (own graph sender past)) s ≡ false
    → commit_of graph past host ≤ s.ts.0) (begun_by graph past sender)
not_passed graph past holds times sender host sender_in present k d lt valid open_still =
    not_passed_by (is_announced sender (announced graph past)) graph past holds times sender host k d sender_in present refl lt valid open_still
