-- Recalls are in time: where a receiver has answered the recall of a scattering, it got the recall before its commit barrier was
-- above the timestamp. What is void, and hosts that were announced as failed, are left out.
use Rattle.std.specs.Prelude.{◌≡◌, ℕ, ◌<◌, true, false, List, All}
use Rattle.pipe_base.specs.Failed.{is_announced, is_void}
use Rattle.pipe_graph.specs.Graph.{Graph}
use Rattle.pipe_base.specs.Scattering.{Scattering, begun}
use Rattle.pipe_base.specs.Settled.{is_recall_acked}
use Rattle.pipe_model.specs.declared.record.Record.{Record}
use Rattle.pipe_model.specs.Acting.{own}
use Rattle.pipe_model.specs.AllOrNone.{key_from}
use Rattle.pipe_model.specs.Controller.{announced}
use Rattle.pipe_model.specs.Recalls.{recalled_in_time}
use Rattle.pipe_model.specs.Sender.{sender_calls}

-- the host, unless it was announced, got the recall of the scattering in time
abbrev pub IsRecalledInTime : Graph → List Record → ℕ → Scattering → ℕ → Type 0
IsRecalledInTime graph past sender s host =
    host < graph.hosts → is_announced host (announced graph past) ≡ false
    → recalled_in_time graph host (key_from sender s) (own graph host past) ≡ true

-- so did each receiver of the scattering that has answered the recall
abbrev pub AreAnswersInTime : Graph → List Record → ℕ → Scattering → Type 0
AreAnswersInTime graph past sender s =
    All (λ d. is_recall_acked (sender_calls graph sender (own graph sender past)) s d.0.0 ≡ true
    → IsRecalledInTime graph past sender s d.0.0) s.dests

abbrev pub AreRecallsInTime : Graph → List Record → Type 0
AreRecallsInTime graph past =
    (sender : ℕ) → sender < graph.hosts
    → All (λ s. is_void (announced graph past) (key_from sender s) ≡ false
    → AreAnswersInTime graph past sender s) (begun (sender_calls graph sender (own graph sender past)))
