-- An unsettled scattering holds all back: no host that takes part has a commit barrier above its timestamp.
use Rattle.std.specs.Prelude.{◌≡◌, ℕ, ◌<◌, ◌≤◌, true, false, List, All}
use Rattle.pipe_base.specs.declared.packet.Plane.TheVariants.{Commit}
use Rattle.pipe_base.specs.Failed.{is_announced}
use Rattle.pipe_graph.specs.Graph.{Graph}
use Rattle.pipe_base.specs.Settled.{unsettled}
use Rattle.pipe_model.specs.declared.record.Record.{Record}
use Rattle.pipe_model.specs.Acting.{own}
use Rattle.pipe_model.specs.Controller.{announced, is_member}
use Rattle.pipe_model.specs.Moments.{barrier_at}
use Rattle.pipe_model.specs.Sender.{sender_calls}

-- the barrier of one host is at most the timestamp of each unsettled scattering of another
abbrev pub IsHeldBack : Graph → List Record → ℕ → ℕ → Type 0
IsHeldBack graph past sender host =
    All (λ s. barrier_at Commit graph host (own graph host past) ≤ s.ts.0) (unsettled (sender_calls graph sender (own graph sender past)))

-- this holds of all senders that were not announced as failed
abbrev pub AreUnsettledAbove : Graph → List Record → Type 0
AreUnsettledAbove graph past =
    (sender host : ℕ) → sender < graph.hosts → is_announced sender (announced graph past) ≡ false
    → is_member graph past host ≡ true → IsHeldBack graph past sender host
