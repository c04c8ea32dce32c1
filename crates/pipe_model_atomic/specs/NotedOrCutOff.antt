-- A present host has noted a host that was announced and still takes part, or is cut off from it: no path by links that count leads
-- to it without a report of at most the time.
use Rattle.std.specs.Prelude.{◌≡◌, ◌⊎◌, ℕ, ◌&&◌, not, nat_le, Bool, true, false, List, Option, None, Some}
use Rattle.std.specs.List.{list_any}
use Rattle.pipe_base.specs.declared.name.Ts.{Ts}
use Rattle.pipe_base.specs.Failed.{is_announced, time_of}
use Rattle.pipe_graph.specs.Graph.{Graph}
use Rattle.pipe_graph.specs.Path.{IsPath}
use Rattle.pipe_graph.specs.Reach.{reaches}
use Rattle.pipe_model.specs.declared.record.Record.{Record}
use Rattle.pipe_model.specs.Acting.{own}
use Rattle.pipe_model.specs.Controller.{announced, is_live, is_member, view}
use Rattle.pipe_model.specs.Moments.{noted_hosts}
use Rattle.pipe_model.specs.View.{View}
use Rattle.pipe_model_atomic.specs.Present.{IsPresent}

-- there is a report, of at most the time
abbrev pub is_within : Ts → Option Ts → Bool
is_within time None = false
is_within time (Some value) = nat_le value.0 time.0

-- the link counts, and has no report of at most the time
abbrev pub is_open : View → Ts → ℕ → Bool
is_open v time link = v.live link && not (is_within time (v.reports link))

-- cut off: by such links the one host does not reach the other
abbrev pub IsCutOff : Graph → List Record → ℕ → Ts → ℕ → Type 0
IsCutOff graph past host time other = reaches graph (is_open (view graph past) time) host other ≡ false

-- the same in words, where links join nodes alone: each path by links that count has a link with a report of at most the time
abbrev pub AreReportedPaths : Graph → List Record → ℕ → Ts → ℕ → Type 0
AreReportedPaths graph past host time other =
    (path : List ℕ) → IsPath graph (is_live graph past) host other path
    → list_any (λ l. is_within time ((view graph past).reports l)) path ≡ true

abbrev pub AreNotedOrCutOff : Graph → List Record → Type 0
AreNotedOrCutOff graph past =
    (host other : ℕ) (time : Ts) → time_of host (announced graph past) ≡ Some time → is_member graph past host ≡ true
    → IsPresent graph past other
    → (is_announced host (noted_hosts (own graph other past)) ≡ true) ⊎ IsCutOff graph past host time other
