-- What a prepared scattering tells: each of its receivers held its message.
use Rattle.std.specs.Prelude.{◌≡◌, ℕ, true, List, All}
use Rattle.pipe_graph.specs.Graph.{Graph}
use Rattle.pipe_base.specs.Scattering.{Scattering, SenderCall, begun}
use Rattle.pipe_base.specs.Settled.{is_prepared}
use Rattle.pipe_model.specs.declared.record.Record.{Record}
use Rattle.pipe_model.specs.Acknowledged.{HasHeld}
use Rattle.pipe_model.specs.Acting.{own}
use Rattle.pipe_model.specs.Sender.{sender_calls}

-- each receiver of a scattering of the host held its message
abbrev pub IsHeldByAll : Graph → ℕ → List Record → Scattering → Type 0
IsHeldByAll graph host past s =
    All (λ d. HasHeld graph d.0.0 (record { ts = s.ts; src = record { 0 = host } }) past) s.dests

-- the host's scatterings that are prepared are held by all
abbrev pub AreHeldOf : Graph → ℕ → List Record → List SenderCall → Type 0
AreHeldOf graph host past calls = All (λ s. is_prepared calls s ≡ true → IsHeldByAll graph host past s) (begun calls)

-- Where a scattering is prepared, each of its receivers held it.
abbrev pub ArePreparedHeld : Graph → List Record → Type 0
ArePreparedHeld graph past = (host : ℕ) → AreHeldOf graph host past (sender_calls graph host (own graph host past))
