-- Nothing void is logged: the reliable log of a present host has nothing of a host that was announced, from its time on.
use Rattle.std.specs.Prelude.{◌≡◌, ℕ, false, List, All}
use Rattle.pipe_base.specs.declared.message.Service.TheVariants.{Reliable}
use Rattle.pipe_base.specs.Failed.{is_void}
use Rattle.pipe_graph.specs.Graph.{Graph}
use Rattle.pipe_model.specs.declared.record.Record.{Record}
use Rattle.pipe_model.specs.Acting.{own}
use Rattle.pipe_model.specs.Controller.{announced}
use Rattle.pipe_model.specs.Logged.{log}
use Rattle.pipe_model_atomic.specs.Present.{IsPresent}

abbrev pub IsNoneVoidLogged : Graph → List Record → Type 0
IsNoneVoidLogged graph past =
    (host : ℕ) → IsPresent graph past host
    → All (λ e. is_void (announced graph past) e.key ≡ false) (log Reliable (own graph host past))
