-- Barriers never fall, however many records come.
use Rattle.std.proofs.Common.{ℕ, ◌≤◌, List, [], ◌∷◌, ◌++◌, sym, subst, arith}
use Rattle.std.proofs.lemmas.List.Elements.{filter-append}
use Rattle.pipe_base.specs.declared.packet.Plane.{Plane}
use Rattle.pipe_graph.specs.Graph.{Graph}
use Rattle.pipe_model.specs.declared.record.Record.{Record}
use Rattle.pipe_model.specs.Acting.{is_own, own}
use Rattle.pipe_model.specs.Moments.{barrier_at}
use Rattle.pipe_model.proofs.Rising.{barrier_rises}

pub never_falls : (plane : Plane) (graph : Graph) (node : ℕ) (before more : List Record)
    → barrier_at plane graph node before ≤ barrier_at plane graph node (more ++ before)
never_falls plane graph node before [] = omega arith
never_falls plane graph node before (r ∷ more) =
    omega (arith, never_falls plane graph node before more, barrier_rises plane graph node (more ++ before) r)

pub never_falls_in_run : (plane : Plane) (graph : Graph) (node : ℕ) (past more : List Record)
    → barrier_at plane graph node (own graph node past) ≤ barrier_at plane graph node (own graph node (more ++ past))
never_falls_in_run plane graph node past more =
    subst (λ (o : List Record). barrier_at plane graph node (own graph node past) ≤ barrier_at plane graph node o) (sym (filter-append (is_own graph node) more past))
    (never_falls plane graph node (own graph node past) (own graph node more))
