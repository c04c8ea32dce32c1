use Rattle.std.proofs.Common.{◌≡◌, ◌++◌, ℕ, List, map, take}
use Rattle.pipe_text_plan.proofs.number.all_names.Given as goal

abbrev pub invariant-loop-name : goal.invariant-loop-name
invariant-loop-name l = map (λ name. name.now) l.names.items ≡ map (λ host. host.now) l.fn.hosts ++ map (λ (switch : List ℕ × ℕ). switch.0) (map (λ switch. (switch.0.now, switch.1)) (take l.name-index l.switches))
