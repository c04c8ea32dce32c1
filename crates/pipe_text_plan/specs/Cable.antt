-- The text of a cable.
use Rattle.std.specs.Prelude.{ℕ, ◌-◌, nat_lt, if◌then◌else◌, List, position, Option, option_map, option_and_then, Result}
use Rattle.std.specs.Option.{option_zip}
use Rattle.std.specs.Str.{bytes_eq}
use Rattle.pipe_topo.specs.declared.plan.CableEnd.{CableEnd}
use Rattle.pipe_topo.specs.declared.plan.CableEnd.TheVariants.{Host, Switch}
use Rattle.pipe_text_plan.specs.declared.fault.PlanFault.{PlanFault}
use Rattle.pipe_text_plan.specs.declared.fault.PlanFault.TheVariants.{CableText}
use Rattle.pipe_text_plan.specs.ReadAll.{read_all, faulted}
use Rattle.pipe_text_plan.specs.Texts.{around_space}

-- the host or the switch of a number: the hosts come first
abbrev pub end_at : ℕ → ℕ → CableEnd
end_at hosts number = if nat_lt number hosts then Host number else Switch (number - hosts)

-- the host or the switch of a name
abbrev pub end_of : ℕ → List (List ℕ) → List ℕ → Option CableEnd
end_of hosts names name = option_map (end_at hosts) (position (bytes_eq name) names)

-- the ends that two words name
abbrev pub ends_of : ℕ → List (List ℕ) → List ℕ × List ℕ → Option (CableEnd × CableEnd)
ends_of hosts names words = option_zip (end_of hosts names words.0) (end_of hosts names words.1)

-- two of the names, with one space between
abbrev pub cable_of : ℕ → List (List ℕ) → List ℕ → Option (CableEnd × CableEnd)
cable_of hosts names text = option_and_then (ends_of hosts names) (around_space text)

-- all of them, or the first text that is none
abbrev pub cables_of : ℕ → List (List ℕ) → List (List ℕ) → Result (List (CableEnd × CableEnd)) PlanFault
cables_of hosts names texts = faulted (λ at. CableText at) (read_all (cable_of hosts names) texts)
