-- The plan of a star.
use Rattle.std.specs.Prelude.{ℕ, [], ◌∷◌, map}
use Rattle.std.specs.List.{range_with_len}
use Rattle.pipe_base.specs.declared.name.Ts.{Ts}
use Rattle.pipe_topo.specs.declared.plan.CableEnd.{CableEnd}
use Rattle.pipe_topo.specs.declared.plan.CableEnd.TheVariants.{Host, Switch}
use Rattle.pipe_topo.specs.declared.plan.Plan.{Plan}

-- a cable from a host to the first switch
abbrev pub host_cable : ℕ → CableEnd × CableEnd
host_cable host = (Host host, Switch 0)

-- one switch of level 1, and a cable to it from each host in order
abbrev pub star_plan : ℕ → Ts → Plan
star_plan hosts patience = record {
  hosts = hosts;
  levels = 1 ∷ [];
  cables = map host_cable (range_with_len 0 hosts);
  patience = patience;
}
