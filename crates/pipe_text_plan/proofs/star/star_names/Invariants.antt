use Rattle.std.proofs.Common.{◌≡◌, map}
use Rattle.std.specs.List.{range_with_len}
use Rattle.pipe_text_plan.specs.Star.{host_name}
use Rattle.pipe_text_plan.proofs.star.star_names.Given as goal

abbrev pub invariant-loop-host : goal.invariant-loop-host
invariant-loop-host l = l.names ≡ map host_name (range_with_len 0 l.host-counter)
