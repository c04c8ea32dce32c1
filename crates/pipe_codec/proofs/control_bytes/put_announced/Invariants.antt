use Rattle.std.proofs.Common.{◌≡◌, ◌+◌, ◌*◌, ◌++◌, take, drop}
use Rattle.std.specs.List.{flat_map}
use Rattle.pipe_codec.specs.Control.{announced_bytes}
use Rattle.pipe_codec.proofs.control_bytes.put_announced.Given as goal

abbrev pub invariant-entries : goal.invariant-entries
invariant-entries l = l.out ≡ take 6 l.initial.out ++ flat_map announced_bytes (take l.i l.list) ++ drop (6 + 8 * l.i) l.initial.out
