use Rattle.std.proofs.Common.{◌≡◌, ◌+◌, ◌*◌, ◌++◌, take, drop}
use Rattle.std.specs.List.{flat_map}
use Rattle.pipe_codec.specs.Control.{link_bytes}
use Rattle.pipe_codec.proofs.control_bytes.put_links.Given as goal

abbrev pub invariant-links : goal.invariant-links
invariant-links l = l.out ≡ take 6 l.initial.out ++ flat_map link_bytes (take l.i l.links) ++ drop (6 + 2 * l.i) l.initial.out
