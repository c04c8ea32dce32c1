use Rattle.std.proofs.Common.{◌≡◌, ◌++◌, map, take}
use Rattle.pipe_base.specs.declared.name.LinkId.{LinkId}
use Rattle.pipe_base.specs.Packets.{beacon}
use Rattle.pipe_base.proofs.puts.add_beacons.Given as goal

abbrev pub invariant-links : goal.invariant-links
invariant-links l =
    l.puts ≡ l.initial.puts ++ map (λ (link : LinkId). (link, beacon (record { be = l.be.0; commit = l.commit.0 }))) (take l.link-index l.links)
