use Rattle.std.proofs.Common.{◌≡◌, ◌≤◌, ◌-◌, vec_len}
use Rattle.std.specs.Io.KnownBytes.{Consumes}
use Rattle.pipe_cli.proofs.read.read_all.Given as goal

-- what was read so far
abbrev pub invariant-reading : goal.invariant-reading
invariant-reading g l = record {
  consumed : Consumes (g.S.Source.left l.initial.source) (g.S.Source.left l.source) l.bytes.items;
  limit : vec_len l.bytes ≤ 67108865;
  steady : g.S.Source.faults l.source ≡ g.S.Source.faults l.initial.source;
}

abbrev pub decreases-reading : goal.decreases-reading
decreases-reading g l = 67108865 - vec_len l.bytes
