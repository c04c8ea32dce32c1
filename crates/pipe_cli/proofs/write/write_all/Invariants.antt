use Rattle.std.proofs.Common.{◌≡◌, ◌≤◌, ◌-◌, length, take}
use Rattle.std.specs.Io.KnownBytes.{Appends}
use Rattle.pipe_cli.proofs.write.write_all.Given as goal

-- what was written so far
abbrev pub invariant-writing : goal.invariant-writing
invariant-writing g l = record {
  within : l.at ≤ length l.text;
  written : Appends (g.K.Sink.written l.initial.sink) (g.K.Sink.written l.sink) (take l.at l.text);
  steady : g.K.Sink.faults l.sink ≡ g.K.Sink.faults l.initial.sink;
}

abbrev pub decreases-writing : goal.decreases-writing
decreases-writing g l = length l.text - l.at
