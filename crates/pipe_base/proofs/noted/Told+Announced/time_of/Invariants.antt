use Rattle.std.proofs.Common.{◌≡◌, drop}
use Rattle.pipe_base.specs.Failed.{time_of}
use Rattle.pipe_base.proofs.noted.Told+Announced.time_of.Given as goal

abbrev pub invariant-entries : goal.invariant-entries
invariant-entries l = time_of l.host.0 (drop l.entry-index l.self) ≡ time_of l.fn.host.0 l.fn.self
