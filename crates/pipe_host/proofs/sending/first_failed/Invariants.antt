use Rattle.std.proofs.Common.{◌≡◌, drop}
use Rattle.pipe_model.specs.OwnOutcome.{first_failed}
use Rattle.pipe_host.proofs.sending.first_failed.Given as goal

abbrev pub invariant-dests : goal.invariant-dests
invariant-dests l = first_failed l.noted (drop l.host-index l.dests) ≡ first_failed l.fn.noted l.fn.dests
