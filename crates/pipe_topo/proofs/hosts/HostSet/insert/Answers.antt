use Rattle.std.proofs.Common.{◌*◌, ◌%◌, ◌^◌, Bool, true, List, set, ap, ◌∙◌, arith}
use Rattle.std.proofs.lemmas.Nat.{or_lt}
use Rattle.pipe_topo.proofs.DigitLaws.{digits_set}
use Rattle.pipe_topo.proofs.hosts.HostSet.insert.Goals as goal

pub invariant_of-self : goal.invariant_of-self
invariant_of-self c = or_lt 64 c.self.inside.bits (1 * 2 ^ c.args.host.0 % 2 ^ 64) c.self.invariant (omega arith)

pub returns : goal.returns
returns c = digits_set c.self.inside.bits c.args.host.0 c.requires ∙ ap (λ (bs : List Bool). set bs c.args.host.0 true) c.self.view_is
