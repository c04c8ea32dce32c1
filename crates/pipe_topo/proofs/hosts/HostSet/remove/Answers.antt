use Rattle.std.proofs.Common.{Bool, false, List, set, ap, ◌∙◌}
use Rattle.pipe_topo.proofs.DigitLaws.{digits_clear}
use Rattle.pipe_topo.proofs.hosts.HostSet.remove.Goals as goal

pub returns : goal.returns
returns c = digits_clear c.self.inside.bits c.args.host.0 c.requires ∙ ap (λ (bs : List Bool). set bs c.args.host.0 false) c.self.view_is
