use Rattle.std.proofs.Common.{List, Bool, false, ap}
use Rattle.pipe_relsend.specs.Pending.{Pending}
use Rattle.pipe_relsend.proofs.MarkLaws.{no_marks_yet}
use Rattle.pipe_relsend.proofs.scattering.Preparing.start.Goals as goal

pub returns : goal.returns
returns c = ap {B = Pending} (λ (bs : List Bool). record { ts = c.args.ts; dests = c.args.dests; marks = bs; recalled = false }) (no_marks_yet 16 c.args.dests c.requires.few)
