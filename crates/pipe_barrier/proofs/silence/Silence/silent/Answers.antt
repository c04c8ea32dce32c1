use Rattle.std.proofs.Common.{◌≡◌, Some, None, ◌∙◌}
use Rattle.pipe_barrier.proofs.Quieting.{silent_is}
use Rattle.pipe_barrier.proofs.silence.Silence.silent.Goals as goal

pub returns-in-Some : goal.returns-in-Some
returns-in-Some c ins patience calls stands =
    let patience_is : c.self.inside.patience.0 ≡ patience = cc in
    c.is_silent.ensures
    ∙ silent_is ins patience calls c.self.inside.patience.0 c.args.link c.args.now.0 c.args.self.now.links (Some c.in-Some.quiet.now) patience_is stands.links_are c.in-Some.ensures

pub returns-in-None : goal.returns-in-None
returns-in-None c ins patience calls stands =
    silent_is ins patience calls c.args.self.now.patience c.args.link c.args.now.0 c.args.self.now.links None stands.patience_is stands.links_are c.in-None.ensures
