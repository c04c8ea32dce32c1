use Rattle.std.proofs.Common.{◌∙◌}
use Rattle.pipe_barrier.proofs.in_links.InLinks.barriers_without.Goals as goal

pub returns : goal.returns
returns c ins patience moments calls stands =
    let after = c.in_ok-registers.ensures ins patience moments calls stands in
    record {
      be_is = c.barriers-2.ensures.be ∙ after.be_is;
      commit_is = c.barriers-2.ensures.commit ∙ after.commit_is;
    }
