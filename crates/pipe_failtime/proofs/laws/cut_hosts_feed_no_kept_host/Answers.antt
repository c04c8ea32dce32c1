use Rattle.pipe_failtime.proofs.CutLaws.{cut_feeds_none}
use Rattle.pipe_failtime.proofs.laws.cut_hosts_feed_no_kept_host.Goals as goal

pub returns : goal.returns
returns c = cut_feeds_none
