use Rattle.pipe_net.proofs.BlockLaws.{item_there}
use Rattle.pipe_net.proofs.blocks.at.Goals as goal

pub returns : goal.returns
returns g c = λ n at. item_there c.args.blocks.now.items n c.args.place c.index.result.now c.index-2.result.now at c.index.ensures c.index-2.ensures
