use Rattle.std.proofs.Common.{◌≡◌, ◌+◌, ◌-◌, ◌≤◌, length, take}
use Rattle.pipe_net.specs.Blocks.{joined}
use Rattle.pipe_net.proofs.blocks.find.Given as goal

abbrev pub invariant-counts : goal.invariant-counts
invariant-counts g l = record {
  known : l.block ≤ l.last;
  place_is : length (joined (take l.block l.blocks.items)) + l.at ≡ l.place;
}

abbrev pub decreases-counts : goal.decreases-counts
decreases-counts g l = length l.blocks.items - l.block
