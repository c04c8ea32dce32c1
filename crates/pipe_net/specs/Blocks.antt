-- A list in blocks.
use Rattle.std.specs.Prelude.{◌≡◌, ℕ, ◌+◌, ◌<◌, List, length, take, slice_index_or}
use Rattle.std.specs.List.{flat_map}
use Rattle.std.specs.VecDeque.{deque_items}
use Rattle.std.specs.declared.collections.VecDeque.{VecDeque}
use Rattle.pipe_net.specs.declared.blocks.Place.{Place}

-- the items of all blocks, in order
abbrev pub joined : {X Z : Type 0} → List (VecDeque X Z) → List X
joined blocks = flat_map deque_items blocks

-- where a place of the whole list is
pub record IsPlace {X Z : Type 0} (blocks : List (VecDeque X Z)) (n : ℕ) (place : Place) : Type 0 where
  pub known : place.block < length blocks
  pub within : (d : VecDeque X Z) → place.at < length (deque_items (slice_index_or blocks place.block d))
  pub before : length (joined (take place.block blocks)) + place.at ≡ n
