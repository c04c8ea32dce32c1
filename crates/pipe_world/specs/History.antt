-- The records so far, and the count of what they put.
use Rattle.std.specs.Prelude.{◌≡◌, ℕ, ◌+◌, ◌<◌, ◌≤◌, List}
use Rattle.pipe_model.specs.declared.record.Record.{Record}
use Rattle.pipe_base.specs.Limits.{most_items}
use Rattle.pipe_model.specs.Items.{IsOver, items_in, items_of}
use Rattle.pipe_world.specs.declared.fault.StepFault.{StepFault}
use Rattle.pipe_world.specs.declared.fault.StepFault.TheVariants.{Full}

-- the count is of what was put, and within the limit
pub record IsCounted (items : ℕ) (trace : List Record) : Type 0 where
  pub count_is : items ≡ items_of trace
  pub within : items ≤ most_items

-- where a fault is that there is too much, the record would have been too much
abbrev pub FullBy : List Record → Record → StepFault → Type 0
FullBy trace r fault = (items : ℕ) → fault ≡ Full items → IsOver trace r items

-- too much is told as such, whether there is memory or not
abbrev pub IsToldFull : List Record → Record → StepFault → Type 0
IsToldFull trace r fault = most_items < items_of trace + items_in r → fault ≡ Full (items_of trace + items_in r)
