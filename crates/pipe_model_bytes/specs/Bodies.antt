-- The bodies that are sent are short: no longer than a body may be.
use Rattle.std.specs.Prelude.{◌≤◌, List, All, length}
use Rattle.pipe_base.specs.Limits.{most_body}
use Rattle.pipe_model.specs.declared.event.Event.{Event}
use Rattle.pipe_model.specs.declared.event.Event.TheVariants.{Send}
use Rattle.pipe_model.specs.declared.record.Record.{Record}

abbrev pub HasShortBodies : Event → Type 0
HasShortBodies (Send host service now dests) = All (λ d. length d.1 ≤ most_body) dests
HasShortBodies _ = Unit {0}

abbrev pub AreBodiesShort : List Record → Type 0
AreBodiesShort past = All (λ r. HasShortBodies r.event) past
