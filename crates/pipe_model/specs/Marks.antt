-- What a record lists of links that leave their use and of failed hosts that are noted, and the marks of a node.
use Rattle.std.specs.Prelude.{ℕ, ◌==◌, ◌&&◌, if◌then◌else◌, List, [], ◌∷◌, ◌++◌, Option}
use Rattle.std.specs.Map.{lookup}
use Rattle.pipe_base.specs.declared.name.LinkId.{LinkId}
use Rattle.pipe_base.specs.declared.name.Ts.{Ts}
use Rattle.pipe_base.specs.declared.control.Announced.{Announced}
use Rattle.pipe_base.specs.declared.control.Control.{Control}
use Rattle.pipe_base.specs.declared.control.Control.TheVariants.{DropLinks, Freeze, Notice}
use Rattle.pipe_base.specs.Failed.{past_known}
use Rattle.pipe_graph.specs.Graph.{Graph, ins_of, is_host}
use Rattle.pipe_base.specs.Moment.{Moment, has_link, is_up}
use Rattle.pipe_base.specs.Silence.{mark_of, silent_marks}
use Rattle.pipe_model.specs.declared.event.Event.{Event}
use Rattle.pipe_model.specs.declared.event.Event.TheVariants.{ControlTake, Tick}
use Rattle.pipe_model.specs.declared.record.Record.{Record}
use Rattle.pipe_model.specs.declared.record.Took.{Took}
use Rattle.pipe_model.specs.declared.record.Took.TheVariants.{Message}
use Rattle.pipe_model.specs.Moments.{known_drops, moments_of, noted_hosts, quiet_calls}

-- what a control message takes down: a freeze its link, where that is an in-link that is up; no other message any
abbrev pub told_marks : List LinkId → List Moment → Control → List (LinkId × Ts)
told_marks ins moments (Freeze l) = if has_link l.0 ins && is_up moments l.0 then mark_of moments l ∷ [] else []
told_marks ins moments _ = []

-- by the event: a tick takes the silent links down, a control message what it tells
abbrev pub downed_by : Graph → ℕ → List Record → Event → Took → List (LinkId × Ts)
downed_by graph node own (Tick n now) took =
    silent_marks graph.patience (ins_of graph node) (moments_of graph node own) (quiet_calls graph node own) now.0
downed_by graph node own (ControlTake place keep) (Message a) =
    told_marks (ins_of graph node) (moments_of graph node own) a.control
downed_by graph node own _ _ = []

-- The links that go down in a record, each with the greatest commit barrier received on it.
abbrev pub downed : Graph → ℕ → List Record → Record → List (LinkId × Ts)
downed graph node own r = downed_by graph node own r.event r.took

-- what a control message tells of dropped links: those past the number that are known, no other message any
abbrev pub told_drops : List LinkId → Control → List LinkId
told_drops known (DropLinks links) = past_known known links
told_drops known _ = []

-- by the event
abbrev pub drops_by : List LinkId → Event → Took → List LinkId
drops_by known (ControlTake place keep) (Message a) = told_drops known a.control
drops_by known _ _ = []

-- The links that the node comes to know as dropped.
abbrev pub newly_dropped : Graph → ℕ → List Record → Record → List LinkId
newly_dropped graph node own r = drops_by (known_drops own) r.event r.took

-- what a control message tells of failed hosts: a notice those past the number that are noted, no other message any
abbrev pub told_hosts : List Announced → Control → List Announced
told_hosts noted (Notice list) = past_known noted list
told_hosts noted _ = []

-- by the event
abbrev pub noted_by : List Announced → Event → Took → List Announced
noted_by noted (ControlTake place keep) (Message a) = told_hosts noted a.control
noted_by noted _ _ = []

-- The failed hosts that a host notes. A half notes none.
abbrev pub newly_noted : Graph → ℕ → List Record → Record → List Announced
newly_noted graph node own r = if is_host graph node then noted_by (noted_hosts own) r.event r.took else []

-- the links that a node has taken down, each with its value, in the order of going down
abbrev pub marks : List Record → List (LinkId × Ts)
marks [] = []
marks (r ∷ own) = marks own ++ r.step.downed

-- The mark of a link, if it was taken down: the value beside it in the list that names it.
abbrev pub mark : List Record → ℕ → Option Ts
mark own link = lookup (λ l. l.0 == link) (marks own)
