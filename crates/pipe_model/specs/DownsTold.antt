-- What a report of a link that is down tells: the head of the link put it, and the link has the reported value as its mark.
use Rattle.std.specs.Prelude.{◌≡◌, List, [], ◌∷◌, ◌++◌, All, Contains, Some}
use Rattle.pipe_base.specs.declared.control.Addressed.{Addressed}
use Rattle.pipe_base.specs.declared.control.Control.TheVariants.{Down}
use Rattle.pipe_base.specs.declared.name.LinkId.{LinkId}
use Rattle.pipe_base.specs.declared.name.Ts.{Ts}
use Rattle.pipe_graph.specs.Graph.{Graph, head_of}
use Rattle.pipe_model.specs.declared.record.Record.{Record}
use Rattle.pipe_model.specs.Acting.{own}
use Rattle.pipe_model.specs.Marks.{mark}
use Rattle.pipe_model.specs.Waiting.{waiting_control}

-- all control messages that a node put by its own records, in order
abbrev pub control_put : List Record → List Addressed
control_put [] = []
control_put (r ∷ own) = control_put own ++ r.step.control

-- by its own records the node put the message, and has the link marked with the value
pub record HasTold (own : List Record) (link : LinkId) (value : Ts) (message : Addressed) : Type 0 where
  pub put : Contains (control_put own) message
  pub marked : mark own link.0 ≡ Some value

-- where the message reports a link with a value, the head of the link told so
abbrev pub IsDownTrue : Graph → List Record → Addressed → Type 0
IsDownTrue graph past message =
    (link : LinkId) (value : Ts) → message.control ≡ Down link value
    → HasTold (own graph (head_of graph link.0) past) link value message

-- Reports are true: each that waits was put by the head of its link, and tells the mark of the link.
abbrev pub AreDownsTrue : Graph → List Record → Type 0
AreDownsTrue graph past = All (IsDownTrue graph past) (waiting_control past)
