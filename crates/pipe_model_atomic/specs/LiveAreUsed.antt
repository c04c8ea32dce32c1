-- A link that counts is in commit use at its head: the head does not know it as dropped.
use Rattle.std.specs.Prelude.{◌≡◌, ℕ, true, List}
use Rattle.pipe_graph.specs.Graph.{Graph, head_of}
use Rattle.pipe_base.specs.Moment.{is_retained}
use Rattle.pipe_model.specs.declared.record.Record.{Record}
use Rattle.pipe_model.specs.Acting.{own}
use Rattle.pipe_model.specs.Controller.{is_live}
use Rattle.pipe_model.specs.Moments.{moments_of}

abbrev pub AreLiveUsed : Graph → List Record → Type 0
AreLiveUsed graph past = (link : ℕ) → is_live graph past link ≡ true
    → is_retained (moments_of graph (head_of graph link) (own graph (head_of graph link) past)) link ≡ true
