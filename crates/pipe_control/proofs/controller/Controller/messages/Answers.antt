use Rattle.std.proofs.Common.{List, ◌++◌, ap, ◌∙◌}
use Rattle.pipe_base.specs.declared.control.Addressed.{Addressed}
use Rattle.pipe_control.specs.Known.{view_of}
use Rattle.pipe_model.specs.Decision.{drops, freezes, notices}
use Rattle.pipe_control.proofs.controller.Controller.messages.Goals as goal

pub returns : goal.returns
returns c =
    let g = c.args.topology.now in
    let v = view_of c.args.self.now in
    c.in_ok-put_drops.ensures
    ∙ ap (λ (xs : List Addressed). xs ++ drops g v)
    (c.in_ok-put_notices.ensures ∙ ap (λ (xs : List Addressed). xs ++ notices g v) (c.in_ok-put_freezes.ensures ∙ ap (λ (xs : List Addressed). xs ++ freezes g v) c.new-put.ensures))
