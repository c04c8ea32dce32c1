use Rattle.std.proofs.Common.{List, ap, ◌∙◌}
use Rattle.std.specs.List.{list_any}
use Rattle.pipe_relsend.specs.Pending.{Pending}
use Rattle.pipe_relsend.proofs.SendingLaws.{recalling_is}
use Rattle.pipe_relsend.proofs.sender.Sender.is_recalling.Goals as goal

pub returns-clause-stands : goal.returns-clause-stands
returns-clause-stands c = λ calls stands.
    c.any_recalled.ensures ∙ ap (λ (ps : List Pending). list_any (λ p. p.recalled) ps) (c.as_slice.ensures.value ∙ c.self.view_is) ∙ recalling_is calls c.args.self.now stands
