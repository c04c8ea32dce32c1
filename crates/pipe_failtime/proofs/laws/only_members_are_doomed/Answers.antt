use Rattle.std.proofs.Common.{inl, inr, sym, ◌∙◌, true≢false}
use Rattle.pipe_failtime.proofs.RoundLaws.{rounds_doom}
use Rattle.pipe_failtime.proofs.laws.only_members_are_doomed.Goals as goal

pub returns : goal.returns
returns c = λ g by members before host is isnt. elim (rounds_doom g by members before g.hosts host is) [
  | inl was ↦ absurd (true≢false (sym was ∙ isnt))
  | inr member ↦ member
]
