use Rattle.std.proofs.Common.{◌≡◌, ◌<◌, ◌↔◌, ℕ, List, length, subst, Err}
use Rattle.pipe_base.specs.declared.body.BodyFault.TheVariants.{TooLong}
use Rattle.pipe_base.specs.Limits.{most_body}
use Rattle.pipe_base.proofs.body.Body.new.Goals as goal

pub returns-clause-too_long : goal.returns-clause-too_long
returns-clause-too_long c =
    subst (λ (bs : List ℕ). (n : ℕ) → (c.from_vec.result ≡ Err (TooLong n)) ↔ ((most_body < length bs) × (n ≡ length bs))) c.in-Ok.ensures.items c.from_vec.ensures.too_long
