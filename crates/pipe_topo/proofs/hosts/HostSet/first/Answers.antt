use Rattle.std.proofs.Common.{◌≡◌, ℕ, ◌-◌, ◌<◌, ◌++◌, true, false, replicate, sym, ap, subst, ◌∙◌, arith}
use Rattle.std.proofs.lemmas.Nat.{one_shl}
use Rattle.pipe_topo.specs.Digits.{digits}
use Rattle.pipe_topo.proofs.DigitLaws.{low_digits}
use Rattle.pipe_topo.proofs.hosts.HostSet.first.Goals as goal

pub returns-then-hosts-eq64 : goal.returns-then-hosts-eq64
returns-then-hosts-eq64 c =
    subst (λ (hosts : ℕ). digits 64 18446744073709551615 ≡ replicate hosts true ++ replicate (64 - hosts) false) (sym c.if-hosts-eq64.true)
    (low_digits 64 64 (omega arith))

pub returns-else-hosts-eq64 : goal.returns-else-hosts-eq64
returns-else-hosts-eq64 c =
    let apart = c.if-hosts-eq64.false in
    let few = c.requires in
    let below : c.args.hosts < 64 = omega arith in
    ap (λ (n : ℕ). digits 64 (n - 1)) (one_shl c.args.hosts 64 below) ∙ low_digits 64 c.args.hosts few
