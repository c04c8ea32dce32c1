use Rattle.std.proofs.Common.{ℕ, ◌==◌, Bool, false, not, List, bit_and, ap, sym, ◌∙◌}
use Rattle.std.proofs.lemmas.Nat.{one_shl}
use Rattle.std.proofs.lemmas.Nat.Bits.{and_pow}
use Rattle.pipe_topo.specs.Sets.{has}
use Rattle.pipe_topo.proofs.DigitLaws.{get_or-digits, bit_is}
use Rattle.pipe_topo.proofs.hosts.HostSet.has.Goals as goal

pub returns : goal.returns
returns c =
    let bits = c.self.inside.bits in
    let host = c.args.host.0 in
    ap (λ (n : ℕ). not (n == 0)) (ap (bit_and bits) (one_shl host 64 c.requires) ∙ and_pow bits host)
    ∙ bit_is bits host
    ∙ sym (get_or-digits 64 bits host false c.requires)
    ∙ ap (λ (bs : List Bool). has bs host) c.self.view_is
