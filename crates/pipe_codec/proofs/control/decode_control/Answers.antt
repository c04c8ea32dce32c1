use Rattle.std.proofs.Common.{List, ℕ, sym, subst, ◌∙◌, arith}
use Rattle.std.proofs.lemmas.Result.{err_from_is_err_and}
use Rattle.pipe_codec.specs.Control.{IsReadAs}
use Rattle.pipe_codec.proofs.ControlLaws.{bytes-same, fault-not_bytes, fault-whole, read-spells}
use Rattle.pipe_codec.proofs.control.decode_control.Goals as goal

pub returns-in_err-kind-clause-again : goal.returns-in_err-kind-clause-again
returns-in_err-kind-clause-again c = λ a is same. absurd (fault-not_bytes a _ _ is same c.in_err-kind.ensures)

pub returns-in_err-control-clause-fault : goal.returns-in_err-control-clause-fault
returns-in_err-control-clause-fault c =
    let none = fault-whole c.in_ok-kind.kind c.args.bytes.now c.in_ok-kind.ensures in
    let p = err_from_is_err_and c.from_residual-in_err-control.result c.from_residual-in_err-control.ensures.1 in
    rw (p.1, p.2) (λ bad. (λ e. absurd cc, λ e. absurd cc))

pub returns-clause-fault : goal.returns-clause-fault
returns-clause-fault c =
    let none = fault-whole c.in_ok-kind.kind c.args.bytes.now c.in_ok-kind.ensures in
    λ bad. (λ e. absurd cc, λ e. absurd cc)

pub returns-clause-value : goal.returns-clause-value
returns-clause-value c =
    read-spells c.in_ok-kind.kind c.args.bytes.now c.receiver-to.result c.in_ok-control.control (λ i. omega (arith, c.type_inv.bytes i)) c.in_ok-kind.ensures
    (c.receiver-to.ensures.number ∙ c.two_at.ensures) c.receiver-to.ensures.fits
    (subst (λ (xs : List ℕ). IsReadAs c.in_ok-kind.kind xs c.in_ok-control.control) c.split_at.ensures.back c.in_ok-control.ensures)

pub returns-clause-again : goal.returns-clause-again
returns-clause-again c = λ a is same.
    let spells =
    read-spells c.in_ok-kind.kind c.args.bytes.now c.receiver-to.result c.in_ok-control.control (λ i. omega (arith, c.type_inv.bytes i)) c.in_ok-kind.ensures
    (c.receiver-to.ensures.number ∙ c.two_at.ensures) c.receiver-to.ensures.fits
    (subst (λ (xs : List ℕ). IsReadAs c.in_ok-kind.kind xs c.in_ok-control.control) c.split_at.ensures.back c.in_ok-control.ensures) in
    bytes-same _ a spells.0 is (spells.1 ∙ sym same)
