use Rattle.std.proofs.Common.{sym, ◌∙◌, arith}
use Rattle.pipe_codec.proofs.PacketLaws.{IsRead, bytes-same, fault-not_bytes, read-none, read-other_length, read-spells, read-unfit}
use Rattle.pipe_codec.proofs.packet.decode.Goals as goal

pub returns-in_err-kind-clause-again : goal.returns-in_err-kind-clause-again
returns-in_err-kind-clause-again c = λ p is same. absurd (fault-not_bytes p _ _ is same c.in_err-kind.ensures)

pub returns-then-not-fields_fit-clause-fault : goal.returns-then-not-fields_fit-clause-fault
returns-then-not-fields_fit-clause-fault c =
    let read : IsRead _ _ _ _ = record { header = c.in_ok-kind.ensures; fields = c.read_fields-packet.ensures; len_is = c.from-body.ensures ∙ c.two_at.ensures } in
    sym (read-unfit _ _ _ _ read (sym c.fields_fit.ensures ∙ c.if-not-fields_fit.true))

pub returns-then-not-fields_fit-clause-again : goal.returns-then-not-fields_fit-clause-again
returns-then-not-fields_fit-clause-again c = λ p is same.
    let read : IsRead _ _ _ _ = record { header = c.in_ok-kind.ensures; fields = c.read_fields-packet.ensures; len_is = c.from-body.ensures ∙ c.two_at.ensures } in
    fault-not_bytes p _ _ is same (read-unfit _ _ _ _ read (sym c.fields_fit.ensures ∙ c.if-not-fields_fit.true))

pub returns-then-packet-body-clause-fault : goal.returns-then-packet-body-clause-fault
returns-then-packet-body-clause-fault c =
    let read : IsRead _ _ _ _ = record { header = c.in_ok-kind.ensures; fields = c.read_fields-packet.ensures; len_is = c.from-body.ensures ∙ c.two_at.ensures } in
    sym (read-other_length _ _ _ _ read (sym c.fields_fit.ensures ∙ c.if-not-fields_fit.false) c.if-packet-body.true)

pub returns-then-packet-body-clause-again : goal.returns-then-packet-body-clause-again
returns-then-packet-body-clause-again c = λ p is same.
    let read : IsRead _ _ _ _ = record { header = c.in_ok-kind.ensures; fields = c.read_fields-packet.ensures; len_is = c.from-body.ensures ∙ c.two_at.ensures } in
    fault-not_bytes p _ _ is same (read-other_length _ _ _ _ read (sym c.fields_fit.ensures ∙ c.if-not-fields_fit.false) c.if-packet-body.true)

pub returns-clause-fault : goal.returns-clause-fault
returns-clause-fault c =
    let read : IsRead _ _ _ _ = record { header = c.in_ok-kind.ensures; fields = c.read_fields-packet.ensures; len_is = c.from-body.ensures ∙ c.two_at.ensures } in
    sym (read-none _ _ _ _ read (sym c.fields_fit.ensures ∙ c.if-not-fields_fit.false) c.if-packet-body.false)

pub returns-clause-value : goal.returns-clause-value
returns-clause-value c =
    let read : IsRead _ _ _ _ = record { header = c.in_ok-kind.ensures; fields = c.read_fields-packet.ensures; len_is = c.from-body.ensures ∙ c.two_at.ensures } in
    read-spells _ _ _ _ (λ i. omega (arith, c.type_inv.bytes i)) read (sym c.fields_fit.ensures ∙ c.if-not-fields_fit.false) c.if-packet-body.false

pub returns-clause-again : goal.returns-clause-again
returns-clause-again c = λ p is same.
    let read : IsRead _ _ _ _ = record { header = c.in_ok-kind.ensures; fields = c.read_fields-packet.ensures; len_is = c.from-body.ensures ∙ c.two_at.ensures } in
    let spells = read-spells _ _ _ _ (λ i. omega (arith, c.type_inv.bytes i)) read (sym c.fields_fit.ensures ∙ c.if-not-fields_fit.false) c.if-packet-body.false in
    bytes-same _ p spells.0 is (spells.1 ∙ sym same)
