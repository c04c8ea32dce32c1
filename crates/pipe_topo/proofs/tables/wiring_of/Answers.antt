use Rattle.std.proofs.Common.{ℕ, ◌+◌, ◌*◌, length, ap}
use Rattle.pipe_topo.proofs.TableLaws.{made_few, made_heads, made_tails, made_tables}
use Rattle.pipe_topo.proofs.tables.wiring_of.Goals as goal

pub ins_table-requires-clause-few : goal.ins_table-requires-clause-few
ins_table-requires-clause-few c =
    made_few c.args.plan.now c.requires c.as_slice-levels.result.now c.as_slice.result.now c.in_ok-links.links.items c.as_slice-listed.result.now (c.from.result + 2 * length c.as_slice-levels.result.now)
    c.as_slice-levels.ensures c.as_slice.ensures c.in_ok-links.ensures c.as_slice-listed.ensures.value (ap (λ (n : ℕ). n + 2 * length c.as_slice-levels.result.now) c.from.ensures)

pub ins_table-requires-clause-known : goal.ins_table-requires-clause-known
ins_table-requires-clause-known c =
    made_heads c.args.plan.now c.requires c.as_slice-levels.result.now c.as_slice.result.now c.in_ok-links.links.items c.as_slice-listed.result.now (c.from.result + 2 * length c.as_slice-levels.result.now)
    c.as_slice-levels.ensures c.as_slice.ensures c.in_ok-links.ensures c.as_slice-listed.ensures.value (ap (λ (n : ℕ). n + 2 * length c.as_slice-levels.result.now) c.from.ensures)

pub outs_table-requires-clause-few : goal.outs_table-requires-clause-few
outs_table-requires-clause-few c =
    made_few c.args.plan.now c.requires c.as_slice-levels.result.now c.as_slice.result.now c.in_ok-links.links.items c.as_slice-listed.result.now (c.from.result + 2 * length c.as_slice-levels.result.now)
    c.as_slice-levels.ensures c.as_slice.ensures c.in_ok-links.ensures c.as_slice-listed.ensures.value (ap (λ (n : ℕ). n + 2 * length c.as_slice-levels.result.now) c.from.ensures)

pub outs_table-requires-clause-known : goal.outs_table-requires-clause-known
outs_table-requires-clause-known c =
    made_tails c.args.plan.now c.requires c.as_slice-levels.result.now c.as_slice.result.now c.in_ok-links.links.items c.as_slice-listed.result.now (c.from.result + 2 * length c.as_slice-levels.result.now)
    c.as_slice-levels.ensures c.as_slice.ensures c.in_ok-links.ensures c.as_slice-listed.ensures.value (ap (λ (n : ℕ). n + 2 * length c.as_slice-levels.result.now) c.from.ensures)

pub invariant_of-result : goal.invariant_of-result
invariant_of-result c =
    made_tables c.args.plan.now c.requires c.as_slice-levels.result.now c.as_slice.result.now c.in_ok-links.links.items c.as_slice-listed.result.now (c.from.result + 2 * length c.as_slice-levels.result.now)
    c.as_slice-levels.ensures c.as_slice.ensures c.in_ok-links.ensures c.as_slice-listed.ensures.value (ap (λ (n : ℕ). n + 2 * length c.as_slice-levels.result.now) c.from.ensures)
    c.in_ok-ins.ins.items c.in_ok-outs.outs.items c.in_ok-ins.ensures c.in_ok-outs.ensures
