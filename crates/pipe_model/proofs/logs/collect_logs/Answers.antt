use Rattle.std.proofs.Common.{◌≡◌, List, length, reverse, take, ap, subst, rules, arith, sym, ◌∙◌}
use Rattle.std.proofs.lemmas.List.{take_all, take_at}
use Rattle.pipe_model.specs.declared.logs.Log.{Log}
use Rattle.pipe_model.specs.declared.record.Record.{Record}
use Rattle.pipe_model.specs.Collected.{AreLogs}
use Rattle.pipe_model.proofs.Collecting.{record_more}
use Rattle.pipe_model.proofs.logs.collect_logs.Goals as goal

pub records-init : goal.records-init
records-init c = (c.in_ok-all.ensures.size, λ graph same. c.in_ok-all.ensures.logs graph)

pub records-preserved : goal.records-preserved
records-preserved c =
    let logs : List Log = c.add_record.new.all in
    let grown : length logs ≡ c.records.all.len = search rules in
    let size : c.records.all.len ≡ c.args.hosts = search (rules, c.records.invariant.0) in (
      ap length (take_at logs _ c.records.all.len grown) ∙ grown ∙ size,
      λ graph same.
          record_more graph c.args.hosts c.records.record-index c.records.all.len c.as_slice-record-items.result.now c.record-item.result logs _
          (omega arith) c.record-item.is grown
          (c.in_ok-add_record.ensures graph _ same (subst (λ (all : List Log). AreLogs graph c.args.hosts (reverse (take c.records.record-index c.as_slice-record-items.result.now)) all)
          (sym c.deref_mut.ensures.value) (c.records.invariant.1 graph same))),
    )

pub returns-clause-logs : goal.returns-clause-logs
returns-clause-logs c = λ graph same.
    let items : List Record = c.as_slice-record-items.result.now in
    let all : take c.records.record-index items ≡ c.args.trace.now = take_all c.records.record-index items (omega arith) ∙ c.as_slice-record-items.ensures in
    subst (λ (trace : List Record). AreLogs graph c.args.hosts (reverse trace) c.records.all.items) all (c.records.invariant.1 graph same)
