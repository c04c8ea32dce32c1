use Rattle.pipe_model.specs.AllOrNone.{IsInAllOrNone, IsPassed, key_from}
use Rattle.pipe_model_runs.proofs.RecordOrder.{causal_by_hosts, causal_in_order, numbers_rise, all_by_hosts, all_in_order}
use Rattle.pipe_model_runs.proofs.order_of_records_says_the_same.Goals as goal

pub returns : goal.returns
returns c = record {
  in_order = numbers_rise;
  all_or_none = λ graph past. (
    all_in_order (λ host s. IsPassed graph past s → IsInAllOrNone graph past s (key_from host s)) graph past,
    all_by_hosts (λ host s. IsPassed graph past s → IsInAllOrNone graph past s (key_from host s)) graph past,
  );
  causality = λ graph past. (causal_in_order graph past, causal_by_hosts graph past);
}
