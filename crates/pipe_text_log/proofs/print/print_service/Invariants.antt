use Rattle.std.proofs.Common.{◌≡◌, ◌++◌, drop}
use Rattle.std.specs.List.{flat_map}
use Rattle.pipe_model.specs.Collected.{entries}
use Rattle.pipe_text_log.specs.LogText.{entry_text}
use Rattle.pipe_text_log.proofs.print.print_service.Given as goal

abbrev pub invariant-entries : goal.invariant-entries
invariant-entries l =
    l.out.items ++ flat_map (entry_text l.names) (entries (drop l.entry-index l.log)) ≡ l.initial.out.items ++ flat_map (entry_text l.names) (entries l.log)
