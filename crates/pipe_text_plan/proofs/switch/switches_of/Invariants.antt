use Rattle.std.proofs.Common.{◌≡◌, map, drop, vec_len}
use Rattle.pipe_text_plan.specs.ReadAll.{read_all}
use Rattle.pipe_text_plan.specs.Switch.{switch_of}
use Rattle.pipe_text_plan.proofs.ReadLaws.{read_after}
use Rattle.pipe_text_plan.proofs.switch.switches_of.Given as goal

abbrev pub invariant-texts : goal.invariant-texts
invariant-texts l = record {
  so_far : read_all switch_of (map (λ text. text.now) l.texts) ≡ read_after l.text-index (map (λ switch. (switch.0.now, switch.1)) l.switches.items) (read_all switch_of (drop l.text-index (map (λ text. text.now) l.texts)));
  count : vec_len l.switches ≡ l.text-index;
}
