use Rattle.std.proofs.Common.{◌≡◌, map, drop, vec_len}
use Rattle.pipe_text_plan.specs.ReadAll.{read_all}
use Rattle.pipe_text_plan.specs.Cable.{cable_of}
use Rattle.pipe_text_plan.proofs.ReadLaws.{read_after}
use Rattle.pipe_text_plan.proofs.cable.cables_of.Given as goal

abbrev pub invariant-texts : goal.invariant-texts
invariant-texts l = record {
  so_far : read_all (cable_of l.hosts l.names) (map (λ text. text.now) l.texts) ≡ read_after l.text-index l.cables.items (read_all (cable_of l.hosts l.names) (drop l.text-index (map (λ text. text.now) l.texts)));
  count : vec_len l.cables ≡ l.text-index;
}
