-- What the types of the code stand for.
use Rattle.std.specs.Prelude.{map}
use Rattle.pipe_text_plan.specs.declared.division.Parts.{Parts}
use Rattle.pipe_text_plan.specs.declared.document.Texts.{Texts}
use Rattle.pipe_text_plan.specs.declared.read.PlanInput.{PlanInput}
use Rattle.pipe_text_plan.specs.Described.{Described, Document}
use Rattle.pipe_text_plan.specs.Division.{Division}

-- the parts of an input
abbrev pub division_view : Parts → Division
division_view parts = record { star = parts.star; topology = parts.topology.now; rest = parts.rest.now; line = parts.line }

-- the texts of the four keys
abbrev pub document_view : Texts → Document
document_view texts = record {
  hosts = map (λ text. text.now) texts.hosts.items;
  switches = map (λ text. text.now) texts.switches.items;
  cables = map (λ text. text.now) texts.cables.items;
  patience = texts.patience;
}

-- names and plan of what was read
abbrev pub described_view : PlanInput → Described
described_view input = record { names = input.names; plan = input.plan }
