-- What a topology part describes, or its first fault.
use Rattle.std.specs.Prelude.{ℕ, min, nat_lt, ◌≤◌, if◌then◌else◌, List, ◌++◌, length, map, codes, Option, None, Some, Result, Ok, Err}
use Rattle.std.specs.Option.{option_or}
use Rattle.toml.specs.Data.{Members}
use Rattle.pipe_text.specs.Words.{words_of}
use Rattle.pipe_topo.specs.declared.fault.TopoFault.{TopoFault}
use Rattle.pipe_topo.specs.declared.fault.TopoFault.TheVariants.{TooMany}
use Rattle.pipe_topo.specs.declared.fault.What.{What}
use Rattle.pipe_topo.specs.declared.fault.What.TheVariants as what
use Rattle.pipe_topo.specs.declared.plan.CableEnd.{CableEnd}
use Rattle.pipe_topo.specs.declared.plan.Plan.{Plan}
use Rattle.pipe_topo.specs.Fault.{fault_of}
use Rattle.pipe_topo.specs.NodeNames.{node_names}
use Rattle.pipe_topo.specs.Star.{star_plan}
use Rattle.pipe_text_plan.specs.declared.fault.KeyName.TheVariants as key
use Rattle.pipe_text_plan.specs.declared.fault.PlanFault.{PlanFault}
use Rattle.pipe_text_plan.specs.declared.fault.PlanFault.TheVariants.{Star, NotToml, Extra, Shape, Topo}
use Rattle.pipe_text_plan.specs.Cable.{cables_of}
use Rattle.pipe_text_plan.specs.Keys.{document_of, has_extra, texts_at, patience_at}
use Rattle.pipe_text_plan.specs.Numbering.{numbered}
use Rattle.pipe_text_plan.specs.Division.{Division}
use Rattle.pipe_text_plan.specs.Star as line
use Rattle.pipe_text_plan.specs.Switch.{switches_of}

-- a plan, and the names of its nodes in their order
pub record Described : Type 0 where
  pub names : List (List ℕ)
  pub plan : Plan

-- the texts of the four keys
pub record Document : Type 0 where
  pub hosts : List (List ℕ)
  pub switches : List (List ℕ)
  pub cables : List (List ℕ)
  pub patience : ℕ

-- The plan has to be one of a topology. The names are those of its hosts and then of its switches.
abbrev pub built_unless : List (List ℕ) → Plan → Option TopoFault → Result Described PlanFault
built_unless names plan (Some fault) = Err (Topo fault)
built_unless names plan None = Ok (record { names = node_names plan.hosts names; plan = plan })

-- a plan with its names, or its first fault
abbrev pub built : List (List ℕ) → Plan → Result Described PlanFault
built names plan = built_unless names plan (fault_of plan)

-- Each cable joins two of the names.
abbrev pub with_cables : Document → List (List ℕ × ℕ) → List (List ℕ) → Result (List (CableEnd × CableEnd)) PlanFault → Result Described PlanFault
with_cables document switches names (Err fault) = Err fault
with_cables document switches names (Ok cables) = built names (record {
  hosts = length document.hosts;
  levels = map (λ switch. switch.1) switches;
  cables = cables;
  patience = record { 0 = document.patience };
})

-- Each name is one, and a new one.
abbrev pub with_names : Document → List (List ℕ × ℕ) → Result (List (List ℕ)) PlanFault → Result Described PlanFault
with_names document switches (Err fault) = Err fault
with_names document switches (Ok names) = with_cables document switches names (cables_of (length document.hosts) names document.cables)

-- the names of the hosts and then those of the switches
abbrev pub all_names : List (List ℕ) → List (List ℕ × ℕ) → List (List ℕ)
all_names hosts switches = hosts ++ map (λ switch. switch.0) switches

-- Each switch has a name and a level.
abbrev pub with_switches : Document → Result (List (List ℕ × ℕ)) PlanFault → Result Described PlanFault
with_switches document (Err fault) = Err fault
with_switches document (Ok switches) = with_names document switches (numbered (all_names document.hosts switches))

-- more items than are numbered; their count, as far as 32 bits go
abbrev pub crowd : What → ℕ → Option TopoFault
crowd kind count = if nat_lt 32767 count then Some (TooMany kind (min count 4294967295)) else None

-- the first array of more than 32,767 texts
abbrev pub crowded : Document → Option TopoFault
crowded document =
    option_or (crowd what.Hosts (length document.hosts))
    (option_or (crowd what.Switches (length document.switches))
    (crowd what.Cables (length document.cables)))

-- no array has more
pub record IsCountable (document : Document) : Type 0 where
  pub few_hosts : length document.hosts ≤ 32767
  pub few_switches : length document.switches ≤ 32767
  pub few_cables : length document.cables ≤ 32767

-- No array has too many.
abbrev pub uncrowded : Document → Option TopoFault → Result Described PlanFault
uncrowded document (Some fault) = Err (Topo fault)
uncrowded document None = with_switches document (switches_of document.switches)

-- the plan of a document, or its first fault
abbrev pub described : Document → Result Described PlanFault
described document = uncrowded document (crowded document)

-- The keys are all there and of their type, but the patience may be left out.
abbrev pub shaped : Option (List (List ℕ)) → Option (List (List ℕ)) → Option (List (List ℕ)) → Option ℕ → Result Document PlanFault
shaped None switches cables patience = Err (Shape key.Hosts)
shaped (Some hosts) None cables patience = Err (Shape key.Switches)
shaped (Some hosts) (Some switches) None patience = Err (Shape key.Cables)
shaped (Some hosts) (Some switches) (Some cables) None = Err (Shape key.Patience)
shaped (Some hosts) (Some switches) (Some cables) (Some patience) =
    Ok (record { hosts = hosts; switches = switches; cables = cables; patience = patience })

-- No other key is there.
abbrev pub keyed : Members → Result Document PlanFault
keyed members =
    if has_extra members then Err Extra
    else shaped (texts_at (codes "hosts") members) (texts_at (codes "switches") members) (texts_at (codes "cables") members) (patience_at members)

-- The document describes a plan.
abbrev pub then_described : Result Document PlanFault → Result Described PlanFault
then_described (Err fault) = Err fault
then_described (Ok document) = described document

-- The text is TOML.
abbrev pub toml_described : Option Members → Result Described PlanFault
toml_described None = Err NotToml
toml_described (Some members) = then_described (keyed members)

-- a star of so many hosts, with a patience
abbrev pub star_described : Option (ℕ × ℕ) → Result Described PlanFault
star_described None = Err Star
star_described (Some star) = built (line.star_names star.0) (star_plan star.0 (record { 0 = star.1 }))

-- the plan of an input, or its first fault
abbrev pub described_by : Division → Result Described PlanFault
described_by division =
    if division.star then star_described (line.star_of (words_of division.topology)) else toml_described (document_of division.topology)
