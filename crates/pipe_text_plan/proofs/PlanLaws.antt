-- What is described is a plan within the limits, and has no fault; its nodes have names, and its levels and patience are in
-- their ranges.
use Rattle.std.proofs.Common.{◌≡◌, ℕ, ◌+◌, Bool, true, false, if◌then◌else◌, List, [], length, map, Option, None, Some, Result, Ok, Err, refl, ap, sym, ◌∙◌, arith}
use Rattle.std.specs.Option.{IfSome}
use Rattle.std.specs.Result.{IfOk}
use Rattle.std.proofs.lemmas.List.{length-map}
use Rattle.std.proofs.lemmas.List.Elements.{All-cons, All-nil}
use Rattle.toml.specs.Data.{Members}
use Rattle.pipe_text.specs.Words.{words_of}
use Rattle.pipe_topo.specs.declared.fault.TopoFault.{TopoFault}
use Rattle.pipe_topo.specs.declared.plan.CableEnd.{CableEnd}
use Rattle.pipe_topo.specs.declared.plan.Plan.{Plan}
use Rattle.pipe_topo.specs.Fault.{fault_of}
use Rattle.pipe_topo.specs.Plan.{HasEnds, IsPlan}
use Rattle.pipe_topo.specs.Star.{star_plan}
use Rattle.pipe_topo.proofs.FaultLaws.{no_fault_small}
use Rattle.pipe_topo.proofs.StarLaws.{star_ends}
use Rattle.pipe_text_plan.specs.declared.fault.PlanFault.{PlanFault}
use Rattle.pipe_text_plan.specs.Cable.{cables_of}
use Rattle.pipe_text_plan.specs.Described.{Described, Document, built, built_unless, with_cables, with_names, with_switches, all_names, crowded, uncrowded, described, keyed, then_described, toml_described, star_described, described_by}
use Rattle.pipe_text_plan.specs.Division.{Division}
use Rattle.pipe_text_plan.specs.HasNames.{HasNodeNames, IsInRange}
use Rattle.pipe_text_plan.specs.Keys.{document_of}
use Rattle.pipe_text_plan.specs.Numbering.{numbered}
use Rattle.pipe_text_plan.specs.Star as line
use Rattle.pipe_text_plan.specs.Switch.{switches_of}
use Rattle.pipe_text_plan.proofs.DescribeLaws.{plan_of, names_size, cables_have_ends}
use Rattle.pipe_text_plan.proofs.GivenLaws.{AreGiven, document_given, nodes_named, star_given}
use Rattle.pipe_text_plan.proofs.RangeLaws.{IsLevel, IsPatience, IsStar, document_patience, levels_right, star_range}

-- a plan within the limits that has no fault, with names for its nodes, and in its ranges
pub record IsRight (described : Described) : Type 0 where
  pub plan : IsPlan described.plan
  pub faultless : fault_of described.plan ≡ None
  pub names : HasNodeNames described.names described.plan
  pub range : IsInRange described.plan

built_right : (names : List (List ℕ)) (plan : Plan) → HasEnds plan.hosts (length plan.levels) plan.cables → AreGiven names (plan.hosts + length plan.levels) → IsInRange plan
    → IfOk (built names plan) IsRight
built_right names plan ends given range = pick (fault_of plan) refl
  where
    pick : (fault : Option TopoFault) → fault_of plan ≡ fault → IfOk (built_unless names plan fault) IsRight
    pick (Some fault) is = tt
    pick None is = record { plan = record { small = no_fault_small plan is; ends = ends }; faultless = is; names = nodes_named plan names given; range = range }

star_right : (star : Option (ℕ × ℕ)) → IfSome star IsStar → IfOk (star_described star) IsRight
star_right None right = tt
star_right (Some star) right =
    built_right (line.star_names star.0) (star_plan star.0 (record { 0 = star.1 })) (star_ends star.0) (star_given star.0 right.0)
    (record { levels = All-cons IsLevel 1 [] (omega arith, omega arith) (All-nil IsLevel); patience = right.1 })

cables_right : (document : Document) (switches : List (List ℕ × ℕ)) (names : List (List ℕ)) (cables : Result (List (CableEnd × CableEnd)) PlanFault)
    → IsPatience document.patience → switches_of document.switches ≡ Ok switches → numbered (all_names document.hosts switches) ≡ Ok names
    → cables_of (length document.hosts) names document.cables ≡ cables → IfOk (with_cables document switches names cables) IsRight
cables_right document switches names (Err fault) patience levels known joined = tt
cables_right document switches names (Ok cables) patience levels known joined =
    let count : ℕ = length (map (λ (switch : List ℕ × ℕ). switch.1) switches) in
    let size : length names ≡ length document.hosts + count =
    names_size document.hosts names switches known ∙ ap (λ n. length document.hosts + n) (sym (simp length-map)) in
    let given = document_given (all_names document.hosts switches) names known in
    built_right names (plan_of document switches cables) (cables_have_ends (length document.hosts) count names document.cables cables size joined)
    (record { size = size; right = given.right; different = given.different })
    (record { levels = levels_right document.switches switches levels; patience = patience })

names_right : (document : Document) (switches : List (List ℕ × ℕ)) (names : Result (List (List ℕ)) PlanFault)
    → IsPatience document.patience → switches_of document.switches ≡ Ok switches
    → numbered (all_names document.hosts switches) ≡ names → IfOk (with_names document switches names) IsRight
names_right document switches (Err fault) patience levels known = tt
names_right document switches (Ok names) patience levels known =
    cables_right document switches names (cables_of (length document.hosts) names document.cables) patience levels known refl

switches_right : (document : Document) (switches : Result (List (List ℕ × ℕ)) PlanFault) → IsPatience document.patience
    → switches_of document.switches ≡ switches → IfOk (with_switches document switches) IsRight
switches_right document (Err fault) patience levels = tt
switches_right document (Ok switches) patience levels =
    names_right document switches (numbered (all_names document.hosts switches)) patience levels refl

document_right : (document : Document) (crowd : Option TopoFault) → IsPatience document.patience → IfOk (uncrowded document crowd) IsRight
document_right document (Some fault) patience = tt
document_right document None patience = switches_right document (switches_of document.switches) patience refl

keyed_right : (document : Result Document PlanFault) → IfOk document (λ d. IsPatience d.patience) → IfOk (then_described document) IsRight
keyed_right (Err fault) patience = tt
keyed_right (Ok document) patience = document_right document (crowded document) patience

toml_right : (members : Option Members) → IfOk (toml_described members) IsRight
toml_right None = tt
toml_right (Some members) = keyed_right (keyed members) (document_patience members)

pub described_right : (division : Division) → IfOk (described_by division) IsRight
described_right division = pick division.star
  where
    pick : (star : Bool) → IfOk (if star then star_described (line.star_of (words_of division.topology)) else toml_described (document_of division.topology)) IsRight
    pick true = star_right (line.star_of (words_of division.topology)) (star_range (words_of division.topology))
    pick false = toml_right (document_of division.topology)

-- what is right has what follows
pub right_gives : (P : Described → Type 0) → ((described : Described) → IsRight described → P described) → (division : Division) → IfOk (described_by division) P
right_gives P gives division = pick (described_by division) (described_right division)
  where
    pick : (result : Result Described PlanFault) → IfOk result IsRight → IfOk result P
    pick (Err fault) right = tt
    pick (Ok described) right = gives described right
