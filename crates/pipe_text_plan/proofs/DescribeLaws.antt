-- Lemmas on what a document describes.
use Rattle.std.proofs.Common.{◌≡◌, ℕ, zero, suc, ◌+◌, ◌-◌, ◌<◌, ◌≤◌, Bool, true, false, cond, nat_lt, if◌then◌else◌, Bor, option_and_then, List, [], ◌∷◌, length, map, get_or, position, Option, None, Some, Result, Ok, Err, option_map, refl, ap, sym, subst, ◌∙◌, arith, length-append}
use Rattle.std.proofs.lemmas.Bool.{false_from_ne_true}
use Rattle.std.specs.List.{All}
use Rattle.std.specs.Option.{option_zip}
use Rattle.std.specs.Str.{bytes_eq, is_utf8, IsUtf8}
use Rattle.std.proofs.lemmas.Bool.Decides.{nat_tests}
use Rattle.std.proofs.lemmas.List.{length-map}
use Rattle.std.proofs.lemmas.List.Quantifiers.{position-Some}
use Rattle.std.proofs.lemmas.Str.{IsUtf8-from_is_utf8, is_utf8-from_IsUtf8}
use Rattle.toml.specs.Data.{Members}
use Rattle.toml.specs.Parse.{parse_document}
use Rattle.pipe_topo.specs.declared.plan.CableEnd.{CableEnd}
use Rattle.pipe_topo.specs.declared.plan.CableEnd.TheVariants.{Host, Switch}
use Rattle.pipe_topo.specs.declared.plan.Plan.{Plan}
use Rattle.pipe_topo.specs.Plan.{IsEnd, HasEnds}
use Rattle.pipe_text_plan.specs.declared.fault.PlanFault.{PlanFault}
use Rattle.pipe_text_plan.specs.declared.fault.PlanFault.TheVariants.{CableText, SwitchText}
use Rattle.pipe_text_plan.specs.Cable.{end_at, end_of, ends_of, cable_of, cables_of}
use Rattle.pipe_text_plan.specs.Described.{Document, built, with_cables, with_names, with_switches, all_names, crowded, uncrowded, described}
use Rattle.pipe_text_plan.specs.Keys.{document_of}
use Rattle.pipe_text_plan.specs.Numbering.{numbered, numbered_unless, first_wrong}
use Rattle.pipe_text_plan.specs.ReadAll.{read_onto, read_all, faulted}
use Rattle.pipe_text_plan.specs.Switch.{switch_of, switches_of}
use Rattle.pipe_text_plan.specs.Texts.{around_space}

pub not_text : (bytes : List ℕ) → ¬ IsUtf8 bytes → document_of bytes ≡ None
not_text bytes bad =
    ap (λ t. cond t (parse_document bytes) None) (false_from_ne_true (is_utf8 bytes) (λ is. bad (IsUtf8-from_is_utf8 bytes is)))

pub text_read : (bytes text : List ℕ) (found : Members) → text ≡ bytes → IsUtf8 bytes → parse_document text ≡ Some found → document_of bytes ≡ Some found
text_read bytes text found is good read =
    ap (λ t. cond t (parse_document bytes) None) (is_utf8-from_IsUtf8 bytes good) ∙ ap parse_document (sym is) ∙ read

pub text_refused : (bytes text : List ℕ) → text ≡ bytes → IsUtf8 bytes → parse_document text ≡ None → document_of bytes ≡ None
text_refused bytes text is good refused =
    ap (λ t. cond t (parse_document bytes) None) (is_utf8-from_IsUtf8 bytes good) ∙ ap parse_document (sym is) ∙ refused

pub switch_fault : (document : Document) (fault : PlanFault) → crowded document ≡ None → switches_of document.switches ≡ Err fault → described document ≡ Err fault
switch_fault document fault room bad = ap (uncrowded document) room ∙ ap (with_switches document) bad

pub name_fault : (document : Document) (switches : List (List ℕ × ℕ)) (fault : PlanFault) → crowded document ≡ None
    → switches_of document.switches ≡ Ok switches → numbered (all_names document.hosts switches) ≡ Err fault → described document ≡ Err fault
name_fault document switches fault room good bad =
    ap (uncrowded document) room ∙ ap (with_switches document) good ∙ ap (with_names document switches) bad

pub cable_fault : (document : Document) (switches : List (List ℕ × ℕ)) (names : List (List ℕ)) (fault : PlanFault) → crowded document ≡ None
    → switches_of document.switches ≡ Ok switches → numbered (all_names document.hosts switches) ≡ Ok names
    → cables_of (length document.hosts) names document.cables ≡ Err fault → described document ≡ Err fault
cable_fault document switches names fault room good known bad =
    ap (uncrowded document) room ∙ ap (with_switches document) good ∙ ap (with_names document switches) known
    ∙ ap (with_cables document switches names) bad

abbrev pub plan_with : ℕ → List ℕ → List (CableEnd × CableEnd) → ℕ → Plan
plan_with hosts levels cables patience = record { hosts = hosts; levels = levels; cables = cables; patience = record { 0 = patience } }

-- the plan of a document
abbrev pub plan_of : Document → List (List ℕ × ℕ) → List (CableEnd × CableEnd) → Plan
plan_of document switches cables = plan_with (length document.hosts) (map (λ switch. switch.1) switches) cables document.patience

pub described_is : (document : Document) (switches : List (List ℕ × ℕ)) (names : List (List ℕ)) (cables : List (CableEnd × CableEnd)) → crowded document ≡ None
    → switches_of document.switches ≡ Ok switches → numbered (all_names document.hosts switches) ≡ Ok names
    → cables_of (length document.hosts) names document.cables ≡ Ok cables → described document ≡ built names (plan_of document switches cables)
described_is document switches names cables room good known joined =
    ap (uncrowded document) room ∙ ap (with_switches document) good ∙ ap (with_names document switches) known
    ∙ ap (with_cables document switches names) joined

-- the names that are numbered are all of them
names_by : (all names : List (List ℕ)) (wrong : Option ℕ) → numbered_unless all wrong ≡ Ok names → names ≡ all
names_by all names None is = cc
names_by all names (Some at) is = absurd cc

pub names_size : (hosts names : List (List ℕ)) (switches : List (List ℕ × ℕ)) → numbered (all_names hosts switches) ≡ Ok names
    → length names ≡ length hosts + length switches
names_size hosts names switches is =
    ap length (names_by (all_names hosts switches) names (first_wrong (all_names hosts switches)) is)
    ∙ length-append hosts (map (λ switch. switch.0) switches)
    ∙ ap (λ n. length hosts + n) (simp length-map)

all_cons : {B : Type 0} (P : B → Type 0) (first : B) (rest : List B) → P first → All P rest → All P (first ∷ rest)
all_cons P first rest here more = λ k d below. at k d below
  where
    at : (k : ℕ) (d : _) → k < length (first ∷ rest) → P (get_or (first ∷ rest) k d)
    at zero d below = here
    at (suc k) d below = more k d (omega arith)

all_onto : {A B : Type 0} (P : B → Type 0) (read : A → Option B) (right : (item : A) (next : B) → read item ≡ Some next → P next)
    (items : List A) (earlier : (all : List B) → read_all read items ≡ Ok all → All P all) (item : A) (first : Option B) (rest : Result (List B) ℕ)
    → read item ≡ first → read_all read items ≡ rest → (all : List B) → read_onto first rest ≡ Ok all → All P all
all_onto P read right items earlier item None rest is more all read_is = absurd cc
all_onto P read right items earlier item (Some first) (Err at) is more all read_is = absurd cc
all_onto P read right items earlier item (Some first) (Ok rest) is more all read_is =
    let same : first ∷ rest ≡ all = cc in
    subst (All P) same (all_cons P first rest (right item first is) (earlier rest more))

-- what holds of each item that is read holds of all
pub read_all_all : {A B : Type 0} (P : B → Type 0) (read : A → Option B) (right : (item : A) (next : B) → read item ≡ Some next → P next)
    (items : List A) (all : List B) → read_all read items ≡ Ok all → All P all
read_all_all P read right [] all is = let none : [] ≡ all = cc in λ k d below. absurd (omega (arith, below, ap length none))
read_all_all P read right (item ∷ items) all is =
    all_onto P read right items (read_all_all P read right items) item (read item) (read_all read items) refl refl all is

size_onto : {B : Type 0} (count : ℕ) (first : Option B) (rest : Result (List B) ℕ) (earlier : (all : List B) → rest ≡ Ok all → length all ≡ count)
    (all : List B) → read_onto first rest ≡ Ok all → length all ≡ suc count
size_onto count None rest earlier all is = absurd cc
size_onto count (Some first) (Err at) earlier all is = absurd cc
size_onto count (Some first) (Ok rest) earlier all is =
    let same : first ∷ rest ≡ all = cc in omega (arith, ap length same, earlier rest refl)

-- as many are read as there are
pub read_all_size : {A B : Type 0} (read : A → Option B) (items : List A) (all : List B) → read_all read items ≡ Ok all → length all ≡ length items
read_all_size read [] all is = let none : [] ≡ all = cc in sym (ap length none)
read_all_size read (item ∷ items) all is = size_onto (length items) (read item) (read_all read items) (read_all_size read items) all is

-- without a fault, all are read
pub read_by : {B : Type 0} (fault : ℕ → PlanFault) (read : Result (List B) ℕ) (all : List B) → faulted fault read ≡ Ok all → read ≡ Ok all
read_by fault (Err at) all is = absurd cc
read_by fault (Ok read) all is = cc

pub switches_size : (texts : List (List ℕ)) (switches : List (List ℕ × ℕ)) → switches_of texts ≡ Ok switches → length switches ≡ length texts
switches_size texts switches is = read_all_size switch_of texts switches (read_by (λ at. SwitchText at) (read_all switch_of texts) switches is)

pub cables_size : (hosts : ℕ) (names texts : List (List ℕ)) (cables : List (CableEnd × CableEnd)) → cables_of hosts names texts ≡ Ok cables
    → length cables ≡ length texts
cables_size hosts names texts cables is =
    read_all_size (cable_of hosts names) texts cables (read_by (λ at. CableText at) (read_all (cable_of hosts names) texts) cables is)

end_by : (hosts count number : ℕ) (t : Bool) → nat_lt number hosts ≡ t → number < hosts + count → IsEnd hosts count (if t then Host number else Switch (number - hosts))
end_by hosts count number true is below = grind (arith, nat_tests)
end_by hosts count number false is below = let past : hosts ≤ number = grind (arith, nat_tests) in omega arith

end_right : (hosts count : ℕ) (names : List (List ℕ)) (name : List ℕ) (found : Option ℕ) (end : CableEnd) → length names ≡ hosts + count
    → position (bytes_eq name) names ≡ found → option_map (end_at hosts) found ≡ Some end → IsEnd hosts count end
end_right hosts count names name None end size is as_end = absurd cc
end_right hosts count names name (Some number) end size is as_end =
    let at = position-Some (bytes_eq name) names number [] is in
    let same : end_at hosts number ≡ end = cc in
    subst (IsEnd hosts count) same (end_by hosts count number (nat_lt number hosts) refl (omega (arith, at.0, size)))

ends_right : (hosts count : ℕ) (names : List (List ℕ)) (words : Option (List ℕ × List ℕ)) (cable : CableEnd × CableEnd) → length names ≡ hosts + count
    → option_and_then (ends_of hosts names) words ≡ Some cable → IsEnd hosts count cable.0 × IsEnd hosts count cable.1
ends_right hosts count names None cable size is = absurd cc
ends_right hosts count names (Some words) cable size is = both (end_of hosts names words.0) (end_of hosts names words.1) refl refl is
  where
    both : (first second : Option CableEnd) → end_of hosts names words.0 ≡ first → end_of hosts names words.1 ≡ second → option_zip first second ≡ Some cable
        → IsEnd hosts count cable.0 × IsEnd hosts count cable.1
    both None second a b is = absurd cc
    both (Some first) None a b is = absurd cc
    both (Some first) (Some second) a b is =
        let same : (first, second) ≡ cable = cc in
        subst (λ (c : CableEnd × CableEnd). IsEnd hosts count c.0 × IsEnd hosts count c.1) same (
          end_right hosts count names words.0 (position (bytes_eq words.0) names) first size refl a,
          end_right hosts count names words.1 (position (bytes_eq words.1) names) second size refl b,
        )

-- each cable joins two of the plan
pub cables_have_ends : (hosts count : ℕ) (names texts : List (List ℕ)) (cables : List (CableEnd × CableEnd)) → length names ≡ hosts + count
    → cables_of hosts names texts ≡ Ok cables → HasEnds hosts count cables
cables_have_ends hosts count names texts cables size is =
    read_all_all (λ cable. IsEnd hosts count cable.0 × IsEnd hosts count cable.1) (cable_of hosts names)
    (λ text cable read. ends_right hosts count names (around_space text) cable size read) texts cables
    (read_by (λ at. CableText at) (read_all (cable_of hosts names) texts) cables is)

pub same_plan : (hosts other_hosts : ℕ) (levels other_levels : List ℕ) (cables other_cables : List (CableEnd × CableEnd)) (patience : ℕ)
    → hosts ≡ other_hosts → levels ≡ other_levels → cables ≡ other_cables
    → plan_with hosts levels cables patience ≡ plan_with other_hosts other_levels other_cables patience
same_plan hosts other_hosts levels other_levels cables other_cables patience a b e = λ i. plan_with (a i) (b i) (e i) patience

pub levels_seen : (switches : List (Bor (List ℕ) × ℕ)) → map (λ (switch : List ℕ × ℕ). switch.1) (map (λ (switch : Bor (List ℕ) × ℕ). (switch.0.now, switch.1)) switches) ≡ map (λ switch. switch.1) switches
levels_seen [] = refl
levels_seen (switch ∷ switches) = ap (λ (ls : List ℕ). switch.1 ∷ ls) (levels_seen switches)
