-- Levels and patience of what a topology part describes are in their ranges.
use Rattle.std.proofs.Common.{◌≡◌, ℕ, ◌≤◌, ◌==◌, ◌&&◌, ◌||◌, nat_le, if◌then◌else◌, Bool, true, false, List, [], ◌∷◌, map, All, Option, None, Some, option_and_then, Ok, Err, ℤ, pos, negsuc, refl, subst, arith, codes}
use Rattle.std.specs.Option.{IfSome}
use Rattle.std.specs.Result.{IfOk}
use Rattle.std.proofs.lemmas.Bool.Decides.{nat_tests}
use Rattle.std.proofs.lemmas.List.Elements.{All-map}
use Rattle.toml.specs.Data.{Data, Members, as_integer, get_member}
use Rattle.pipe_base.specs.Limits.{most_hosts, most_patience}
use Rattle.pipe_text.specs.Number.{number_of}
use Rattle.pipe_text.proofs.NumberLaws.{number_within}
use Rattle.pipe_text_plan.specs.declared.fault.PlanFault.TheVariants.{Extra, SwitchText}
use Rattle.pipe_text_plan.specs.Described.{keyed, shaped}
use Rattle.pipe_text_plan.specs.Keys.{has_extra, patience_at, patience_in, patience_or, texts_at}
use Rattle.pipe_text_plan.specs.Name.{is_name}
use Rattle.pipe_text_plan.specs.ReadAll.{read_all}
use Rattle.pipe_text_plan.specs.Star.{star_of, star_with}
use Rattle.pipe_text_plan.specs.Switch.{level_in, level_of, most_level, named_level, switch_of, switches_of, with_level}
use Rattle.pipe_text_plan.specs.Texts.{around_space}
use Rattle.pipe_text_plan.proofs.DescribeLaws.{read_all_all, read_by}

-- ---- levels

abbrev pub IsLevel : ℕ → Type 0
IsLevel level = (1 ≤ level) × (level ≤ most_level)

level_right : (o : Option ℕ) → IfSome o (λ n. n ≤ most_level) → IfSome (option_and_then level_in o) IsLevel
level_right None within = tt
level_right (Some n) within = pick (n == 0) refl
  where
    pick : (t : Bool) → (n == 0) ≡ t → IfSome (if t then None else Some n) IsLevel
    pick true is = tt
    pick false is = (grind (arith, nat_tests), within)

with_right : (name : List ℕ) (o : Option ℕ) → IfSome o IsLevel → IfSome (with_level name o) (λ switch. IsLevel switch.1)
with_right name None right = tt
with_right name (Some level) right = right

named_right : (o : Option (List ℕ × List ℕ)) → IfSome (option_and_then named_level o) (λ switch. IsLevel switch.1)
named_right None = tt
named_right (Some words) = pick (is_name words.0)
  where
    pick : (t : Bool) → IfSome (if t then with_level words.0 (level_of words.1) else None) (λ switch. IsLevel switch.1)
    pick true = with_right words.0 (level_of words.1) (level_right (number_of most_level words.1) (number_within most_level words.1))
    pick false = tt

if_some : {A : Type 0} (P : A → Type 0) (o : Option A) (x : A) → IfSome o P → o ≡ Some x → P x
if_some P o x holds is = subst (λ (p : Option _). IfSome p P) is holds

pub levels_right : (texts : List (List ℕ)) (switches : List (List ℕ × ℕ)) → switches_of texts ≡ Ok switches → All IsLevel (map (λ switch. switch.1) switches)
levels_right texts switches is =
    All-map IsLevel (λ (switch : List ℕ × ℕ). switch.1) switches
    (read_all_all (λ (switch : List ℕ × ℕ). IsLevel switch.1) switch_of
    (λ text switch read. if_some (λ (s : List ℕ × ℕ). IsLevel s.1) (switch_of text) switch (named_right (around_space text)) read)
    texts switches (read_by (λ at. SwitchText at) (read_all switch_of texts) switches is))

-- ---- patience

abbrev pub IsPatience : ℕ → Type 0
IsPatience patience = (1 ≤ patience) × (patience ≤ most_patience)

integer_right : (o : Option ℤ) → IfSome (option_and_then patience_in o) IsPatience
integer_right None = tt
integer_right (Some (negsuc n)) = tt
integer_right (Some (pos n)) = pick (nat_le 1 n) (nat_le n most_patience) refl refl
  where
    pick : (s t : Bool) → nat_le 1 n ≡ s → nat_le n most_patience ≡ t → IfSome (if s && t then Some n else None) IsPatience
    pick true true low high = (grind (arith, nat_tests, low), grind (arith, nat_tests, high))
    pick true false low high = tt
    pick false t low high = tt

patience_right : (o : Option Data) → IfSome (patience_or o) IsPatience
patience_right None = (omega arith, omega arith)
patience_right (Some value) = integer_right (as_integer value)

shaped_right : (hosts switches cables : Option (List (List ℕ))) (patience : Option ℕ) → IfSome patience IsPatience
    → IfOk (shaped hosts switches cables patience) (λ document. IsPatience document.patience)
shaped_right None switches cables patience right = tt
shaped_right (Some hosts) None cables patience right = tt
shaped_right (Some hosts) (Some switches) None patience right = tt
shaped_right (Some hosts) (Some switches) (Some cables) None right = tt
shaped_right (Some hosts) (Some switches) (Some cables) (Some patience) right = right

pub document_patience : (members : Members) → IfOk (keyed members) (λ document. IsPatience document.patience)
document_patience members = pick (has_extra members)
  where
    pick : (t : Bool) → IfOk (if t then Err Extra else shaped (texts_at (codes "hosts") members) (texts_at (codes "switches") members) (texts_at (codes "cables") members) (patience_at members))
        (λ document. IsPatience document.patience)
    pick true = tt
    pick false =
        shaped_right (texts_at (codes "hosts") members) (texts_at (codes "switches") members) (texts_at (codes "cables") members) (patience_at members)
        (patience_right (get_member (codes "patience") members))

-- ---- stars

-- so many hosts, and a patience
abbrev pub IsStar : ℕ × ℕ → Type 0
IsStar star = (star.0 ≤ most_hosts) × IsPatience star.1

star_by : (hosts patience : Option ℕ) → IfSome hosts (λ n. n ≤ most_hosts) → IfSome patience (λ n. n ≤ most_patience) → IfSome (star_with hosts patience) IsStar
star_by None patience few short = tt
star_by (Some hosts) None few short = tt
star_by (Some hosts) (Some patience) few short = pick (hosts == 0) (patience == 0) refl
  where
    pick : (s t : Bool) → (patience == 0) ≡ t → IfSome (if s || t then None else Some (hosts, patience)) IsStar
    pick true t is = tt
    pick false true is = tt
    pick false false is = (few, (grind (arith, nat_tests), short))

pub star_range : (words : List (List ℕ)) → IfSome (star_of words) IsStar
star_range (star ∷ hosts ∷ []) = star_by (number_of most_hosts hosts) (Some 1000) (number_within most_hosts hosts) (omega arith)
star_range (star ∷ hosts ∷ patience ∷ []) =
    star_by (number_of most_hosts hosts) (number_of most_patience patience) (number_within most_hosts hosts) (number_within most_patience patience)
star_range [] = tt
star_range (star ∷ []) = tt
star_range (star ∷ hosts ∷ patience ∷ more ∷ words) = tt
