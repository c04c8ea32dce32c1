-- Lemmas on the numbers of names.
use Rattle.std.proofs.Common.{◌≡◌, ℕ, zero, suc, ◌+◌, ◌<◌, ◌≤◌, ◌==◌, nat_lt, Bool, true, false, not, ◌||◌, if◌then◌else◌, List, [], ◌∷◌, ◌++◌, length, take, get_or, map, All, true≢false, None, Err, Ok, refl, ap, sym, subst, ◌∙◌, arith}
use Rattle.std.proofs.lemmas.Bool.{and_parts}
use Rattle.std.specs.Char.{is_ascii_digit}
use Rattle.std.specs.List.{list_any, list_all}
use Rattle.std.specs.Str.{bytes_eq}
use Rattle.std.proofs.lemmas.Bool.Decides.{nat_tests}
use Rattle.std.proofs.lemmas.List.Elements.{All-nil, All-push}
use Rattle.std.proofs.lemmas.List.{take_more, take_all, length_push}
use Rattle.pipe_topo.specs.First.{first_below}
use Rattle.pipe_topo.proofs.FirstLaws.{first_more, first_at}
use Rattle.pipe_topo.specs.NodeNames.{has_dot}
use Rattle.pipe_text_plan.specs.Name.{is_letter, is_name_byte, is_name}
use Rattle.pipe_text_plan.specs.Numbering.{is_wrong, numbered, numbered_unless}
use Rattle.pipe_text_plan.specs.declared.fault.PlanError.{PlanError}
use Rattle.pipe_text_plan.specs.declared.fault.PlanError.TheVariants.{Plan}
use Rattle.pipe_text_plan.specs.declared.fault.PlanFault.{PlanFault}
use Rattle.pipe_text_plan.specs.declared.fault.PlanFault.TheVariants.{Name}

-- the item of a map is what the function makes of the item
pub map_at : {A B : Type 0} (f : A → B) (items : List A) (n : ℕ) (other : A) (default : B) → n < length items
    → get_or (map f items) n default ≡ f (get_or items n other)
map_at f [] n other default within = absurd (omega arith)
map_at f (item ∷ items) zero other default within = refl
map_at f (item ∷ items) (suc n) other default within = map_at f items n other default (omega arith)

byte_dotless : (byte : ℕ) → is_name_byte byte ≡ true → (byte == 46) ≡ false
byte_dotless byte is = pick (byte == 46) refl
  where
    pick : (t : Bool) → (byte == 46) ≡ t → t ≡ false
    pick true dot = let here : byte ≡ 46 = grind (arith, nat_tests) in absurd (true≢false (sym is ∙ ap is_name_byte here))
    pick false dot = refl

bytes_dotless : (bytes : List ℕ) → list_all is_name_byte bytes ≡ true → has_dot bytes ≡ false
bytes_dotless [] are = refl
bytes_dotless (byte ∷ bytes) are =
    let parts = and_parts (is_name_byte byte) (list_all is_name_byte bytes) are in λ i. byte_dotless byte parts.0 i || bytes_dotless bytes parts.1 i

name_dotless : (name : List ℕ) → is_name name ≡ true → has_dot name ≡ false
name_dotless [] is = absurd cc
name_dotless (first ∷ rest) is =
    let letter = and_parts (is_letter first) _ is in
    let short = and_parts (nat_lt (length rest) 16) _ letter.1 in
    let bytes = and_parts (list_all is_name_byte rest) _ short.1 in
    let begins : is_name_byte first ≡ true = ap (λ (t : Bool). t || (is_ascii_digit first || ((first == 45) || (first == 95)))) letter.0 in
    λ i. byte_dotless first begins i || bytes_dotless rest bytes.0 i

-- these are the first so many names, and none of them is wrong
pub record AreNumbered (all names : List (List ℕ)) (count : ℕ) : Type 0 where
  pub names_are : names ≡ take count all
  pub size : length names ≡ count
  pub right : first_below (is_wrong all) count ≡ None
  pub dotless : All (λ name. has_dot name ≡ false) names

pub no_names : (all : List (List ℕ)) → AreNumbered all [] 0
no_names all = record { names_are = refl; size = refl; right = refl; dotless = All-nil (λ name. has_dot name ≡ false) }

wrong_by : (all names : List (List ℕ)) (count : ℕ) (name : List ℕ) (valid was : Bool) → AreNumbered all names count → get_or all count [] ≡ name
    → is_name name ≡ valid → list_any (bytes_eq name) names ≡ was → is_wrong all count ≡ (not valid || was)
wrong_by all names count name valid was are is good before =
    ap (λ (n : List ℕ). not (is_name n) || list_any (bytes_eq n) (take count all)) is
    ∙ ap (λ (ns : List (List ℕ)). not (is_name name) || list_any (bytes_eq name) ns) (sym are.names_are)
    ∙ (λ i. not (good i) || before i)

-- the first wrong name
wrong_here : (all names : List (List ℕ)) (count : ℕ) → AreNumbered all names count → count < length all → is_wrong all count ≡ true
    → numbered all ≡ Err (Name (length names))
wrong_here all names count are within wrong =
    ap (numbered_unless all) (first_at (is_wrong all) (length all) count within are.right wrong) ∙ ap (λ n. Err (Name n)) (sym are.size)

pub no_name : (all names : List (List ℕ)) (count : ℕ) (name : List ℕ) → AreNumbered all names count → count < length all → get_or all count [] ≡ name
    → is_name name ≡ false → numbered all ≡ Err (Name (length names))
no_name all names count name are within is bad =
    wrong_here all names count are within (wrong_by all names count name false (list_any (bytes_eq name) names) are is bad refl)

or_true : (valid : Bool) → (not valid || true) ≡ true
or_true true = refl
or_true false = refl

pub old_name : (all names : List (List ℕ)) (count : ℕ) (name : List ℕ) (new : Bool) → AreNumbered all names count → count < length all → get_or all count [] ≡ name
    → new ≡ not (list_any (bytes_eq name) names) → new ≡ false → numbered all ≡ Err (Name (length names))
old_name all names count name new are within is added isnt =
    wrong_here all names count are within
    (wrong_by all names count name (is_name name) true are is refl (not_false (list_any (bytes_eq name) names) (sym added ∙ isnt)) ∙ or_true (is_name name))
  where
    not_false : (t : Bool) → not t ≡ false → t ≡ true
    not_false true h = refl
    not_false false h = absurd cc

-- one name more
pub new_name : (all names longer : List (List ℕ)) (count : ℕ) (name : List ℕ) (new : Bool) → AreNumbered all names count → count < length all
    → get_or all count [] ≡ name → is_name name ≡ true → new ≡ not (list_any (bytes_eq name) names) → new ≡ true
    → longer ≡ (if new then names ++ name ∷ [] else names) → AreNumbered all longer (count + 1)
new_name all names longer count name new are within is good added fresh more =
    let last : longer ≡ names ++ name ∷ [] = more ∙ ap (λ (b : Bool). if b then names ++ name ∷ [] else names) fresh in
    let size = are.size in
    record {
      names_are = last ∙ (λ i. are.names_are i ++ name ∷ []) ∙ ap (λ (n : List ℕ). take count all ++ n ∷ []) (sym is) ∙ sym (take_more all count [] within);
      size = ap length last ∙ omega (arith, length_push names name, size);
      right = first_more (is_wrong all) count are.right
          (wrong_by all names count name true false are is good (not_yes (list_any (bytes_eq name) names) (sym added ∙ fresh)));
      dotless = subst (All (λ n. has_dot n ≡ false)) (sym last) (All-push (λ n. has_dot n ≡ false) names name are.dotless (name_dotless name good));
    }
  where
    not_yes : (t : Bool) → not t ≡ true → t ≡ false
    not_yes true h = absurd cc
    not_yes false h = refl

-- no name is wrong
pub all_right : (all names : List (List ℕ)) (count : ℕ) → AreNumbered all names count → length all ≤ count → count ≤ length all → numbered all ≡ Ok names
all_right all names count are past within =
    let whole : count ≡ length all = omega arith in
    ap (numbered_unless all) (subst (λ (n : ℕ). first_below (is_wrong all) n ≡ None) whole are.right)
    ∙ ap Ok (sym (are.names_are ∙ take_all count all past))

-- one error has one fault
pub one_fault : (error : PlanError) (first second : PlanFault) → error ≡ Plan first → error ≡ Plan second → first ≡ second
one_fault error first second a b = cc
