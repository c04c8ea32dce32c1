-- The names that a topology part gives: each is a name, and all are different. So each node has one.
use Rattle.std.proofs.Common.{◌≡◌, ◌≢◌, ℕ, zero, suc, ◌+◌, ◌*◌, ◌<◌, ◌≤◌, ◌||◌, not, nat_lt, lit<, Bool, true, false, List, [], ◌∷◌, length, length-append, drop, take, map, get_or, All, AllPairs, Option, None, Some, Ok, refl, ap, sym, subst, ◌∙◌, true≢false, arith, codes}
use Rattle.std.specs.Cmp.Derive.{both_true}
use Rattle.std.specs.Fmt.{decimal}
use Rattle.std.specs.List.{flat_map, list_all, list_any, range_with_len}
use Rattle.std.specs.Str.{bytes_eq}
use Rattle.std.specs.Str.Parse.{AllDigits}
use Rattle.std.proofs.lemmas.Bool.Decides.{nat_tests}
use Rattle.std.proofs.lemmas.Fmt.{decimal_injective, decimal_is_IsNumeral, length-decimal-le}
use Rattle.std.proofs.lemmas.List.{get_or_default, get_or-take, length-take-le}
use Rattle.std.proofs.lemmas.List.Elements.{All-push}
use Rattle.std.proofs.lemmas.List.Folds.{list_any_at}
use Rattle.std.proofs.lemmas.List.FromFn.{get_or-map-range_with_len, length-map-range_with_len}
use Rattle.std.proofs.lemmas.List.Quantifiers.{all_pairs_push}
use Rattle.std.proofs.lemmas.Slice.Eq.{bytes_eq-Decides}
use Rattle.std.proofs.lemmas.Str.Parse.{digit_from_value}
use Rattle.pipe_topo.specs.NodeNames.{half_names, node_names}
use Rattle.pipe_topo.specs.declared.plan.Plan.{Plan}
use Rattle.pipe_topo.proofs.FirstLaws.{first_none}
use Rattle.pipe_text_plan.specs.HasNames.{HasNodeNames}
use Rattle.pipe_text_plan.specs.Name.{is_name, is_name_byte}
use Rattle.pipe_text_plan.specs.Numbering.{first_wrong, is_wrong, numbered, numbered_unless}
use Rattle.pipe_text_plan.specs.Star.{host_name, star_names}

-- so many names, each right and all different
pub record AreGiven (names : List (List ℕ)) (count : ℕ) : Type 0 where
  pub size : length names ≡ count
  pub right : All (λ name. is_name name ≡ true) names
  pub different : AllPairs (λ a b. a ≢ b) names

-- ---- of the nodes

halves_size : (switches : List (List ℕ)) → length (flat_map half_names switches) ≡ 2 * length switches
halves_size [] = refl
halves_size (switch ∷ switches) = omega (arith, halves_size switches)

nodes_size : (hosts switches : ℕ) (names : List (List ℕ)) → length names ≡ hosts + switches → length (node_names hosts names) ≡ hosts + 2 * switches
nodes_size zero switches names size = omega (arith, halves_size names, size)
nodes_size (suc hosts) switches [] size = absurd (omega arith)
nodes_size (suc hosts) switches (name ∷ names) size = omega (arith, nodes_size hosts switches names (omega arith))

pub nodes_named : (plan : Plan) (names : List (List ℕ)) → AreGiven names (plan.hosts + length plan.levels) → HasNodeNames (node_names plan.hosts names) plan
nodes_named plan names given = record {
  given = names;
  made = refl;
  count = given.size;
  right = given.right;
  different = given.different;
  nodes = nodes_size plan.hosts (length plan.levels) names given.size;
}

-- ---- of a document

neither : (s t : Bool) → (not s || t) ≡ false → (s ≡ true) × (t ≡ false)
neither true t is = (refl, is)
neither false t is = absurd (true≢false is)

right_at : (all : List (List ℕ)) (k : ℕ) → first_wrong all ≡ None → k < length all → (is_name (get_or all k []) ≡ true) × (list_any (bytes_eq (get_or all k [])) (take k all) ≡ false)
right_at all k none lt =
    neither (is_name (get_or all k [])) (list_any (bytes_eq (get_or all k [])) (take k all)) (first_none (is_wrong all) (length all) k none lt)

-- a name that was there before is wrong
differ_at : (all : List (List ℕ)) (i j : ℕ) (d : List ℕ) → first_wrong all ≡ None → i < j → j < length all → get_or all i d ≢ get_or all j d
differ_at all i j d none lt inside same =
    let here : get_or all j d ≡ get_or all j [] = get_or_default all j d [] inside in
    let there : get_or (take j all) i d ≡ get_or all i d = get_or-take j all i d lt in
    let size = length-take-le j all (omega arith) in
    let found : list_any (bytes_eq (get_or all j [])) (take j all) ≡ true =
    list_any_at (bytes_eq (get_or all j [])) (take j all) i d (omega arith)
    ((bytes_eq-Decides (get_or all j []) (get_or (take j all) i d)).1 (sym here ∙ sym same ∙ sym there)) in
    true≢false (sym found ∙ (right_at all j none inside).1)

numbered_given : (all names : List (List ℕ)) (wrong : Option ℕ) → first_wrong all ≡ wrong → numbered_unless all wrong ≡ Ok names → AreGiven names (length all)
numbered_given all names (Some at) is read = absurd cc
numbered_given all names None is read =
    let same : all ≡ names = cc in
    subst (λ (ns : List (List ℕ)). AreGiven ns (length all)) same (record {
      size = refl;
      right = λ k d lt. ap is_name (get_or_default all k d [] lt) ∙ (right_at all k is lt).0;
      different = λ i j d lt inside. differ_at all i j d is lt inside;
    })

pub document_given : (all names : List (List ℕ)) → numbered all ≡ Ok names → AreGiven names (length all)
document_given all names read = numbered_given all names (first_wrong all) refl read

-- ---- of a star

digits_named : (digits : List ℕ) → AllDigits 10 digits → list_all is_name_byte digits ≡ true
digits_named [] are = refl
digits_named (digit ∷ digits) are =
    let range = digit_from_value digit are.0 in
    let here : is_name_byte digit ≡ true = grind (arith, nat_tests, range.0, range.1) in both_true here (digits_named digits are.1)

host_right : (k : ℕ) → k < 64 → is_name (host_name k) ≡ true
host_right k lt =
    let bytes = digits_named (decimal k) (decimal_is_IsNumeral k (omega arith)).0.1 in
    let few : length (decimal k) ≤ 2 = length-decimal-le 2 k (lit< tt) (omega arith) (omega arith) in
    let short : nat_lt (length (decimal k)) 16 ≡ true = grind (arith, nat_tests, few) in rw (short, bytes) refl

host_at : (n k : ℕ) (d : List ℕ) → k < length (map host_name (range_with_len 0 n)) → (k < n) × (get_or (map host_name (range_with_len 0 n)) k d ≡ host_name k)
host_at n k d lt =
    let within : k < n = omega (arith, lt, length-map-range_with_len host_name 0 n) in
    (within, get_or-map-range_with_len host_name 0 n k k d within (omega arith))

hosts_differ : (n : ℕ) → n ≤ 64 → AllPairs (λ a b. a ≢ b) (map host_name (range_with_len 0 n))
hosts_differ n few i j d lt inside same =
    let one = host_at n i d (omega arith) in
    let other = host_at n j d inside in
    let within = other.0 in
    let numbers : i ≡ j = decimal_injective i j (omega arith) (omega arith) (ap (drop 1) (sym one.1 ∙ same ∙ other.1)) in
    omega arith

pub star_given : (n : ℕ) → n ≤ 64 → AreGiven (star_names n) (n + 1)
star_given n few =
    let hosts : List (List ℕ) = map host_name (range_with_len 0 n) in
    let size = length-map-range_with_len host_name 0 n in
    record {
      size = omega (arith, length-append hosts (codes "s0" ∷ []), size);
      right = All-push (λ name. is_name name ≡ true) hosts (codes "s0")
          (λ k d lt. let at = host_at n k d lt in let within = at.0 in ap is_name at.1 ∙ host_right k (omega arith)) refl;
      different = all_pairs_push (λ a b. a ≢ b) hosts (codes "s0") (hosts_differ n few)
          (λ k d lt same. let first : 104 ≡ 115 = ap (λ (name : List ℕ). get_or name 0 0) (sym (host_at n k d lt).1 ∙ same) in absurd (omega arith));
    }
