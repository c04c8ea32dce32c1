-- Lemmas on stars.
use Rattle.std.proofs.Common.{◌≡◌, ℕ, ◌+◌, ◌<◌, ◌≤◌, ◌^◌, Bool, true, false, not, if◌then◌else◌, List, [], ◌∷◌, ◌++◌, length, drop, map, All, ◌==◌, ◌||◌, None, Result, Ok, Err, refl, ap, sym, ◌∙◌, arith, codes}
use Rattle.std.proofs.lemmas.Bool.{false_from_ne_true}
use Rattle.std.specs.List.{list_any, range_with_len}
use Rattle.std.specs.Result.{IfErr}
use Rattle.std.specs.Str.{bytes_eq}
use Rattle.std.proofs.lemmas.Fmt.{decimal_injective, decimal_is_IsNumeral}
use Rattle.std.proofs.lemmas.Bool.Decides.{nat_tests}
use Rattle.std.proofs.lemmas.List.Elements.{All-push}
use Rattle.std.proofs.lemmas.Str.Parse.{digit_from_value}
use Rattle.std.specs.Fmt.{decimal}
use Rattle.std.specs.Str.Parse.{AllDigits}
use Rattle.std.proofs.lemmas.List.FromFn.{map-range_with_len_more, get_or-map-range_with_len, length-map-range_with_len}
use Rattle.std.proofs.lemmas.List.Folds.{list_any_none}
use Rattle.std.proofs.lemmas.Slice.Eq.{bytes_eq-Decides}
use Rattle.pipe_base.specs.declared.name.Ts.{Ts}
use Rattle.pipe_topo.specs.declared.plan.Plan.{Plan as Network}
use Rattle.pipe_topo.specs.Fault.{fault_of}
use Rattle.pipe_topo.specs.NodeNames.{has_dot, node_names}
use Rattle.pipe_topo.specs.Star.{star_plan}
use Rattle.pipe_topo.proofs.StarLaws.{star_no_fault}
use Rattle.pipe_text_plan.specs.declared.fault.PlanError.{PlanError}
use Rattle.pipe_text_plan.specs.declared.fault.PlanError.TheVariants.{Plan}
use Rattle.pipe_text_plan.specs.declared.fault.PlanFault.{PlanFault}
use Rattle.pipe_text_plan.specs.declared.fault.PlanFault.TheVariants.{Star}
use Rattle.pipe_text_plan.specs.declared.read.PlanInput.{PlanInput}
use Rattle.pipe_text_plan.specs.Described.{built, built_unless}
use Rattle.pipe_text_plan.specs.Star.{star_of, star_names, host_name}

-- too few words, or too many
pub star_short : (words : List (List ℕ)) → length words < 2 → star_of words ≡ None
star_short [] few = refl
star_short (star ∷ []) few = refl
star_short (star ∷ hosts ∷ words) few = absurd (omega arith)

pub star_long : (words : List (List ℕ)) → 4 ≤ length words → star_of words ≡ None
star_long [] many = absurd (omega arith)
star_long (star ∷ []) many = absurd (omega arith)
star_long (star ∷ hosts ∷ []) many = absurd (omega arith)
star_long (star ∷ hosts ∷ patience ∷ []) many = absurd (omega arith)
star_long (star ∷ hosts ∷ patience ∷ another ∷ words) many = refl

-- the names of different hosts differ
host_differs : (m n : ℕ) → m < n → n < 2 ^ 64 → bytes_eq (host_name n) (host_name m) ≡ false
host_differs m n below small =
    false_from_ne_true (bytes_eq (host_name n) (host_name m))
    (λ same.
    let names : host_name n ≡ host_name m = (bytes_eq-Decides (host_name n) (host_name m)).0 same in
    let numbers : n ≡ m = decimal_injective n m small (omega arith) (ap (drop 1) names) in
    omega arith)

fresh_host : (n : ℕ) → n < 2 ^ 64 → list_any (bytes_eq (host_name n)) (map host_name (range_with_len 0 n)) ≡ false
fresh_host n small =
    list_any_none (bytes_eq (host_name n)) (map host_name (range_with_len 0 n))
    (λ k d below.
    let within : k < n = omega (arith, below, length-map-range_with_len host_name 0 n) in
    ap (bytes_eq (host_name n)) (get_or-map-range_with_len host_name 0 n k k d within (omega arith)) ∙ host_differs k n within small)

fresh_switch : (n : ℕ) → list_any (bytes_eq (codes "s0")) (map host_name (range_with_len 0 n)) ≡ false
fresh_switch n =
    list_any_none (bytes_eq (codes "s0")) (map host_name (range_with_len 0 n))
    (λ k d below.
    let within : k < n = omega (arith, below, length-map-range_with_len host_name 0 n) in
    ap (bytes_eq (codes "s0")) (get_or-map-range_with_len host_name 0 n k k d within (omega arith)))

-- one host more
pub host_more : (names longer : List (List ℕ)) (name : List ℕ) (n : ℕ) (new : Bool) → n < 2 ^ 64 → names ≡ map host_name (range_with_len 0 n)
    → name ≡ host_name n → new ≡ not (list_any (bytes_eq name) names) → longer ≡ (if new then names ++ name ∷ [] else names)
    → longer ≡ map host_name (range_with_len 0 (n + 1))
host_more names longer name n new small so_far is added more =
    let fresh : list_any (bytes_eq name) names ≡ false = (λ i. list_any (bytes_eq (is i)) (so_far i)) ∙ fresh_host n small in
    more
    ∙ ap (λ (b : Bool). if b then names ++ name ∷ [] else names) (added ∙ ap not fresh)
    ∙ (λ i. so_far i ++ is i ∷ [])
    ∙ sym (map-range_with_len_more host_name 0 n n (omega arith))

-- and the switch
pub switch_last : (names longer : List (List ℕ)) (name : List ℕ) (n : ℕ) (new : Bool) → names ≡ map host_name (range_with_len 0 n)
    → name ≡ codes "s0" → new ≡ not (list_any (bytes_eq name) names) → longer ≡ (if new then names ++ name ∷ [] else names)
    → longer ≡ map host_name (range_with_len 0 n) ++ codes "s0" ∷ []
switch_last names longer name n new so_far is added more =
    let fresh : list_any (bytes_eq name) names ≡ false = (λ i. list_any (bytes_eq (is i)) (so_far i)) ∙ fresh_switch n in
    more
    ∙ ap (λ (b : Bool). if b then names ++ name ∷ [] else names) (added ∙ ap not fresh)
    ∙ (λ i. so_far i ++ is i ∷ [])

pub hosts_size : (names : List (List ℕ)) (n : ℕ) → names ≡ map host_name (range_with_len 0 n) → length names ≡ n
hosts_size names n is = ap length is ∙ length-map-range_with_len host_name 0 n

digits_dotless : (digits : List ℕ) → AllDigits 10 digits → has_dot digits ≡ false
digits_dotless [] are = refl
digits_dotless (digit ∷ digits) are =
    let range = digit_from_value digit are.0 in
    let other : (digit == 46) ≡ false = grind (arith, nat_tests, range.0, range.1) in
    λ i. other i || digits_dotless digits are.1 i

-- none of the names has a dot
pub star_dotless : (n : ℕ) → n ≤ 64 → All (λ name. has_dot name ≡ false) (star_names n)
star_dotless n few =
    All-push (λ name. has_dot name ≡ false) (map host_name (range_with_len 0 n)) (codes "s0")
    (λ k d below.
    let within : k < n = omega (arith, below, length-map-range_with_len host_name 0 n) in
    ap has_dot (get_or-map-range_with_len host_name 0 n k k d within (omega arith)) ∙ digits_dotless (decimal k) (decimal_is_IsNumeral k (omega (arith, within, few))).0.1)
    refl

-- a plan without a fault is refused for none
none_refused : (result : Result PlanInput PlanError) (names : List (List ℕ)) (plan : Network) → fault_of plan ≡ None
    → IfErr result (λ error. (fault : PlanFault) → error ≡ Plan fault → built names plan ≡ Err fault)
    → IfErr result (λ error. (fault : PlanFault) → error ≡ Plan fault → ⊥)
none_refused (Ok input) names plan none told = tt
none_refused (Err error) names plan none told = λ fault is.
    let fine : built names plan ≡ Ok (record { names = node_names plan.hosts names; plan = plan }) = ap (built_unless names plan) none in
    let refused : built names plan ≡ Err fault = told fault is in
    cc

pub star_refused : (result : Result PlanInput PlanError) (names : List (List ℕ)) (hosts : ℕ) (patience : Ts) → 1 ≤ hosts → hosts ≤ 64
    → IfErr result (λ error. (fault : PlanFault) → error ≡ Plan fault → built names (star_plan hosts patience) ≡ Err fault)
    → IfErr result (λ error. (fault : PlanFault) → error ≡ Plan fault → fault ≡ Star)
star_refused (Ok input) names hosts patience some few told = tt
star_refused (Err error) names hosts patience some few told = λ fault is.
    absurd (none_refused (Err error) names (star_plan hosts patience) (star_no_fault hosts patience some few) told fault is)
