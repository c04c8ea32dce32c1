-- Lemmas on the names of nodes: those of one host or one switch more, and that these are new.
use Rattle.std.proofs.Common.{◌≡◌, ◌≢◌, ℕ, zero, suc, ◌+◌, ◌<◌, ◌≤◌, ◌==◌, Bool, true, false, ◌||◌, ◌&&◌, List, [], ◌∷◌, ◌++◌, length, length-take-le, take, get_or, All, AllPairs, append_assoc, refl, ap, sym, ◌∙◌, arith, codes}
use Rattle.std.proofs.lemmas.Bool.{or_parts}
use Rattle.std.specs.List.{flat_map, list_any}
use Rattle.std.specs.Str.{bytes_eq}
use Rattle.std.proofs.lemmas.Bool.Decides.{nat_tests}
use Rattle.std.proofs.lemmas.Grind.{flat_map-append}
use Rattle.std.proofs.lemmas.List.{take_more}
use Rattle.std.proofs.lemmas.List.Elements.{All-take}
use Rattle.std.proofs.lemmas.List.Folds.{list_any-append, list_any_none}
use Rattle.pipe_topo.specs.NodeNames.{has_dot, half_names, node_names}
use Rattle.pipe_topo.proofs.NameLaws.{name_is_new}

-- where no more names stand than there are hosts, all are hosts'
all_hosts : (hosts : ℕ) (names : List (List ℕ)) → length names ≤ hosts → node_names hosts names ≡ names
all_hosts zero [] few = refl
all_hosts zero (name ∷ names) few = absurd (omega arith)
all_hosts (suc hosts) [] few = refl
all_hosts (suc hosts) (name ∷ names) few = ap (λ (ns : List (List ℕ)). name ∷ ns) (all_hosts hosts names (omega arith))

-- the names with a switch more
switch_more : (hosts : ℕ) (names : List (List ℕ)) (name : List ℕ) → hosts ≤ length names
    → node_names hosts (names ++ name ∷ []) ≡ node_names hosts names ++ half_names name
switch_more zero names name past = flat_map-append half_names names (name ∷ [])
switch_more (suc hosts) [] name past = absurd (omega arith)
switch_more (suc hosts) (host ∷ names) name past = ap (λ (ns : List (List ℕ)). host ∷ ns) (switch_more hosts names name (omega arith))

and_false : (t : Bool) → (t && false) ≡ false
and_false true = refl
and_false false = refl

and_assoc : (s t u : Bool) → (s && (t && u)) ≡ ((s && t) && u)
and_assoc true t u = refl
and_assoc false t u = refl

no_dot : (byte : ℕ) → (byte == 46) ≡ false → (46 == byte) ≡ false
no_dot byte is = grind (arith, nat_tests)

-- names that are cut at the first dot
dotted_eq : (a b x y : List ℕ) → has_dot a ≡ false → has_dot b ≡ false → bytes_eq (a ++ 46 ∷ x) (b ++ 46 ∷ y) ≡ (bytes_eq a b && bytes_eq x y)
dotted_eq [] [] x y none other = refl
dotted_eq [] (d ∷ b) x y none other = ap (λ (t : Bool). t && bytes_eq x (b ++ 46 ∷ y)) (no_dot d (or_parts (d == 46) (has_dot b) other).0)
dotted_eq (c ∷ a) [] x y none other = ap (λ (t : Bool). t && bytes_eq (a ++ 46 ∷ x) y) (or_parts (c == 46) (has_dot a) none).0
dotted_eq (c ∷ a) (d ∷ b) x y none other =
    ap (λ (t : Bool). (c == d) && t) (dotted_eq a b x y (or_parts (c == 46) (has_dot a) none).1 (or_parts (d == 46) (has_dot b) other).1)
    ∙ and_assoc (c == d) (bytes_eq a b) (bytes_eq x y)

-- a name without a dot is none with one
host_eq : (a x host : List ℕ) → has_dot host ≡ false → bytes_eq (a ++ 46 ∷ x) host ≡ false
host_eq [] x [] none = refl
host_eq (c ∷ a) x [] none = refl
host_eq [] x (d ∷ host) none = ap (λ (t : Bool). t && bytes_eq x host) (no_dot d (or_parts (d == 46) (has_dot host) none).0)
host_eq (c ∷ a) x (d ∷ host) none =
    ap (λ (t : Bool). (c == d) && t) (host_eq a x host (or_parts (d == 46) (has_dot host) none).1) ∙ and_false (c == d)

half_new : (name x : List ℕ) (switches : List (List ℕ)) → has_dot name ≡ false → list_any has_dot switches ≡ false
    → list_any (bytes_eq name) switches ≡ false → list_any (bytes_eq (name ++ 46 ∷ x)) (flat_map half_names switches) ≡ false
half_new name x [] plain dotless new = refl
half_new name x (switch ∷ switches) plain dotless new =
    let other = or_parts (has_dot switch) (list_any has_dot switches) dotless in
    let differs = or_parts (bytes_eq name switch) (list_any (bytes_eq name) switches) new in
    let half : (y : List ℕ) → bytes_eq (name ++ 46 ∷ x) (switch ++ 46 ∷ y) ≡ false
    = λ y. dotted_eq name switch x y plain other.0 ∙ ap (λ (t : Bool). t && bytes_eq x y) differs.0 in
    λ i. half (codes "up") i || (half (codes "down") i || half_new name x switches plain other.1 differs.1 i)

-- a half of a new switch has a new name
node_new : (hosts : ℕ) (names : List (List ℕ)) (name x : List ℕ) → has_dot name ≡ false → list_any has_dot names ≡ false
    → list_any (bytes_eq name) names ≡ false → list_any (bytes_eq (name ++ 46 ∷ x)) (node_names hosts names) ≡ false
node_new zero names name x plain dotless new = half_new name x names plain dotless new
node_new (suc hosts) [] name x plain dotless new = refl
node_new (suc hosts) (host ∷ names) name x plain dotless new =
    let other = or_parts (has_dot host) (list_any has_dot names) dotless in
    let differs = or_parts (bytes_eq name host) (list_any (bytes_eq name) names) new in
    λ i. host_eq name x host other.0 i || node_new hosts names name x plain other.1 differs.1 i

-- its down half's is new after its up half's
down_new : (nodes : List (List ℕ)) (name : List ℕ) → has_dot name ≡ false → list_any (bytes_eq (name ++ codes ".down")) nodes ≡ false
    → list_any (bytes_eq (name ++ codes ".down")) (nodes ++ (name ++ codes ".up") ∷ []) ≡ false
down_new nodes name plain new =
    list_any-append (bytes_eq (name ++ codes ".down")) nodes ((name ++ codes ".up") ∷ [])
    ∙ (λ i. new i || ((dotted_eq name name (codes "down") (codes "up") plain plain ∙ and_false (bytes_eq name name)) i || false))

-- the next name, after those of which the nodes have their names
pub record IsNext (hosts : ℕ) (names : List (List ℕ)) (at : ℕ) (nodes : List (List ℕ)) (name : List ℕ) : Type 0 where
  pub within : at < length names
  pub nodes_are : nodes ≡ node_names hosts (take at names)
  pub name_is : name ≡ get_or names at []
  pub plain : All (λ n. has_dot n ≡ false) names
  pub different : AllPairs (λ a b. a ≢ b) names

pub next_of : {hosts : ℕ} {names : List (List ℕ)} {at count : ℕ} {nodes : List (List ℕ)} {name : List ℕ} → at < count → count ≡ length names
    → AllPairs (λ a b. a ≢ b) names → All (λ n. has_dot n ≡ false) names → nodes ≡ node_names hosts (take at names) → name ≡ get_or names at []
    → IsNext hosts names at nodes name
next_of {hosts} {names} {at} {count} {nodes} {name} below counted different plain nodes_are name_is =
    record { within = omega (arith, below, counted); nodes_are = nodes_are; name_is = name_is; plain = plain; different = different }

is_new : {hosts : ℕ} {names : List (List ℕ)} {at : ℕ} {nodes : List (List ℕ)} {name : List ℕ} → IsNext hosts names at nodes name
    → list_any (bytes_eq name) (take at names) ≡ false
is_new {hosts} {names} {at} {nodes} {name} next =
    ap (λ (n : List ℕ). list_any (bytes_eq n) (take at names)) next.name_is ∙ name_is_new names at next.different next.within

is_plain : {hosts : ℕ} {names : List (List ℕ)} {at : ℕ} {nodes : List (List ℕ)} {name : List ℕ} → IsNext hosts names at nodes name → has_dot name ≡ false
is_plain {hosts} {names} {at} {nodes} {name} next = ap has_dot next.name_is ∙ next.plain at [] next.within

pub host_is_new : {hosts : ℕ} {names : List (List ℕ)} {at : ℕ} {nodes : List (List ℕ)} {name : List ℕ} → IsNext hosts names at nodes name → at < hosts
    → list_any (bytes_eq name) nodes ≡ false
host_is_new {hosts} {names} {at} {nodes} {name} next below =
    let size = length-take-le at names (omega (arith, next.within)) in
    ap (list_any (bytes_eq name)) (next.nodes_are ∙ all_hosts hosts (take at names) (omega (arith, size))) ∙ is_new next

pub half_is_new : {hosts : ℕ} {names : List (List ℕ)} {at : ℕ} {nodes : List (List ℕ)} {name : List ℕ} (x : List ℕ) → IsNext hosts names at nodes name
    → list_any (bytes_eq (name ++ 46 ∷ x)) nodes ≡ false
half_is_new {hosts} {names} {at} {nodes} {name} x next =
    ap (list_any (bytes_eq (name ++ 46 ∷ x))) next.nodes_are
    ∙ node_new hosts (take at names) name x (is_plain next)
    (list_any_none has_dot (take at names) (All-take (λ n. has_dot n ≡ false) at names next.plain)) (is_new next)

-- the down half's name is new after that of the up half
pub other_is_new : {hosts : ℕ} {names : List (List ℕ)} {at : ℕ} {nodes : List (List ℕ)} {name : List ℕ} → IsNext hosts names at nodes name
    → list_any (bytes_eq (name ++ codes ".down")) (nodes ++ (name ++ codes ".up") ∷ []) ≡ false
other_is_new {hosts} {names} {at} {nodes} {name} next = down_new nodes name (is_plain next) (half_is_new (codes "down") next)

taken_more : {hosts : ℕ} {names : List (List ℕ)} {at : ℕ} {nodes : List (List ℕ)} {name : List ℕ} → IsNext hosts names at nodes name
    → take (at + 1) names ≡ take at names ++ name ∷ []
taken_more {hosts} {names} {at} {nodes} {name} next =
    take_more names at [] next.within ∙ ap (λ (n : List ℕ). take at names ++ n ∷ []) (sym next.name_is)

pub host_added : {hosts : ℕ} {names : List (List ℕ)} {at : ℕ} {nodes : List (List ℕ)} {name : List ℕ} → IsNext hosts names at nodes name → at < hosts
    → nodes ++ name ∷ [] ≡ node_names hosts (take (at + 1) names)
host_added {hosts} {names} {at} {nodes} {name} next below =
    let size = length-take-le at names (omega (arith, next.within)) in
    let longer = length-take-le (at + 1) names (omega (arith, next.within)) in
    ap (λ (ns : List (List ℕ)). ns ++ name ∷ []) (next.nodes_are ∙ all_hosts hosts (take at names) (omega (arith, size)))
    ∙ sym (taken_more next) ∙ sym (all_hosts hosts (take (at + 1) names) (omega (arith, longer)))

pub switch_added : {hosts : ℕ} {names : List (List ℕ)} {at : ℕ} {nodes : List (List ℕ)} {name : List ℕ} → IsNext hosts names at nodes name → hosts ≤ at
    → (nodes ++ (name ++ codes ".up") ∷ []) ++ (name ++ codes ".down") ∷ [] ≡ node_names hosts (take (at + 1) names)
switch_added {hosts} {names} {at} {nodes} {name} next past =
    let size = length-take-le at names (omega (arith, next.within)) in
    append_assoc nodes ((name ++ codes ".up") ∷ []) ((name ++ codes ".down") ∷ [])
    ∙ ap (λ (ns : List (List ℕ)). ns ++ half_names name) next.nodes_are
    ∙ sym (switch_more hosts (take at names) name (omega (arith, size)))
    ∙ sym (ap (node_names hosts) (taken_more next))
