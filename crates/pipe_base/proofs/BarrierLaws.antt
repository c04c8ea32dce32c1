-- Laws of registers and barriers, of both planes.
use Rattle.std.proofs.Common.{◌≡◌, ℕ, zero, suc, ◌<◌, ◌≤◌, max, Bool, true, false, ◌==◌, if◌then◌else◌, List, [], ◌∷◌, length, get_or, All, filter, ◌⊎◌, inl, inr, ⊎_elim, ap, ◌∙◌, le_trans, le_refl, arith, eqb-true}
use Rattle.std.proofs.lemmas.Bool.{cases_lt, or_cases}
use Rattle.std.proofs.lemmas.Bool.Decides.{nat_tests}
use Rattle.std.proofs.lemmas.Map.Views.{any-filter_same}
use Rattle.pipe_base.specs.declared.name.LinkId.{LinkId}
use Rattle.pipe_base.specs.declared.packet.Plane.{Plane}
use Rattle.pipe_base.specs.declared.packet.Plane.TheVariants.{BestEffort, Commit}
use Rattle.pipe_base.specs.Moment.{Moment, Received, Counted, WentDown, Dropped, is_used, in_use, has_link}
use Rattle.pipe_base.specs.Barrier.{field_of, HasReceived, is_look, IsPassed, IsGreatestOrZero, register, least_of, level, barrier}

-- ---- the least value over links

-- it is at most the value of each link
pub least_of-at : (value : ℕ → ℕ) (l : LinkId) (ls : List LinkId) (k : ℕ) (d : LinkId) → k < length (l ∷ ls)
    → least_of value (l ∷ ls) ≤ value (get_or (l ∷ ls) k d).0
least_of-at value l [] zero d lt = le_refl (value l.0)
least_of-at value l [] (suc k) d lt = absurd (omega arith)
least_of-at value l (m ∷ ls) zero d lt = omega arith
least_of-at value l (m ∷ ls) (suc k) d lt = omega (arith, least_of-at value m ls k d (omega arith))

pub least_of-among : (value : ℕ → ℕ) (link : ℕ) (ls : List LinkId) → has_link link ls ≡ true → least_of value ls ≤ value link
least_of-among value link [] among = cc
least_of-among value link (l ∷ []) among =
    ⊎_elim (λ (same : (l.0 == link) ≡ true). omega (arith, ap value (eqb-true l.0 link same))) (λ (never : false ≡ true). cc) (or_cases (l.0 == link) false among)
least_of-among value link (l ∷ m ∷ ls) among =
    ⊎_elim (λ (same : (l.0 == link) ≡ true). omega (arith, ap value (eqb-true l.0 link same)))
    (λ (later : has_link link (m ∷ ls) ≡ true). omega (arith, least_of-among value link (m ∷ ls) later))
    (or_cases (l.0 == link) (has_link link (m ∷ ls)) among)

-- what is at most each value is at most the least
pub le-least_of : (value : ℕ → ℕ) (b : ℕ) (l : LinkId) (ls : List LinkId) → All (λ m. b ≤ value m.0) (l ∷ ls) → b ≤ least_of value (l ∷ ls)
le-least_of value b l [] each = each 0 l (omega arith)
le-least_of value b l (m ∷ ls) each =
    let first : b ≤ value l.0 = each 0 l (omega arith) in
    omega (arith, le-least_of value b m ls (λ k d lt. each (suc k) d (omega arith)))

-- ---- registers

-- a test or another, the value does not fall
pub if_max-old : (t : Bool) (old more : ℕ) → old ≤ (if t then max old more else old)
if_max-old true old more = omega arith
if_max-old false old more = omega arith

pub if_max-more : (t : Bool) (old more : ℕ) → t ≡ true → more ≤ (if t then max old more else old)
if_max-more true old more is = omega arith
if_max-more false old more is = cc

-- a register never falls
pub register-rises : (plane : Plane) (m : Moment) (past : List Moment) (link : ℕ) → register plane past link ≤ register plane (m ∷ past) link
register-rises plane (Received l be commit) past link = if_max-old (l == link) (register plane past link) (field_of plane be commit)
register-rises plane (Counted l be commit) past link = if_max-old (l == link) (register plane past link) (field_of plane be commit)
register-rises plane (WentDown l) past link = le_refl (register plane past link)
register-rises plane (Dropped l) past link = le_refl (register plane past link)

-- the register is at least each bound received
pub le-register : (plane : Plane) (b link : ℕ) (past : List Moment) → HasReceived plane b link past → b ≤ register plane past link
le-register plane b link [] never = absurd never
le-register plane b link (Received l be commit ∷ past) received =
    let before = le-register plane b link past in grind (arith, nat_tests, before, received)
le-register plane b link (Counted l be commit ∷ past) received =
    let before = le-register plane b link past in grind (arith, nat_tests, before, received)
le-register plane b link (WentDown l ∷ past) received = le-register plane b link past received
le-register plane b link (Dropped l ∷ past) received = le-register plane b link past received

-- a bound above 0 that a register reaches was received
pub HasReceived-from_register : (plane : Plane) (b link : ℕ) (past : List Moment) → 0 < b → b ≤ register plane past link → HasReceived plane b link past
HasReceived-from_register plane b link [] some low = absurd (omega arith)
HasReceived-from_register plane b link (Received l be commit ∷ past) some low =
    let before = HasReceived-from_register plane b link past some in grind (arith, nat_tests, before, low)
HasReceived-from_register plane b link (Counted l be commit ∷ past) some low =
    let before = HasReceived-from_register plane b link past some in grind (arith, nat_tests, before, low)
HasReceived-from_register plane b link (WentDown l ∷ past) some low = HasReceived-from_register plane b link past some low
HasReceived-from_register plane b link (Dropped l ∷ past) some low = HasReceived-from_register plane b link past some low

-- ---- the barrier is the greatest bound passed

passed_le-least : (plane : Plane) (b : ℕ) (past : List Moment) (ls : List LinkId)
    → 0 < length ls → All (λ l. HasReceived plane b l.0 past) ls → b ≤ least_of (register plane past) ls
passed_le-least plane b past [] some each = absurd (omega arith)
passed_le-least plane b past (l ∷ ls) some each =
    le-least_of (register plane past) b l ls (λ k d lt. le-register plane b (get_or (l ∷ ls) k d).0 past (each k d lt))

least_passed : (plane : Plane) (b : ℕ) (past : List Moment) (ls : List LinkId)
    → 0 < b → b ≤ least_of (register plane past) ls → (0 < length ls) × All (λ l. HasReceived plane b l.0 past) ls
least_passed plane b past [] some low = absurd (omega arith)
least_passed plane b past (l ∷ ls) some low =
    (omega arith, λ k d lt. HasReceived-from_register plane b (get_or (l ∷ ls) k d).0 past some (le_trans low (least_of-at (register plane past) l ls k d lt)))

-- a barrier never falls
pub barrier-rises : (plane : Plane) (ins : List LinkId) (m : Moment) (past : List Moment) → barrier plane ins past ≤ barrier plane ins (m ∷ past)
barrier-rises plane ins m past = if_max-old (is_look m) (barrier plane ins past) (level plane ins (m ∷ past))

pub IsPassed-le_barrier : (plane : Plane) (ins : List LinkId) (past : List Moment) (b : ℕ) → IsPassed plane ins past b → b ≤ barrier plane ins past
IsPassed-le_barrier plane ins [] b never = absurd never
IsPassed-le_barrier plane ins (m ∷ past) b (inl now) =
    le_trans (passed_le-least plane b (m ∷ past) (in_use plane ins (m ∷ past)) now.1.0 now.1.1)
    (if_max-more (is_look m) (barrier plane ins past) (level plane ins (m ∷ past)) now.0)
IsPassed-le_barrier plane ins (m ∷ past) b (inr before) =
    le_trans (IsPassed-le_barrier plane ins past b before) (barrier-rises plane ins m past)

-- a bound above 0 that the barrier reaches was passed
pub IsPassed-from_barrier : (plane : Plane) (ins : List LinkId) (past : List Moment) (b : ℕ) → 0 < b → b ≤ barrier plane ins past → IsPassed plane ins past b
IsPassed-from_barrier plane ins [] b some low = absurd (omega arith)
IsPassed-from_barrier plane ins (m ∷ past) b some low =
    let before = IsPassed-from_barrier plane ins past b some in
    let now = least_passed plane b (m ∷ past) (in_use plane ins (m ∷ past)) some in grind (arith, nat_tests, before, now, low)

pub barrier-is_greatest : (plane : Plane) (ins : List LinkId) (past : List Moment) → IsGreatestOrZero (IsPassed plane ins past) (barrier plane ins past)
barrier-is_greatest plane ins past = record {
  above = IsPassed-le_barrier plane ins past;
  reached = either (cases_lt 0 (barrier plane ins past));
}
  where
    either : (0 < barrier plane ins past) ⊎ (barrier plane ins past ≤ 0) → (barrier plane ins past ≡ 0) ⊎ IsPassed plane ins past (barrier plane ins past)
    either (inl some) = inr (IsPassed-from_barrier plane ins past (barrier plane ins past) some (le_refl (barrier plane ins past)))
    either (inr none) = inl (omega arith)

-- ---- a link in use bounds the barrier

-- the use of a link is lost for good
pub is_used-before : (plane : Plane) (m : Moment) (past : List Moment) (link : ℕ) → is_used plane (m ∷ past) link ≡ true → is_used plane past link ≡ true
is_used-before BestEffort (Received l be commit) past link used = used
is_used-before BestEffort (Counted l be commit) past link used = used
is_used-before BestEffort (WentDown l) past link used = grind (arith, nat_tests, used)
is_used-before BestEffort (Dropped l) past link used = grind (arith, nat_tests, used)
is_used-before Commit (Received l be commit) past link used = used
is_used-before Commit (Counted l be commit) past link used = used
is_used-before Commit (WentDown l) past link used = used
is_used-before Commit (Dropped l) past link used = grind (arith, nat_tests, used)

-- a link that passes a test is among those that pass it
pub filter-among : (test : LinkId → Bool) (link : ℕ) (ls : List LinkId) → ((l : LinkId) → l.0 ≡ link → test l ≡ true)
    → has_link link ls ≡ true → has_link link (filter test ls) ≡ true
filter-among test link ls passes among =
    any-filter_same (λ l. l.0 == link) test true (λ l same. passes l (eqb-true l.0 link same)) ls ∙ among

pub in_use-among : (plane : Plane) (ins : List LinkId) (past : List Moment) (link : ℕ) → has_link link ins ≡ true
    → is_used plane past link ≡ true → has_link link (in_use plane ins past) ≡ true
in_use-among plane ins past link among used =
    filter-among (λ l. is_used plane past l.0) link ins (λ l same. ap (is_used plane past) same ∙ used) among

if_max-le : (t : Bool) (old more bound : ℕ) → old ≤ bound → more ≤ bound → (if t then max old more else old) ≤ bound
if_max-le true old more bound low least = omega arith
if_max-le false old more bound low least = low

-- the barrier is at most the register of each in-link in use
pub barrier-le_register : (plane : Plane) (ins : List LinkId) (past : List Moment) (link : ℕ) → has_link link ins ≡ true
    → is_used plane past link ≡ true → barrier plane ins past ≤ register plane past link
barrier-le_register plane ins [] link among used = omega arith
barrier-le_register plane ins (m ∷ past) link among used =
    if_max-le (is_look m) (barrier plane ins past) (level plane ins (m ∷ past)) (register plane (m ∷ past) link)
    (le_trans (barrier-le_register plane ins past link among (is_used-before plane m past link used)) (register-rises plane m past link))
    (least_of-among (register plane (m ∷ past)) link (in_use plane ins (m ∷ past)) (in_use-among plane ins (m ∷ past) link among used))

-- ---- nothing is above the greatest field received

-- no field received is above the bound
abbrev pub AreFieldsWithin : Plane → ℕ → List Moment → Type 0
AreFieldsWithin plane bound [] = Unit {0}
AreFieldsWithin plane bound (Received l be commit ∷ past) = (field_of plane be commit ≤ bound) × AreFieldsWithin plane bound past
AreFieldsWithin plane bound (Counted l be commit ∷ past) = (field_of plane be commit ≤ bound) × AreFieldsWithin plane bound past
AreFieldsWithin plane bound (WentDown l ∷ past) = AreFieldsWithin plane bound past
AreFieldsWithin plane bound (Dropped l ∷ past) = AreFieldsWithin plane bound past

pub register-within : (plane : Plane) (bound : ℕ) (past : List Moment) (link : ℕ) → AreFieldsWithin plane bound past → register plane past link ≤ bound
register-within plane bound [] link within = omega arith
register-within plane bound (Received l be commit ∷ past) link within =
    if_max-le (l == link) (register plane past link) (field_of plane be commit) bound (register-within plane bound past link within.1) within.0
register-within plane bound (Counted l be commit ∷ past) link within =
    if_max-le (l == link) (register plane past link) (field_of plane be commit) bound (register-within plane bound past link within.1) within.0
register-within plane bound (WentDown l ∷ past) link within = register-within plane bound past link within
register-within plane bound (Dropped l ∷ past) link within = register-within plane bound past link within

AreFieldsWithin-before : (plane : Plane) (bound : ℕ) (m : Moment) (past : List Moment) → AreFieldsWithin plane bound (m ∷ past) → AreFieldsWithin plane bound past
AreFieldsWithin-before plane bound (Received l be commit) past within = within.1
AreFieldsWithin-before plane bound (Counted l be commit) past within = within.1
AreFieldsWithin-before plane bound (WentDown l) past within = within
AreFieldsWithin-before plane bound (Dropped l) past within = within

least-within : (value : ℕ → ℕ) (bound : ℕ) (ls : List LinkId) → ((link : ℕ) → value link ≤ bound) → least_of value ls ≤ bound
least-within value bound [] within = omega arith
least-within value bound (l ∷ ls) within = le_trans (least_of-at value l ls 0 l (omega arith)) (within l.0)

pub barrier-within : (plane : Plane) (bound : ℕ) (ins : List LinkId) (past : List Moment) → AreFieldsWithin plane bound past → barrier plane ins past ≤ bound
barrier-within plane bound ins [] within = omega arith
barrier-within plane bound ins (m ∷ past) within =
    if_max-le (is_look m) (barrier plane ins past) (level plane ins (m ∷ past)) bound
    (barrier-within plane bound ins past (AreFieldsWithin-before plane bound m past within))
    (least-within (register plane (m ∷ past)) bound (in_use plane ins (m ∷ past)) (λ link. register-within plane bound (m ∷ past) link within))
