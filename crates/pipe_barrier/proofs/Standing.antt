-- What is kept stands for one moment more, and what a search among the registers finds.
use Rattle.std.proofs.Common.{◌≡◌, ℕ, ◌+◌, ◌<◌, ◌≤◌, ◌==◌, ◌&&◌, ◌||◌, if◌then◌else◌, max, min, Bool, true, false, cond, not, Option, None, Some, unwrap_or, option_map, nat_le, List, [], ◌∷◌, length, get_or, drop, map, filter, find, reverse, refl, sym, ap, ap₂, ◌∙◌, le_refl, le_trans, arith}
use Rattle.std.proofs.lemmas.Bool.{and_parts, not-true}
use Rattle.std.specs.List.{list_any}
use Rattle.std.proofs.lemmas.List.{at_drop_more, at_drop_all}
use Rattle.std.proofs.lemmas.Bool.Decides.{nat_tests}
use Rattle.std.proofs.lemmas.List.Sorted.{list_any-IsPermutation, IsPermutation-reverse}
use Rattle.pipe_base.specs.declared.control.Addressed.{Addressed}
use Rattle.pipe_base.specs.declared.name.LinkId.{LinkId}
use Rattle.pipe_base.specs.declared.name.Ts.{Ts}
use Rattle.pipe_base.specs.declared.packet.Plane.{Plane}
use Rattle.pipe_base.specs.declared.packet.Plane.TheVariants.{BestEffort, Commit}
use Rattle.pipe_base.specs.Moment.{Moment, is_used, in_use, has_link}
use Rattle.pipe_base.specs.Barrier.{register, least_of, level, barrier}
use Rattle.pipe_barrier.specs.declared.change.Change.{Change}
use Rattle.pipe_barrier.specs.declared.change.Change.TheVariants.{Received, WentDown, Dropped}
use Rattle.pipe_barrier.specs.declared.register.Register.{Register}
use Rattle.pipe_barrier.specs.declared.registers.Barriers.{Barriers}
use Rattle.pipe_barrier.specs.Register.{register_of, moment_of, changed, register_after, lowered, is_counted, value_of, least_from, told_of}
use Rattle.pipe_barrier.specs.Registers.{AreBarriers, Stands, downs, downs_among, is_down, kept_with, holds}
use Rattle.pipe_barrier.proofs.Walk.{found_first}

-- ---- the registers

after_received : (t : Bool) (be commit : Ts) (r : Register) → (if t then changed (Received be commit) r else r) ≡ record r {
  be = record { 0 = if t then max r.be.0 be.0 else r.be.0 };
  commit = record { 0 = if t then max r.commit.0 commit.0 else r.commit.0 };
}
after_received true be commit r = refl
after_received false be commit r = refl

after_down : (t : Bool) (r : Register) → (if t then changed WentDown r else r) ≡ record r { up = if t then false else r.up }
after_down true r = refl
after_down false r = refl

after_drop : (t : Bool) (r : Register) → (if t then changed Dropped r else r) ≡ record r {
  up = if t then false else r.up;
  retained = if t then false else r.retained;
}
after_drop true r = refl
after_drop false r = refl

register_after-register_of : (l : LinkId) (change : Change) (past : List Moment) (m : LinkId)
    → register_after l change (register_of past m) ≡ register_of (moment_of l change ∷ past) m
register_after-register_of l (Received be commit) past m = after_received (l.0 == m.0) be commit (register_of past m)
register_after-register_of l WentDown past m = after_down (l.0 == m.0) (register_of past m)
register_after-register_of l Dropped past m = after_drop (l.0 == m.0) (register_of past m)

map-register_after : (l : LinkId) (change : Change) (past : List Moment) (ins : List LinkId)
    → map (register_after l change) (map (register_of past) ins) ≡ map (register_of (moment_of l change ∷ past)) ins
map-register_after l change past [] = refl
map-register_after l change past (m ∷ ms) =
    ap₂ (λ (r : Register) (rs : List Register). r ∷ rs) (register_after-register_of l change past m) (map-register_after l change past ms)

-- ---- the least register

-- the least value over links, from a value on
abbrev least_with : Option ℕ → (ℕ → ℕ) → List LinkId → ℕ
least_with None value ls = least_of value ls
least_with (Some low) value [] = low
least_with (Some low) value (l ∷ ls) = min low (least_of value (l ∷ ls))

least_with-lowered : (t : Bool) (low : Option ℕ) (value : ℕ → ℕ) (l : LinkId) (ls : List LinkId)
    → least_with (lowered low t (value l.0)) value ls ≡ least_with low value (cond t (l ∷ ls) ls)
least_with-lowered false low value l ls = refl
least_with-lowered true None value l [] = refl
least_with-lowered true None value l (m ∷ ls) = refl
least_with-lowered true (Some low) value l [] = refl
least_with-lowered true (Some low) value l (m ∷ ls) = omega arith

is_counted-register_of : (plane : Plane) (past : List Moment) (l : LinkId) → is_counted plane (register_of past l) ≡ is_used plane past l.0
is_counted-register_of BestEffort past l = refl
is_counted-register_of Commit past l = refl

value_of-register_of : (plane : Plane) (past : List Moment) (l : LinkId) → value_of plane (register_of past l) ≡ register plane past l.0
value_of-register_of BestEffort past l = refl
value_of-register_of Commit past l = refl

least_from-register_of : (plane : Plane) (low : Option ℕ) (past : List Moment) (ins : List LinkId)
    → least_from plane low (map (register_of past) ins) ≡ least_with low (register plane past) (in_use plane ins past)
least_from-register_of plane None past [] = refl
least_from-register_of plane (Some low) past [] = refl
least_from-register_of plane low past (l ∷ ls) =
    least_from-register_of plane (lowered low (is_counted plane (register_of past l)) (value_of plane (register_of past l))) past ls
    ∙ ap₂ (λ (t : Bool) (n : ℕ). least_with (lowered low t n) (register plane past) (in_use plane ls past))
    (is_counted-register_of plane past l) (value_of-register_of plane past l)
    ∙ least_with-lowered (is_used plane past l.0) low (register plane past) l (in_use plane ls past)

-- each change is looked at
barrier-moment_of : (plane : Plane) (ins : List LinkId) (l : LinkId) (change : Change) (past : List Moment)
    → barrier plane ins (moment_of l change ∷ past) ≡ max (barrier plane ins past) (level plane ins (moment_of l change ∷ past))
barrier-moment_of plane ins l (Received be commit) past = refl
barrier-moment_of plane ins l WentDown past = refl
barrier-moment_of plane ins l Dropped past = refl

barrier_follows : (plane : Plane) (ins : List LinkId) (l : LinkId) (change : Change) (past : List Moment) (old : ℕ) (links : List Register)
    → links ≡ map (register_of past) ins → old ≡ barrier plane ins past
    → max old (least_from plane None (map (register_after l change) links)) ≡ barrier plane ins (moment_of l change ∷ past)
barrier_follows plane ins l change past old links links_are old_is =
    let now : List Moment = moment_of l change ∷ past in
    let links_now : map (register_after l change) links ≡ map (register_of now) ins =
    ap (map (register_after l change)) links_are ∙ map-register_after l change past ins in
    let least_is : least_from plane None (map (register_after l change) links) ≡ level plane ins now =
    ap (least_from plane None) links_now ∙ least_from-register_of plane None now ins in
    ap₂ max old_is least_is ∙ sym (barrier-moment_of plane ins l change past)

-- the barriers of a walk that changes one link
pub barriers_follow : (ins : List LinkId) (l : LinkId) (change : Change) (past : List Moment) (links : List Register) (old new : Barriers)
    → Stands ins (kept_with links old) past
    → new.be.0 ≡ max old.be.0 (least_from BestEffort None (map (register_after l change) links))
    → new.commit.0 ≡ max old.commit.0 (least_from Commit None (map (register_after l change) links))
    → AreBarriers ins (moment_of l change ∷ past) new
barriers_follow ins l change past links old new stands be_is commit_is = record {
  be_is = be_is ∙ barrier_follows BestEffort ins l change past old.be.0 links stands.links_are stands.be_is;
  commit_is = commit_is ∙ barrier_follows Commit ins l change past old.commit.0 links stands.links_are stands.commit_is;
}

-- and what it leaves
pub stands_after : (ins : List LinkId) (l : LinkId) (change : Change) (past : List Moment) (links now : List Register) (old new : Barriers)
    → Stands ins (kept_with links old) past → now ≡ map (register_after l change) links
    → AreBarriers ins (moment_of l change ∷ past) new → Stands ins (kept_with now new) (moment_of l change ∷ past)
stands_after ins l change past links now old new stands now_is are = record {
  links_are = now_is ∙ ap (map (register_after l change)) stands.links_are ∙ map-register_after l change past ins;
  be_is = are.be_is;
  commit_is = are.commit_is;
}

-- ---- the walk

-- and the least of those that are still ahead is known from a value on
pub least_turn : (plane : Plane) (f : Register → Register) (low now : Option ℕ) (xs : List Register) (i : ℕ) (d y : Register) → i < length xs
    → y ≡ f (get_or xs i d) → now ≡ lowered low (is_counted plane y) (value_of plane y)
    → least_from plane now (map f (drop (i + 1) xs)) ≡ least_from plane low (map f (drop i xs))
least_turn plane f low now xs i d y lt y_is now_is =
    ap (λ (o : Option ℕ). least_from plane o (map f (drop (i + 1) xs)))
    (now_is ∙ ap (λ (r : Register). lowered low (is_counted plane r) (value_of plane r)) y_is)
    ∙ sym (at_drop_more (λ (rs : List Register). least_from plane low (map f rs)) xs i d lt)

-- at the end the value is the least of all
least_at_end : (plane : Plane) (f : Register → Register) (low : Option ℕ) (links : List Register) (i : ℕ) → length links ≤ i
    → least_from plane low (map f (drop i links)) ≡ least_from plane None (map f links) → unwrap_or low 0 ≡ least_from plane None (map f links)
least_at_end plane f low links i past_end is = sym (at_drop_all (λ (rs : List Register). least_from plane low (map f rs)) links i past_end) ∙ is

pub walk_follows : (ins : List LinkId) (l : LinkId) (change : Change) (past : List Moment) (links : List Register) (old new : Barriers)
    (be commit : Option ℕ) (i : ℕ) → Stands ins (kept_with links old) past → length links ≤ i
    → least_from BestEffort be (map (register_after l change) (drop i links)) ≡ least_from BestEffort None (map (register_after l change) links)
    → least_from Commit commit (map (register_after l change) (drop i links)) ≡ least_from Commit None (map (register_after l change) links)
    → new.be.0 ≡ max old.be.0 (unwrap_or be 0) → new.commit.0 ≡ max old.commit.0 (unwrap_or commit 0)
    → AreBarriers ins (moment_of l change ∷ past) new
walk_follows ins l change past links old new be commit i stands past_end be_walk commit_walk be_is commit_is =
    barriers_follow ins l change past links old new stands
    (be_is ∙ ap (max old.be.0) (least_at_end BestEffort (register_after l change) be links i past_end be_walk))
    (commit_is ∙ ap (max old.commit.0) (least_at_end Commit (register_after l change) commit links i past_end commit_walk))

-- ---- what the controller is told

told_first : (t : Bool) (r : Register) (l : LinkId) (ls : List LinkId) (told : List Addressed) (all : LinkId → Addressed) → told ≡ map all ls → all l ≡ told_of r
    → (if t then told_of r ∷ told else told) ≡ map all (cond t (l ∷ ls) ls)
told_first true r l ls told all is first = ap₂ (λ (a : Addressed) (bs : List Addressed). a ∷ bs) (sym first) is
told_first false r l ls told all is first = is

-- the registers tell of the links that are down
pub downs_kept : (past : List Moment) (ins : List LinkId) → downs_among (map (register_of past) ins) ≡ downs ins past
downs_kept past [] = refl
downs_kept past (l ∷ ls) =
    told_first (is_down past l) (register_of past l) l (filter (is_down past) ls) (downs_among (map (register_of past) ls)) (λ (m : LinkId). told_of (register_of past m)) (downs_kept past ls) refl

-- ---- a link that holds the barriers

-- a value that is known bounds the least
within_turn : (t : Bool) (low value : ℕ) (rest : Option ℕ → ℕ) → ((n : ℕ) → rest (Some n) ≤ n) → rest (lowered (Some low) t value) ≤ low
within_turn false low value rest all = all low
within_turn true low value rest all = omega (arith, all (min low value))

least_within : (plane : Plane) (low : ℕ) (rs : List Register) → least_from plane (Some low) rs ≤ low
least_within plane low [] = le_refl low
least_within plane low (r ∷ rs) =
    within_turn (is_counted plane r) low (value_of plane r) (λ o. least_from plane o rs) (λ n. least_within plane n rs)

-- and so does each that counts
least_at : (plane : Plane) (low : Option ℕ) (r : Register) (rs : List Register) → is_counted plane r ≡ true → least_from plane low (r ∷ rs) ≤ value_of plane r
least_at plane None r rs counted = rw counted (least_within plane (value_of plane r) rs)
least_at plane (Some low) r rs counted = rw counted (omega (arith, least_within plane (min low (value_of plane r)) rs))

-- the barrier in a plane
abbrev bound_of : Plane → Barriers → ℕ
bound_of BestEffort b = b.be.0
bound_of Commit b = b.commit.0

held_at : (plane : Plane) (l : LinkId) (b : Barriers) (r : Register) → holds l b r ≡ true
    → ((l.0 == r.link.0) ≡ false) × (is_counted plane r ≡ true) × (value_of plane r ≤ bound_of plane b)
held_at plane l b r is =
    let other = and_parts (not (l.0 == r.link.0)) _ is in
    let up = and_parts r.up _ other.1 in
    let kept = and_parts r.retained _ up.1 in
    let bounds = and_parts (nat_le r.be.0 b.be.0) (nat_le r.commit.0 b.commit.0) kept.1 in
    let known = at plane up.0 kept.0 bounds.0 bounds.1 in
    (not-true (l.0 == r.link.0) other.0, known.0, known.1)
  where
    at : (plane : Plane) → r.up ≡ true → r.retained ≡ true → nat_le r.be.0 b.be.0 ≡ true → nat_le r.commit.0 b.commit.0 ≡ true
        → (is_counted plane r ≡ true) × (value_of plane r ≤ bound_of plane b)
    at BestEffort up kept be commit = (up, grind (arith, nat_tests))
    at Commit up kept be commit = (kept, grind (arith, nat_tests))

held_turn : (plane : Plane) (l : LinkId) (change : Change) (b : Barriers) (low : Option ℕ) (r : Register) (rs : List Register) (t : Bool)
    → holds l b r ≡ t → (t || list_any (holds l b) rs) ≡ true
    → ((o : Option ℕ) → list_any (holds l b) rs ≡ true → least_from plane o (map (register_after l change) rs) ≤ bound_of plane b)
    → least_from plane low (map (register_after l change) (r ∷ rs)) ≤ bound_of plane b
held_turn plane l change b low r rs true here is later =
    let known = held_at plane l b r here in
    let same : register_after l change r ≡ r = rw known.0 refl in
    rw same (le_trans (least_at plane low r (map (register_after l change) rs) known.1) known.2)
held_turn plane l change b low r rs false here is later = later _ is

least_held : (plane : Plane) (l : LinkId) (change : Change) (b : Barriers) (low : Option ℕ) (rs : List Register)
    → list_any (holds l b) rs ≡ true → least_from plane low (map (register_after l change) rs) ≤ bound_of plane b
least_held plane l change b low [] none = absurd cc
least_held plane l change b low (r ∷ rs) some =
    held_turn plane l change b low r rs (holds l b r) refl some (λ o later. least_held plane l change b o rs later)

pub held_follows : (ins : List LinkId) (l : LinkId) (change : Change) (past : List Moment) (links : List Register) (b : Barriers)
    → Stands ins (kept_with links b) past → list_any (holds l b) (reverse links) ≡ true → AreBarriers ins (moment_of l change ∷ past) b
held_follows ins l change past links b stands held =
    let some : list_any (holds l b) links ≡ true =
    list_any-IsPermutation (holds l b) links (reverse links) (IsPermutation-reverse links) ∙ held in
    barriers_follow ins l change past links b b stands
    (omega (arith, least_held BestEffort l change b None links some))
    (omega (arith, least_held Commit l change b None links some))

-- ---- a search among the registers

-- the register of an in-link is found, and none of another link
pub find-register_of : (past : List Moment) (link : LinkId) (ins : List LinkId)
    → find (λ r. r.link.0 == link.0) (map (register_of past) ins) ≡ (if has_link link.0 ins then Some (register_of past link) else None)
find-register_of past link [] = refl
find-register_of past link (m ∷ ms) =
    found_first (m.0 == link.0) (register_of past) link m (find (λ r. r.link.0 == link.0) (map (register_of past) ms)) (has_link link.0 ms) refl (find-register_of past link ms)

-- what a search tells of a link
pub found_is : (past : List Moment) (link : LinkId) (ins : List LinkId) (links : List Register) (o : Option Register)
    → links ≡ map (register_of past) ins → o ≡ find (λ r. r.link.0 == link.0) links
    → o ≡ (if has_link link.0 ins then Some (register_of past link) else None)
found_is past link ins links o links_are found =
    found ∙ ap (find (λ r. r.link.0 == link.0)) links_are ∙ find-register_of past link ins

pub up_is : (b : Bool) (o : Option Register) (r : Register) → o ≡ (if b then Some r else None) → unwrap_or (option_map (λ (x : Register). x.up) o) false ≡ (b && r.up)
up_is true o r is = ap (λ (p : Option Register). unwrap_or (option_map (λ (x : Register). x.up) p) false) is
up_is false o r is = ap (λ (p : Option Register). unwrap_or (option_map (λ (x : Register). x.up) p) false) is

pub removed_is : (b : Bool) (o : Option Register) (r : Register) → o ≡ (if b then Some r else None)
    → unwrap_or (option_map (λ (x : Register). not x.retained) o) false ≡ (b && not r.retained)
removed_is true o r is = ap (λ (p : Option Register). unwrap_or (option_map (λ (x : Register). not x.retained) p) false) is
removed_is false o r is = ap (λ (p : Option Register). unwrap_or (option_map (λ (x : Register). not x.retained) p) false) is

pub commit_is : (b : Bool) (o : Option Register) (r : Register) → o ≡ (if b then Some r else None)
    → unwrap_or (option_map (λ (x : Register). x.commit.0) o) 0 ≡ (if b then r.commit.0 else 0)
commit_is true o r is = ap (λ (p : Option Register). unwrap_or (option_map (λ (x : Register). x.commit.0) p) 0) is
commit_is false o r is = ap (λ (p : Option Register). unwrap_or (option_map (λ (x : Register). x.commit.0) p) 0) is
