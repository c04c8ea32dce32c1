-- Lists of announced hosts, and the times in them.
use Rattle.std.proofs.Common.{◌≡◌, ℕ, ◌+◌, ◌<◌, ◌≤◌, ◌==◌, ◌||◌, if◌then◌else◌, Bool, true, false, List, [], ◌∷◌, ◌++◌, length, drop, Option, None, Some, refl, sym, ap, ◌∙◌, subst, append-nil, append_assoc, length-append, eqb-true, true≢false, arith}
use Rattle.std.specs.List.{All}
use Rattle.std.proofs.lemmas.Bool.{or_left}
use Rattle.std.proofs.lemmas.Bool.Decides.{nat_tests}
use Rattle.std.proofs.lemmas.List.Elements.{All-head, All-tail}
use Rattle.std.proofs.lemmas.List.Folds.{list_any-append}
use Rattle.pipe_base.specs.declared.control.Announced.{Announced}
use Rattle.pipe_base.specs.declared.message.Key.{Key}
use Rattle.pipe_base.specs.declared.name.Ts.{Ts}
use Rattle.pipe_base.specs.Failed.{is_announced, is_from, is_void, past_known, time_of}
use Rattle.pipe_model.proofs.Void.{not_void_before, time_first}
use Rattle.pipe_model_atomic.specs.Begins.{Begins}

-- ---- times

pub one_time : (a b : Ts) → Some a ≡ Some b → a ≡ b
one_time a b same = cc

-- a host without an entry has the time of what follows
pub time_after : (host : ℕ) (xs ys : List Announced) → is_announced host xs ≡ false → time_of host (xs ++ ys) ≡ time_of host ys
time_after host [] ys isnt = refl
time_after host (a ∷ xs) ys isnt = by (a.host.0 == host) isnt (time_after host xs ys)
  where
    by : (b : Bool) → (b || is_announced host xs) ≡ false → (is_announced host xs ≡ false → time_of host (xs ++ ys) ≡ time_of host ys)
        → (if b then Some a.time else time_of host (xs ++ ys)) ≡ time_of host ys
    by true never later = absurd (true≢false never)
    by false none later = later none

-- where there is an entry there is a time, and the other way
pub has_time : (host : ℕ) (xs : List Announced) → is_announced host xs ≡ true → (time : Ts) × (time_of host xs ≡ Some time)
has_time host [] is = absurd (true≢false (sym is))
has_time host (a ∷ xs) is = by (a.host.0 == host) is (has_time host xs)
  where
    by : (b : Bool) → (b || is_announced host xs) ≡ true → (is_announced host xs ≡ true → (time : Ts) × (time_of host xs ≡ Some time))
        → (time : Ts) × ((if b then Some a.time else time_of host xs) ≡ Some time)
    by true here later = (a.time, refl)
    by false there later = later there

pub is_timed : (host : ℕ) (time : Ts) (xs : List Announced) → time_of host xs ≡ Some time → is_announced host xs ≡ true
is_timed host time [] is = cc
is_timed host time (a ∷ xs) is = by (a.host.0 == host) is (is_timed host time xs)
  where
    by : (b : Bool) → (if b then Some a.time else time_of host xs) ≡ Some time → (time_of host xs ≡ Some time → is_announced host xs ≡ true)
        → (b || is_announced host xs) ≡ true
    by true here later = refl
    by false there later = later there

-- what holds of each entry holds of a host and its time
pub time_gives : (P : ℕ → Ts → Type 0) (host : ℕ) (time : Ts) (xs : List Announced) → All (λ a. P a.host.0 a.time) xs → time_of host xs ≡ Some time → P host time
time_gives P host time [] all is = cc
time_gives P host time (a ∷ xs) all is =
    by (a.host.0 == host) refl is (time_gives P host time xs (All-tail (λ (x : Announced). P x.host.0 x.time) a xs all))
  where
    by : (b : Bool) → (a.host.0 == host) ≡ b → (if b then Some a.time else time_of host xs) ≡ Some time → (time_of host xs ≡ Some time → P host time) → P host time
    by true same here later =
        let time_is : a.time ≡ time = cc in
        subst (λ (t : Ts). P host t) time_is
        (subst (λ (n : ℕ). P n a.time) (eqb-true a.host.0 host same) (All-head (λ (x : Announced). P x.host.0 x.time) a xs all))
    by false other there later = later there

-- ---- lists that begin others

pub begins_same : {A : Type 0} (xs : List A) → Begins xs xs
begins_same xs = ([], append-nil xs)

pub begins_still : {A : Type 0} (known all : List A) → Begins known all → Begins (known ++ []) all
begins_still {A = A} known all begins = subst (λ (l : List A). Begins l all) (sym (append-nil known)) begins

pub begins_more : {A : Type 0} (xs ys zs : List A) → Begins xs ys → Begins ys zs → Begins xs zs
begins_more {A = A} xs ys zs first second =
    (first.0 ++ second.0, sym (append_assoc xs first.0 second.0) ∙ ap (λ (l : List A). l ++ second.0) first.1 ∙ second.1)

pub begins_shorter : {A : Type 0} (xs ys : List A) → Begins xs ys → length xs ≤ length ys
begins_shorter {A = A} xs ys begins =
    let size : length xs + length begins.0 ≡ length ys = sym (length-append xs begins.0) ∙ ap (λ (l : List A). length l) begins.1 in omega (arith, size)

nothing_more : {A : Type 0} (xs later : List A) → length later ≤ 0 → xs ++ later ≡ xs
nothing_more xs [] short = append-nil xs
nothing_more xs (y ∷ ys) short = absurd (omega (arith, short))

-- a list that is as long as the other one is the other one
pub begins_whole : {A : Type 0} (xs ys : List A) → Begins xs ys → length ys ≤ length xs → ys ≡ xs
begins_whole {A = A} xs ys begins long =
    let size : length xs + length begins.0 ≡ length ys = sym (length-append xs begins.0) ∙ ap (λ (l : List A). length l) begins.1 in
    sym begins.1 ∙ nothing_more xs begins.0 (omega (arith, size, long))

pub time_begins : (host : ℕ) (time : Ts) (xs ys : List Announced) → Begins xs ys → time_of host xs ≡ Some time → time_of host ys ≡ Some time
time_begins host time xs ys begins is = subst (λ (l : List Announced). time_of host l ≡ Some time) begins.1 (time_first host xs begins.0 time is)

or_false : (a b : Bool) → (a || b) ≡ false → a ≡ false
or_false true b is = is
or_false false b is = refl

pub announced_before : (host : ℕ) (xs ys : List Announced) → Begins xs ys → is_announced host ys ≡ false → is_announced host xs ≡ false
announced_before host xs ys begins isnt =
    or_false (is_announced host xs) (is_announced host begins.0)
    (sym (list_any-append (λ (a : Announced). a.host.0 == host) xs begins.0)
    ∙ ap (is_announced host) begins.1 ∙ isnt)

-- who is announced in a list is announced in one that it begins
pub announced_still : (host : ℕ) (xs ys : List Announced) → Begins xs ys → is_announced host xs ≡ true → is_announced host ys ≡ true
announced_still host xs ys begins is =
    sym (ap (is_announced host) begins.1) ∙ list_any-append (λ (a : Announced). a.host.0 == host) xs begins.0
    ∙ or_left (is_announced host xs) (is_announced host begins.0) is

-- what one knows of a list, with what is past it in another one, is the longer one of the two
longer : {A : Type 0} (xs ys more rest : List A) → xs ++ more ≡ ys ++ rest → Begins (xs ++ drop (length xs) ys) (xs ++ more)
longer [] ys more rest same = (rest, sym same)
longer {A = A} (x ∷ xs) [] more rest same = (more, ap (λ (l : List A). l ++ more) (append-nil (x ∷ xs)))
longer {A = A} (x ∷ xs) (y ∷ ys) more rest same =
    let tails : xs ++ more ≡ ys ++ rest = cc in
    let later = longer xs ys more rest tails in
    (later.0, ap (λ (l : List A). x ∷ l) later.1)

pub known_and_told : {A : Type 0} (known list all : List A) → Begins known all → Begins list all → Begins (known ++ past_known known list) all
known_and_told known list all mine told =
    subst (Begins (known ++ past_known known list)) mine.1 (longer known list mine.0 told.0 (mine.1 ∙ sym told.1))

-- ---- what is void

-- what is not void by a list is not void by one that it begins with
pub not_void_first : (key : Key) (xs ys : List Announced) → Begins xs ys → is_void ys key ≡ false → is_void xs key ≡ false
not_void_first key xs ys begins isnt = not_void_before xs begins.0 key (ap (λ (l : List Announced). is_void l key) begins.1 ∙ isnt)

-- a message is void where its sender has a time that is at most the timestamp, and only there
from_time : (time ts : Ts) → is_from (Some time) ts ≡ true → time.0 ≤ ts.0
from_time time ts is = grind (arith, nat_tests, is)

before_time : (time ts : Ts) → is_from (Some time) ts ≡ false → ts.0 < time.0
before_time time ts isnt = grind (arith, nat_tests, isnt)

pub void_gives : (key : Key) (xs : List Announced) → is_void xs key ≡ true → (time : Ts) × (time_of key.src.0 xs ≡ Some time) × (time.0 ≤ key.ts.0)
void_gives key xs void = by (time_of key.src.0 xs) refl void
  where
    by : (o : Option Ts) → time_of key.src.0 xs ≡ o → is_from o key.ts ≡ true → (time : Ts) × (time_of key.src.0 xs ≡ Some time) × (time.0 ≤ key.ts.0)
    by None is void = absurd (true≢false (sym void))
    by (Some time) is void = (time, is, from_time time key.ts void)

pub time_above : (key : Key) (time : Ts) (xs : List Announced) → is_void xs key ≡ false → time_of key.src.0 xs ≡ Some time → key.ts.0 < time.0
time_above key time xs isnt is = before_time time key.ts (sym (ap (λ (o : Option Ts). is_from o key.ts) is) ∙ isnt)

-- a host that is noted has its time in the list that the notes begin
pub void_noted : (key : Key) (xs ys : List Announced) → Begins xs ys → is_announced key.src.0 xs ≡ true → is_void ys key ≡ true → is_void xs key ≡ true
void_noted key xs ys begins noted void =
    let at = has_time key.src.0 xs noted in
    let same : time_of key.src.0 ys ≡ Some at.0 = time_begins key.src.0 at.0 xs ys begins at.1 in
    ap (λ (o : Option Ts). is_from o key.ts) (at.1 ∙ sym same) ∙ void
