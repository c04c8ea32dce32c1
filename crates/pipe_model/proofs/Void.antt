-- Who is noted stays noted with the first time, so what is void stays void.
use Rattle.std.proofs.Common.{◌≡◌, ℕ, ◌==◌, ◌||◌, not, if◌then◌else◌, Bool, true, false, List, [], ◌∷◌, ◌++◌, Option, None, Some, refl, inl, inr, sym, ap, ◌∙◌, cond, eqb-true}
use Rattle.std.proofs.lemmas.Bool.{and_parts, both_ways, or_cases, or_left, or_right, false≢true}
use Rattle.std.proofs.lemmas.Option.{none-some}
use Rattle.pipe_base.specs.declared.control.Announced.{Announced}
use Rattle.pipe_base.specs.declared.message.Key.{Key}
use Rattle.pipe_base.specs.declared.name.Ts.{Ts}
use Rattle.pipe_base.specs.Failed.{is_from, is_void, time_of, without_void}
use Rattle.pipe_base.specs.Messages.{Messages, has_key, same_key, without_keys}

first_here : (here : Bool) (a : Announced) (host : ℕ) (later more : List Announced) (t : Ts) → (time_of host later ≡ Some t → time_of host (later ++ more) ≡ Some t)
    → (if here then Some a.time else time_of host later) ≡ Some t → (if here then Some a.time else time_of host (later ++ more)) ≡ Some t
first_here true a host later more t rest is = is
first_here false a host later more t rest is = rest is

-- the first time of a host stands
pub time_first : (host : ℕ) (failed more : List Announced) (t : Ts) → time_of host failed ≡ Some t → time_of host (failed ++ more) ≡ Some t
time_first host [] more t is = absurd (none-some t is)
time_first host (a ∷ later) more t is = first_here (a.host.0 == host) a host later more t (time_first host later more t) is

void_by : (failed more : List Announced) (key : Key) (o : Option Ts) → time_of key.src.0 failed ≡ o → is_from o key.ts ≡ true → is_void (failed ++ more) key ≡ true
void_by failed more key None is void = absurd (false≢true void)
void_by failed more key (Some t) is void = ap (λ (o : Option Ts). is_from o key.ts) (time_first key.src.0 failed more t is) ∙ void

pub still_void : (failed more : List Announced) (key : Key) → is_void failed key ≡ true → is_void (failed ++ more) key ≡ true
still_void failed more key void = void_by failed more key (time_of key.src.0 failed) refl void

not_before_by : (before : Bool) (failed more : List Announced) (key : Key) → is_void failed key ≡ before → is_void (failed ++ more) key ≡ false → before ≡ false
not_before_by true failed more key was isnt = absurd (both_ways (is_void (failed ++ more) key) isnt (still_void failed more key was))
not_before_by false failed more key was isnt = refl

-- what is not void was not void before
pub not_void_before : (failed more : List Announced) (key : Key) → is_void (failed ++ more) key ≡ false → is_void failed key ≡ false
not_void_before failed more key isnt = not_before_by (is_void failed key) failed more key refl isnt

-- ---- what stands among messages

pub same_void : (failed : List Announced) (a b : Key) → same_key a b ≡ true → is_void failed a ≡ is_void failed b
same_void failed a b same =
    let parts = and_parts (a.ts.0 == b.ts.0) (a.src.0 == b.src.0) same in
    ap (λ (n : ℕ). is_from (time_of n failed) a.ts) (eqb-true a.src.0 b.src.0 parts.1)
    ∙ ap (λ (n : ℕ). is_from (time_of b.src.0 failed) (record { 0 = n })) (eqb-true a.ts.0 b.ts.0 parts.0)

stands_first : (out : Bool) (test : Key → Bool) (key : Key) (m : Key × List ℕ) (ms : Messages) → test m.0 ≡ out → test m.0 ≡ test key → test key ≡ false
    → same_key m.0 key ≡ true → has_key key (cond (not out) (m ∷ ms) ms) ≡ true
stands_first true test key m ms is alike isnt same = absurd (both_ways (test key) isnt (sym alike ∙ is))
stands_first false test key m ms is alike isnt same = or_left (same_key m.0 key) (has_key key ms) same

stands_rest : (out : Bool) (key : Key) (m : Key × List ℕ) (ms : Messages) → has_key key ms ≡ true → has_key key (cond (not out) (m ∷ ms) ms) ≡ true
stands_rest true key m ms has = has
stands_rest false key m ms has = or_right (same_key m.0 key) (has_key key ms) has

-- a test that does not tell keys apart that are the same
abbrev pub IsOfKeys : (Key → Bool) → Type 0
IsOfKeys test = (a b : Key) → same_key a b ≡ true → test a ≡ test b

-- a message that is held stands where the test leaves it
pub has_without_keys : (test : Key → Bool) (key : Key) (ms : Messages) → IsOfKeys test → test key ≡ false → has_key key ms ≡ true → has_key key (without_keys test ms) ≡ true
has_without_keys test key [] alike isnt has = has
has_without_keys test key (m ∷ ms) alike isnt has =
    elim (or_cases (same_key m.0 key) (has_key key ms) has) [
      | inl same ↦ stands_first (test m.0) test key m (without_keys test ms) refl (alike m.0 key same) isnt same
      | inr later ↦ stands_rest (test m.0) key m (without_keys test ms) (has_without_keys test key ms alike isnt later)
    ]

-- a message that is held and not void stands
pub has_without : (failed : List Announced) (key : Key) (ms : Messages) → is_void failed key ≡ false → has_key key ms ≡ true → has_key key (without_void failed ms) ≡ true
has_without failed key ms isnt has = has_without_keys (is_void failed) key ms (same_void failed) isnt has

taken_first : (out same : Bool) (test : Key → Bool) (key : Key) (m : Key × List ℕ) (ms : Messages) → test m.0 ≡ out → same_key m.0 key ≡ same
    → (same_key m.0 key ≡ true → test m.0 ≡ test key) → test key ≡ true → has_key key ms ≡ false → has_key key (cond (not out) (m ∷ ms) ms) ≡ false
taken_first true same test key m ms is here alike out none = none
taken_first false true test key m ms is here alike out none = absurd (both_ways (test key) (sym (alike here) ∙ is) out)
taken_first false false test key m ms is here alike out none = ap (λ (b : Bool). b || has_key key ms) here ∙ none

-- a message that the test takes out is not there
pub hasnt_without_keys : (test : Key → Bool) (key : Key) (ms : Messages) → IsOfKeys test → test key ≡ true → has_key key (without_keys test ms) ≡ false
hasnt_without_keys test key [] alike out = refl
hasnt_without_keys test key (m ∷ ms) alike out =
    taken_first (test m.0) (same_key m.0 key) test key m (without_keys test ms) refl refl (alike m.0 key) out (hasnt_without_keys test key ms alike out)
