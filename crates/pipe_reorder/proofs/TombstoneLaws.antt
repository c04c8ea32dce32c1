-- Laws of tombstones: keys of messages that were taken back.
use Rattle.std.proofs.Common.{◌≡◌, ℕ, ◌≤◌, ◌||◌, ◌&&◌, not, Bool, true, false, cond, nat_le, List, [], ◌∷◌, Option, None, Some, refl, sym, subst, ap, ap₂, ◌∙◌, arith, le-leb}
use Rattle.std.proofs.lemmas.Bool.{and_parts, not-true}
use Rattle.std.proofs.lemmas.Bool.Decides.{nat_tests}
use Rattle.std.proofs.lemmas.Map.Views.{any-filter_same}
use Rattle.std.proofs.lemmas.List.Elements.{All-weaker}
use Rattle.std.specs.List.{All, list_any}
use Rattle.std.specs.BTreeMap.{is_at}
use Rattle.std.specs.BTreeMap.Range.{IsLeBy}
use Rattle.std.specs.BTreeSet.{insert_key}
use Rattle.std.specs.Set.{remove_key}
use Rattle.std.specs.Ordering.{is_gt, match_ordering}
use Rattle.std.specs.declared.cmp.Ordering.{Ordering}
use Rattle.std.specs.declared.cmp.Ordering.TheVariants.{Less, Equal, Greater}
use Rattle.pipe_base.specs.declared.message.Key.{Key}
use Rattle.pipe_base.specs.Messages.{Messages, key_cmp, same_key, without_message}
use Rattle.pipe_base.proofs.KeyOrder.{equal_same, less_before}
use Rattle.pipe_base.proofs.MessageLaws.{filter_all, is_at-same_key, same_from_key, same_key-refl}
use Rattle.pipe_reorder.specs.Buffer.{Buffer, but_newest, has_tombstone, is_buried_by, keys_from, with_buried, with_no_buried, with_recalled, with_tombstone, with_unburied, without_newest}

-- what a set answers for a key
pub found_key : (k : Key) (ks : List Key) → list_any (is_at (key_cmp k)) ks ≡ has_tombstone ks k
found_key k [] = refl
found_key k (x ∷ ks) = ap₂ (λ (a b : Bool). a || b) (is_at-same_key k x) (found_key k ks)

-- ---- a barrier passes

-- where the first key is not below the barrier, all stay
pub all_keys_stay : (b : ℕ) (k : Key) (ks : List Key) → All (IsLeBy key_cmp k) ks → b ≤ k.ts.0 → keys_from b ks ≡ ks
all_keys_stay b k ks each low =
    filter_all (λ x. nat_le b x.ts.0) ks
    (All-weaker (IsLeBy key_cmp k) (λ (x : Key). nat_le b x.ts.0 ≡ true) (λ x later. grind (arith, nat_tests, later, low)) ks each)

-- ---- one tombstone more, one less

-- what was put where it was not is taken out again
pub remove-insert : (k : Key) (ks : List Key) → has_tombstone ks k ≡ false → remove_key (is_at (key_cmp k)) (insert_key key_cmp ks k) ≡ ks
remove-insert k [] absent = let self = same_key-refl k in grind (arith, nat_tests, self)
remove-insert k (x ∷ ks) absent = let rest = remove-insert k ks in grind (arith, nat_tests, rest, absent)

unburied_by : (t : Bool) (k : Key) (b : Buffer) → is_buried_by b.barrier b.tombstones k ≡ t → with_unburied b.newest (with_buried k b) ≡ b
unburied_by true k b is =
    let absent : has_tombstone b.tombstones k ≡ false = not-true (has_tombstone b.tombstones k) (and_parts (nat_le b.barrier k.ts.0) (not (has_tombstone b.tombstones k)) is).1 in
    rw is (ap {B = Buffer} (λ (ks : List Key). record b { tombstones = ks }) (remove-insert k b.tombstones absent))
unburied_by false k b is = rw is refl

pub unburied : (k : Key) (b : Buffer) → with_unburied b.newest (with_buried k b) ≡ b
unburied k b = unburied_by (is_buried_by b.barrier b.tombstones k) k b refl

-- ---- what a step makes of the buffer, from what it makes of its parts

pub unburied_is : (b inside : Buffer) (stones : List Key) (before : Option Key) → inside ≡ b → stones ≡ but_newest inside.newest inside.tombstones
    → record inside { tombstones = stones; newest = before } ≡ with_unburied before b
unburied_is b inside stones before same is = ap {B = Buffer} (λ (ks : List Key). record inside { tombstones = ks; newest = before }) is ∙ ap (with_unburied before) same

pub dropped_is : (b inside : Buffer) (entries : Messages) (k : Key) → inside ≡ b → inside.newest ≡ Some k → entries ≡ without_message k inside.messages
    → record inside { newest = None; messages = entries } ≡ with_no_buried b
dropped_is b inside entries k same some is =
    ap {B = Buffer} (λ (ms : Messages). record inside { newest = None; messages = ms }) (is ∙ ap (λ (o : Option Key). without_newest o inside.messages) (sym some)) ∙ ap with_no_buried same

pub recalled_is : (b inside : Buffer) (entries : Messages) (k : Key) → inside ≡ with_buried k b → entries ≡ without_message k inside.messages
    → record inside { newest = None; messages = entries } ≡ with_recalled k b
recalled_is b inside entries k same is =
    ap {B = Buffer} (λ (ms : Messages). record inside { newest = None; messages = ms }) is
    ∙ ap {B = Buffer} (λ (x : Buffer). record x { newest = None; messages = without_message k x.messages }) same

-- ---- which keys have one

-- after one was put
pub has-insert : (k q : Key) (ks : List Key) → has_tombstone (insert_key key_cmp ks k) q ≡ (same_key k q || has_tombstone ks q)
has-insert k q [] = refl
has-insert k q (x ∷ ks) = let rest = has-insert k q ks in grind (arith, nat_tests, rest)

-- after a barrier that has not passed the key
pub has-from : (b : ℕ) (q : Key) (ks : List Key) → b ≤ q.ts.0 → has_tombstone (keys_from b ks) q ≡ has_tombstone ks q
has-from b q ks low =
    any-filter_same (λ k. same_key k q) (λ k. nat_le b k.ts.0) true (λ k same. grind (arith, nat_tests, same, low)) ks

pub there_by : (above has : Bool) → (above && not has) ≡ false → above ≡ true → has ≡ true
there_by true true is up = refl
there_by true false is up = cc
there_by false has is up = cc

-- after a key got one, for a key that the barrier has not passed
pub has-put : (b : ℕ) (k q : Key) (ks : List Key) → b ≤ q.ts.0 → has_tombstone (with_tombstone b k ks) q ≡ (same_key k q || has_tombstone ks q)
has-put b k q ks low =
    let put = has-insert k q ks in
    let same : same_key k q ≡ true → has_tombstone ks k ≡ has_tombstone ks q = λ is. ap (has_tombstone ks) (same_from_key k q is) in
    grind (arith, nat_tests, put, same, low)
