-- Lists in blocks: where an item is, and what a change of one block does to the whole list.
use Rattle.std.proofs.Common.{◌≡◌, ℕ, ◌+◌, ◌-◌, ◌<◌, ◌≤◌, suc, true, false, List, [], ◌∷◌, ◌++◌, length, take, drop, set, get_or, Option, None, Some, refl, sym, subst, ap, ◌∙◌, arith, append-nil, append_assoc, deque_items, deque_len}
use Rattle.std.specs.Prelude.{IfSome, IsSome, OnSome, OnErr, Result, Ok, Err, ◌↔◌, remove, slice_get}
use Rattle.std.proofs.Math.Seq.{drop-cons}
use Rattle.std.proofs.lemmas.List.{drop_all, get_or-set_same, length-append, length-set, nil_from_length, set_split, take-append-drop}
use Rattle.std.proofs.lemmas.List.Concat.{flat_map-append, get_or-flat_map}
use Rattle.std.proofs.lemmas.List.Edits.{remove-append_left, remove-append_right}
use Rattle.std.proofs.lemmas.Option.{slice_get_read}
use Rattle.std.specs.declared.collections.VecDeque.{VecDeque}
use Rattle.pipe_net.specs.declared.blocks.Place.{Place}
use Rattle.pipe_net.specs.Blocks.{IsPlace, joined}

module _ {X Z : Type 0} where
  joined-append : (bs cs : List (VecDeque X Z)) → joined (bs ++ cs) ≡ joined bs ++ joined cs
  joined-append bs cs = flat_map-append deque_items bs cs

  -- the whole list around one block
  pub around : (blocks : List (VecDeque X Z)) (i : ℕ) (b : VecDeque X Z) → i < length blocks → b ≡ get_or blocks i b
      → joined blocks ≡ joined (take i blocks) ++ (deque_items b ++ joined (drop (suc i) blocks))
  around blocks i b lt read =
      ap joined (sym (take-append-drop i blocks))
      ∙ joined-append (take i blocks) (drop i blocks)
      ∙ ap (λ (bs : List (VecDeque X Z)). joined (take i blocks) ++ joined bs) (drop-cons blocks i b lt)
      ∙ ap (λ (c : VecDeque X Z). joined (take i blocks) ++ (deque_items c ++ joined (drop (suc i) blocks))) (sym read)

  -- the same once the block is another
  around_new : (blocks : List (VecDeque X Z)) (i : ℕ) (new : VecDeque X Z) → i < length blocks
      → joined (set blocks i new) ≡ joined (take i blocks) ++ (deque_items new ++ joined (drop (suc i) blocks))
  around_new blocks i new lt = ap joined (set_split blocks i new lt) ∙ joined-append (take i blocks) (new ∷ drop (suc i) blocks)

  -- an empty block holds nothing
  pub without_empty : (blocks : List (VecDeque X Z)) (i : ℕ) (b : VecDeque X Z) → i < length blocks → b ≡ get_or blocks i b → deque_items b ≡ []
      → joined (remove blocks i) ≡ joined blocks
  without_empty blocks i b lt read empty =
      joined-append (take i blocks) (drop (suc i) blocks)
      ∙ ap (λ (xs : List X). joined (take i blocks) ++ (xs ++ joined (drop (suc i) blocks))) (sym empty)
      ∙ sym (around blocks i b lt read)

  -- the place within its block
  within : (blocks : List (VecDeque X Z)) (n : ℕ) (place : Place) (b : VecDeque X Z) → IsPlace blocks n place → b ≡ get_or blocks place.block b → place.at < length (deque_items b)
  within blocks n place b at read = subst (λ (c : VecDeque X Z). place.at < length (deque_items c)) (sym read) (at.within b)

  -- an item of its block is one of the list
  pub item_there : (blocks : List (VecDeque X Z)) (n : ℕ) (place : Place) (b : VecDeque X Z) (x : X) → IsPlace blocks n place → b ≡ get_or blocks place.block b
      → x ≡ get_or (deque_items b) place.at x → slice_get (joined blocks) n ≡ Some x
  item_there blocks n place b x at read is =
      let before : List X = joined (take place.block blocks) in
      let rest : List X = deque_items b ++ joined (drop (suc place.block) blocks) in
      let sizes : length (joined blocks) ≡ length before + length rest = ap length (around blocks place.block b at.known read) ∙ length-append before rest in
      let known : n < length (joined blocks) =
      omega (arith, sizes, within blocks n place b at read, at.before, length-append (deque_items b) (joined (drop (suc place.block) blocks))) in
      let same : get_or (joined blocks) n x ≡ x =
      ap (λ (k : ℕ). get_or (joined blocks) k x) (sym at.before)
      ∙ get_or-flat_map deque_items blocks place.block place.at b x at.known (at.within b)
      ∙ ap (λ (c : VecDeque X Z). get_or (deque_items c) place.at x) (sym read)
      ∙ sym is in
      slice_get_read (joined blocks) (length (joined blocks)) n x refl known (sym same)

  -- what a block gave, out of the whole list
  pub given_there : (blocks : List (VecDeque X Z)) (n : ℕ) (place : Place) (b : VecDeque X Z) (item : Option X) → IsPlace blocks n place → b ≡ get_or blocks place.block b
      → (IsSome item ↔ (place.at < deque_len b)) → IfSome item (λ x. x ≡ get_or (deque_items b) place.at x) → item ≡ slice_get (joined blocks) n
  given_there blocks n place b None at read found is = let some : false ≡ true = found.1 (omega (arith, within blocks n place b at read, b.ok.0)) in cc
  given_there blocks n place b (Some x) at read found is = sym (item_there blocks n place b x at read is)

  -- taking it out of its block takes it out of the list
  pub left_there : (blocks : List (VecDeque X Z)) (n : ℕ) (place : Place) (old new : VecDeque X Z) (item : Option X) → IsPlace blocks n place → old ≡ get_or blocks place.block old
      → (IsSome item ↔ (place.at < deque_len old)) → OnSome item (deque_items new ≡ remove (deque_items old) place.at) → joined (set blocks place.block new) ≡ remove (joined blocks) n
  left_there blocks n place old new None at read found is = let some : false ≡ true = found.1 (omega (arith, within blocks n place old at read, old.ok.0)) in absurd cc
  left_there blocks n place old new (Some x) at read found is =
      let before : List X = joined (take place.block blocks) in
      let after : List X = joined (drop (suc place.block) blocks) in
      let items : List X = deque_items old in
      let past : length before ≤ n = omega (arith, at.before) in
      let rest : n - length before ≡ place.at = omega (arith, at.before) in
      let out : remove (joined blocks) n ≡ before ++ (remove items place.at ++ after) =
      ap (λ (xs : List X). remove xs n) (around blocks place.block old at.known read)
      ∙ remove-append_right before (items ++ after) (length before) n refl past
      ∙ ap (λ (k : ℕ). before ++ remove (items ++ after) k) rest
      ∙ ap (λ (xs : List X). before ++ xs) (remove-append_left items after place.at (within blocks n place old at read)) in
      around_new blocks place.block new at.known ∙ ap (λ (xs : List X). before ++ (xs ++ after)) is ∙ sym out

  -- the same where the block goes, since nothing is left in it
  pub emptied_there : (blocks : List (VecDeque X Z)) (i : ℕ) (new : VecDeque X Z) (all : List X) → i < length blocks → new.len ≡ 0 → joined (set blocks i new) ≡ all
      → joined (remove (set blocks i new) i) ≡ all
  emptied_there blocks i new all lt none is =
      without_empty (set blocks i new) i new (omega (arith, length-set blocks i new)) (sym (get_or-set_same blocks i new new lt)) (nil_from_length new.items (omega (arith, new.ok.0)))
      ∙ is

  -- an item more at the end of the last block, or in a block of its own
  pub one_more : (blocks : List (VecDeque X Z)) (i : ℕ) (last new : VecDeque X Z) (x : X) → i + 1 ≡ length blocks → last ≡ get_or blocks i last
      → deque_items new ≡ deque_items last ++ x ∷ [] → joined (set blocks i new) ≡ joined blocks ++ x ∷ []
  one_more blocks i last new x one read is =
      let lt : i < length blocks = omega arith in
      let none : drop (suc i) blocks ≡ [] = drop_all (suc i) blocks (omega arith) in
      let none_joined : joined (drop (suc i) blocks) ≡ [] = ap joined none in
      let before : List X = joined (take i blocks) in
      let all : joined blocks ≡ before ++ deque_items last =
      around blocks i last lt read ∙ ap (λ (xs : List X). before ++ (deque_items last ++ xs)) none_joined ∙ ap (λ (xs : List X). before ++ xs) (append-nil (deque_items last)) in
      around_new blocks i new lt
      ∙ ap (λ (xs : List X). before ++ (deque_items new ++ xs)) none_joined
      ∙ ap (λ (xs : List X). before ++ xs) (append-nil (deque_items new) ∙ is)
      ∙ sym (append_assoc before (deque_items last) (x ∷ []))
      ∙ ap (λ (xs : List X). xs ++ x ∷ []) (sym all)

  -- a block with the items of another
  pub same_block : (blocks : List (VecDeque X Z)) (i : ℕ) (old new : VecDeque X Z) → i < length blocks → old ≡ get_or blocks i old → deque_items new ≡ deque_items old
      → joined (set blocks i new) ≡ joined blocks
  same_block blocks i old new lt read is =
      around_new blocks i new lt
      ∙ ap (λ (xs : List X). joined (take i blocks) ++ (xs ++ joined (drop (suc i) blocks))) is
      ∙ sym (around blocks i old lt read)

  pub block_more : (blocks : List (VecDeque X Z)) (new : VecDeque X Z) (x : X) → deque_items new ≡ x ∷ [] → joined (blocks ++ new ∷ []) ≡ joined blocks ++ x ∷ []
  block_more blocks new x is =
      joined-append blocks (new ∷ []) ∙ ap (λ (xs : List X). joined blocks ++ xs) (append-nil (deque_items new) ∙ is)

-- a fact holds of whatever is refused
pub on_err : {T E : Type 0} (result : Result T E) (P : Type 0) → P → OnErr result P
on_err (Ok x) P holds = tt
on_err (Err e) P holds = holds

-- what holds where there is something holds
pub when_some : {A : Type 0} (o : Option A) (P : Type 0) → IsSome o → OnSome o P → P
when_some None P some holds = absurd cc
when_some (Some x) P some holds = holds
