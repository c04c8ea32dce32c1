-- In two logs that rise, keys that are in both stand in the same order: that of the keys.
use Rattle.std.proofs.Common.{List, [], ◌∷◌, inl, inr, sym, subst, ◌∙◌, arith}
use Rattle.std.specs.List.{All}
use Rattle.std.proofs.lemmas.List.Elements.{All-head, All-tail}
use Rattle.pipe_base.specs.declared.message.Entry.{Entry}
use Rattle.pipe_base.specs.declared.message.Key.{Key}
use Rattle.pipe_base.specs.Messages.{Before}
use Rattle.pipe_model.specs.Order.{IsRising}
use Rattle.pipe_model_runs.specs.Agreement.{HasKey, StandsBefore}

-- what holds of the keys of all entries holds of one
of_key : (P : Key → Type 0) (key : Key) (es : List Entry) → All (λ e. P e.key) es → HasKey key es → P key
of_key P key [] all has = absurd has
of_key P key (e ∷ es) all (inl here) = subst P here (All-head (λ (x : Entry). P x.key) e es all)
of_key P key (e ∷ es) all (inr later) = of_key P key es (All-tail (λ (x : Entry). P x.key) e es all) later

key_order : (a b : Key) (es : List Entry) → IsRising es → StandsBefore a b es → Before a b
key_order a b [] rises stands = absurd stands
key_order a b (e ∷ es) rises (inl here) = subst (λ (k : Key). Before k b) here.0 (of_key (Before e.key) b es rises.0 here.1)
key_order a b (e ∷ es) rises (inr later) = key_order a b es rises.1 later

not_both : (a b : Key) → Before a b → Before b a → ⊥
not_both a b (inl one) (inl other) = omega arith
not_both a b (inl one) (inr other) = omega arith
not_both a b (inr one) (inl other) = omega arith
not_both a b (inr one) (inr other) = omega arith

stands_by_key : (a b : Key) (es : List Entry) → IsRising es → Before a b → HasKey a es → HasKey b es → StandsBefore a b es
stands_by_key a b [] rises before has_a has_b = absurd has_a
stands_by_key a b (e ∷ es) rises before (inl here) (inr later) = inl (here, later)
stands_by_key a b (e ∷ es) rises before (inr later) (inr last) = inr (stands_by_key a b es rises.1 before later last)
stands_by_key a b (e ∷ es) rises before (inl here) (inl same) =
    let loop : Before a a = subst (Before a) (sym same ∙ here) before in absurd (not_both a a loop loop)
stands_by_key a b (e ∷ es) rises before (inr later) (inl same) =
    absurd (not_both a b before (subst (λ (k : Key). Before k a) same (of_key (Before e.key) a es rises.0 later)))

pub same_order : (a b : Key) (one other : List Entry) → IsRising one → IsRising other → HasKey a other → HasKey b other → StandsBefore a b one → StandsBefore a b other
same_order a b one other rises_one rises_other has_a has_b stands = stands_by_key a b other rises_other (key_order a b one rises_one stands) has_a has_b
