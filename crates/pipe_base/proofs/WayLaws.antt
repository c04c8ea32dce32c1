-- Packets that find their way, one at a time.
use Rattle.std.proofs.Common.{◌≡◌, ℕ, ◌+◌, ◌++◌, List, [], ◌∷◌, Option, None, Some, refl, ap, sym, ◌∙◌, arith, append_assoc}
use Rattle.std.specs.Prelude.{is_none, cond}
use Rattle.std.proofs.lemmas.List.Sums.{sum_by-append, sum_by-cons}
use Rattle.pipe_base.specs.declared.name.LinkId.{LinkId}
use Rattle.pipe_base.specs.declared.packet.Packet.{Packet}
use Rattle.pipe_base.specs.declared.step.Step.{Step}
use Rattle.pipe_base.specs.Ways.{PutsAlone, on_way, routed, lost, with_ways}

on_way_first : (way : Option LinkId) (p : Packet) (puts : List (LinkId × Packet)) → on_way way p [] ++ puts ≡ on_way way p puts
on_way_first None p puts = refl
on_way_first (Some l) p puts = refl

routed_more : (way : ℕ → ℕ → Option LinkId) (before : List (LinkId × Packet)) (p : Packet) (ps : List Packet)
    → (before ++ routed way (p ∷ [])) ++ routed way ps ≡ before ++ routed way (p ∷ ps)
routed_more way before p ps =
    append_assoc before (on_way (way p.src.0 p.dst.0) p []) (routed way ps)
    ∙ ap (λ (xs : List (LinkId × Packet)). before ++ xs) (on_way_first (way p.src.0 p.dst.0) p (routed way ps))

lost_more : (way : ℕ → ℕ → Option LinkId) (before : ℕ) (p : Packet) (ps : List Packet) → before + lost way (p ∷ []) + lost way ps ≡ before + lost way (p ∷ ps)
lost_more way before p ps =
    let first : lost way (p ∷ ps) ≡ cond (is_none (way p.src.0 p.dst.0)) 1 0 + lost way ps =
    sum_by-cons (λ (q : Packet). cond (is_none (way q.src.0 q.dst.0)) 1 0) p ps in
    let one : lost way (p ∷ []) ≡ cond (is_none (way p.src.0 p.dst.0)) 1 0 + lost way [] =
    sum_by-cons (λ (q : Packet). cond (is_none (way q.src.0 q.dst.0)) 1 0) p [] in
    omega (arith, first, one)

-- one packet, and then the others
pub ways_more : (way : ℕ → ℕ → Option LinkId) (p : Packet) (ps : List Packet) (step : Step) → with_ways way ps (with_ways way (p ∷ []) step) ≡ with_ways way (p ∷ ps) step
ways_more way p ps step =
    ap (λ (xs : List (LinkId × Packet)). record step { put = xs; unrouted = step.unrouted + lost way (p ∷ []) + lost way ps }) (routed_more way step.put p ps)
    ∙ ap (λ (n : ℕ). record step { put = step.put ++ routed way (p ∷ ps); unrouted = n }) (lost_more way step.unrouted p ps)

-- packets that are put besides leave all else alone
pub alone_more : (way : ℕ → ℕ → Option LinkId) (ps : List Packet) (old mid : Step) → PutsAlone old mid → PutsAlone old (with_ways way ps mid)
alone_more way ps old mid alone = ap (λ (s : Step). record s { put = mid.put ++ routed way ps; unrouted = mid.unrouted + lost way ps }) alone

-- some packets, and then others
on_way_append : (way : Option LinkId) (p : Packet) (xs ys : List (LinkId × Packet)) → on_way way p (xs ++ ys) ≡ on_way way p xs ++ ys
on_way_append None p xs ys = refl
on_way_append (Some l) p xs ys = refl

routed-append : (way : ℕ → ℕ → Option LinkId) (ps qs : List Packet) → routed way (ps ++ qs) ≡ routed way ps ++ routed way qs
routed-append way [] qs = refl
routed-append way (p ∷ ps) qs =
    ap (on_way (way p.src.0 p.dst.0) p) (routed-append way ps qs) ∙ on_way_append (way p.src.0 p.dst.0) p (routed way ps) (routed way qs)

pub ways_append : (way : ℕ → ℕ → Option LinkId) (ps qs : List Packet) (step : Step) → with_ways way qs (with_ways way ps step) ≡ with_ways way (ps ++ qs) step
ways_append way ps qs step =
    let puts : (step.put ++ routed way ps) ++ routed way qs ≡ step.put ++ routed way (ps ++ qs) =
    append_assoc step.put (routed way ps) (routed way qs) ∙ ap (λ (xs : List (LinkId × Packet)). step.put ++ xs) (sym (routed-append way ps qs)) in
    let none : step.unrouted + lost way ps + lost way qs ≡ step.unrouted + lost way (ps ++ qs) =
    omega (arith, sum_by-append (λ (p : Packet). cond (is_none (way p.src.0 p.dst.0)) 1 0) ps qs) in
    ap (λ (xs : List (LinkId × Packet)). record step { put = xs; unrouted = step.unrouted + lost way ps + lost way qs }) puts
    ∙ ap (λ (n : ℕ). record step { put = step.put ++ routed way (ps ++ qs); unrouted = n }) none
