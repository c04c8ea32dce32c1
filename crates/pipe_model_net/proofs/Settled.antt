-- Along a list of waiting packets no best-effort message is below a field that came before it: taking packets out and
-- appending packets with a greater field keep this.
use Rattle.std.proofs.Common.{◌≡◌, ℕ, zero, suc, ◌≤◌, max, ◌==◌, ◌&&◌, not, if◌then◌else◌, Bool, true, false, List, [], ◌∷◌, ◌++◌, Some, subst, arith}
use Rattle.std.specs.List.{All, remove, slice_get}
use Rattle.std.proofs.lemmas.List.Elements.{All-head, All-tail}
use Rattle.pipe_base.specs.declared.packet.Packet.{Packet}
use Rattle.pipe_base.specs.declared.packet.PacketKind.TheVariants.{Plain}
use Rattle.pipe_base.specs.declared.packet.Plane.TheVariants as plane
use Rattle.pipe_base.specs.declared.step.Outcome.{Outcome}
use Rattle.pipe_model.specs.declared.event.Event.{Event}
use Rattle.pipe_model.specs.declared.event.Event.TheVariants.{Take, Lose}
use Rattle.pipe_model.specs.Acting.{is_idle}
use Rattle.pipe_model.specs.Waiting.{is_ok, left_after}
use Rattle.pipe_model_net.proofs.Promised.{FieldBelow}
use Rattle.pipe_model_net.proofs.Puts.{Carries}

-- a best-effort message is not below the bound
abbrev pub IsAbove : ℕ → Packet → Type 0
IsAbove bound p = p.kind ≡ Plain → bound ≤ p.ts.0

-- Each best-effort message is at least the bound, its own field and all fields before it.
abbrev pub IsSettledBy : ℕ → List Packet → Type 0
IsSettledBy bound [] = Unit {0}
IsSettledBy bound (p ∷ ps) = IsAbove (max bound p.be.0) p × IsSettledBy (max bound p.be.0) ps

above_less : (low bound : ℕ) (p : Packet) → low ≤ bound → IsAbove bound p → IsAbove low p
above_less low bound p le above plain = let here : bound ≤ p.ts.0 = above plain in omega arith

-- a lower bound
pub settled_less : (low bound : ℕ) (ps : List Packet) → low ≤ bound → IsSettledBy bound ps → IsSettledBy low ps
settled_less low bound [] le settled = tt
settled_less low bound (p ∷ ps) le settled =
    let less : max low p.be.0 ≤ max bound p.be.0 = omega arith in
    (above_less (max low p.be.0) (max bound p.be.0) p less settled.0, settled_less (max low p.be.0) (max bound p.be.0) ps less settled.1)

-- a packet is taken out
removed : (bound : ℕ) (ps : List Packet) (place : ℕ) → IsSettledBy bound ps → IsSettledBy bound (remove ps place)
removed bound [] zero settled = tt
removed bound [] (suc place) settled = tt
removed bound (p ∷ ps) zero settled = settled_less bound (max bound p.be.0) ps (omega arith) settled.1
removed bound (p ∷ ps) (suc place) settled = (settled.0, removed (max bound p.be.0) ps place settled.1)

chosen : (b : Bool) (bound : ℕ) (ps qs : List Packet) → IsSettledBy bound ps → IsSettledBy bound qs → IsSettledBy bound (if b then ps else qs)
chosen true bound ps qs settled other = settled
chosen false bound ps qs settled other = other

pub settled_left : (bound link : ℕ) (event : Event) (outcome : Outcome) (ps : List Packet) → IsSettledBy bound ps → IsSettledBy bound (left_after link event outcome ps)
settled_left bound link (Take l place keep) outcome ps settled =
    chosen ((l.0 == link) && (not keep && not (is_idle outcome))) bound (remove ps place) ps (removed bound ps place settled) settled
settled_left bound link (Lose l place) outcome ps settled =
    chosen ((l.0 == link) && is_ok outcome) bound (remove ps place) ps (removed bound ps place settled) settled
settled_left bound link _ outcome ps settled = settled

-- packets of one field, none of which is below it
pub record IsFresh (field : ℕ) (p : Packet) : Type 0 where
  pub carries : Carries plane.BestEffort field p
  pub timely : IsAbove field p

fresh_settled : (bound field : ℕ) (ps : List Packet) → bound ≤ field → All (IsFresh field) ps → IsSettledBy bound ps
fresh_settled bound field [] le all = tt
fresh_settled bound field (p ∷ ps) le all =
    let here : IsFresh field p = All-head (IsFresh field) p ps all in
    let same : field ≡ max bound p.be.0 = omega (arith, here.carries) in (
      subst (λ (n : ℕ). IsAbove n p) same here.timely,
      subst (λ (n : ℕ). IsSettledBy n ps) same (fresh_settled field field ps (omega arith) (All-tail (IsFresh field) p ps all)),
    )

-- they are appended where no field before is above theirs
pub settled_more : (bound field : ℕ) (ps qs : List Packet) → bound ≤ field → All (FieldBelow plane.BestEffort field) ps → IsSettledBy bound ps → All (IsFresh field) qs
    → IsSettledBy bound (ps ++ qs)
settled_more bound field [] qs le below settled fresh = fresh_settled bound field qs le fresh
settled_more bound field (p ∷ ps) qs le below settled fresh =
    let here : FieldBelow plane.BestEffort field p = All-head (FieldBelow plane.BestEffort field) p ps below in
    (settled.0, settled_more (max bound p.be.0) field ps qs (omega (arith, here)) (All-tail (FieldBelow plane.BestEffort field) p ps below) settled.1 fresh)

-- the first packet: its own field may join the bound, as it is counted already
pub settled_first : (bound : ℕ) (ps : List Packet) (p : Packet) → slice_get ps 0 ≡ Some p → IsSettledBy bound ps → IsSettledBy (max bound p.be.0) ps
settled_first bound [] p is settled = cc
settled_first bound (q ∷ ps) p is settled =
    let packet : q ≡ p = cc in
    subst (λ (x : Packet). IsSettledBy (max bound x.be.0) (q ∷ ps)) packet
    (let same : max bound q.be.0 ≡ max (max bound q.be.0) q.be.0 = omega arith in
    (subst (λ (n : ℕ). IsAbove n q) same settled.0, subst (λ (n : ℕ). IsSettledBy n ps) same settled.1))

pub first_above : (bound : ℕ) (ps : List Packet) (p : Packet) → slice_get ps 0 ≡ Some p → IsSettledBy bound ps → IsAbove bound p
first_above bound [] p is settled = cc
first_above bound (q ∷ ps) p is settled =
    let packet : q ≡ p = cc in subst (IsAbove bound) packet (above_less bound (max bound q.be.0) q (omega arith) settled.0)
