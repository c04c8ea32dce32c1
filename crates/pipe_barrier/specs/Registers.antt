-- What the registers of a node keep, and what they stand for.
use Rattle.std.specs.Prelude.{◌≡◌, ℕ, ◌==◌, ◌&&◌, nat_le, not, if◌then◌else◌, Bool, List, [], ◌∷◌, map, filter}
use Rattle.pipe_base.specs.declared.control.Addressed.{Addressed}
use Rattle.pipe_base.specs.declared.name.LinkId.{LinkId}
use Rattle.pipe_base.specs.declared.packet.Plane.TheVariants.{BestEffort, Commit}
use Rattle.pipe_base.specs.Moment.{Moment, is_retained, is_up}
use Rattle.pipe_base.specs.Barrier.{barrier}
use Rattle.pipe_barrier.specs.declared.register.Register.{Register}
use Rattle.pipe_barrier.specs.declared.registers.Barriers.{Barriers}
use Rattle.pipe_barrier.specs.Register.{register_of, told_of}

-- the registers in the order of the in-links, and the two barriers
pub record Kept : Type 0 where
  pub links : List Register
  pub be : ℕ
  pub commit : ℕ

abbrev pub kept_with : List Register → Barriers → Kept
kept_with links b = record { links = links; be = b.be.0; commit = b.commit.0 }

-- another link than this one is in use and not above either barrier: while it stays so, the barriers stay
abbrev pub holds : LinkId → Barriers → Register → Bool
holds l b r = not (l.0 == r.link.0) && (r.up && (r.retained && (nat_le r.be.0 b.be.0 && nat_le r.commit.0 b.commit.0)))

-- the two are the barriers of a node with these in-links after these moments
pub record AreBarriers (ins : List LinkId) (past : List Moment) (b : Barriers) : Type 0 where
  pub be_is : b.be.0 ≡ barrier BestEffort ins past
  pub commit_is : b.commit.0 ≡ barrier Commit ins past

-- what is kept is what the rules say of a node with these in-links after these moments
pub record Stands (ins : List LinkId) (kept : Kept) (past : List Moment) : Type 0 where
  pub links_are : kept.links ≡ map (register_of past) ins
  pub be_is : kept.be ≡ barrier BestEffort ins past
  pub commit_is : kept.commit ≡ barrier Commit ins past

-- whatever history the old registers stand for, the new ones stand for it with one moment more
abbrev pub AddsMoment : Kept → Kept → Moment → Type 0
AddsMoment old new m = (ins : List LinkId) (past : List Moment) → Stands ins old past → Stands ins new (m ∷ past)

-- whatever history the registers stand for, these are its barriers with one moment more
abbrev pub AreBarriersAfter : Kept → Moment → Barriers → Type 0
AreBarriersAfter kept m b = (ins : List LinkId) (past : List Moment) → Stands ins kept past
    → AreBarriers ins (m ∷ past) b

-- the link is down, and not dropped
abbrev pub is_down : List Moment → LinkId → Bool
is_down past l = is_retained past l.0 && not (is_up past l.0)

-- what the controller is told of the in-links that are down and not dropped: of each its frozen value
abbrev pub downs : List LinkId → List Moment → List Addressed
downs ins past = map (λ l. told_of (register_of past l)) (filter (is_down past) ins)

-- the same, by the registers
abbrev pub downs_among : List Register → List Addressed
downs_among [] = []
downs_among (r ∷ rs) = if r.retained && not r.up then told_of r ∷ downs_among rs else downs_among rs
