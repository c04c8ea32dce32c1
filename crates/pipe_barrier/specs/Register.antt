-- What the register of one in-link keeps.
use Rattle.std.specs.Prelude.{ℕ, ◌==◌, if◌then◌else◌, Bool, true, false, max, min, Option, None, Some, List, [], ◌∷◌, unwrap_or}
use Rattle.pipe_base.specs.declared.control.Addressed.{Addressed}
use Rattle.pipe_base.specs.declared.control.Control.TheVariants.{Down}
use Rattle.pipe_base.specs.declared.control.To.TheVariants.{Controller}
use Rattle.pipe_base.specs.declared.name.LinkId.{LinkId}
use Rattle.pipe_base.specs.declared.packet.Plane.{Plane}
use Rattle.pipe_base.specs.declared.packet.Plane.TheVariants.{BestEffort, Commit}
use Rattle.pipe_base.specs.Moment.{Moment, is_up, is_retained}
use Rattle.pipe_base.specs.Moment as moment
use Rattle.pipe_base.specs.Barrier.{register}
use Rattle.pipe_barrier.specs.declared.change.Change.{Change}
use Rattle.pipe_barrier.specs.declared.change.Change.TheVariants.{Received, WentDown, Dropped}
use Rattle.pipe_barrier.specs.declared.register.Register.{Register}

-- what is kept of an in-link after some moments
abbrev pub register_of : List Moment → LinkId → Register
register_of past l = record {
  link = l;
  be = record { 0 = register BestEffort past l.0 };
  commit = record { 0 = register Commit past l.0 };
  up = is_up past l.0;
  retained = is_retained past l.0;
}

-- a link on which nothing happened yet
abbrev pub fresh_register : LinkId → Register
fresh_register l = record { link = l; be = record { 0 = 0 }; commit = record { 0 = 0 }; up = true; retained = true }

-- a change of an in-link, as a moment of the node
abbrev pub moment_of : LinkId → Change → Moment
moment_of l (Received be commit) = moment.Received l.0 be.0 commit.0
moment_of l WentDown = moment.WentDown l.0
moment_of l Dropped = moment.Dropped l.0

-- the register of the link that changes
abbrev pub changed : Change → Register → Register
changed (Received be commit) r =
    record r { be = record { 0 = max r.be.0 be.0 }; commit = record { 0 = max r.commit.0 commit.0 } }
changed WentDown r = record r { up = false }
changed Dropped r = record r { up = false; retained = false }

-- the register of any link
abbrev pub register_after : LinkId → Change → Register → Register
register_after l change r = if l.0 == r.link.0 then changed change r else r

-- the least value so far, with one more that counts where its link is in use
abbrev pub lowered : Option ℕ → Bool → ℕ → Option ℕ
lowered least false value = least
lowered None true value = Some value
lowered (Some low) true value = Some (min low value)

-- whether a register counts in the plane, and with which value
abbrev pub is_counted : Plane → Register → Bool
is_counted BestEffort r = r.up
is_counted Commit r = r.retained

abbrev pub value_of : Plane → Register → ℕ
value_of BestEffort r = r.be.0
value_of Commit r = r.commit.0

-- the least value that counts, from a value on
abbrev pub least_from : Plane → Option ℕ → List Register → ℕ
least_from plane low [] = unwrap_or low 0
least_from plane low (r ∷ rs) = least_from plane (lowered low (is_counted plane r) (value_of plane r)) rs

-- what the controller is told of a link that is down
abbrev pub told_of : Register → Addressed
told_of r = record { to = Controller; control = Down r.link r.commit }
