-- What the registers and the silence of a node's in-links stand for together.
use Rattle.std.specs.Prelude.{ℕ, ◌&&◌, if◌then◌else◌, List, [], ◌∷◌}
use Rattle.pipe_base.specs.declared.name.LinkId.{LinkId}
use Rattle.pipe_base.specs.declared.name.Ts.{Ts}
use Rattle.pipe_base.specs.Moment.{Moment}
use Rattle.pipe_base.specs.Silence.{QuietCall, is_silent}
use Rattle.pipe_barrier.specs.declared.quiet.Quiet.{Quiet}
use Rattle.pipe_barrier.specs.declared.register.Register.{Register}
use Rattle.pipe_barrier.specs.declared.in_links.InLinks.{InLinks}
use Rattle.pipe_barrier.specs.Registers as registers
use Rattle.pipe_barrier.specs.Silence as silence

-- what is kept is what the rules say of a node with these in-links and this patience after these moments and calls
pub record Stands (ins : List LinkId) (patience : ℕ) (k : InLinks) (moments : List Moment) (calls : List QuietCall) : Type 0 where
  pub registers_are : registers.Stands ins k.registers moments
  pub silence_is : silence.Stands ins patience k.silence calls

-- the links that are up and have been silent for the patience, each with its commit register
abbrev pub marks_among : ℕ → ℕ → List Register → List Quiet → List (LinkId × Ts)
marks_among patience now (r ∷ rs) (q ∷ qs) =
    if r.up && is_silent patience now (silence.start_of q) then (r.link, r.commit) ∷ marks_among patience now rs qs
    else marks_among patience now rs qs
marks_among patience now _ _ = []
