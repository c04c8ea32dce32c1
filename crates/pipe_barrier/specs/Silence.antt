-- What is kept of the silence of a node's in-links, and what it stands for.
use Rattle.std.specs.Prelude.{◌≡◌, ℕ, ◌==◌, if◌then◌else◌, Option, None, Some, List, ◌∷◌, map}
use Rattle.std.specs.Option.{option_map, option_or}
use Rattle.pipe_base.specs.declared.name.LinkId.{LinkId}
use Rattle.pipe_base.specs.declared.name.Ts.{Ts}
use Rattle.pipe_base.specs.Silence.{QuietCall, Took, Ticked, quiet_start}
use Rattle.pipe_barrier.specs.declared.quiet.Quiet.{Quiet}

-- what is kept of an in-link after some calls
abbrev pub quiet_of : List QuietCall → LinkId → Quiet
quiet_of calls l = record { link = l; start = option_map (λ (n : ℕ). record { 0 = n }) (quiet_start calls l.0) }

-- the quiet start that is kept of a link
abbrev pub start_of : Quiet → Option ℕ
start_of q = option_map (λ (t : Ts). t.0) q.start

-- what is kept of any in-link after one call more
abbrev pub quiet_after : QuietCall → Quiet → Quiet
quiet_after (Took l) q = if l == q.link.0 then record q { start = None } else q
quiet_after (Ticked now) q = record q { start = option_or q.start (Some (record { 0 = now })) }

-- the patience, and the links in the order of the in-links
pub record Kept : Type 0 where
  pub patience : ℕ
  pub links : List Quiet

-- the same, from the two fields
abbrev pub kept_with : Ts → List Quiet → Kept
kept_with patience links = record { patience = patience.0; links = links }

-- what is kept is what the rules say of a node with these in-links and this patience after these calls
pub record Stands (ins : List LinkId) (patience : ℕ) (kept : Kept) (calls : List QuietCall) : Type 0 where
  pub patience_is : kept.patience ≡ patience
  pub links_are : kept.links ≡ map (quiet_of calls) ins

-- whatever calls the old silence stands for, the new one stands for them with one call more
abbrev pub AddsCall : Kept → Kept → QuietCall → Type 0
AddsCall old new call = (ins : List LinkId) (patience : ℕ) (calls : List QuietCall) → Stands ins patience old calls
    → Stands ins patience new (call ∷ calls)
