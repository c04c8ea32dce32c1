-- What happens at one node to its in-links, one moment at a time, newest first.
use Rattle.std.specs.Prelude.{ℕ, ◌==◌, if◌then◌else◌, Bool, true, false, List, [], ◌∷◌, filter, Option, None, Some}
use Rattle.std.specs.List.{list_any}
use Rattle.pipe_base.specs.declared.name.LinkId.{LinkId}
use Rattle.pipe_base.specs.declared.name.Ts.{Ts}
use Rattle.pipe_base.specs.declared.packet.Packet.{Packet}
use Rattle.pipe_base.specs.declared.packet.Plane.{Plane}
use Rattle.pipe_base.specs.declared.packet.Plane.TheVariants.{BestEffort, Commit}

pub data Moment : Type 0 where
  -- a packet with these barriers was received on the link
  Received : (link be commit : ℕ) → Moment
  -- the same in a step that also lists links as down or dropped: the next moments are looked at, this one is not
  Counted : (link be commit : ℕ) → Moment
  -- the link went down
  WentDown : (link : ℕ) → Moment
  -- the node came to know the link as dropped
  Dropped : (link : ℕ) → Moment

-- a link is up until it goes down or is dropped
abbrev pub is_up : List Moment → ℕ → Bool
is_up [] link = true
is_up (WentDown l ∷ past) link = if l == link then false else is_up past link
is_up (Dropped l ∷ past) link = if l == link then false else is_up past link
is_up (Received l be commit ∷ past) link = is_up past link
is_up (Counted l be commit ∷ past) link = is_up past link

-- a link is retained until it is dropped
abbrev pub is_retained : List Moment → ℕ → Bool
is_retained [] link = true
is_retained (Dropped l ∷ past) link = if l == link then false else is_retained past link
is_retained (Received l be commit ∷ past) link = is_retained past link
is_retained (Counted l be commit ∷ past) link = is_retained past link
is_retained (WentDown l ∷ past) link = is_retained past link

-- a link is in best-effort use while it is up, and in commit use while it is retained
abbrev pub is_used : Plane → List Moment → ℕ → Bool
is_used BestEffort past link = is_up past link
is_used Commit past link = is_retained past link

-- the in-links that are in use
abbrev pub in_use : Plane → List LinkId → List Moment → List LinkId
in_use plane ins past = filter (λ l. is_used plane past l.0) ins

-- a link with this number is among them
abbrev pub has_link : ℕ → List LinkId → Bool
has_link link ls = list_any (λ l. l.0 == link) ls

-- the step takes no link out of use
abbrev pub keeps_links : List (LinkId × Ts) → List LinkId → Bool
keeps_links [] [] = true
keeps_links _ _ = false

-- a received packet is looked at by itself only where the step takes no link out of use
abbrev pub receipt : Bool → (ℕ × Packet) → Moment
receipt true q = Received q.0 q.1.be.0 q.1.commit.0
receipt false q = Counted q.0 q.1.be.0 q.1.commit.0

-- the moments of a step, one kind after the other
abbrev pub with_received : Bool → Option (ℕ × Packet) → List Moment → List Moment
with_received looked None past = past
with_received looked (Some q) past = receipt looked q ∷ past

abbrev pub with_downed : List (LinkId × Ts) → List Moment → List Moment
with_downed [] past = past
with_downed (d ∷ ds) past = with_downed ds (WentDown d.0.0 ∷ past)
