-- The barrier of a node in a plane: the greatest bound that was passed at some moment.
use Rattle.std.specs.Prelude.{◌≡◌, ◌⊎◌, ℕ, ◌<◌, ◌≤◌, ◌==◌, if◌then◌else◌, Bool, true, false, IsTrue, max, min, List, [], ◌∷◌, length, All}
use Rattle.pipe_base.specs.declared.name.LinkId.{LinkId}
use Rattle.pipe_base.specs.declared.packet.Plane.{Plane}
use Rattle.pipe_base.specs.declared.packet.Plane.TheVariants.{BestEffort, Commit}
use Rattle.pipe_base.specs.Moment.{Moment, Received, Counted, WentDown, Dropped, in_use}

-- the field of a packet that belongs to the plane
abbrev pub field_of : Plane → ℕ → ℕ → ℕ
field_of BestEffort be commit = be
field_of Commit be commit = commit

-- a packet whose field is at least the bound was received on the link
abbrev pub HasReceived : Plane → ℕ → ℕ → List Moment → Type 0
HasReceived plane bound link [] = ⊥
HasReceived plane bound link (Received l be commit ∷ past) = ((l ≡ link)
    × (bound ≤ field_of plane be commit)) ⊎ HasReceived plane bound link past
HasReceived plane bound link (Counted l be commit ∷ past) = ((l ≡ link)
    × (bound ≤ field_of plane be commit)) ⊎ HasReceived plane bound link past
HasReceived plane bound link (WentDown l ∷ past) = HasReceived plane bound link past
HasReceived plane bound link (Dropped l ∷ past) = HasReceived plane bound link past

-- some in-link is in use, and from each of them a packet with at least the bound was received
abbrev pub IsPassedNow : Plane → List LinkId → List Moment → ℕ → Type 0
IsPassedNow plane ins past bound = (0 < length (in_use plane ins past))
    × All (λ l. HasReceived plane bound l.0 past) (in_use plane ins past)

-- bounds are looked at after each moment but a counted one
abbrev pub is_look : Moment → Bool
is_look (Counted l be commit) = false
is_look (Received l be commit) = true
is_look (WentDown l) = true
is_look (Dropped l) = true

-- the bound was passed at some moment
abbrev pub IsPassed : Plane → List LinkId → List Moment → ℕ → Type 0
IsPassed plane ins [] bound = ⊥
IsPassed plane ins (m ∷ past) bound = (IsTrue (is_look m)
    × IsPassedNow plane ins (m ∷ past) bound) ⊎ IsPassed plane ins past bound

-- the greatest number that has the property, or 0 where none has it
pub record IsGreatestOrZero (P : ℕ → Type 0) (bound : ℕ) : Type 0 where
  pub above : (n : ℕ) → P n → n ≤ bound
  pub reached : (bound ≡ 0) ⊎ P bound

-- the greatest field received on a link, or 0
abbrev pub register : Plane → List Moment → ℕ → ℕ
register plane [] link = 0
register plane (Received l be commit ∷ past) link =
    if l == link then max (register plane past link) (field_of plane be commit) else register plane past link
register plane (Counted l be commit ∷ past) link =
    if l == link then max (register plane past link) (field_of plane be commit) else register plane past link
register plane (WentDown l ∷ past) link = register plane past link
register plane (Dropped l ∷ past) link = register plane past link

-- the least value over the links, or 0 where there is none
abbrev pub least_of : (ℕ → ℕ) → List LinkId → ℕ
least_of value [] = 0
least_of value (l ∷ []) = value l.0
least_of value (l ∷ m ∷ ls) = min (value l.0) (least_of value (m ∷ ls))

-- the least register over the links in use
abbrev pub level : Plane → List LinkId → List Moment → ℕ
level plane ins past = least_of (register plane past) (in_use plane ins past)

-- The barrier as a value: the greatest level at any moment that is looked at. It is the greatest bound passed.
abbrev pub barrier : Plane → List LinkId → List Moment → ℕ
barrier plane ins [] = 0
barrier plane ins (m ∷ past) =
    if is_look m then max (barrier plane ins past) (level plane ins (m ∷ past)) else barrier plane ins past
