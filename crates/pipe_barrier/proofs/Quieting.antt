-- What is kept of the silence of in-links stands for one call more, and what a search in it tells.
use Rattle.std.proofs.Common.{◌≡◌, ℕ, ◌==◌, ◌&&◌, if◌then◌else◌, Bool, true, false, Option, None, Some, option_map, List, [], ◌∷◌, map, find, refl, ap, ap₂, ◌∙◌}
use Rattle.std.specs.Option.{option_or, option_map_or}
use Rattle.pipe_base.specs.declared.name.LinkId.{LinkId}
use Rattle.pipe_base.specs.declared.name.Ts.{Ts}
use Rattle.pipe_base.specs.Moment.{has_link}
use Rattle.pipe_base.specs.Silence.{QuietCall, Took, Ticked, quiet_start, is_silent}
use Rattle.pipe_barrier.specs.declared.quiet.Quiet.{Quiet}
use Rattle.pipe_barrier.specs.Silence.{quiet_of, quiet_after, start_of, kept_with, Stands}
use Rattle.pipe_barrier.proofs.Walk.{found_first}

-- ---- one call more

-- a link with a quiet start
abbrev quiet_with : LinkId → Option ℕ → Quiet
quiet_with l start = record { link = l; start = option_map (λ (n : ℕ). record { 0 = n }) start }

after_take : (t : Bool) (l : LinkId) (start : Option ℕ)
    → (if t then record (quiet_with l start) { start = None } else quiet_with l start) ≡ quiet_with l (if t then None else start)
after_take true l start = refl
after_take false l start = refl

after_tick : (l : LinkId) (start : Option ℕ) (now : ℕ) → quiet_after (Ticked now) (quiet_with l start) ≡ quiet_with l (option_or start (Some now))
after_tick l None now = refl
after_tick l (Some start) now = refl

quiet_after-quiet_of : (call : QuietCall) (calls : List QuietCall) (m : LinkId) → quiet_after call (quiet_of calls m) ≡ quiet_of (call ∷ calls) m
quiet_after-quiet_of (Took l) calls m = after_take (l == m.0) m (quiet_start calls m.0)
quiet_after-quiet_of (Ticked now) calls m = after_tick m (quiet_start calls m.0) now

-- what is kept after one call more is what is kept of the call and those before
map-quiet_after : (call : QuietCall) (calls : List QuietCall) (ins : List LinkId)
    → map (quiet_after call) (map (quiet_of calls) ins) ≡ map (quiet_of (call ∷ calls)) ins
map-quiet_after call calls [] = refl
map-quiet_after call calls (m ∷ ms) =
    ap₂ (λ (q : Quiet) (qs : List Quiet). q ∷ qs) (quiet_after-quiet_of call calls m) (map-quiet_after call calls ms)

pub stands_after : (ins : List LinkId) (patience : ℕ) (calls : List QuietCall) (call : QuietCall) (p : Ts) (links now : List Quiet)
    → Stands ins patience (kept_with p links) calls → now ≡ map (quiet_after call) links → Stands ins patience (kept_with p now) (call ∷ calls)
stands_after ins patience calls call p links now stands now_is = record {
  patience_is = stands.patience_is;
  links_are = now_is ∙ ap (map (quiet_after call)) stands.links_are ∙ map-quiet_after call calls ins;
}

-- ---- a search

-- the quiet start that is kept is that of the calls
start_of-quiet_with : (l : LinkId) (start : Option ℕ) → start_of (quiet_with l start) ≡ start
start_of-quiet_with l None = refl
start_of-quiet_with l (Some n) = refl

pub start_of-quiet_of : (calls : List QuietCall) (l : LinkId) → start_of (quiet_of calls l) ≡ quiet_start calls l.0
start_of-quiet_of calls l = start_of-quiet_with l (quiet_start calls l.0)

-- an in-link is found, and no other link
find-quiet_of : (calls : List QuietCall) (link : LinkId) (ins : List LinkId)
    → find (λ q. q.link.0 == link.0) (map (quiet_of calls) ins) ≡ (if has_link link.0 ins then Some (quiet_of calls link) else None)
find-quiet_of calls link [] = refl
find-quiet_of calls link (m ∷ ms) =
    found_first (m.0 == link.0) (quiet_of calls) link m (find (λ q. q.link.0 == link.0) (map (quiet_of calls) ms)) (has_link link.0 ms) refl (find-quiet_of calls link ms)

-- whether what was found is silent
told : (b : Bool) (patience now : ℕ) (o : Option Quiet) (q : Quiet) (start : Option ℕ) → start_of q ≡ start → o ≡ (if b then Some q else None)
    → option_map_or (λ x. is_silent patience now (start_of x)) o false ≡ (b && is_silent patience now start)
told true patience now o q start start_is is =
    ap (λ (p : Option Quiet). option_map_or (λ (x : Quiet). is_silent patience now (start_of x)) p false) is ∙ ap (is_silent patience now) start_is
told false patience now o q start start_is is = ap (λ (p : Option Quiet). option_map_or (λ (x : Quiet). is_silent patience now (start_of x)) p false) is

-- what a search tells of a link
pub silent_is : (ins : List LinkId) (patience : ℕ) (calls : List QuietCall) (p : ℕ) (link : LinkId) (now : ℕ) (links : List Quiet) (o : Option Quiet)
    → p ≡ patience → links ≡ map (quiet_of calls) ins → o ≡ find (λ q. q.link.0 == link.0) links
    → option_map_or (λ x. is_silent p now (start_of x)) o false ≡ (has_link link.0 ins && is_silent patience now (quiet_start calls link.0))
silent_is ins patience calls p link now links o patience_is links_are found =
    ap (λ (n : ℕ). option_map_or (λ (x : Quiet). is_silent n now (start_of x)) o false) patience_is
    ∙ told (has_link link.0 ins) patience now o (quiet_of calls link) (quiet_start calls link.0) (start_of-quiet_of calls link)
    (found ∙ ap (find (λ q. q.link.0 == link.0)) links_are ∙ find-quiet_of calls link ins)
