-- The walk that finds the silent links, and links that go down one after the other.
use Rattle.std.proofs.Common.{◌≡◌, ◌⊎◌, inl, inr, ℕ, ◌+◌, ◌&&◌, ◌<◌, ◌≤◌, if◌then◌else◌, min, Bool, true, false, cond, Option, List, [], ◌∷◌, ◌++◌, length, get_or, take, drop, map, refl, sym, ap, ap₂, ◌∙◌, arith, append-nil}
use Rattle.std.specs.List.{filter}
use Rattle.std.proofs.lemmas.Bool.{cases_lt}
use Rattle.std.proofs.lemmas.List.{drop_all, take_more}
use Rattle.pipe_base.specs.declared.name.LinkId.{LinkId}
use Rattle.pipe_base.specs.declared.name.Ts.{Ts}
use Rattle.pipe_base.specs.Moment.{Moment, WentDown, Dropped, is_up, with_downed}
use Rattle.pipe_base.specs.Entries.{with_entries}
use Rattle.pipe_base.specs.Silence.{QuietCall, is_silent, goes_down, mark_of, silent_marks}
use Rattle.pipe_barrier.specs.declared.quiet.Quiet.{Quiet}
use Rattle.pipe_barrier.specs.declared.register.Register.{Register}
use Rattle.pipe_barrier.specs.Register.{register_of}
use Rattle.pipe_barrier.specs.Silence.{quiet_of}
use Rattle.pipe_barrier.specs.InLinks.{marks_among}
use Rattle.pipe_barrier.proofs.Quieting.{start_of-quiet_of}

-- ---- the links that go down

mark_first : (t : Bool) (moments : List Moment) (l : LinkId) (ls : List LinkId) (marks : List (LinkId × Ts)) → marks ≡ map (mark_of moments) ls
    → (if t then mark_of moments l ∷ marks else marks) ≡ map (mark_of moments) (cond t (l ∷ ls) ls)
mark_first true moments l ls marks is = ap (λ (ms : List (LinkId × Ts)). mark_of moments l ∷ ms) is
mark_first false moments l ls marks is = is

-- what is kept of the in-links marks those that the rules mark
marks_among-kept : (patience now : ℕ) (moments : List Moment) (calls : List QuietCall) (ins : List LinkId)
    → marks_among patience now (map (register_of moments) ins) (map (quiet_of calls) ins) ≡ silent_marks patience ins moments calls now
marks_among-kept patience now moments calls [] = refl
marks_among-kept patience now moments calls (l ∷ ls) =
    let rest : List (LinkId × Ts) = marks_among patience now (map (register_of moments) ls) (map (quiet_of calls) ls) in
    ap (λ (start : Option ℕ). if is_up moments l.0 && is_silent patience now start then mark_of moments l ∷ rest else rest) (start_of-quiet_of calls l)
    ∙ mark_first (goes_down patience moments calls now l) moments l (filter (goes_down patience moments calls now) ls) rest (marks_among-kept patience now moments calls ls)

-- the same, of lists that are kept apart
pub marks_are : (patience p now : ℕ) (moments : List Moment) (calls : List QuietCall) (ins : List LinkId) (rs registers : List Register) (qs quiets : List Quiet)
    → p ≡ patience → rs ≡ registers → qs ≡ quiets → registers ≡ map (register_of moments) ins → quiets ≡ map (quiet_of calls) ins
    → marks_among p now rs qs ≡ silent_marks patience ins moments calls now
marks_are patience p now moments calls ins rs registers qs quiets p_is rs_are qs_are registers_are quiets_are =
    ap (λ (n : ℕ). marks_among n now rs qs) p_is
    ∙ ap₂ (marks_among patience now) (rs_are ∙ registers_are) (qs_are ∙ quiets_are)
    ∙ marks_among-kept patience now moments calls ins

-- ---- the walk

-- a list that has ended leaves nothing to find
no_quiets : (patience now : ℕ) (rs : List Register) → marks_among patience now rs [] ≡ []
no_quiets patience now [] = refl
no_quiets patience now (r ∷ rs) = refl

past_one : (patience now i : ℕ) (rs : List Register) (qs : List Quiet) → (length rs ≤ i) ⊎ (length qs ≤ i)
    → marks_among patience now (drop i rs) (drop i qs) ≡ []
past_one patience now i rs qs (inl end) = ap (λ (ts : List Register). marks_among patience now ts (drop i qs)) (drop_all i rs end)
past_one patience now i rs qs (inr end) = ap (marks_among patience now (drop i rs)) (drop_all i qs end) ∙ no_quiets patience now (drop i rs)

shorter_ends : (i m n : ℕ) → i ≡ min m n → (m < n) ⊎ (n ≤ m) → (m ≤ i) ⊎ (n ≤ i)
shorter_ends i m n end (inl lt) = inl (omega arith)
shorter_ends i m n end (inr le) = inr (omega arith)

-- nothing is left to find where the shorter of the two lists has ended
pub walk_at_end : (patience now i : ℕ) (rs : List Register) (qs : List Quiet) (marks all : List (LinkId × Ts)) → i ≡ min (length rs) (length qs)
    → marks ++ marks_among patience now (drop i rs) (drop i qs) ≡ all → marks ≡ all
walk_at_end patience now i rs qs marks all end walk =
    sym (append-nil marks)
    ∙ ap (λ (rest : List (LinkId × Ts)). marks ++ rest) (sym (past_one patience now i rs qs (shorter_ends i (length rs) (length qs) end (cases_lt (length rs) (length qs)))))
    ∙ walk

-- ---- links that go down

with_downed-append : (xs : List (LinkId × Ts)) (d : LinkId × Ts) (past : List Moment) → with_downed (xs ++ d ∷ []) past ≡ WentDown d.0.0 ∷ with_downed xs past
with_downed-append [] d past = refl
with_downed-append (x ∷ xs) d past = with_downed-append xs d (WentDown x.0.0 ∷ past)

-- one link more goes down
pub downed_turn : (marks : List (LinkId × Ts)) (i : ℕ) (d : LinkId × Ts) (past : List Moment) → i < length marks
    → with_downed (take (i + 1) marks) past ≡ WentDown (get_or marks i d).0.0 ∷ with_downed (take i marks) past
downed_turn marks i d past lt =
    ap (λ (xs : List (LinkId × Ts)). with_downed xs past) (take_more marks i d lt) ∙ with_downed-append (take i marks) (get_or marks i d) past

-- ---- links that are dropped

entries-append : (ins : List LinkId) (xs : List LinkId) (l : LinkId) (past : List Moment) → with_entries ins (xs ++ l ∷ []) past ≡ Dropped l.0 ∷ with_entries ins xs past
entries-append ins [] l past = refl
entries-append ins (x ∷ xs) l past = entries-append ins xs l (Dropped x.0 ∷ past)

-- one link more is dropped
pub dropped_turn : (ins : List LinkId) (links : List LinkId) (i : ℕ) (d : LinkId) (past : List Moment) → i < length links
    → with_entries ins (take (i + 1) links) past ≡ Dropped (get_or links i d).0 ∷ with_entries ins (take i links) past
dropped_turn ins links i d past lt =
    ap (λ (xs : List LinkId). with_entries ins xs past) (take_more links i d lt) ∙ entries-append ins (take i links) (get_or links i d) past

-- where none is dropped
pub none_dropped : (ins : List LinkId) (links : List LinkId) (past : List Moment) → links ≡ [] → with_entries ins links past ≡ past
none_dropped ins links past none = ap (λ (ls : List LinkId). with_entries ins ls past) none
