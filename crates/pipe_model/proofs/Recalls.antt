-- What was taken back stays so, and was taken back in time where the commit barrier is not above its timestamp yet.
use Rattle.std.proofs.Common.{◌≡◌, inl, inr, ℕ, ◌≤◌, ◌==◌, ◌&&◌, ◌||◌, nat_le, Bool, true, false, List, [], ◌∷◌, refl, ap, arith, le-leb}
use Rattle.std.proofs.lemmas.Bool.{and_from, and_parts, or_cases, or_left, or_parts, or_right}
use Rattle.pipe_base.specs.declared.message.Key.{Key}
use Rattle.pipe_base.specs.declared.packet.Plane.TheVariants.{Commit}
use Rattle.pipe_graph.specs.Graph.{Graph}
use Rattle.pipe_base.specs.Messages.{same_key}
use Rattle.pipe_base.proofs.MessageLaws.{same_from_key}
use Rattle.pipe_model.specs.declared.record.Record.{Record}
use Rattle.pipe_model.specs.Got.{gets}
use Rattle.pipe_model.specs.Moments.{barrier_at}
use Rattle.pipe_model.specs.Recalls.{got_recall, recalled_in_time, takes_back}
use Rattle.pipe_model.proofs.Rising.{barrier_rises}
use Rattle.pipe_model.proofs.Void.{IsOfKeys}

-- a recall is that of all keys that are the same
pub recall_of_keys : (graph : Graph) (host : ℕ) (own : List Record) → IsOfKeys (λ key. got_recall graph host key own)
recall_of_keys graph host own a b same = ap (λ (key : Key). got_recall graph host key own) (same_from_key a b same)

-- what is not taken back was not before
pub not_recalled_before : (graph : Graph) (host : ℕ) (key : Key) (own : List Record) (r : Record) → got_recall graph host key (r ∷ own) ≡ false
    → got_recall graph host key own ≡ false
not_recalled_before graph host key own r isnt = (or_parts (takes_back key (gets graph host own r)) (got_recall graph host key own) isnt).1

-- what is taken back stays so
pub recall_stays : (graph : Graph) (host : ℕ) (key : Key) (own : List Record) (r : Record) → got_recall graph host key own ≡ true
    → got_recall graph host key (r ∷ own) ≡ true
recall_stays graph host key own r is = or_right (takes_back key (gets graph host own r)) (got_recall graph host key own) is

-- in time as well
pub in_time_stays : (graph : Graph) (host : ℕ) (key : Key) (own : List Record) (r : Record) → recalled_in_time graph host key own ≡ true
    → recalled_in_time graph host key (r ∷ own) ≡ true
in_time_stays graph host key own r is =
    or_right (takes_back key (gets graph host own r) && nat_le (barrier_at Commit graph host own) key.ts.0) (recalled_in_time graph host key own) is

-- what was taken back, with the commit barrier not above its timestamp now, was so in time
pub got_in_time : (graph : Graph) (host : ℕ) (key : Key) (own : List Record) → got_recall graph host key own ≡ true → barrier_at Commit graph host own ≤ key.ts.0
    → recalled_in_time graph host key own ≡ true
got_in_time graph host key [] got low = got
got_in_time graph host key (r ∷ own) got low =
    let rises = barrier_rises Commit graph host own r in
    let before : barrier_at Commit graph host own ≤ key.ts.0 = omega (arith, rises, low) in
    let back : Bool = takes_back key (gets graph host own r) in
    let early : Bool = nat_le (barrier_at Commit graph host own) key.ts.0 in
    elim (or_cases back (got_recall graph host key own) got) [
      | inl now ↦ or_left (back && early) (recalled_in_time graph host key own) (and_from back early now (le-leb (barrier_at Commit graph host own) key.ts.0 before))
      | inr then ↦ in_time_stays graph host key own r (got_in_time graph host key own then before)
    ]

-- what was taken back in time was taken back
pub in_time_got : (graph : Graph) (host : ℕ) (key : Key) (own : List Record) → recalled_in_time graph host key own ≡ true → got_recall graph host key own ≡ true
in_time_got graph host key [] is = is
in_time_got graph host key (r ∷ own) is =
    let back : Bool = takes_back key (gets graph host own r) in
    let early : Bool = nat_le (barrier_at Commit graph host own) key.ts.0 in
    elim (or_cases (back && early) (recalled_in_time graph host key own) is) [
      | inl now ↦ or_left back (got_recall graph host key own) (and_parts back early now).0
      | inr then ↦ recall_stays graph host key own r (in_time_got graph host key own then)
    ]
