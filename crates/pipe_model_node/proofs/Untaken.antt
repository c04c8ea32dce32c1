-- What was taken back in time is never logged: not by the records from the recall on, as it stands no more, and not before, as
-- the barrier had not passed it.
use Rattle.std.proofs.Common.{◌≡◌, inl, inr, ℕ, ◌<◌, ◌≤◌, ◌==◌, ◌&&◌, ◌||◌, nat_le, Bool, true, false, List, [], ◌∷◌, filter, refl, ap, ◌∙◌, arith, eqb-true, leb-true, cond}
use Rattle.std.specs.List.{All}
use Rattle.std.proofs.lemmas.Bool.{and_parts, or_cases, or_from}
use Rattle.std.proofs.lemmas.List.Elements.{All-head, All-tail}
use Rattle.std.proofs.lemmas.List.Folds.{list_any-append}
use Rattle.pipe_base.specs.declared.message.Entry.{Entry}
use Rattle.pipe_base.specs.declared.message.Key.{Key}
use Rattle.pipe_base.specs.declared.message.Service.TheVariants.{Reliable}
use Rattle.pipe_base.specs.declared.packet.Plane.TheVariants.{Commit}
use Rattle.pipe_graph.specs.Graph.{Graph}
use Rattle.pipe_base.specs.Messages.{Messages, from_barrier, has_key, same_key}
use Rattle.pipe_base.specs.Failed.{without_void}
use Rattle.pipe_model.specs.declared.record.Record.{Record}
use Rattle.pipe_model.specs.AllOrNone.{has_logged}
use Rattle.pipe_model.specs.Fate.{held}
use Rattle.pipe_model.specs.Got.{gets}
use Rattle.pipe_model.specs.Logged.{entries_of, log, passed_in, standing}
use Rattle.pipe_model.specs.Moments.{barrier_at, noted_hosts}
use Rattle.pipe_model.specs.Recalls.{got_recall, recalled_in_time, takes_back}
use Rattle.pipe_model.specs.Run.{IsNodeHistory, IsNodeStep}
use Rattle.pipe_model.proofs.Entries.{entries_logged}
use Rattle.pipe_model.proofs.Recalls.{in_time_got, recall_of_keys}
use Rattle.pipe_model.proofs.Void.{hasnt_without_keys}
use Rattle.pipe_model_node.proofs.Causal.{Below}
use Rattle.pipe_model_node.proofs.Ordered.{log_below_barrier}
use Rattle.pipe_model_node.proofs.Passed.{has_entries, has_entry}

left_out : (stays : Bool) (key : Key) (m : Key × List ℕ) (ms rest : Messages) → (same_key m.0 key || has_key key ms) ≡ false
    → (has_key key ms ≡ false → has_key key rest ≡ false) → has_key key (cond stays (m ∷ rest) rest) ≡ false
left_out stays key m ms rest none less = by (same_key m.0 key) stays refl none
  where
    by : (same stays : Bool) → same_key m.0 key ≡ same → (same || has_key key ms) ≡ false → has_key key (cond stays (m ∷ rest) rest) ≡ false
    by true stays is none = cc
    by false true is none = or_from (same_key m.0 key) (has_key key rest) is (less none)
    by false false is none = less none

-- a key that is not among messages is not among some of them
none_left : (test : Key × List ℕ → Bool) (key : Key) (ms : Messages) → has_key key ms ≡ false → has_key key (filter test ms) ≡ false
none_left test key [] none = none
none_left test key (m ∷ ms) none = left_out (test m) key m ms (filter test ms) none (none_left test key ms)

-- what was taken back is not among what the record logs
not_now : (graph : Graph) (node : ℕ) (own : List Record) (r : Record) (key : Key) → IsNodeStep graph node own r → got_recall graph node key (r ∷ own) ≡ true
    → has_entry key (entries_of Reliable r.step.logged) ≡ false
not_now graph node own r key step got =
    let now : List Record = r ∷ own in
    let before : ℕ = barrier_at Commit graph node own in
    let gone : has_key key (standing Reliable graph node now) ≡ false =
    hasnt_without_keys (λ (k : Key). got_recall graph node k now) key (without_void (noted_hosts now) (held Reliable graph node now)) (recall_of_keys graph node now) got in
    ap (has_entry key) (ap (entries_of Reliable) step.logged_is ∙ entries_logged Reliable graph node own r)
    ∙ has_entries key (passed_in Reliable graph node own r)
    ∙ none_left _ key (from_barrier before (standing Reliable graph node now)) (none_left _ key (standing Reliable graph node now) gone)

-- an entry below a bound does not have a key at or above it
apart : (same : Bool) (e : Entry) (key : Key) (bound : ℕ) → same_key e.key key ≡ same → e.key.ts.0 < bound → bound ≤ key.ts.0 → same_key e.key key ≡ false
apart true e key bound is below low =
    let time : e.key.ts.0 ≡ key.ts.0 = eqb-true e.key.ts.0 key.ts.0 (and_parts (e.key.ts.0 == key.ts.0) (e.key.src.0 == key.src.0) is).0 in
    absurd (omega (arith, time, below, low))
apart false e key bound is below low = is

none_below : (bound : ℕ) (key : Key) (es : List Entry) → All (Below bound) es → bound ≤ key.ts.0 → has_entry key es ≡ false
none_below bound key [] all low = refl
none_below bound key (e ∷ es) all low =
    or_from (same_key e.key key) (has_entry key es) (apart (same_key e.key key) e key bound refl (All-head (Below bound) e es all) low)
    (none_below bound key es (All-tail (Below bound) e es all) low)

-- the recall came now with the barrier low, or came in time before
not_before : (graph : Graph) (node : ℕ) (own : List Record) (r : Record) (key : Key) → IsNodeHistory graph node own → recalled_in_time graph node key (r ∷ own) ≡ true
    → (recalled_in_time graph node key own ≡ true → has_logged key own ≡ false) → has_logged key own ≡ false
not_before graph node own r key history is then =
    let back : Bool = takes_back key (gets graph node own r) in
    let early : Bool = nat_le (barrier_at Commit graph node own) key.ts.0 in
    elim (or_cases (back && early) (recalled_in_time graph node key own) is) [
      | inl now ↦ none_below (barrier_at Commit graph node own) key (log Reliable own) (log_below_barrier Reliable graph node own history)
          (leb-true (barrier_at Commit graph node own) key.ts.0 (and_parts back early now).1)
      | inr before ↦ then before
    ]

pub not_logged : (graph : Graph) (node : ℕ) (own : List Record) (key : Key) → IsNodeHistory graph node own → recalled_in_time graph node key own ≡ true
    → has_logged key own ≡ false
not_logged graph node [] key history is = refl
not_logged graph node (r ∷ own) key history is =
    list_any-append (λ (e : Entry). same_key e.key key) (log Reliable own) (entries_of Reliable r.step.logged)
    ∙ or_from (has_logged key own) (has_entry key (entries_of Reliable r.step.logged))
    (not_before graph node own r key history.0 is (not_logged graph node own key history.0))
    (not_now graph node own r key history.1 (in_time_got graph node key (r ∷ own) is))
