-- A scattering as failed hosts are noted, by the marks that are kept of it.
use Rattle.std.proofs.Common.{◌≡◌, ℕ, ◌≤◌, ◌∙◌, ◌&&◌, not, Bool, true, false, List, length, take, map, replicate, sym, ap, subst}
use Rattle.std.specs.Prelude.{zip}
use Rattle.std.specs.List.{list_any}
use Rattle.pipe_base.specs.declared.control.Announced.{Announced}
use Rattle.pipe_base.specs.declared.name.HostId.{HostId}
use Rattle.pipe_base.specs.declared.name.Ts.{Ts}
use Rattle.pipe_base.specs.Failed.{is_announced}
use Rattle.pipe_relsend.specs.Pending.{Pending, has_lost, is_among, is_open, marked, taken_back}
use Rattle.pipe_relsend.proofs.MarkLaws.{no_marks_yet}

-- what the first marks say of a scattering
abbrev pub first_marks : Ts → List (HostId × List ℕ) → List Bool → Bool → Pending
first_marks ts ds ms recalled = record { ts = ts; dests = ds; marks = take (length ds) ms; recalled = recalled }

-- a receiver is lost
pub lost : (failed : List Announced) (ts : Ts) (ds seen : List (HostId × List ℕ)) (ms : List Bool) (p : Pending) (b : Bool) → seen ≡ ds → first_marks ts ds ms false ≡ p
    → b ≡ list_any (λ q. is_announced q.0.0.0 failed && not q.1) (zip seen (take (length seen) ms)) → has_lost failed p ≡ b
lost failed ts ds seen ms p b same view is =
    sym (subst (λ (xs : List (HostId × List ℕ)). b ≡ list_any (λ q. is_announced q.0.0.0 failed && not q.1) (zip xs (take (length xs) ms))) same is ∙ ap (has_lost failed) view)

-- it is taken back, as all marks are made anew
pub made_anew : (failed : List Announced) (ts : Ts) (ds seen : List (HostId × List ℕ)) (old ms : List Bool) (p : Pending) → length ds ≤ 16 → seen ≡ ds → first_marks ts ds old false ≡ p
    → take (length seen) ms ≡ marked (is_among failed) seen (take (length seen) (replicate 16 false)) → first_marks ts ds ms true ≡ taken_back failed p
made_anew failed ts ds seen old ms p few same view is =
    let marks : take (length ds) ms ≡ marked (is_among failed) ds (map (λ d. false) ds) =
    subst (λ (xs : List (HostId × List ℕ)). take (length xs) ms ≡ marked (is_among failed) xs (take (length xs) (replicate 16 false))) same is
    ∙ ap (marked (is_among failed) ds) (no_marks_yet 16 ds few) in
    ap {B = Pending} (λ (bs : List Bool). record { ts = ts; dests = ds; marks = bs; recalled = true }) marks ∙ ap (taken_back failed) view

-- some receiver is waited for
pub still_open : (ts : Ts) (ds : List (HostId × List ℕ)) (ms : List Bool) (n : ℕ) (q : Pending) (b : Bool) → n ≡ length ds → first_marks ts ds ms true ≡ q → b ≡ list_any not (take n ms)
    → is_open q ≡ b
still_open ts ds ms n q b count view is = sym (is ∙ ap (λ (k : ℕ). list_any not (take k ms)) count ∙ ap is_open view)
