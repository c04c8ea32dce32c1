-- Lemmas on the hosts that are announced, and on those that are told.
use Rattle.std.proofs.Common.{◌≡◌, ℕ, ◌+◌, ◌-◌, ◌<◌, Bool, true, false, ◌&&◌, if◌then◌else◌, List, [], ◌∷◌, ◌++◌, map, Option, None, Some, is_some, refl, sym, ap, ◌∙◌, true≢false}
use Rattle.std.specs.List.{range_with_len}
use Rattle.pipe_base.specs.declared.control.Announced.{Announced}
use Rattle.pipe_base.specs.declared.name.HostId.{HostId}
use Rattle.pipe_base.specs.declared.name.Ts.{Ts}
use Rattle.pipe_graph.specs.Cut.{is_cut}
use Rattle.pipe_graph.specs.Graph.{Graph}
use Rattle.pipe_control.specs.Known.{leaving_time}
use Rattle.pipe_control.proofs.ListLaws.{from_next, going, going_none, going_past, going_with}
use Rattle.pipe_model.specs.Decision.{can_go, host_id, time_at, with_time}
use Rattle.pipe_model.specs.View.{View, intact, is_due, is_kept}

-- the hosts from a number on
abbrev pub hosts_from : Graph → ℕ → List HostId
hosts_from graph n = map host_id (range_with_len n (graph.hosts - n))

-- what is announced once these hosts are looked at too
abbrev pub told : Graph → View → List Announced → List HostId → List Announced
told graph v news hosts = going (λ h. is_due v h.0) (λ h. can_go graph v h.0) (λ h. with_time h (time_at graph v h.0)) news hosts

abbrev entry : ℕ → Ts → Announced
entry n time = record { host = host_id n; time = time }

-- a time to leave is the time of one who can go
pub leaves : (graph : Graph) (v : View) (host : ℕ) (time : Ts) → leaving_time graph v host ≡ Some time → (can_go graph v host ≡ true) × (time_at graph v host ≡ Some time)
leaves graph v host time is = pick (is_cut graph (intact v) (is_kept v) host) (time_at graph v host) is
  where
    pick : (b : Bool) (t : Option Ts) → (if b then t else None) ≡ Some time → ((b && is_some t) ≡ true) × (t ≡ Some time)
    pick true (Some t) h = (refl, h)
    pick true None h = absurd (true≢false (sym (ap (λ (o : Option Ts). is_some o) h)))
    pick false t h = absurd (true≢false (sym (ap (λ (o : Option Ts). is_some o) h)))

pub stays_back : (graph : Graph) (v : View) (host : ℕ) → leaving_time graph v host ≡ None → can_go graph v host ≡ false
stays_back graph v host is = pick (is_cut graph (intact v) (is_kept v) host) (time_at graph v host) is
  where
    pick : (b : Bool) (t : Option Ts) → (if b then t else None) ≡ None → (b && is_some t) ≡ false
    pick true t h = ap (λ (o : Option Ts). is_some o) h
    pick false t h = refl

pub told_next : (graph : Graph) (v : View) (news : List Announced) (n : ℕ) (time : Ts) → n < graph.hosts → is_due v n ≡ true → leaving_time graph v n ≡ Some time
    → told graph v news (hosts_from graph n) ≡ told graph v (news ++ entry n time ∷ []) (hosts_from graph (n + 1))
told_next graph v news n time lt due leaving =
    let goes = leaves graph v n time leaving in
    ap (told graph v news) (from_next host_id n graph.hosts lt)
    ∙ going_with (λ h. is_due v h.0) (λ h. can_go graph v h.0) (λ h. with_time h (time_at graph v h.0)) news (host_id n) (hosts_from graph (n + 1)) (entry n time) due goes.0
    (ap (with_time (host_id n)) goes.1)

pub told_none : (graph : Graph) (v : View) (news : List Announced) (n : ℕ) → n < graph.hosts → is_due v n ≡ true → leaving_time graph v n ≡ None
    → told graph v news (hosts_from graph n) ≡ []
told_none graph v news n lt due leaving =
    ap (told graph v news) (from_next host_id n graph.hosts lt)
    ∙ going_none (λ h. is_due v h.0) (λ h. can_go graph v h.0) (λ h. with_time h (time_at graph v h.0)) news (host_id n) (hosts_from graph (n + 1)) due (stays_back graph v n leaving)

pub told_past : (graph : Graph) (v : View) (news : List Announced) (n : ℕ) → n < graph.hosts → is_due v n ≡ false
    → told graph v news (hosts_from graph n) ≡ told graph v news (hosts_from graph (n + 1))
told_past graph v news n lt due =
    ap (told graph v news) (from_next host_id n graph.hosts lt)
    ∙ going_past (λ h. is_due v h.0) (λ h. can_go graph v h.0) (λ h. with_time h (time_at graph v h.0)) news (host_id n) (hosts_from graph (n + 1)) due
