use Rattle.std.proofs.Common.{◌≡◌, ◌-◌, map}
use Rattle.std.specs.List.{range_with_len}
use Rattle.pipe_control.specs.Known.{view_of}
use Rattle.pipe_control.proofs.ListLaws.{going}
use Rattle.pipe_model.specs.Decision.{can_go, host_id, newly_announced, time_at, with_time}
use Rattle.pipe_model.specs.View.{is_due}
use Rattle.pipe_control.proofs.controller.Controller.news.Given as goal

abbrev pub invariant-loop-host : goal.invariant-loop-host
invariant-loop-host l =
    let v = view_of l.self in
    going (λ h. is_due v h.0) (λ h. can_go l.topology v h.0) (λ h. with_time h (time_at l.topology v h.0)) l.news (map host_id (range_with_len l.host (l.topology.hosts - l.host)))
    ≡ newly_announced l.topology v
