use Rattle.std.proofs.Common.{◌≡◌, ℕ, List, [], length, None, ap, ◌∙◌, arith}
use Rattle.std.proofs.lemmas.Result.{IfOk-weaker}
use Rattle.pipe_base.specs.declared.name.LinkId.{LinkId}
use Rattle.pipe_base.specs.declared.name.NodeId.{NodeId}
use Rattle.pipe_base.specs.declared.name.Ts.{Ts}
use Rattle.pipe_base.specs.declared.step.Outcome.TheVariants.{Ok}
use Rattle.pipe_base.specs.declared.step.Step.{Step}
use Rattle.pipe_base.specs.Clock.{next_after}
use Rattle.pipe_graph.specs.Graph.{Graph}
use Rattle.pipe_base.specs.Promise.{promise_of}
use Rattle.pipe_base.specs.Scattering.{SenderCall}
use Rattle.pipe_base.specs.Settled.{unsettled}
use Rattle.pipe_base.specs.Step.{quiet_step}
use Rattle.pipe_base.specs.Ways.{with_beacons}
use Rattle.pipe_model.specs.declared.record.Record.{Record}
use Rattle.pipe_model.specs.Clock.{next}
use Rattle.pipe_model.specs.Sender.{sender_calls}
use Rattle.pipe_host.specs.Host.{Stands}
use Rattle.pipe_host.specs.Steps.{beat, fields_ticked}
use Rattle.pipe_host.proofs.HostSteps.{none_again}
use Rattle.pipe_host.proofs.host.Host.beat.Goals as goal

pub returns : goal.returns
returns c =
    let k = c.args.self.now in
    let n : ℕ = c.next-next.result.0 in
    let m : ℕ = c.promise.result.0 in
    IfOk-weaker c.send_beacons.result (λ (kept : Step). kept ≡ with_beacons k.links.ways.outs (record { be = n; commit = m }) (quiet_step Ok))
    (λ (kept : Step). (graph : Graph) (node : NodeId) (own : List Record) → Stands graph node.0 own k → length (unsettled (sender_calls graph node.0 own)) ≡ 0
    → kept ≡ beat graph node.0 own (fields_ticked graph node.0 own c.args.now []) [] [] [])
    (λ kept is graph node own stands settled.
    let calls : List SenderCall = sender_calls graph node.0 own in
    let clock_is : n ≡ next_after (next graph node.0 own) c.args.now.0 None [] = omega (arith, ap {B = ℕ} (λ (t : Ts). t.0) c.next-next.ensures, c.tick.ensures.next, stands.next_is) in
    is
    ∙ ap {B = Step} (λ (p : ℕ). with_beacons k.links.ways.outs (record { be = n; commit = p }) (quiet_step Ok)) (c.promise.ensures.stands calls stands.sender_is)
    ∙ ap {B = Step} (λ (p : ℕ). with_beacons k.links.ways.outs (record { be = p; commit = promise_of p calls }) (quiet_step Ok)) clock_is
    ∙ ap (λ (ls : List LinkId). with_beacons ls (fields_ticked graph node.0 own c.args.now []) (quiet_step Ok)) stands.links_are.ways_are.outs_are
    ∙ none_again graph node.0 own (fields_ticked graph node.0 own c.args.now []) settled)
    c.send_beacons.ensures
