use Rattle.std.proofs.Common.{◌≡◌, ℕ, ◌<◌, ◌-◌, ◌^◌, List, ◌++◌, None, ap, sym, subst, ◌∙◌, arith, max}
use Rattle.std.proofs.lemmas.List.Elements.{All-nil}
use Rattle.std.proofs.lemmas.Result.{IfOk-weaker}
use Rattle.pipe_base.specs.declared.message.Entry.{Entry}
use Rattle.pipe_base.specs.declared.message.Service.{Service}
use Rattle.pipe_base.specs.declared.name.HostId.{HostId}
use Rattle.pipe_base.specs.declared.name.LinkId.{LinkId}
use Rattle.pipe_base.specs.declared.name.NodeId.{NodeId}
use Rattle.pipe_base.specs.declared.name.Ts.{Ts}
use Rattle.pipe_base.specs.declared.packet.Packet.{Packet}
use Rattle.pipe_base.specs.declared.step.Outcome.TheVariants.{Ok}
use Rattle.pipe_base.specs.declared.step.Step.{Step}
use Rattle.pipe_base.specs.Clock.{next_after, after_logged}
use Rattle.pipe_graph.specs.Graph.{Graph}
use Rattle.pipe_base.specs.Messages.{AreBelow}
use Rattle.pipe_base.specs.Packets.{Fields}
use Rattle.pipe_base.specs.Promise.{promise_of}
use Rattle.pipe_base.specs.Resends.{resends}
use Rattle.pipe_base.specs.Scattering.{SenderCall}
use Rattle.pipe_graph.specs.ShortestRoute.{route}
use Rattle.pipe_base.specs.Ways.{picked, with_beacons, with_ways}
use Rattle.pipe_base.specs.Step.{quiet_step}
use Rattle.pipe_links.proofs.WayLaws.{ways_are}
use Rattle.pipe_model.specs.declared.record.Record.{Record}
use Rattle.pipe_model.specs.Clock.{next}
use Rattle.pipe_model.specs.Moments.{known_drops}
use Rattle.pipe_model.specs.Sender.{sender_calls}
use Rattle.pipe_reorder.specs.Buffer.{passed_by}
use Rattle.pipe_route.specs.Routing.{Routing}
use Rattle.pipe_host.specs.Buffers.{logged_by}
use Rattle.pipe_host.specs.Host.{Stands}
use Rattle.pipe_host.specs.Steps.{beat, fields_ticked}
use Rattle.pipe_host.proofs.host.Host.beat_in_full.Goals as goal

pub returns : goal.returns
returns c =
    IfOk-weaker c.keep.result (λ (kept : Step). kept ≡ c.put_beacons.new.step)
    (λ (kept : Step). (graph : Graph) (node : NodeId) (own : List Record) → Stands graph node.0 own c.args.self.now
    → kept ≡ beat graph node.0 own (fields_ticked graph node.0 own c.args.now (logged_by c.args.barriers c.args.self.now.held)) c.args.downed c.args.told
    (logged_by c.args.barriers c.args.self.now.held))
    (λ kept is graph node own stands.
    let k = c.args.self.now in
    let marks = c.args.downed in
    let tells = c.args.told in
    let b = c.args.barriers in
    let log : List (Service × Entry) = c.copy_passed.new.out in
    let n : ℕ = c.next-next.result.0 in
    let calls : List SenderCall = sender_calls graph node.0 own in
    let known : List LinkId = known_drops own in
    let f : Fields = record { be = n; commit = promise_of n calls } in
    let src : HostId = record { 0 = c.node.result.0 } in
    let src_is : src ≡ record { 0 = node.0 } = ap {B = HostId} (λ (m : NodeId). record { 0 = m.0 }) c.node.ensures ∙ ap {B = HostId} (λ (m : ℕ). record { 0 = m }) stands.links_are.node_is in
    let log_is : log ≡ logged_by b k.held =
    c.in_ok-copy_passed.ensures.ok ∙ ap (λ (s : Step). (s.logged ++ passed_by b.be.0 k.held.best) ++ passed_by b.commit.0 k.held.reliable) c.new-step.ensures in
    let below : AreBelow (2 ^ 64 - 1) log =
    c.in_ok-copy_passed.ensures.within (subst (λ (s : Step). AreBelow (2 ^ 64 - 1) s.logged) (sym c.new-step.ensures) (All-nil (λ (e : Service × Entry). e.1.key.ts.0 < 2 ^ 64 - 1))) in
    let delivered =
    subst (λ (es : List (Service × Entry)). AreBelow (2 ^ 64 - 1) es → c.deliver.new.clock.next.0 ≡ max c.tick.new.self.next.0 (after_logged es)) c.as_slice.ensures c.deliver.ensures.next below in
    let told : n ≡ c.deliver.new.clock.next.0 = ap {B = ℕ} (λ (t : Ts). t.0) c.next-next.ensures in
    let clock_is : n ≡ next_after (next graph node.0 own) c.args.now.0 None (logged_by b k.held) =
    subst (λ (es : List (Service × Entry)). n ≡ next_after (next graph node.0 own) c.args.now.0 None es) log_is (omega (arith, delivered, told, c.tick.ensures.next, stands.next_is)) in
    let base : Step = record (quiet_step Ok) { downed = marks; control = tells; logged = log } in
    let again : HostId → List Packet = λ host. resends calls host f in
    let resent : c.resends.new.step ≡ with_ways (route graph known node.0) (again (record { 0 = node.0 })) base =
    c.in_ok-resends.ensures.stands calls stands.sender_is
    ∙ ap (λ (s : Step). with_ways (picked c.routes-routes.result.now.links) (again src) (record s { downed = marks; control = tells; logged = log })) c.new-step.ensures
    ∙ ap (λ (routes : Routing). with_ways (picked routes.links) (again src) base) c.routes-routes.ensures
    ∙ ways_are graph node.0 known k.links.ways.routes (again src) base stands.links_are.ways_are.routes_are
    ∙ ap (λ (host : HostId). with_ways (route graph known node.0) (again host) base) src_is in
    is ∙ c.in_ok-put_beacons.ensures.ok
    ∙ ap {B = Step} (λ (m : ℕ). with_beacons k.links.ways.outs (record { be = n; commit = m }) c.resends.new.step) (c.promise-promise.ensures.stands calls stands.sender_is)
    ∙ ap (with_beacons k.links.ways.outs f) resent
    ∙ ap (λ (ls : List LinkId). with_beacons ls f (with_ways (route graph known node.0) (again (record { 0 = node.0 })) base)) stands.links_are.ways_are.outs_are
    ∙ ap (λ (es : List (Service × Entry)). beat graph node.0 own f marks tells es) log_is
    ∙ ap (λ (m : ℕ). beat graph node.0 own (record { be = m; commit = promise_of m calls }) marks tells (logged_by b k.held)) clock_is)
    c.keep.ensures
