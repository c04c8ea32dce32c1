use Rattle.std.proofs.Common.{◌≡◌, ℕ, ◌≤◌, List, map, Option, None, Some, refl, ap, sym, subst, ◌∙◌, arith}
use Rattle.pipe_base.specs.declared.name.HostId.{HostId}
use Rattle.pipe_base.specs.declared.name.LinkId.{LinkId}
use Rattle.pipe_base.specs.declared.name.Ts.{Ts}
use Rattle.pipe_base.specs.declared.packet.Packet.{Packet}
use Rattle.pipe_base.specs.declared.step.Outcome.TheVariants.{Ok}
use Rattle.pipe_base.specs.declared.step.Step.{Step}
use Rattle.pipe_base.specs.Packets.{Fields, sent_to}
use Rattle.pipe_base.specs.Scattering.{SenderCall}
use Rattle.pipe_graph.specs.ShortestRoute.{route}
use Rattle.pipe_base.specs.Step.{quiet_step}
use Rattle.pipe_base.specs.Ways.{with_ways}
use Rattle.pipe_links.proofs.WayLaws.{ways_are}
use Rattle.pipe_model.specs.declared.event.Event.{Event}
use Rattle.pipe_model.specs.declared.event.Event.TheVariants.{Send}
use Rattle.pipe_model.specs.declared.record.Record.{Record}
use Rattle.pipe_model.specs.Clock.{next}
use Rattle.pipe_model.specs.Moments.{known_drops}
use Rattle.pipe_model.specs.Sender.{sender_calls, with_begun}
use Rattle.pipe_relsend.specs.Sending as sending
use Rattle.pipe_model.specs.Records.{sent}
use Rattle.pipe_host.proofs.HostSteps.{links_ready, still_ready}
use Rattle.pipe_host.proofs.RecordLaws.{still_buffers}
use Rattle.pipe_host.proofs.SendSteps.{begins, begins_none, refuses, sends, stamp_above_begun}
use Rattle.pipe_host.proofs.host.Host.work_send.Goals as goal

pub returns-in_ok-begin-in-Ok-clause-ok : goal.returns-in_ok-begin-in-Ok-clause-ok
returns-in_ok-begin-in-Ok-clause-ok c = λ graph host own stands.
    let k = c.args.self.now in
    let service = c.args.service in
    let dests = c.args.dests.now in
    let ts : Ts = c.in-Ok.stamp.ts in
    let stamped = c.in-Ok.ensures.ok in
    let step : Step = c.in_ok-step-in-Ok.step in
    let event : Event = Send host service c.args.now dests in
    let calls : List SenderCall = sender_calls graph host.0 own in
    let f : Fields = record { be = ts.0; commit = c.in-Ok.stamp.promise.0 } in
    let base : Step = record (quiet_step Ok) { stamped = Some ts } in
    let messages : HostId → List Packet = λ src. map (sent_to service src ts f) dests in
    let src : HostId = record { 0 = k.links.node.0 } in
    let src_is : src ≡ host = ap {B = HostId} (λ (n : ℕ). record { 0 = n }) stands.links_are.node_is in
    let known : List LinkId = known_drops own in
    let step_is : step ≡ with_ways (route graph known host.0) (messages host) base =
    c.in_ok-step-in-Ok.ensures ∙ ways_are graph host.0 known k.links.ways.routes (messages src) base stands.links_are.ways_are.routes_are
    ∙ ap (λ (h : HostId). with_ways (route graph known host.0) (messages h) base) src_is in
    let stamped_is : step.stamped ≡ Some ts = ap {B = Option Ts} (λ (s : Step). s.stamped) step_is in
    let r : Record = sent host service c.args.now dests step in
    let above : next graph host.0 own ≤ ts.0 = omega (arith, stamped.stamp_is, stands.next_is) in
    let begun : sending.Stands (with_begun event (Some ts) calls) c.begin.new.sender =
    subst (sending.Stands (with_begun event (Some ts) calls)) (sym c.in_ok-begin-in-Ok.ensures.ok)
    (begins service host c.args.now ts dests calls k.sender stands.sender_is (stamp_above_begun graph host.0 own ts.0 above) c.requires.some) in
    record {
      rules = sends graph host own service c.args.now dests c.in-Ok.stamp k step stands c.requires.some stamped step_is;
      stands = record {
        host = stands.host;
        links_are = links_ready graph host.0 own r k.links stands.links_are (ap (λ (s : Step). s.dropped) step_is);
        taking = tt;
        next_is = stands.next_is;
        top_is = stands.top_is;
        held_are = stands.held_are ∙ sym (still_buffers graph host.0 own r refl (ap (λ (s : Step). s.noted) step_is));
        sender_is = subst (λ (o : Option Ts). sending.Stands (with_begun event o calls) c.begin.new.sender) (sym stamped_is) begun;
        receiver = c.requires.some;
      };
    }

pub returns-in-Err-clause-ok : goal.returns-in-Err-clause-ok
returns-in-Err-clause-ok c = λ graph host own stands.
    let k = c.args.self.now in
    let service = c.args.service in
    let dests = c.args.dests.now in
    let step : Step = c.quiet.result in
    let event : Event = Send host service c.args.now dests in
    let calls : List SenderCall = sender_calls graph host.0 own in
    let stamped_is : step.stamped ≡ None = ap {B = Option Ts} (λ (s : Step). s.stamped) c.quiet.ensures in
    let none : calls ≡ with_begun event step.stamped calls =
    begins_none service host c.args.now dests calls ∙ ap (λ (o : Option Ts). with_begun event o calls) (sym stamped_is) in
    record {
      rules = refuses graph host own service c.args.now dests c.in-Err.refusal k step stands c.in-Err.ensures.err c.quiet.ensures;
      stands = still_ready graph host.0 own (sent host service c.args.now dests step) k stands tt refl (ap (λ (s : Step). s.noted) c.quiet.ensures) (ap (λ (s : Step). s.dropped) c.quiet.ensures)
          (subst (λ (cs : List SenderCall). sending.Stands cs k.sender) none stands.sender_is) c.requires.some;
    }
