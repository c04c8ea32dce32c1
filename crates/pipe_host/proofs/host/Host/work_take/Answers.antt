use Rattle.std.proofs.Common.{◌≡◌, ℕ, ◌==◌, [], true, false, Option, Some, refl, ap, sym, subst, ◌∙◌}
use Rattle.pipe_base.specs.declared.name.NodeId.{NodeId}
use Rattle.pipe_base.specs.declared.packet.Packet.{Packet}
use Rattle.pipe_base.specs.declared.step.Fate.{Fate}
use Rattle.pipe_base.specs.declared.step.Outcome.TheVariants.{Ignored}
use Rattle.pipe_base.specs.declared.step.Step.{Step}
use Rattle.pipe_graph.specs.Graph.{ins_of}
use Rattle.pipe_base.specs.Moment.{has_link, is_up}
use Rattle.pipe_base.specs.Step.{quiet_step}
use Rattle.pipe_model.specs.declared.record.Record.{Record}
use Rattle.pipe_model.specs.Got.{gets_of}
use Rattle.pipe_model.specs.Moments.{moments_of, received}
use Rattle.pipe_model.proofs.Steps.{taken_ignored, taken_received}
use Rattle.pipe_host.specs.declared.buffers.Buffers.{Buffers}
use Rattle.pipe_host.specs.declared.host.Host.{Host}
use Rattle.pipe_host.specs.Buffers.{all_burying, all_joined, fate_among, where_mine}
use Rattle.pipe_host.specs.Host.{Works, buffers_for, buffers_with}
use Rattle.pipe_model.specs.Records.{taken}
use Rattle.pipe_host.proofs.HostSteps.{IsReady, ignores, links_ready, receives, still_ready, up_from}
use Rattle.pipe_host.proofs.RecordLaws.{buries_mine, held_with}
use Rattle.pipe_host.proofs.host.Host.work_take.Goals as goal

pub returns-then-not-is_up-clause-ok : goal.returns-then-not-is_up-clause-ok
returns-then-not-is_up-clause-ok c = λ graph node own place keep stands comes.
    let link = c.args.link in
    let p : Packet = c.args.packet.now in
    let down : is_up (moments_of graph node own) link.0 ≡ false =
    up_from c.is_up.result (has_link link.0 (ins_of graph node)) (is_up (moments_of graph node own) link.0) (c.is_up.ensures graph node own stands.links_are) comes
    ∙ c.if-not-is_up.true in
    let r : Record = taken link p place keep (quiet_step Ignored) in
    subst (λ (s : Step). Works graph node own (taken link p place keep s) c.args.self.now) (sym c.quiet.ensures)
    (record {
      rules = ignores graph node own link p place keep stands.host down;
      stands = still_ready graph node own r c.args.self.now stands stands.links_are (taken_ignored (moments_of graph node own) link p place keep down) refl refl stands.sender_is tt;
    })

pub returns-in-Ok-clause-ok : goal.returns-in-Ok-clause-ok
returns-in-Ok-clause-ok c = λ graph node own place keep stands comes.
    let link = c.args.link in
    let p : Packet = c.args.packet.now in
    let fate : Option Fate = c.fate-fate.result in
    let step : Step = c.in-Ok.step in
    let before : Buffers = buffers_for graph node own in
    let brought : Option Packet = gets_of graph node (Some (link.0, p)) in
    let k : Host = record c.args.self.now { held = c.take_in.new.self } in
    let up : is_up (moments_of graph node own) link.0 ≡ true =
    up_from c.is_up.result (has_link link.0 (ins_of graph node)) (is_up (moments_of graph node own) link.0) (c.is_up.ensures graph node own stands.links_are) comes
    ∙ c.if-not-is_up.false in
    let r : Record = taken link p place keep step in
    let got : received graph node own r ≡ Some (link.0, p) = taken_received (moments_of graph node own) link p place keep up in
    let fate_is : fate ≡ fate_among before brought =
    c.fate-fate.ensures.value graph node own link stands ∙ ap (λ (h : Buffers). fate_among h brought) stands.held_are in
    let no_news : step.noted ≡ [] = ap (λ (s : Step). s.noted) (c.in-Ok.ensures.step_is graph node own stands.links_are) in
    let no_drops : step.dropped ≡ [] = ap (λ (s : Step). s.dropped) (c.in-Ok.ensures.step_is graph node own stands.links_are) in
    let me_is : c.node.result.0 ≡ node = ap {B = ℕ} (λ (n : NodeId). n.0) c.node.ensures ∙ stands.links_are.node_is in
    let held_now : c.take_in.new.self ≡ buffers_with graph node own r =
    c.in_ok-take_in.ensures.ok
    ∙ ap (λ (n : ℕ). all_joined fate p (all_burying (where_mine (p.dst.0 == n) p) c.args.self.now.held)) me_is
    ∙ ap (λ (h : Buffers). all_joined fate p (all_burying (where_mine (p.dst.0 == node) p) h)) stands.held_are
    ∙ ap (all_joined fate p) (buries_mine graph node link.0 p before stands.host)
    ∙ ap (λ (f : Option Fate). all_joined f p (all_burying brought before)) fate_is ∙ held_with graph node own r link.0 p got no_news in
    let ready : IsReady graph node own r k =
    record {
      host = stands.host;
      links_are = stands.links_are;
      next_is = stands.next_is;
      top_is = stands.top_is;
      held_are = held_now;
      sender_is = stands.sender_is;
    } in
    record {
      rules = receives graph node own link p place keep fate k step ready up fate_is c.in-Ok.ensures;
      stands = record {
        host = stands.host;
        links_are = links_ready graph node own r k.links stands.links_are no_drops;
        taking = stands.links_are;
        next_is = stands.next_is;
        top_is = stands.top_is;
        held_are = held_now;
        sender_is = stands.sender_is;
        receiver = tt;
      };
    }

pub returns-in-Err-clause-err : goal.returns-in-Err-clause-err
returns-in-Err-clause-err c =
    let p : Packet = c.args.packet.now in
    let k : Host = c.args.self.now in
    ap {B = Host} (λ (h : Buffers). record k { held = h })
    (c.give_back.ensures k.held (where_mine (p.dst.0 == c.node.result.0) p) c.newest-newest.ensures c.fate-fate.ensures.fresh c.in_ok-take_in.ensures.ok)
