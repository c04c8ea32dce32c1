use Rattle.std.proofs.Common.{◌≡◌, List, ◌++◌, ap, sym, subst, ◌∙◌, refl}
use Rattle.std.specs.Prelude.{unwrap_or}
use Rattle.pipe_base.specs.declared.control.Announced.{Announced}
use Rattle.pipe_base.specs.declared.control.Control.{Control}
use Rattle.pipe_base.specs.declared.name.LinkId.{LinkId}
use Rattle.pipe_base.specs.declared.step.Step.{Step}
use Rattle.pipe_links.specs.Links as links
use Rattle.pipe_links.specs.Ways.{AreWays}
use Rattle.pipe_model.specs.declared.record.Record.{Record}
use Rattle.pipe_model.specs.Marks.{told_drops, told_hosts}
use Rattle.pipe_model.specs.Moments.{known_drops, noted_hosts}
use Rattle.pipe_host.specs.declared.buffers.Buffers.{Buffers}
use Rattle.pipe_host.specs.declared.host.Host.{Host}
use Rattle.pipe_host.specs.Buffers.{all_noting}
use Rattle.pipe_host.specs.Host.{buffers_for, buffers_with}
use Rattle.pipe_model.specs.Records.{told}
use Rattle.pipe_host.proofs.HostSteps.{IsReady, obeyed_notes, obeys}
use Rattle.pipe_host.proofs.RecordLaws.{still_noting}
use Rattle.pipe_host.proofs.host.Host.work_control.Goals as goal

pub returns-in-Ok-clause-ok : goal.returns-in-Ok-clause-ok
returns-in-Ok-clause-ok c = λ node own place keep stands.
    let graph = c.args.topology.now in
    let control : Control = c.args.control.now in
    let old : Buffers = c.args.self.now.held in
    let k : Host = record c.args.self.now { held = c.adopt.new.self } in
    let step : Step = c.in-Ok.step in
    let drops : List LinkId = c.in_ok-drops.drops in
    let r : Record = told node control place keep step in
    let drops_are : drops ≡ told_drops (known_drops own) control = c.in_ok-drops.ensures graph node.0 own stands.links_are in
    let dropped : step.dropped ≡ drops = ap (λ (s : Step). s.dropped) c.in-Ok.ensures.step_is in
    let news_are : step.noted ≡ told_hosts (noted_hosts own) control =
    obeyed_notes graph node own control drops c.in_ok-count.count old k step stands.held_are c.in_ok-count.ensures.ok c.in_ok-count.ensures.count c.in-Ok.ensures in
    let held_now : c.adopt.new.self ≡ buffers_with graph node.0 own r =
    c.in_ok-count.ensures.ok ∙ ap (λ (h : Buffers). all_noting (told_hosts h.reliable.failed control) h) stands.held_are
    ∙ ap (λ (news : List Announced). all_noting news (buffers_for graph node.0 own)) (sym news_are)
    ∙ still_noting graph node.0 own r refl in
    let ready : IsReady graph node.0 own r k =
    record {
      host = stands.host;
      links_are = stands.links_are;
      next_is = stands.next_is;
      top_is = stands.top_is;
      held_are = held_now;
      sender_is = stands.sender_is;
    } in
    record {
      rules = obeys graph node own control place keep drops c.in_ok-count.count k step ready drops_are news_are c.in-Ok.ensures;
      stands = record {
        host = stands.host;
        links_are = subst (links.StandsWith graph node.0 own r) (sym c.prepare.ensures) (record {
          stands = record {
            node_is = stands.links_are.node_is;
            within = stands.links_are.within;
            ins_are = stands.links_are.ins_are;
            ways_are = stands.links_are.ways_are;
            none_ahead = refl;
            history = stands.links_are.history;
          };
          ahead_are = subst (λ (ls : List LinkId). AreWays graph node.0 (known_drops own ++ ls) (unwrap_or c.in_ok-ahead.ahead c.args.self.now.links.ways)) (sym dropped)
              (c.in_ok-ahead.ensures node.0 own stands.links_are);
        });
        taking = tt;
        next_is = stands.next_is;
        top_is = stands.top_is;
        held_are = held_now;
        sender_is = stands.sender_is;
        receiver = tt;
      };
    }
