use Rattle.std.proofs.Common.{◌∙◌, Err, All, ap, subst, sym, arith}
use Rattle.std.specs.Str.Lines.{lines}
use Rattle.std.proofs.lemmas.List.Elements.{All-nil}
use Rattle.pipe_model.specs.Event.{IsOfGraph}
use Rattle.pipe_text_schedule.specs.Schedule.{schedule_of}
use Rattle.pipe_text_schedule.proofs.ScheduleLaws.{after_events, after_none, first_more, first_fault, known_more}
use Rattle.pipe_text_schedule.proofs.schedule.read_schedule.Goals as goal

pub returns-in-Err-clause-fault : goal.returns-in-Err-clause-fault
returns-in-Err-clause-fault c line kind is =
    let bad = c.in-Err.ensures.fault line kind (cc) in
    first_fault c.args.topology.now c.args.names.now c.lines.events c.lines.line c.lines.rest.now kind _ bad.1 c.lines.invariant.same
    ∙ ap (λ n. Err (n, kind)) (sym bad.0)

pub lines-init : goal.lines-init
lines-init c = record {
  same = ap (λ es. after_events es (schedule_of c.args.topology.now c.args.names.now c.args.first (lines c.args.text.now))) c.new-events.ensures ∙ after_none _;
  known = subst (All (IsOfGraph c.args.topology.now)) (sym c.new-events.ensures) (All-nil (IsOfGraph c.args.topology.now));
  within = omega arith;
}

pub lines-preserved : goal.lines-preserved
lines-preserved c =
    let shorter = c.in-Ok.ensures.event.line.3 in
    record {
      same = first_more c.args.topology.now c.args.names.now c.lines.events c.add.new.events c.in-Ok.read.0 c.lines.line c.lines.rest.now c.in-Ok.read.1.now _
          c.in-Ok.ensures.event c.in_ok-add.ensures c.lines.invariant.same;
      known = known_more (IsOfGraph c.args.topology.now) c.lines.events c.add.new.events c.in-Ok.read.0 c.in_ok-add.ensures c.lines.invariant.known c.in-Ok.ensures.known;
      within = omega (arith, shorter);
    }
