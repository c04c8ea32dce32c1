use Rattle.std.proofs.Common.{ℕ, List, [], ◌∷◌, map}
use Rattle.std.proofs.lemmas.Result.{on_ok_weaker}
use Rattle.pipe_base.specs.declared.step.Step.{Step}
use Rattle.pipe_text_trace.specs.Record.{control_line, down_line, dropped_line, event_line, fate_lines, logged_line, noted_line, outcome_line, put_line, stamp_lines, took_lines, unrouted_lines}
use Rattle.pipe_text_trace.proofs.LineLaws.{Printed, printed_more}
use Rattle.pipe_text_trace.proofs.record.print_record.Goals as goal

pub returns : goal.returns
returns c =
    let names : List (List ℕ) = c.args.names.now in
    let step : Step = c.args.happened.now.step in
    let event : Printed c.args.out.now.items c.print_event_line.new.out.items (event_line names c.args.at c.args.happened.now.event ∷ [])
    = record { is = c.in_ok-print_event_line.ensures } in
    let outcome = printed_more (outcome_line names step.outcome ∷ []) event (rw c.outcome.ensures at c.in_ok-print_outcome_line.ensures) in
    let stamp = printed_more (stamp_lines step.stamped) outcome (rw c.stamped.ensures at c.in_ok-print_stamp_lines.ensures) in
    let took = printed_more (took_lines names c.args.happened.now.took) stamp c.in_ok-print_took_lines.ensures in
    let down = printed_more (map down_line step.downed) took (rw c.downed.ensures at c.in_ok-print_down_lines.ensures) in
    let noted = printed_more (map (noted_line names) step.noted) down (rw c.noted.ensures at c.in_ok-print_noted_lines.ensures) in
    let dropped = printed_more (map dropped_line step.dropped) noted (rw c.dropped.ensures at c.in_ok-print_dropped_lines.ensures) in
    let fate = printed_more (fate_lines step.fate) dropped (rw c.fate.ensures at c.in_ok-print_fate_lines.ensures) in
    let logged = printed_more (map (logged_line names) step.logged) fate (rw c.logged.ensures at c.in_ok-print_logged_lines.ensures) in
    let put = printed_more (map (put_line names) step.put) logged (rw c.put.ensures at c.in_ok-print_put_lines.ensures) in
    let control = printed_more (map (control_line names) step.control) put (rw c.control.ensures at c.in_ok-print_control_lines.ensures) in
    on_ok_weaker c.print_unrouted_lines.result (λ all. (printed_more (unrouted_lines step.unrouted) control all).is) (rw c.unrouted.ensures at c.print_unrouted_lines.ensures)
