use Rattle.std.proofs.Common.{rules, ◌≡◌, ℕ, List, ◌∷◌, [], ◌++◌, length, get_or, sym, subst, ap, ◌∙◌}
use Rattle.std.proofs.lemmas.List.{get_or_push}
use Rattle.pipe_base.specs.declared.step.Outcome.{Outcome}
use Rattle.pipe_base.specs.Limits.{most_items}
use Rattle.pipe_model.specs.declared.record.Record.{Record}
use Rattle.pipe_net.specs.Waits.{Waits}
use Rattle.pipe_world.specs.Queues.{AreKnown, IsInPlace, Stand, left_by, moved_by, with_items}
use Rattle.pipe_world.proofs.WaitingLists.{control_room, in_place_more, moved, puts_count, room}
use Rattle.pipe_world.proofs.enter.enter.Goals as goal

pub put_both-requires-clause-room : goal.put_both-requires-clause-room
put_both-requires-clause-room c = room c.requires.stands.0 c.args.queues.now c.args.history.now most_items c.requires.stands.1 c.trace.ensures.within

pub put_both-requires-clause-room_control : goal.put_both-requires-clause-room_control
put_both-requires-clause-room_control c = control_room c.requires.stands.0 c.args.queues.now c.args.history.now most_items c.requires.stands.1 c.trace.ensures.within

-- the record that was appended is the one that is read again
read_again : (xs : List Record) (r read : Record) (at : ℕ) → at ≡ length xs → read ≡ get_or (xs ++ r ∷ []) at read → read ≡ r
read_again xs r read at is same = same ∙ get_or_push xs r read at (sym is)

pub take_out-requires : goal.take_out-requires
take_out-requires c =
    let r : Record = c.args.made.now in
    let waits : Waits = c.args.queues.now in
    let read : c.index-as_slice-at.result ≡ r =
    read_again c.args.history.now r c.index-as_slice-at.result c.len-at.result (c.len-at.ensures ∙ ap length c.trace.ensures.trace)
    (c.index-as_slice-at.is
    ∙ ap (λ (rs : List Record). get_or rs c.len-at.result c.index-as_slice-at.result) (c.as_slice.ensures ∙ c.trace-2.ensures.trace ∙ c.in_default.ensures.ok)) in
    let put : c.put_both.new.queues ≡ with_items r waits = search rules in
    subst (IsInPlace c.put_both.new.queues c.index-as_slice-at.result.event) (sym c.outcome.ensures)
    (subst (λ (s : Record). IsInPlace c.put_both.new.queues s.event s.step.outcome) (sym read)
    (subst (λ (w : Waits). IsInPlace w r.event r.step.outcome) (sym put)
    (in_place_more r waits r.event r.step.outcome c.requires.known c.requires.in_place)))

pub returns-clause-queues_ok : goal.returns-clause-queues_ok
returns-clause-queues_ok c = λ graph past stands.
    let r : Record = c.args.made.now in
    let waits : Waits = c.args.queues.now in
    let read : c.index-as_slice-at.result ≡ r =
    read_again c.args.history.now r c.index-as_slice-at.result c.len-at.result (c.len-at.ensures ∙ ap length c.trace.ensures.trace)
    (c.index-as_slice-at.is
    ∙ ap (λ (rs : List Record). get_or rs c.len-at.result c.index-as_slice-at.result) (c.as_slice.ensures ∙ c.trace-2.ensures.trace ∙ c.in_default.ensures.ok)) in
    let put : c.put_both.new.queues ≡ with_items r waits = search rules in
    let left : c.take_out.new.queues ≡ moved_by r waits =
    c.take_out.ensures
    ∙ ap (λ (o : Outcome). left_by c.index-as_slice-at.result.event o c.put_both.new.queues) c.outcome.ensures
    ∙ ap (λ (s : Record). left_by s.event s.step.outcome c.put_both.new.queues) read
    ∙ ap (left_by r.event r.step.outcome) put in
    subst (λ (w : Waits). Stand graph w (r ∷ past)) (sym left) (moved graph past r waits c.requires.known c.requires.in_place stands)

pub take_back-requires : goal.take_back-requires
take_back-requires c =
    let r : Record = c.args.made.now in
    let put : c.put_both.new.queues ≡ with_items r c.args.queues.now = search rules in
    let count : length c.take_messages_back.new.queues.lines ≡ length c.args.queues.now.lines =
    ap (λ (w : Waits). length w.lines) c.take_messages_back.ensures ∙ ap (λ (w : Waits). length w.lines) put ∙ puts_count r.step.put c.args.queues.now in
    subst (AreKnown (length c.take_messages_back.new.queues.lines)) (sym (c.put.ensures ∙ ap (λ (s : Record). s.step.put) c.in-Err.ensures.err.1))
    (subst (λ (n : ℕ). AreKnown n r.step.put) (sym count) c.requires.known)
