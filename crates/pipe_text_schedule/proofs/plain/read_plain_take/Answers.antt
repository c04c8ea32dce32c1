use Rattle.pipe_text_schedule.proofs.PlainLaws.{take_plain}
use Rattle.pipe_text_schedule.proofs.plain.read_plain_take.Goals as goal

pub returns-clause-event : goal.returns-clause-event
returns-clause-event c names =
    let link = c.in_ok-link.ensures.some in
    let place = c.in_ok-place.ensures.some in
    take_plain c.args.topology.now names c.args.text.now c.in_ok-link.rest.now c.in_ok-place.rest.now link.0 place.0 c.in_ok-link.link c.in_ok-link-2.link.0 c.in_ok-place.place
    link.1 link.2 place.1 place.2 c.in_ok-link-2.ensures.link
