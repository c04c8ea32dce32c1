use Rattle.pipe_text_schedule.proofs.HappenLaws.{schedule_happens}
use Rattle.pipe_text_schedule.proofs.laws.schedules_can_happen.Goals as goal

pub returns : goal.returns
returns c = schedule_happens
