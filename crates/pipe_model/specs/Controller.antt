-- The controller along a run: what it knows after a history, and what a decision does.
use Rattle.std.specs.Prelude.{ℕ, Bool, List, [], ◌∷◌}
use Rattle.pipe_base.specs.declared.control.Announced.{Announced}
use Rattle.pipe_base.specs.declared.control.Control.{Control}
use Rattle.pipe_base.specs.declared.control.To.{To}
use Rattle.pipe_base.specs.declared.control.To.TheVariants.{Controller}
use Rattle.pipe_base.specs.declared.name.LinkId.{LinkId}
use Rattle.pipe_base.specs.declared.step.Outcome.{Outcome}
use Rattle.pipe_base.specs.declared.step.Outcome.TheVariants.{Ok}
use Rattle.pipe_base.specs.declared.step.Step.{Step}
use Rattle.pipe_graph.specs.Graph.{Graph}
use Rattle.pipe_base.specs.Step.{quiet_step}
use Rattle.pipe_model.specs.declared.event.Event.{Event}
use Rattle.pipe_model.specs.declared.event.Event.TheVariants.{Send, Tick, Take, Lose, ControlTake, ControlLose, Decide, Crash, Cut}
use Rattle.pipe_model.specs.declared.record.Record.{Record}
use Rattle.pipe_model.specs.declared.record.Took.{Took}
use Rattle.pipe_model.specs.declared.record.Took.TheVariants.{Link, Message, Nothing}
use Rattle.pipe_model.specs.Decision.{after_announce, after_decision, after_doom, messages, newly_announced, newly_dead}
use Rattle.pipe_model.specs.View.{View, after_message, first_view}

-- a message to the controller tells it something, one to a node does not
abbrev pub after_addressed : Graph → To → Control → View → View
after_addressed graph Controller control v = after_message graph control v
after_addressed graph _ control v = v

abbrev pub after_took : Graph → Took → View → View
after_took graph (Message a) v = after_addressed graph a.to a.control v
after_took graph (Link link p) v = v
after_took graph Nothing v = v

-- what the controller knows after an event: it takes what is addressed to it, and decides
abbrev pub after_event : Graph → Event → Took → Outcome → View → View
after_event graph (ControlTake place keep) took outcome v = after_took graph took v
after_event graph Decide took outcome v = after_decision graph v
after_event graph (Send host service now dests) took outcome v = v
after_event graph (Tick node now) took outcome v = v
after_event graph (Take link place keep) took outcome v = v
after_event graph (Lose link place) took outcome v = v
after_event graph (ControlLose place) took outcome v = v
after_event graph (Crash node) took outcome v = v
after_event graph (Cut link) took outcome v = v

-- What the controller knows after a history.
abbrev pub view : Graph → List Record → View
view graph [] = first_view graph
view graph (r ∷ past) = after_event graph r.event r.took r.step.outcome (view graph past)

-- what a decision does: the hosts that it announces, the links that it drops, and the messages that it puts
abbrev pub decision : Graph → View → Step
decision graph v = record (quiet_step Ok) {
  noted = newly_announced graph (after_doom graph v);
  dropped = newly_dead graph (after_announce graph (after_doom graph v));
  control = messages graph (after_decision graph v);
}

-- the step of a record that is no node's own: a decision, or nothing but an outcome
abbrev pub nobodys_step : Graph → View → Event → Outcome → Step
nobodys_step graph v Decide outcome = decision graph v
nobodys_step graph v (Send host service now dests) outcome = quiet_step outcome
nobodys_step graph v (Tick node now) outcome = quiet_step outcome
nobodys_step graph v (Take link place keep) outcome = quiet_step outcome
nobodys_step graph v (Lose link place) outcome = quiet_step outcome
nobodys_step graph v (ControlTake place keep) outcome = quiet_step outcome
nobodys_step graph v (ControlLose place) outcome = quiet_step outcome
nobodys_step graph v (Crash node) outcome = quiet_step outcome
nobodys_step graph v (Cut link) outcome = quiet_step outcome

-- the host takes part
abbrev pub is_member : Graph → List Record → ℕ → Bool
is_member graph past host = (view graph past).members host

-- the link counts: it is not known as dead
abbrev pub is_live : Graph → List Record → ℕ → Bool
is_live graph past link = (view graph past).live link

-- the links that were found dead and are dropped everywhere, in the order of the decisions
abbrev pub dropped : Graph → List Record → List LinkId
dropped graph past = (view graph past).dropped

-- the hosts that were announced as failed, each with the time from which on it counts as failed, in the order of announcement
abbrev pub announced : Graph → List Record → List Announced
announced graph past = (view graph past).announced
