-- The lines of a record, each as its words.
use Rattle.std.specs.Prelude.{ℕ, ◌==◌, if◌then◌else◌, List, [], ◌∷◌, ◌++◌, map, Option, None, Some, codes, decimal}
use Rattle.pipe_base.specs.declared.control.Addressed.{Addressed}
use Rattle.pipe_base.specs.declared.control.Announced.{Announced}
use Rattle.pipe_base.specs.declared.message.Entry.{Entry}
use Rattle.pipe_base.specs.declared.message.Service.{Service}
use Rattle.pipe_base.specs.declared.name.LinkId.{LinkId}
use Rattle.pipe_base.specs.declared.name.Ts.{Ts}
use Rattle.pipe_base.specs.declared.packet.Packet.{Packet}
use Rattle.pipe_base.specs.declared.step.Fate.{Fate}
use Rattle.pipe_base.specs.declared.step.Outcome.{Outcome}
use Rattle.pipe_model.specs.declared.event.Event.{Event}
use Rattle.pipe_model.specs.declared.record.Record.{Record}
use Rattle.pipe_model.specs.declared.record.Took.{Took}
use Rattle.pipe_model.specs.declared.record.Took.TheVariants.{Nothing, Link, Message}
use Rattle.pipe_text.specs.Log.{service_word, body_text}
use Rattle.pipe_text.specs.Name.{name_of}
use Rattle.pipe_text_trace.specs.Control.{addressed_words, link_word}
use Rattle.pipe_text_trace.specs.Event.{event_words}
use Rattle.pipe_text_trace.specs.Packet.{packet_words}
use Rattle.pipe_text_trace.specs.Step.{fate_words, outcome_words}

-- `event I LINE`
abbrev pub event_line : List (List ℕ) → ℕ → Event → List (List ℕ)
event_line names at event = codes "event" ∷ decimal at ∷ event_words names event

-- `outcome WORD`
abbrev pub outcome_line : List (List ℕ) → Outcome → List (List ℕ)
outcome_line names outcome = codes "outcome" ∷ outcome_words names outcome

-- `stamp TS`, where there is one
abbrev pub stamp_lines : Option Ts → List (List (List ℕ))
stamp_lines None = []
stamp_lines (Some ts) = (codes "stamp" ∷ decimal ts.0 ∷ []) ∷ []

-- `took LINK PACKET` or `tookcontrol ADDRESSED`, where something was taken
abbrev pub took_lines : List (List ℕ) → Took → List (List (List ℕ))
took_lines names Nothing = []
took_lines names (Link link packet) = (codes "took" ∷ link_word link ∷ packet_words names packet) ∷ []
took_lines names (Message addressed) = (codes "tookcontrol" ∷ addressed_words names addressed) ∷ []

-- `down LINK VALUE`
abbrev pub down_line : (LinkId × Ts) → List (List ℕ)
down_line downed = codes "down" ∷ link_word downed.0 ∷ decimal downed.1.0 ∷ []

-- `noted HOST TIME`
abbrev pub noted_line : List (List ℕ) → Announced → List (List ℕ)
noted_line names noted = codes "noted" ∷ name_of names noted.host.0 ∷ decimal noted.time.0 ∷ []

-- `dropped LINK`
abbrev pub dropped_line : LinkId → List (List ℕ)
dropped_line link = codes "dropped" ∷ link_word link ∷ []

-- `fate WORD`, where a message was received
abbrev pub fate_lines : Option Fate → List (List (List ℕ))
fate_lines None = []
fate_lines (Some fate) = (codes "fate" ∷ fate_words fate) ∷ []

-- `logged SERVICE TS HOST BODY`
abbrev pub logged_line : List (List ℕ) → (Service × Entry) → List (List ℕ)
logged_line names logged =
    codes "logged" ∷ service_word logged.0 ∷ decimal logged.1.key.ts.0 ∷ name_of names logged.1.key.src.0 ∷ body_text logged.1.body ∷ []

-- `put LINK PACKET`
abbrev pub put_line : List (List ℕ) → (LinkId × Packet) → List (List ℕ)
put_line names put = codes "put" ∷ link_word put.0 ∷ packet_words names put.1

-- `control ADDRESSED`
abbrev pub control_line : List (List ℕ) → Addressed → List (List ℕ)
control_line names addressed = codes "control" ∷ addressed_words names addressed

-- `unrouted N`, where N is not 0
abbrev pub unrouted_lines : ℕ → List (List (List ℕ))
unrouted_lines count = if count == 0 then [] else (codes "unrouted" ∷ decimal count ∷ []) ∷ []

-- all lines of a record, in order: it is the record with this number
abbrev pub record_lines : List (List ℕ) → ℕ → Record → List (List (List ℕ))
record_lines names at r =
    event_line names at r.event ∷ outcome_line names r.step.outcome ∷ []
    ++ stamp_lines r.step.stamped
    ++ took_lines names r.took
    ++ map down_line r.step.downed
    ++ map (noted_line names) r.step.noted
    ++ map dropped_line r.step.dropped
    ++ fate_lines r.step.fate
    ++ map (logged_line names) r.step.logged
    ++ map (put_line names) r.step.put
    ++ map (control_line names) r.step.control
    ++ unrouted_lines r.step.unrouted
