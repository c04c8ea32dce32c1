-- What the status of a call has to do with what was read and written.
use Rattle.std.specs.Prelude.{◌≡◌, ◌≢◌, ◌⊎◌, ℕ, ◌+◌, ◌<◌, ◌≤◌, List, length, take, Option, Some}
use Rattle.std.specs.Prelude as result
use Rattle.std.specs.Io.KnownBytes.{Appends, Consumes, IsAtEnd}
use Rattle.pipe_base.specs.Limits.{most_bytes}
use Rattle.pipe_outside.specs.Outside.{Rose}
use Rattle.pipe_model.specs.OrderedRun.{IsOrderedRun}
use Rattle.pipe_model.specs.declared.record.Record.{Record}
use Rattle.pipe_text_input.specs.Content.{Content, content_of}
use Rattle.pipe_topo.specs.Plan.{graph_of}
use Rattle.pipe_cli.specs.declared.status.Status.{Status}
use Rattle.pipe_cli.specs.declared.status.Status.TheVariants.{Ok, Usage, ReadFault, WriteFault, BadTopology, BadSchedule, TooLong, NoMemory}
use Rattle.pipe_cli.specs.declared.words.Form.{Form}
use Rattle.pipe_cli.specs.Form.{IsReplayForm, IsSomeForm}
use Rattle.pipe_cli.specs.Input.{says}
use Rattle.pipe_cli.specs.Read.{WasRead}
use Rattle.pipe_cli.specs.Replay.{IsTooLong, replay_text}

-- the bytes tell a network and events, and their run puts no more than it may
pub record CanRun (bytes : List ℕ) : Type 0 where
  pub content : Content
  pub said : says bytes ≡ result.Ok content
  pub trace : List Record
  pub run : IsOrderedRun (graph_of content.plan) content.events trace

-- The status that an input asks for, where nothing fails and there is memory. It asks for one alone, by the law of `laws.rt`.
abbrev pub AsksFor : List ℕ → Status → Type 0
AsksFor bytes Ok = CanRun bytes
AsksFor bytes Usage = ⊥
AsksFor bytes ReadFault = ⊥
AsksFor bytes WriteFault = ⊥
AsksFor bytes (BadTopology fault) = says bytes ≡ result.Err (BadTopology fault)
AsksFor bytes (BadSchedule line kind) = says bytes ≡ result.Err (BadSchedule line kind)
AsksFor bytes (TooLong what count) = IsTooLong bytes what count
AsksFor bytes NoMemory = ⊥

-- these bytes were read, and ask for this status
pub record Asks (left rest : Option (List ℕ)) (status : Status) : Type 0 where
  pub bytes : List ℕ
  pub read : WasRead left rest bytes
  pub asks : AsksFor bytes status

-- A refusal of the input is that of its first fault; Ok and a failed write come where it has none.
abbrev pub IsOfInput : Option (List ℕ) → Option (List ℕ) → Status → Type 0
IsOfInput left rest Ok = Asks left rest Ok
IsOfInput left rest Usage = Unit {0}
IsOfInput left rest ReadFault = Unit {0}
IsOfInput left rest WriteFault = Asks left rest Ok
IsOfInput left rest (BadTopology fault) = Asks left rest (BadTopology fault)
IsOfInput left rest (BadSchedule line kind) = Asks left rest (BadSchedule line kind)
IsOfInput left rest (TooLong what count) = Asks left rest (TooLong what count)
IsOfInput left rest NoMemory = Unit {0}

-- A failed read is told by its status and by no other, and a failed write by its own: there that count rose, and with every
-- other status it stays as it was.
pub record IsCaused (status : Status) (read_before read_after write_before write_after : ℕ) : Type 0 where
  pub read : status ≡ ReadFault → Rose read_before read_after
  pub no_read : status ≢ ReadFault → read_after ≡ read_before
  pub write : status ≡ WriteFault → Rose write_before write_after
  pub no_write : status ≢ WriteFault → write_after ≡ write_before

-- with Ok the text was written whole, with a failed write a part from its beginning and not all, else there is none
abbrev pub IsWritten : Status → Option (List ℕ) → Option (List ℕ) → List ℕ → Type 0
IsWritten Ok old new text = Appends old new text
IsWritten Usage old new text = ⊥
IsWritten ReadFault old new text = ⊥
IsWritten WriteFault old new text = (n : ℕ) × ((n < length text) × Appends old new (take n text))
IsWritten (BadTopology fault) old new text = ⊥
IsWritten (BadSchedule line kind) old new text = ⊥
IsWritten (TooLong what count) old new text = ⊥
IsWritten NoMemory old new text = ⊥

-- The words are a form, the source was read to its end, its bytes are an input, the trace is the run of the input, and the
-- text of the form was written.
pub record DoesReplay (words : List (List ℕ)) (status : Status) (left rest old new : Option (List ℕ)) (trace : List Record) : Type 0 where
  pub form : Form
  pub form_is : IsReplayForm form words
  pub bytes : List ℕ
  pub content : Content
  pub read : Consumes left rest bytes
  pub end : IsAtEnd rest
  pub within : length bytes ≤ most_bytes
  pub input : content_of bytes ≡ result.Ok content
  pub run : IsOrderedRun (graph_of content.plan) content.events trace
  pub written : IsWritten status old new (replay_text form content.names (graph_of content.plan) trace)

-- Where nothing fails and there is memory, the status is what the first bytes of the source ask for.
abbrev pub IsComplete : List (List ℕ) → Option (List ℕ) → Status → Type 0
IsComplete words left status =
    IsSomeForm words → (bytes : List ℕ) → left ≡ Some bytes
    → AsksFor (take (most_bytes + 1) bytes) status ⊎ (status ≡ NoMemory)
