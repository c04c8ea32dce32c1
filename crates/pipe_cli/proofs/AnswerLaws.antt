-- Lemmas on statuses.
use Rattle.std.proofs.Common.{◌≡◌, ◌⊎◌, ℕ, ◌≤◌, Bool, true, false, List, [], ◌++◌, length, take, Option, None, Some, refl, ap, sym, subst, ◌∙◌, arith, inl, inr, append-nil, nat_lt, if◌then◌else◌}
use Rattle.std.specs.Prelude.{Result}
use Rattle.std.specs.Prelude as result
use Rattle.std.proofs.lemmas.Bool.{cases_lt}
use Rattle.std.proofs.lemmas.Bool.Decides.{nat_tests}
use Rattle.std.proofs.lemmas.List.{take_at, take_all}
use Rattle.pipe_base.specs.declared.fault.Size.TheVariants.{Bytes}
use Rattle.pipe_graph.specs.Graph.{Graph}
use Rattle.pipe_base.specs.Limits.{most_bytes}
use Rattle.pipe_model.specs.OrderedRun.{IsOrderedRun}
use Rattle.pipe_model.specs.declared.record.Record.{Record}
use Rattle.pipe_text_input.specs.declared.input.Input.{Input}
use Rattle.pipe_text_input.specs.declared.input.InputFault.{InputFault}
use Rattle.pipe_text_input.specs.Content.{Content, content_of}
use Rattle.pipe_text_input.specs.Read.{IsRead}
use Rattle.pipe_cli.specs.declared.status.Status.{Status}
use Rattle.pipe_cli.specs.declared.words.Form.{Form}
use Rattle.pipe_cli.specs.declared.status.Status.TheVariants.{Ok, Usage, ReadFault, WriteFault, BadTopology, BadSchedule, TooLong, NoMemory}
use Rattle.pipe_cli.specs.Answer.{AsksFor, CanRun, IsOfInput, IsWritten, DoesReplay}
use Rattle.pipe_cli.specs.Form.{IsReplayForm}
use Rattle.pipe_cli.specs.Input.{says, told}
use Rattle.pipe_cli.specs.Read.{WasRead}
use Rattle.pipe_cli.specs.Replay.{IsOverfull, IsRefusal, Replays, replay_text}
use Rattle.pipe_cli.specs.Running.{IsStopped}

-- what is short enough says what its content is
pub short_says : (bytes : List ℕ) → length bytes ≤ most_bytes → says bytes ≡ told (content_of bytes)
short_says bytes few =
    let test : nat_lt most_bytes (length bytes) ≡ false = grind (arith, nat_tests) in
    ap (λ (t : Bool). if t then result.Err (TooLong Bytes 67108865) else told (content_of bytes)) test

-- what was replayed asks for Ok
replay_runs : (form : Form) (bytes : List ℕ) (trace : List Record) (text : List ℕ) → Replays form bytes trace text → CanRun bytes
replay_runs form bytes trace text done = record { content = done.content; said = done.said; trace = trace; run = done.run }

-- what was read is the front of what was there
front_from : (rest : Option (List ℕ)) (bytes all : List ℕ) → WasRead (Some all) rest bytes → bytes ≡ take 67108865 all
front_from None bytes all read = absurd read.consumed
front_from (Some more) bytes all read =
    elim (cases_lt most_bytes (length bytes)) [
      | inl many ↦ sym (ap (take 67108865) read.consumed ∙ take_at bytes more 67108865 (let limit = read.limit in omega arith))
      | inr few ↦
          let nothing : more ≡ [] = read.end few in
          sym (ap (take 67108865) (read.consumed ∙ ap (λ xs. bytes ++ xs) nothing ∙ append-nil bytes) ∙ take_all 67108865 bytes (omega arith))
    ]

front : (left rest : Option (List ℕ)) (bytes all : List ℕ) → WasRead left rest bytes → left ≡ Some all → bytes ≡ take 67108865 all
front left rest bytes all read is = front_from rest bytes all (subst (λ o. WasRead o rest bytes) is read)

asked_in_front : (left rest : Option (List ℕ)) (bytes all : List ℕ) (status : Status) → AsksFor bytes status → WasRead left rest bytes → left ≡ Some all
    → AsksFor (take 67108865 all) status
asked_in_front left rest bytes all status asks read is = subst (λ (xs : List ℕ). AsksFor xs status) (front left rest bytes all read is) asks

-- a refusal is what the bytes ask for, or want of memory
refusal_asks : (bytes : List ℕ) (status : Status) → IsRefusal bytes status → AsksFor bytes status ⊎ (status ≡ NoMemory)
refusal_asks bytes Ok refusal = absurd refusal
refusal_asks bytes Usage refusal = absurd refusal
refusal_asks bytes ReadFault refusal = absurd refusal
refusal_asks bytes WriteFault refusal = absurd refusal
refusal_asks bytes (BadTopology fault) refusal = inl refusal
refusal_asks bytes (BadSchedule line kind) refusal = inl refusal
refusal_asks bytes (TooLong what count) refusal = inl refusal
refusal_asks bytes NoMemory refusal = inr refl

pub refusal_complete : (left rest : Option (List ℕ)) (bytes all : List ℕ) (status : Status) → IsRefusal bytes status → WasRead left rest bytes
    → left ≡ Some all → AsksFor (take 67108865 all) status ⊎ (status ≡ NoMemory)
refusal_complete left rest bytes all status refusal read is =
    elim (refusal_asks bytes status refusal) [
      | inl asks ↦ inl (asked_in_front left rest bytes all status asks read is)
      | inr none ↦ inr none
    ]

-- what was written is of the input
pub written_of_input : (form : Form) (left rest old new : Option (List ℕ)) (bytes text : List ℕ) (trace : List Record) (status : Status)
    → IsWritten status old new text → WasRead left rest bytes → Replays form bytes trace text → IsOfInput left rest status
written_of_input form left rest old new bytes text trace Ok written read done =
    record { bytes = bytes; read = read; asks = replay_runs form bytes trace text done }
written_of_input form left rest old new bytes text trace Usage written read done = tt
written_of_input form left rest old new bytes text trace ReadFault written read done = tt
written_of_input form left rest old new bytes text trace WriteFault written read done =
    record { bytes = bytes; read = read; asks = replay_runs form bytes trace text done }
written_of_input form left rest old new bytes text trace (BadTopology fault) written read done = absurd written
written_of_input form left rest old new bytes text trace (BadSchedule line kind) written read done = absurd written
written_of_input form left rest old new bytes text trace (TooLong what count) written read done = absurd written
written_of_input form left rest old new bytes text trace NoMemory written read done = tt

-- where no write failed, Ok is what the bytes ask for
pub written_complete : (form : Form) (left rest old new : Option (List ℕ)) (bytes all text : List ℕ) (trace : List Record) (status : Status)
    → IsWritten status old new text → (status ≡ WriteFault → ⊥) → WasRead left rest bytes → Replays form bytes trace text → left ≡ Some all
    → AsksFor (take 67108865 all) status ⊎ (status ≡ NoMemory)
written_complete form left rest old new bytes all text trace Ok written whole read done is =
    inl (asked_in_front left rest bytes all Ok (replay_runs form bytes trace text done) read is)
written_complete form left rest old new bytes all text trace Usage written whole read done is = absurd written
written_complete form left rest old new bytes all text trace ReadFault written whole read done is = absurd written
written_complete form left rest old new bytes all text trace WriteFault written whole read done is = absurd (whole refl)
written_complete form left rest old new bytes all text trace (BadTopology fault) written whole read done is = absurd written
written_complete form left rest old new bytes all text trace (BadSchedule line kind) written whole read done is = absurd written
written_complete form left rest old new bytes all text trace (TooLong what count) written whole read done is = absurd written
written_complete form left rest old new bytes all text trace NoMemory written whole read done is = inr refl

-- bytes that say something are not too many, and that is their content
told_ok : (told_as : Result Content InputFault) (content : Content) → told told_as ≡ result.Ok content → told_as ≡ result.Ok content
told_ok (result.Ok other) content is = cc
told_ok (result.Err bad) content is = cc

said_cases : (many : Bool) (told_as : Result Content InputFault) (content : Content) → (if many then result.Err (TooLong Bytes 67108865) else told told_as) ≡ result.Ok content
    → (many ≡ false) × (told_as ≡ result.Ok content)
said_cases true told_as content is = cc
said_cases false told_as content is = (refl, told_ok told_as content is)

pub does_replay : (form : Form) (words : List (List ℕ)) (left rest old new : Option (List ℕ)) (bytes text : List ℕ) (trace : List Record) (status : Status)
    → IsReplayForm form words → IsWritten status old new text → WasRead left rest bytes → Replays form bytes trace text → DoesReplay words status left rest old new trace
does_replay form words left rest old new bytes text trace status form_is written read done =
    let both = said_cases (nat_lt most_bytes (length bytes)) (content_of bytes) done.content done.said in
    let within : length bytes ≤ most_bytes = let test = both.0 in grind (arith, nat_tests) in
    record {
      form = form;
      form_is = form_is;
      bytes = bytes;
      content = done.content;
      read = read.consumed;
      end = read.end within;
      within = within;
      input = both.1;
      run = done.run;
      written = subst (λ xs. IsWritten status old new xs) done.text_is written;
    }

pub overfull : (bytes : List ℕ) (input : Input) (graph : Graph) (items : ℕ) → length bytes ≤ most_bytes → IsRead (content_of bytes) input → graph ≡ input.topology
    → IsStopped graph input.events items → IsOverfull bytes items
overfull bytes input graph items few read graph_is stopped = record {
  content = record { names = input.names; plan = input.plan; events = input.events };
  said = short_says bytes few ∙ ap told read.content;
  stopped = subst (λ (g : Graph). IsStopped g input.events items) (graph_is ∙ read.built) stopped;
}

pub replayed : (form : Form) (bytes text : List ℕ) (input : Input) (graph : Graph) (trace : List Record) → length bytes ≤ most_bytes → IsRead (content_of bytes) input → graph ≡ input.topology
    → IsOrderedRun graph input.events trace → text ≡ replay_text form input.names graph trace → Replays form bytes trace text
replayed form bytes text input graph trace few read graph_is run text_is = record {
  content = record { names = input.names; plan = input.plan; events = input.events };
  said = short_says bytes few ∙ ap told read.content;
  run = subst (λ (g : Graph). IsOrderedRun g input.events trace) (graph_is ∙ read.built) run;
  text_is = text_is ∙ ap (λ (g : Graph). replay_text form input.names g trace) (graph_is ∙ read.built);
}
