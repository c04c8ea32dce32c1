-- What a replay shows of an input.
use Rattle.std.specs.Prelude.{◌≡◌, ℕ, List, ◌++◌, reverse, Ok, Err}
use Rattle.pipe_base.specs.declared.fault.Size.{Size}
use Rattle.pipe_base.specs.declared.fault.Size.TheVariants.{Bytes, Events, Items}
use Rattle.pipe_graph.specs.Graph.{Graph}
use Rattle.pipe_model.specs.declared.record.Record.{Record}
use Rattle.pipe_model.specs.OrderedRun.{IsOrderedRun}
use Rattle.pipe_text_input.specs.Content.{Content}
use Rattle.pipe_text_log.specs.LogText.{log_text}
use Rattle.pipe_text_trace.specs.TraceText.{trace_text}
use Rattle.pipe_topo.specs.Plan.{graph_of}
use Rattle.pipe_cli.specs.declared.status.Status.{Status}
use Rattle.pipe_cli.specs.declared.status.Status.TheVariants as status
use Rattle.pipe_cli.specs.declared.words.Form.{Form}
use Rattle.pipe_cli.specs.declared.words.Form.TheVariants.{Replay, ReplayTrace}
use Rattle.pipe_cli.specs.Input.{says}
use Rattle.pipe_cli.specs.Running.{IsStopped}

-- the text of a trace by the form: that of its logs, with `--trace` that of the trace before it
abbrev pub replay_text : Form → List (List ℕ) → Graph → List Record → List ℕ
replay_text Replay names graph trace = log_text names graph (reverse trace)
replay_text ReplayTrace names graph trace = trace_text names trace ++ log_text names graph (reverse trace)

-- the bytes tell a network and events, the trace is their run, and the text is that of the form
pub record Replays (form : Form) (bytes : List ℕ) (trace : List Record) (text : List ℕ) : Type 0 where
  pub content : Content
  pub said : says bytes ≡ Ok content
  pub run : IsOrderedRun (graph_of content.plan) content.events trace
  pub text_is : text ≡ replay_text form content.names (graph_of content.plan) trace

-- the bytes tell a network and events, and their run has to stop
pub record IsOverfull (bytes : List ℕ) (items : ℕ) : Type 0 where
  pub content : Content
  pub said : says bytes ≡ Ok content
  pub stopped : IsStopped (graph_of content.plan) content.events items

abbrev pub IsTooLong : List ℕ → Size → ℕ → Type 0
IsTooLong bytes Bytes count = says bytes ≡ Err (status.TooLong Bytes count)
IsTooLong bytes Events count = says bytes ≡ Err (status.TooLong Events count)
IsTooLong bytes Items count = IsOverfull bytes count

-- a refusal of this input: its first fault, or a run that puts too much; want of memory may come at any time
abbrev pub IsRefusal : List ℕ → Status → Type 0
IsRefusal bytes status.Ok = ⊥
IsRefusal bytes status.Usage = ⊥
IsRefusal bytes status.ReadFault = ⊥
IsRefusal bytes status.WriteFault = ⊥
IsRefusal bytes (status.BadTopology fault) = says bytes ≡ Err (status.BadTopology fault)
IsRefusal bytes (status.BadSchedule line kind) = says bytes ≡ Err (status.BadSchedule line kind)
IsRefusal bytes (status.TooLong what count) = IsTooLong bytes what count
IsRefusal bytes status.NoMemory = Unit {0}
