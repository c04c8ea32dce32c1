-- The number that the program ends with, and the line that it prints.
use Rattle.std.specs.Prelude.{ℕ, Bool, true, false, List, ◌++◌, codes, decimal}
use Rattle.pipe_base.specs.declared.fault.Size.{Size}
use Rattle.pipe_base.specs.declared.fault.Size.TheVariants.{Bytes, Events, Items}
use Rattle.pipe_text.specs.Kind.{kind_word}
use Rattle.pipe_text_input.specs.declared.input.InputFault.{InputFault}
use Rattle.pipe_text_input.specs.declared.input.InputFault.TheVariants as fault
use Rattle.pipe_text_plan.specs.FaultWords.{fault_words}
use Rattle.pipe_cli.specs.declared.status.Status.{Status}
use Rattle.pipe_cli.specs.declared.status.Status.TheVariants.{Ok, Usage, ReadFault, WriteFault, BadTopology, BadSchedule, TooLong, NoMemory}

abbrev pub exit_number : Status → ℕ
exit_number Ok = 0
exit_number Usage = 2
exit_number ReadFault = 3
exit_number WriteFault = 4
exit_number (BadTopology fault) = 5
exit_number (BadSchedule line kind) = 6
exit_number (TooLong what count) = 7
exit_number NoMemory = 8

-- a text is written, whole or in part
abbrev pub has_text : Status → Bool
has_text Ok = true
has_text Usage = false
has_text ReadFault = false
has_text WriteFault = true
has_text (BadTopology fault) = false
has_text (BadSchedule line kind) = false
has_text (TooLong what count) = false
has_text NoMemory = false

-- the status of an input with this fault
abbrev pub status_of_fault : InputFault → Status
status_of_fault (fault.Plan bad) = BadTopology bad
status_of_fault (fault.TooManyEvents count) = TooLong Events count
status_of_fault (fault.Line line kind) = BadSchedule line kind
status_of_fault fault.NoMemory = NoMemory

abbrev pub size_word : Size → List ℕ
size_word Bytes = codes "bytes"
size_word Events = codes "events"
size_word Items = codes "items"

-- the line, without its line feed
abbrev pub status_line : Status → List ℕ
status_line Ok = codes "onepipe: ok"
status_line Usage = codes "onepipe: usage: replay [--trace] | judge | gen SEED HOSTS EVENTS [--run] | live TURNS [--step N]"
status_line ReadFault = codes "onepipe: read fault"
status_line WriteFault = codes "onepipe: write fault"
status_line (BadTopology bad) = codes "onepipe: topology: " ++ fault_words bad
status_line (BadSchedule line kind) = codes "onepipe: line " ++ decimal line ++ codes ": " ++ kind_word kind
status_line (TooLong what count) = codes "onepipe: too long: " ++ size_word what ++ codes " " ++ decimal count
status_line NoMemory = codes "onepipe: no memory"
