-- What an input says.
use Rattle.std.specs.Prelude.{ℕ, ◌+◌, nat_lt, if◌then◌else◌, List, length, Result, Ok, Err}
use Rattle.pipe_base.specs.declared.fault.Size.TheVariants.{Bytes}
use Rattle.pipe_base.specs.Limits.{most_bytes}
use Rattle.pipe_text_input.specs.declared.input.InputFault.{InputFault}
use Rattle.pipe_text_input.specs.Content.{Content, content_of}
use Rattle.pipe_cli.specs.declared.status.Status.{Status}
use Rattle.pipe_cli.specs.declared.status.Status.TheVariants.{TooLong}
use Rattle.pipe_cli.specs.Status.{status_of_fault}

abbrev pub told : Result Content InputFault → Result Content Status
told (Err fault) = Err (status_of_fault fault)
told (Ok content) = Ok content

-- A network with names and its events, or the status of the first fault: too many bytes come before all others.
abbrev pub says : List ℕ → Result Content Status
says bytes = if nat_lt most_bytes (length bytes) then Err (TooLong Bytes (most_bytes + 1)) else told (content_of bytes)
