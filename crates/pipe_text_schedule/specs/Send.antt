-- `send HOST SERVICE READING HOST=BODY ..`, where SERVICE is `best` or `reliable`, with one to sixteen receivers
use Rattle.std.specs.Prelude.{ℕ, ◌==◌, nat_lt, if◌then◌else◌, List, [], ◌∷◌, length, Option, Some, None, Result, Ok, Err, bytes_eq, codes}
use Rattle.pipe_base.specs.declared.name.HostId.{HostId}
use Rattle.pipe_base.specs.declared.message.Service.{Service}
use Rattle.pipe_base.specs.declared.message.Service.TheVariants.{BestEffort, Reliable}
use Rattle.pipe_base.specs.Limits.{most_receivers}
use Rattle.pipe_graph.specs.Graph.{Graph}
use Rattle.pipe_model.specs.declared.event.Event.{Event}
use Rattle.pipe_model.specs.declared.event.Event.TheVariants.{Send}
use Rattle.pipe_text.specs.declared.kind.LineKind.{LineKind}
use Rattle.pipe_text.specs.declared.kind.LineKind.TheVariants as kind
use Rattle.pipe_text_schedule.specs.Named.{host_in}
use Rattle.pipe_text_schedule.specs.Receivers.{receivers_in}
use Rattle.pipe_text_schedule.specs.Tick.{reading_of}

-- the service of this name
abbrev pub service_of : List ℕ → Option Service
service_of word =
    if bytes_eq word (codes "best") then Some BestEffort else if bytes_eq word (codes "reliable") then Some Reliable else None

-- a host, a service, a reading and receivers, in this order
abbrev pub send_from : Option ℕ → Option Service → Option ℕ → Result (List (HostId × List ℕ)) LineKind → Result Event LineKind
send_from None service now dests = Err kind.Node
send_from (Some host) None now dests = Err kind.Service
send_from (Some host) (Some service) None dests = Err kind.Number
send_from (Some host) (Some service) (Some now) (Err fault) = Err fault
send_from (Some host) (Some service) (Some now) (Ok dests) = Ok (Send (record { 0 = host }) service (record { 0 = now }) dests)

-- what was read of so many receivers, where these are one to sixteen
abbrev pub if_few : ℕ → Result Event LineKind → Result Event LineKind
if_few count read = if count == 0 then Err kind.Count else if nat_lt most_receivers count then Err kind.Receivers else read

-- the words after the verb
abbrev pub send_line : Graph → List (List ℕ) → List (List ℕ) → Result Event LineKind
send_line graph names [] = Err kind.Count
send_line graph names (host ∷ []) = Err kind.Count
send_line graph names (host ∷ service ∷ []) = Err kind.Count
send_line graph names (host ∷ service ∷ now ∷ receivers) =
    if_few (length receivers) (send_from (host_in graph names host) (service_of service) (reading_of graph now) (receivers_in graph names [] receivers))
