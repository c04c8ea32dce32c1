-- The receivers of a send: words `HOST=BODY`, of which no two name one host.
use Rattle.std.specs.Prelude.{ℕ, ◌+◌, ◌==◌, Bool, if◌then◌else◌, List, [], ◌∷◌, ◌++◌, take, drop, position, Option, Some, None, Result, Ok, Err}
use Rattle.std.specs.List.{list_any}
use Rattle.pipe_base.specs.declared.name.HostId.{HostId}
use Rattle.pipe_graph.specs.Graph.{Graph}
use Rattle.pipe_text.specs.Body.{body_of}
use Rattle.pipe_text.specs.declared.kind.LineKind.{LineKind}
use Rattle.pipe_text.specs.declared.kind.LineKind.TheVariants.{Node, Body, Twice}
use Rattle.pipe_text_schedule.specs.Named.{host_in}

-- the host is one of these receivers
abbrev pub is_named : ℕ → List (HostId × List ℕ) → Bool
is_named host dests = list_any (λ d. d.0.0 == host) dests

-- a host and a body, in this order, where the host is no receiver before
abbrev pub receiver_from : List (HostId × List ℕ) → Option ℕ → Option (List ℕ) → Result (HostId × List ℕ) LineKind
receiver_from before None body = Err Node
receiver_from before (Some host) None = Err Body
receiver_from before (Some host) (Some body) = if is_named host before then Err Twice else Ok (record { 0 = host }, body)

-- a host before the first `=`, a body after it
abbrev pub receiver_split : Graph → List (List ℕ) → List (HostId × List ℕ) → List ℕ → Option ℕ → Result (HostId × List ℕ) LineKind
receiver_split graph names before word None = Err Node
receiver_split graph names before word (Some at) = receiver_from before (host_in graph names (take at word)) (body_of (drop (at + 1) word))

-- the receiver of a word after those before it
abbrev pub receiver_in : Graph → List (List ℕ) → List (HostId × List ℕ) → List ℕ → Result (HostId × List ℕ) LineKind
receiver_in graph names before word = receiver_split graph names before word (position (λ byte. byte == 61) word)

-- what follows a good word, or its fault
abbrev pub if_read : {A B : Type 0} → Result A LineKind → (A → Result B LineKind) → Result B LineKind
if_read (Err fault) next = Err fault
if_read (Ok value) next = next value

-- the receivers before these words, and those of the words
abbrev pub receivers_in : Graph → List (List ℕ) → List (HostId × List ℕ) → List (List ℕ) → Result (List (HostId × List ℕ)) LineKind
receivers_in graph names before [] = Ok before
receivers_in graph names before (word ∷ words) =
    if_read (receiver_in graph names before word) (λ dest. receivers_in graph names (before ++ dest ∷ []) words)
