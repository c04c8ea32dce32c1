-- Each event of a schedule can happen in the network.
use Rattle.std.proofs.Common.{◌≡◌, ◌≢◌, ℕ, ◌+◌, ◌-◌, ◌*◌, ◌<◌, ◌≤◌, ◌==◌, nat_lt, Bool, true, false, ◌||◌, if◌then◌else◌, List, [], ◌∷◌, ◌++◌, length, drop, take, All, AllPairs, Option, Some, None, IfSome, Result, Ok, Err, refl, arith, position, bytes_eq, codes, length-append}
use Rattle.std.proofs.lemmas.Bool.{or_parts}
use Rattle.std.specs.Result.{IfOk}
use Rattle.std.proofs.lemmas.Bool.Decides.{nat_tests}
use Rattle.std.proofs.lemmas.List.Elements.{All-nil, All-cons, All-push}
use Rattle.std.proofs.lemmas.List.Quantifiers.{all_pairs_push}
use Rattle.pipe_base.specs.declared.name.HostId.{HostId}
use Rattle.pipe_base.specs.declared.message.Service.{Service}
use Rattle.pipe_graph.specs.Graph.{Graph}
use Rattle.pipe_base.specs.Limits.{most_receivers}
use Rattle.pipe_model.specs.declared.event.Event.{Event}
use Rattle.pipe_model.specs.Event.{AreReceivers, IsOfGraph}
use Rattle.pipe_text.specs.declared.kind.LineKind.{LineKind}
use Rattle.pipe_text.specs.declared.kind.LineKind.TheVariants as kind
use Rattle.pipe_text.specs.declared.kind.LineKind.TheVariants.{Twice}
use Rattle.pipe_text.specs.Body.{body_of}
use Rattle.pipe_text.specs.Number.{number_of}
use Rattle.pipe_text.specs.Words.{words_of, is_skipped}
use Rattle.pipe_text.proofs.NumberLaws.{number_within}
use Rattle.pipe_text_schedule.specs.Control.{control_line, control_lose_from, control_lose_line, control_take_from, control_take_line, decide_line}
use Rattle.pipe_text_schedule.specs.Failure.{crash_from, crash_line, cut_from, cut_line}
use Rattle.pipe_text_schedule.specs.Line.{failure_event, line_event}
use Rattle.pipe_text_schedule.specs.Named.{below, host_in, node_in, link_in}
use Rattle.pipe_text_schedule.specs.Receivers.{is_named, receiver_from, receiver_split, receiver_in, if_read, receivers_in}
use Rattle.pipe_text_schedule.specs.Schedule.{event_onto, schedule_of}
use Rattle.pipe_text_schedule.specs.Send.{service_of, send_from, if_few, send_line}
use Rattle.pipe_text_schedule.specs.Take.{place_of, keep_of, take_from, take_line, lose_from, lose_line}
use Rattle.pipe_text_schedule.specs.Tick.{reading_of, tick_from, tick_line}

-- names

below_bound : (bound : ℕ) (o : Option ℕ) → IfSome (below bound o) (λ n. n < bound)
below_bound bound None = tt
below_bound bound (Some n) = pick (nat_lt n bound) refl
  where
    pick : (t : Bool) → nat_lt n bound ≡ t → IfSome (if t then Some n else None) (λ n. n < bound)
    pick true is = grind (arith, nat_tests)
    pick false is = tt

host_known : (graph : Graph) (names : List (List ℕ)) (word : List ℕ) → IfSome (host_in graph names word) (λ n. n < graph.hosts)
host_known graph names word = below_bound graph.hosts (position (bytes_eq word) names)

node_known : (graph : Graph) (names : List (List ℕ)) (word : List ℕ) → IfSome (node_in graph names word) (λ n. n < graph.nodes)
node_known graph names word = below_bound graph.nodes (position (bytes_eq word) names)

-- ticks, takes and losses

tick_happens : (graph : Graph) (node now : Option ℕ) → IfSome node (λ n. n < graph.nodes) → IfSome now (λ n. n ≤ graph.top)
    → IfOk (tick_from node now) (IsOfGraph graph)
tick_happens graph None now known reading = tt
tick_happens graph (Some node) None known reading = tt
tick_happens graph (Some node) (Some now) known reading = (known, reading)

tick_line_happens : (graph : Graph) (names words : List (List ℕ)) → IfOk (tick_line graph names words) (IsOfGraph graph)
tick_line_happens graph names [] = tt
tick_line_happens graph names (node ∷ []) = tt
tick_line_happens graph names (node ∷ now ∷ []) =
    tick_happens graph (node_in graph names node) (reading_of graph now) (node_known graph names node) (number_within graph.top now)
tick_line_happens graph names (node ∷ now ∷ other ∷ words) = tt

take_happens : (graph : Graph) (link place : Option ℕ) (keep : Option Bool) → IfSome link (λ n. n < length graph.links)
    → IfOk (take_from link place keep) (IsOfGraph graph)
take_happens graph None place keep known = tt
take_happens graph (Some link) None keep known = tt
take_happens graph (Some link) (Some place) None known = tt
take_happens graph (Some link) (Some place) (Some keep) known = known

link_known : (graph : Graph) (word : List ℕ) → IfSome (link_in graph word) (λ n. n < length graph.links)
link_known graph word = below_bound (length graph.links) (number_of 65535 word)

take_line_happens : (graph : Graph) (words : List (List ℕ)) → IfOk (take_line graph words) (IsOfGraph graph)
take_line_happens graph [] = tt
take_line_happens graph (link ∷ []) = tt
take_line_happens graph (link ∷ place ∷ []) = take_happens graph (link_in graph link) (place_of place) (Some false) (link_known graph link)
take_line_happens graph (link ∷ place ∷ keep ∷ []) = take_happens graph (link_in graph link) (place_of place) (keep_of keep) (link_known graph link)
take_line_happens graph (link ∷ place ∷ keep ∷ other ∷ words) = tt

lose_happens : (graph : Graph) (link place : Option ℕ) → IfSome link (λ n. n < length graph.links) → IfOk (lose_from link place) (IsOfGraph graph)
lose_happens graph None place known = tt
lose_happens graph (Some link) None known = tt
lose_happens graph (Some link) (Some place) known = known

lose_line_happens : (graph : Graph) (words : List (List ℕ)) → IfOk (lose_line graph words) (IsOfGraph graph)
lose_line_happens graph [] = tt
lose_line_happens graph (link ∷ []) = tt
lose_line_happens graph (link ∷ place ∷ []) = lose_happens graph (link_in graph link) (place_of place) (link_known graph link)
lose_line_happens graph (link ∷ place ∷ other ∷ words) = tt

-- control messages

control_take_happens : (graph : Graph) (place : Option ℕ) (keep : Option Bool) → IfOk (control_take_from place keep) (IsOfGraph graph)
control_take_happens graph None keep = tt
control_take_happens graph (Some place) None = tt
control_take_happens graph (Some place) (Some keep) = tt

control_lose_happens : (graph : Graph) (place : Option ℕ) → IfOk (control_lose_from place) (IsOfGraph graph)
control_lose_happens graph None = tt
control_lose_happens graph (Some place) = tt

control_take_line_happens : (graph : Graph) (words : List (List ℕ)) → IfOk (control_take_line words) (IsOfGraph graph)
control_take_line_happens graph [] = tt
control_take_line_happens graph (place ∷ []) = control_take_happens graph (place_of place) (Some false)
control_take_line_happens graph (place ∷ keep ∷ []) = control_take_happens graph (place_of place) (keep_of keep)
control_take_line_happens graph (place ∷ keep ∷ other ∷ words) = tt

control_lose_line_happens : (graph : Graph) (words : List (List ℕ)) → IfOk (control_lose_line words) (IsOfGraph graph)
control_lose_line_happens graph [] = tt
control_lose_line_happens graph (place ∷ []) = control_lose_happens graph (place_of place)
control_lose_line_happens graph (place ∷ other ∷ words) = tt

control_line_happens : (graph : Graph) (words : List (List ℕ)) → IfOk (control_line words) (IsOfGraph graph)
control_line_happens graph [] = tt
control_line_happens graph (verb ∷ words) = pick (bytes_eq verb (codes "take")) (bytes_eq verb (codes "lose"))
  where
    pick : (take lose : Bool) → IfOk (if take then control_take_line words else if lose then control_lose_line words else Err kind.Verb) (IsOfGraph graph)
    pick true lose = control_take_line_happens graph words
    pick false true = control_lose_line_happens graph words
    pick false false = tt

decide_line_happens : (graph : Graph) (words : List (List ℕ)) → IfOk (decide_line words) (IsOfGraph graph)
decide_line_happens graph [] = tt
decide_line_happens graph (word ∷ words) = tt

-- crashes and cuts

crash_happens : (graph : Graph) (node : Option ℕ) → IfSome node (λ n. n < graph.nodes) → IfOk (crash_from node) (IsOfGraph graph)
crash_happens graph None known = tt
crash_happens graph (Some node) known = known

crash_line_happens : (graph : Graph) (names words : List (List ℕ)) → IfOk (crash_line graph names words) (IsOfGraph graph)
crash_line_happens graph names [] = tt
crash_line_happens graph names (node ∷ []) = crash_happens graph (node_in graph names node) (node_known graph names node)
crash_line_happens graph names (node ∷ other ∷ words) = tt

cut_happens : (graph : Graph) (link : Option ℕ) → IfSome link (λ n. n < length graph.links) → IfOk (cut_from link) (IsOfGraph graph)
cut_happens graph None known = tt
cut_happens graph (Some link) known = known

cut_line_happens : (graph : Graph) (words : List (List ℕ)) → IfOk (cut_line graph words) (IsOfGraph graph)
cut_line_happens graph [] = tt
cut_line_happens graph (link ∷ []) = cut_happens graph (link_in graph link) (link_known graph link)
cut_line_happens graph (link ∷ other ∷ words) = tt

failure_happens : (graph : Graph) (names : List (List ℕ)) (verb : List ℕ) (words : List (List ℕ)) → IfOk (failure_event graph names verb words) (IsOfGraph graph)
failure_happens graph names verb words = pick (bytes_eq verb (codes "crash")) (bytes_eq verb (codes "cut"))
  where
    pick : (crash cut : Bool) → IfOk (if crash then crash_line graph names words else if cut then cut_line graph words else Err kind.Verb) (IsOfGraph graph)
    pick true cut = crash_line_happens graph names words
    pick false true = cut_line_happens graph words
    pick false false = tt

-- receivers

not_named : (host : ℕ) (dests : List (HostId × List ℕ)) → is_named host dests ≡ false → All (λ d. d.0.0 ≢ host) dests
not_named host [] is = All-nil (λ d. d.0.0 ≢ host)
not_named host (d ∷ dests) is =
    let parts = or_parts (d.0.0 == host) (is_named host dests) is in
    All-cons (λ d. d.0.0 ≢ host) d dests (grind (arith, nat_tests, parts.0)) (not_named host dests parts.1)

-- the host is of the network, and no receiver before
abbrev IsNew : Graph → List (HostId × List ℕ) → HostId × List ℕ → Type 0
IsNew graph before dest = (dest.0.0 < graph.hosts) × (is_named dest.0.0 before ≡ false)

receiver_new : (graph : Graph) (before : List (HostId × List ℕ)) (host : Option ℕ) (body : Option (List ℕ)) → IfSome host (λ h. h < graph.hosts)
    → IfOk (receiver_from before host body) (IsNew graph before)
receiver_new graph before None body known = tt
receiver_new graph before (Some host) None known = tt
receiver_new graph before (Some host) (Some body) known = pick (is_named host before) refl
  where
    pick : (t : Bool) → is_named host before ≡ t → IfOk (if t then Err Twice else Ok (record { 0 = host }, body)) (IsNew graph before)
    pick true is = tt
    pick false is = (known, is)

split_new : (graph : Graph) (names : List (List ℕ)) (before : List (HostId × List ℕ)) (word : List ℕ) (sign : Option ℕ)
    → IfOk (receiver_split graph names before word sign) (IsNew graph before)
split_new graph names before word None = tt
split_new graph names before word (Some at) =
    receiver_new graph before (host_in graph names (take at word)) (body_of (drop (at + 1) word)) (host_known graph names (take at word))

-- so many receivers, all different and all hosts
abbrev AreHosts : Graph → ℕ → List (HostId × List ℕ) → Type 0
AreHosts graph count dests = (length dests ≡ count) × All (λ d. d.0.0 < graph.hosts) dests × AllPairs (λ a b. a.0.0 ≢ b.0.0) dests

receiver_more : (graph : Graph) (names : List (List ℕ)) (count more : ℕ) (before : List (HostId × List ℕ)) (words : List (List ℕ)) (read : Result (HostId × List ℕ) LineKind)
    → ((dest : HostId × List ℕ) → AreHosts graph (count + 1) (before ++ dest ∷ []) → IfOk (receivers_in graph names (before ++ dest ∷ []) words) (AreHosts graph more))
    → AreHosts graph count before → IfOk read (IsNew graph before)
    → IfOk (if_read read (λ dest. receivers_in graph names (before ++ dest ∷ []) words)) (AreHosts graph more)
receiver_more graph names count more before words (Err fault) later are new = tt
receiver_more graph names count more before words (Ok dest) later are new =
    later dest (
      omega (arith, length-append before (dest ∷ []), are.0),
      All-push (λ (d : HostId × List ℕ). d.0.0 < graph.hosts) before dest are.1 new.0,
      all_pairs_push (λ (a b : HostId × List ℕ). a.0.0 ≢ b.0.0) before dest are.2 (not_named dest.0.0 before new.1),
    )

receivers_right : (graph : Graph) (names : List (List ℕ)) (count more : ℕ) (before : List (HostId × List ℕ)) (words : List (List ℕ)) → count + length words ≡ more
    → AreHosts graph count before → IfOk (receivers_in graph names before words) (AreHosts graph more)
receivers_right graph names count more before [] sum are = (omega (arith, sum, are.0), are.1, are.2)
receivers_right graph names count more before (word ∷ words) sum are =
    receiver_more graph names count more before words (receiver_in graph names before word)
    (λ dest. receivers_right graph names (count + 1) more (before ++ dest ∷ []) words (omega (arith, sum)))
    are (split_new graph names before word (position (λ (byte : ℕ). byte == 61) word))

-- sends

send_happens : (graph : Graph) (count : ℕ) (host : Option ℕ) (service : Option Service) (now : Option ℕ) (dests : Result (List (HostId × List ℕ)) LineKind)
    → 0 < count → count ≤ most_receivers → IfSome host (λ h. h < graph.hosts) → IfSome now (λ n. n ≤ graph.top) → IfOk dests (AreHosts graph count) → IfOk (send_from host service now dests) (IsOfGraph graph)
send_happens graph count None service now dests some few known reading are = tt
send_happens graph count (Some host) None now dests some few known reading are = tt
send_happens graph count (Some host) (Some service) None dests some few known reading are = tt
send_happens graph count (Some host) (Some service) (Some now) (Err fault) some few known reading are = tt
send_happens graph count (Some host) (Some service) (Some now) (Ok dests) some few known reading are =
    let receivers : AreReceivers graph dests = record { some = omega (arith, some, are.0); few = omega (arith, few, are.0); known = are.1; different = are.2 } in
    record { host_in = known; reading = reading; receivers = receivers }

few_happen : (graph : Graph) (count : ℕ) (read : Result Event LineKind) → (0 < count → count ≤ most_receivers → IfOk read (IsOfGraph graph))
    → IfOk (if_few count read) (IsOfGraph graph)
few_happen graph count read right = pick (count == 0) (nat_lt most_receivers count) refl refl
  where
    pick : (none many : Bool) → (count == 0) ≡ none → nat_lt most_receivers count ≡ many
        → IfOk (if none then Err kind.Count else if many then Err kind.Receivers else read) (IsOfGraph graph)
    pick true many counted most = tt
    pick false true counted most = tt
    pick false false counted most = right (grind (arith, nat_tests)) (grind (arith, nat_tests))

send_line_happens : (graph : Graph) (names words : List (List ℕ)) → IfOk (send_line graph names words) (IsOfGraph graph)
send_line_happens graph names [] = tt
send_line_happens graph names (host ∷ []) = tt
send_line_happens graph names (host ∷ service ∷ []) = tt
send_line_happens graph names (host ∷ service ∷ now ∷ receivers) =
    few_happen graph (length receivers) (send_from (host_in graph names host) (service_of service) (reading_of graph now) (receivers_in graph names [] receivers))
    (λ some few.
    send_happens graph (length receivers) (host_in graph names host) (service_of service) (reading_of graph now) (receivers_in graph names [] receivers) some few
    (host_known graph names host) (number_within graph.top now)
    (receivers_right graph names 0 (length receivers) [] receivers (omega arith) (refl, All-nil (λ (d : HostId × List ℕ). d.0.0 < graph.hosts), λ i j d _ below. absurd (omega (arith, below)))))

-- lines and schedules

line_happens : (graph : Graph) (names words : List (List ℕ)) → IfOk (line_event graph names words) (IsOfGraph graph)
line_happens graph names [] = tt
line_happens graph names (verb ∷ words) =
    pick (bytes_eq verb (codes "send")) (bytes_eq verb (codes "tick")) (bytes_eq verb (codes "take")) (bytes_eq verb (codes "lose"))
    (bytes_eq verb (codes "control")) (bytes_eq verb (codes "decide"))
  where
    pick : (send tick take lose control decide : Bool)
        → IfOk (if send then send_line graph names words else if tick then tick_line graph names words else if take then take_line graph words
        else if lose then lose_line graph words else if control then control_line words else if decide then decide_line words
        else failure_event graph names verb words) (IsOfGraph graph)
    pick true tick take lose control decide = send_line_happens graph names words
    pick false true take lose control decide = tick_line_happens graph names words
    pick false false true lose control decide = take_line_happens graph words
    pick false false false true control decide = lose_line_happens graph words
    pick false false false false true decide = control_line_happens graph words
    pick false false false false false true = decide_line_happens graph words
    pick false false false false false false = failure_happens graph names verb words

onto_happens : (graph : Graph) (at : ℕ) (first : Result Event LineKind) (rest : Result (List Event) (ℕ × LineKind)) → IfOk first (IsOfGraph graph)
    → IfOk rest (All (IsOfGraph graph)) → IfOk (event_onto at first rest) (All (IsOfGraph graph))
onto_happens graph at (Err fault) rest one all = tt
onto_happens graph at (Ok event) (Err fault) one all = tt
onto_happens graph at (Ok event) (Ok events) one all = All-cons (IsOfGraph graph) event events one all

pub schedule_happens : (graph : Graph) (names : List (List ℕ)) (at : ℕ) (lines : List (List ℕ)) → IfOk (schedule_of graph names at lines) (All (IsOfGraph graph))
schedule_happens graph names at [] = All-nil (IsOfGraph graph)
schedule_happens graph names at (line ∷ lines) =
    pick (is_skipped (words_of line)) (schedule_of graph names (at + 1) lines) (schedule_happens graph names (at + 1) lines)
  where
    pick : (skipped : Bool) (rest : Result (List Event) (ℕ × LineKind)) → IfOk rest (All (IsOfGraph graph))
        → IfOk (if skipped then rest else event_onto at (line_event graph names (words_of line)) rest) (All (IsOfGraph graph))
    pick true rest all = all
    pick false rest all = onto_happens graph at (line_event graph names (words_of line)) rest (line_happens graph names (words_of line)) all
