-- What a record of a node's own does to its in-links.
use Rattle.std.proofs.Common.{◌≡◌, ℕ, ◌==◌, ◌&&◌, if◌then◌else◌, nat_le, nat_lt, Bool, true, false, List, [], ◌∷◌, ◌++◌, Option, None, Some, filter, refl, ap, ◌∙◌, arith, eq-eqb}
use Rattle.std.proofs.lemmas.Bool.Decides.{nat_tests}
use Rattle.std.proofs.lemmas.List.{append-nil}
use Rattle.pipe_base.specs.declared.name.LinkId.{LinkId}
use Rattle.pipe_base.specs.declared.name.Ts.{Ts}
use Rattle.pipe_base.specs.declared.packet.Packet.{Packet}
use Rattle.pipe_base.specs.declared.message.Service.{Service}
use Rattle.pipe_base.specs.declared.message.Service.TheVariants.{BestEffort, Reliable}
use Rattle.pipe_graph.specs.Graph.{Graph, is_half, is_host, ins_of}
use Rattle.pipe_base.specs.Moment.{Moment, is_up, with_received, with_downed}
use Rattle.pipe_base.specs.Entries.{with_entries}
use Rattle.pipe_model.specs.declared.event.Event.{Event}
use Rattle.pipe_model.specs.declared.event.Event.TheVariants.{Take, Tick}
use Rattle.pipe_model.specs.declared.record.Record.{Record}
use Rattle.pipe_model.specs.declared.record.Took.{Took}
use Rattle.pipe_model.specs.declared.record.Took.TheVariants.{Link}
use Rattle.pipe_model.specs.Fate.{fate, held}
use Rattle.pipe_model.specs.Got.{gets_of, got, message_of}
use Rattle.pipe_model.specs.Logged.{logged}
use Rattle.pipe_model.specs.Marks.{downed, downed_by, drops_by, newly_dropped}
use Rattle.pipe_model.specs.Moments.{known_drops, moments_of, received, received_of, tick_of}
use Rattle.pipe_model.specs.Run.{IsNodeStep}

-- a packet that is taken from a link that is up is received, one from another link is not
pub taken_received : (past : List Moment) (link : LinkId) (p : Packet) (place : ℕ) (keep : Bool) → is_up past link.0 ≡ true
    → received_of past (Take link place keep) (Link link p) ≡ Some (link.0, p)
taken_received past link p place keep up = let same : (link.0 == link.0) ≡ true = eq-eqb link.0 link.0 refl in rw (same, up) refl

pub taken_ignored : (past : List Moment) (link : LinkId) (p : Packet) (place : ℕ) (keep : Bool) → is_up past link.0 ≡ false
    → received_of past (Take link place keep) (Link link p) ≡ None
taken_ignored past link p place keep down = let same : (link.0 == link.0) ≡ true = eq-eqb link.0 link.0 refl in rw (same, down) refl

-- what is received is the packet that was taken
chosen_packet : (b : Bool) (link : ℕ) (p : Packet) (q : ℕ × Packet) → (if b then Some (link, p) else None) ≡ Some q → p ≡ q.1
chosen_packet true link p q is = cc
chosen_packet false link p q is = cc

pub received_packet : (past : List Moment) (event : Event) (l : LinkId) (p : Packet) (q : ℕ × Packet) → received_of past event (Link l p) ≡ Some q → p ≡ q.1
received_packet past (Take link place keep) l p q is = chosen_packet ((l.0 == link.0) && is_up past link.0) link.0 p q is
received_packet past _ l p q is = cc

-- where no link is dropped each keeps its beacon

-- a half gets no messages, so it holds and logs none
half_is_no_host : (hosts node : ℕ) → nat_le hosts node ≡ true → nat_lt node hosts ≡ false
half_is_no_host hosts node is = grind (arith, nat_tests, is)

pub no_host : (graph : Graph) (node : ℕ) → is_half graph node ≡ true → is_host graph node ≡ false
no_host graph node half = half_is_no_host graph.hosts node half

gets_nothing : (graph : Graph) (node : ℕ) (o : Option (ℕ × Packet)) → is_host graph node ≡ false → gets_of graph node o ≡ None
gets_nothing graph node None other = refl
gets_nothing graph node (Some q) other = rw other refl

got_nothing : (service : Service) (graph : Graph) (node : ℕ) (own : List Record) (r : Record) → is_host graph node ≡ false → got service graph node own r ≡ None
got_nothing service graph node own r other = ap (message_of service) (gets_nothing graph node (received graph node own r) other)

pub holds_nothing : (service : Service) (graph : Graph) (node : ℕ) (own : List Record) → is_host graph node ≡ false → held service graph node own ≡ []
holds_nothing service graph node [] other = refl
holds_nothing service graph node (r ∷ own) other = let got : got service graph node own r ≡ None = got_nothing service graph node own r other in rw got (holds_nothing service graph node own other)

pub no_fate : (graph : Graph) (node : ℕ) (own : List Record) (r : Record) → is_host graph node ≡ false → None ≡ fate graph node own r
no_fate graph node own r other =
    let best : got BestEffort graph node own r ≡ None = got_nothing BestEffort graph node own r other in
    let reliable : got Reliable graph node own r ≡ None = got_nothing Reliable graph node own r other in rw (best, reliable) refl

pub no_log : (graph : Graph) (node : ℕ) (own : List Record) (r : Record) → is_host graph node ≡ false → [] ≡ logged graph node own r
no_log graph node own r other =
    let best : held BestEffort graph node (r ∷ own) ≡ [] = holds_nothing BestEffort graph node (r ∷ own) other in
    let reliable : held Reliable graph node (r ∷ own) ≡ [] = holds_nothing Reliable graph node (r ∷ own) other in rw (best, reliable) refl

no_tick_by : (past : List Moment) (event : Event) (took : Took) (q : ℕ × Packet) → received_of past event took ≡ Some q → tick_of event ≡ None
no_tick_by past (Take link place keep) took q is = refl
no_tick_by past _ took q is = cc

-- a record that receives is no tick
pub receipt_no_tick : (graph : Graph) (node : ℕ) (own : List Record) (r : Record) (q : ℕ × Packet) → received graph node own r ≡ Some q → tick_of r.event ≡ None
receipt_no_tick graph node own r q is = no_tick_by (moments_of graph node own) r.event r.took q is

marks_nothing_by : (graph : Graph) (node : ℕ) (own : List Record) (event : Event) (took : Took) (q : ℕ × Packet) → received_of (moments_of graph node own) event took ≡ Some q
    → downed_by graph node own event took ≡ []
marks_nothing_by graph node own (Take link place keep) took q is = refl
marks_nothing_by graph node own _ took q is = cc

-- a record that receives takes no link down
pub receipt_marks_nothing : (graph : Graph) (node : ℕ) (own : List Record) (r : Record) (q : ℕ × Packet) → received graph node own r ≡ Some q → downed graph node own r ≡ []
receipt_marks_nothing graph node own r q is = marks_nothing_by graph node own r.event r.took q is

received_drops_by : (past : List Moment) (known : List LinkId) (event : Event) (took : Took) (q : ℕ × Packet) → received_of past event took ≡ Some q → drops_by known event took ≡ []
received_drops_by past known (Take link place keep) took q is = refl
received_drops_by past known _ took q is = cc

-- nor drops one
pub receipt_drops_nothing : (graph : Graph) (node : ℕ) (own : List Record) (r : Record) (q : ℕ × Packet) → received graph node own r ≡ Some q → newly_dropped graph node own r ≡ []
receipt_drops_nothing graph node own r q is = received_drops_by (moments_of graph node own) (known_drops own) r.event r.took q is

tick_drops_by : (known : List LinkId) (event : Event) (took : Took) (now : Ts) → tick_of event ≡ Some now → drops_by known event took ≡ []
tick_drops_by known (Tick node reading) took now is = refl
tick_drops_by known _ took now is = cc

-- a tick drops no link
pub tick_drops_nothing : (graph : Graph) (node : ℕ) (own : List Record) (r : Record) (now : Ts) → tick_of r.event ≡ Some now → newly_dropped graph node own r ≡ []
tick_drops_nothing graph node own r now is = tick_drops_by (known_drops own) r.event r.took now is

-- the moments of a record that receives
pub moments_received : (graph : Graph) (node : ℕ) (own : List Record) (r : Record) (q : ℕ × Packet) → IsNodeStep graph node own r
    → received graph node own r ≡ Some q → moments_of graph node (r ∷ own) ≡ with_received true (Some q) (moments_of graph node own)
moments_received graph node own r q step is =
    let down : r.step.downed ≡ [] = step.downed_is ∙ receipt_marks_nothing graph node own r q is in
    let drop : r.step.dropped ≡ [] = step.dropped_is ∙ receipt_drops_nothing graph node own r q is in
    rw (drop, down, is) refl

-- the moments of a record that receives nothing: links go down, then links are dropped
pub moments_marked : (graph : Graph) (node : ℕ) (own : List Record) (r : Record) → received graph node own r ≡ None
    → moments_of graph node (r ∷ own) ≡ with_entries (ins_of graph node) r.step.dropped (with_downed r.step.downed (moments_of graph node own))
moments_marked graph node own r is = rw is refl

-- where it drops none
pub moments_downed : (graph : Graph) (node : ℕ) (own : List Record) (r : Record) → received graph node own r ≡ None → r.step.dropped ≡ []
    → moments_of graph node (r ∷ own) ≡ with_downed r.step.downed (moments_of graph node own)
moments_downed graph node own r is none = rw (none, is) refl

-- where it takes none down
pub moments_dropped : (graph : Graph) (node : ℕ) (own : List Record) (r : Record) → received graph node own r ≡ None → r.step.downed ≡ []
    → moments_of graph node (r ∷ own) ≡ with_entries (ins_of graph node) r.step.dropped (moments_of graph node own)
moments_dropped graph node own r is none = rw (none, is) refl

-- the links that are known as dropped grow by those that the record drops
pub drops_more : (graph : Graph) (node : ℕ) (own : List Record) (r : Record) → IsNodeStep graph node own r
    → known_drops (r ∷ own) ≡ known_drops own ++ newly_dropped graph node own r
drops_more graph node own r step = ap (λ (ls : List LinkId). known_drops own ++ ls) step.dropped_is

-- and stay where it drops none
pub drops_same : (graph : Graph) (node : ℕ) (own : List Record) (r : Record) → IsNodeStep graph node own r → newly_dropped graph node own r ≡ []
    → known_drops (r ∷ own) ≡ known_drops own
drops_same graph node own r step none = drops_more graph node own r step ∙ ap (λ (ls : List LinkId). known_drops own ++ ls) none ∙ append-nil (known_drops own)
