-- What waits: packets put and taken back, what a record moves, and how much waits at most.
use Rattle.std.proofs.Common.{◌≡◌, ◌≢◌, ℕ, ◌+◌, ◌-◌, ◌<◌, ◌≤◌, ◌==◌, ◌&&◌, ◌||◌, not, suc, Bool, true, false, if◌then◌else◌, List, [], ◌∷◌, ◌++◌, length, take, drop, replicate, set, reverse, refl, sym, subst, ap, ◌∙◌, arith, inl, inr, append-nil, append_assoc, eq-eqb, ne_eqb, eqb-true}
use Rattle.std.specs.Prelude.{slice_index_or, remove}
use Rattle.std.proofs.lemmas.List.{drop_all, get_or-replicate, get_or-set_other, get_or-set_same, get_or_past, length-append, length-drop, length-replicate, length-set, length-take, length_push, reverse-append, reverse-reverse, set-get_or, set-set, take-take, take_at}
use Rattle.std.proofs.lemmas.List.Edits.{remove-append_left}
use Rattle.std.proofs.Math.Seq.{take-append_seam}
use Rattle.std.proofs.lemmas.List.Elements.{All-head, All-tail}
use Rattle.std.proofs.lemmas.List.Sums.{sum_by_push}
use Rattle.std.proofs.lemmas.Bool.{cases_eq, cases_lt, and_parts, not-true}
use Rattle.pipe_base.specs.declared.control.Addressed.{Addressed}
use Rattle.pipe_base.specs.declared.name.LinkId.{LinkId}
use Rattle.pipe_base.specs.declared.packet.Packet.{Packet}
use Rattle.pipe_base.specs.declared.step.Outcome.{Outcome}
use Rattle.pipe_graph.specs.Graph.{Graph}
use Rattle.pipe_model.specs.declared.event.Event.{Event}
use Rattle.pipe_model.specs.declared.event.Event.TheVariants.{Take, Lose, ControlTake, ControlLose, Cut}
use Rattle.pipe_model.specs.declared.record.Record.{Record}
use Rattle.pipe_model.specs.Acting.{is_idle}
use Rattle.pipe_model.specs.Items.{items_in, items_of}
use Rattle.pipe_model.specs.Waiting.{control_left, is_cut, is_cut_of, is_ok, left_after, put_on, takes_out, waiting_control, waiting_on}
use Rattle.pipe_net.specs.declared.line.Line.{Line}
use Rattle.pipe_net.specs.declared.line.Line.TheVariants.{Open, Cut as CutLine}
use Rattle.pipe_net.specs.Waits.{Waits, cut, on_link, packets_of, waiting, with_packet, without_packet}
use Rattle.pipe_world.specs.Queues.{AreKnown, IsInPlace, IsThere, Stand, left_by, line_after, moved_by, with_items, with_messages, with_puts, without_last, without_message}

abbrev line : ℕ → Waits → Line
line link w = slice_index_or w.lines link CutLine

-- ---- one link changed

line_same : (w : Waits) (link : ℕ) (f : Line → Line) → link < length w.lines → line link (on_link link f w) ≡ f (line link w)
line_same w link f lt = get_or-set_same w.lines link (f (line link w)) CutLine lt

line_other : (w : Waits) (at link : ℕ) (f : Line → Line) → link ≢ at → line link (on_link at f w) ≡ line link w
line_other w at link f other = get_or-set_other w.lines at link (f (line at w)) CutLine other

pub on_link_count : (w : Waits) (link : ℕ) (f : Line → Line) → length (on_link link f w).lines ≡ length w.lines
on_link_count w link f = length-set w.lines link (f (line link w))

-- ---- packets put

pub puts_count : (ps : List (LinkId × Packet)) (w : Waits) → length (with_puts ps w).lines ≡ length w.lines
puts_count [] w = refl
puts_count (p ∷ ps) w = puts_count ps (on_link p.0.0 (with_packet p.1) w) ∙ on_link_count w p.0.0 (with_packet p.1)

pub puts_control : (ps : List (LinkId × Packet)) (w : Waits) → (with_puts ps w).control ≡ w.control
puts_control [] w = refl
puts_control (p ∷ ps) w = puts_control ps (on_link p.0.0 (with_packet p.1) w)

pub puts_more : (ps : List (LinkId × Packet)) (p : LinkId × Packet) (w : Waits) → with_puts (ps ++ p ∷ []) w ≡ on_link p.0.0 (with_packet p.1) (with_puts ps w)
puts_more [] p w = refl
puts_more (q ∷ ps) p w = puts_more ps p (on_link q.0.0 (with_packet q.1) w)

-- a line with packets more
abbrev with_packets : List Packet → Line → Line
with_packets ps (Open packets) = Open (packets ++ ps)
with_packets ps CutLine = CutLine

with_none : (l : Line) → l ≡ with_packets [] l
with_none (Open packets) = ap Open (sym (append-nil packets))
with_none CutLine = refl

with_first : (p : Packet) (ps : List Packet) (l : Line) → with_packets ps (with_packet p l) ≡ with_packets (p ∷ ps) l
with_first p ps (Open packets) = ap Open (append_assoc packets (p ∷ []) ps)
with_first p ps CutLine = refl

-- each line grows by what is put on its link
line_put : (link : ℕ) (ps : List (LinkId × Packet)) (w : Waits) → AreKnown (length w.lines) ps → line link (with_puts ps w) ≡ with_packets (put_on link ps) (line link w)
line_put link [] w known = with_none (line link w)
line_put link (p ∷ ps) w known =
    let v : Waits = on_link p.0.0 (with_packet p.1) w in
    let size : length v.lines ≡ length w.lines = on_link_count w p.0.0 (with_packet p.1) in
    let rest : line link (with_puts ps v) ≡ with_packets (put_on link ps) (line link v) =
    line_put link ps v (subst (λ (n : ℕ). AreKnown n ps) (sym size) (All-tail (λ (q : LinkId × Packet). q.0.0 < length w.lines) p ps known)) in
    elim (cases_eq link p.0.0) [
      | inl same ↦
          let test : (p.0.0 == link) ≡ true = eq-eqb p.0.0 link (sym same) in
          let here : line link v ≡ with_packet p.1 (line link w) =
          subst (λ (l : ℕ). line l v ≡ with_packet p.1 (line l w)) (sym same) (line_same w p.0.0 (with_packet p.1) (All-head (λ (q : LinkId × Packet). q.0.0 < length w.lines) p ps known)) in
          rest ∙ ap (with_packets (put_on link ps)) here ∙ with_first p.1 (put_on link ps) (line link w)
          ∙ ap (λ (t : Bool). with_packets (if t then p.1 ∷ put_on link ps else put_on link ps) (line link w)) (sym test)
      | inr other ↦
          let test : (p.0.0 == link) ≡ false = ne_eqb p.0.0 link (λ is. other (sym is)) in
          rest ∙ ap (with_packets (put_on link ps)) (line_other w p.0.0 link (with_packet p.1) other)
          ∙ ap (λ (t : Bool). with_packets (if t then p.1 ∷ put_on link ps else put_on link ps) (line link w)) (sym test)
    ]

one_or_none : (t : Bool) (p : Packet) (ps : List Packet) (n : ℕ) → length ps ≤ n → length (if t then p ∷ ps else ps) ≤ n + 1
one_or_none true p ps n le = omega arith
one_or_none false p ps n le = omega arith

put_on_few : (link : ℕ) (ps : List (LinkId × Packet)) → length (put_on link ps) ≤ length ps
put_on_few link [] = omega arith
put_on_few link (p ∷ ps) = omega (arith, one_or_none (p.0.0 == link) p.1 (put_on link ps) (length ps) (put_on_few link ps))

with_packets_few : (ps : List Packet) (l : Line) → length (packets_of (with_packets ps l)) ≤ length (packets_of l) + length ps
with_packets_few ps (Open packets) = omega (arith, length-append packets ps)
with_packets_few ps CutLine = omega arith

pub puts_few : (link : ℕ) (ps : List (LinkId × Packet)) (w : Waits) → AreKnown (length w.lines) ps → length (waiting link (with_puts ps w)) ≤ length (waiting link w) + length ps
puts_few link ps w known =
    omega (arith, ap length (ap packets_of (line_put link ps w known)), with_packets_few (put_on link ps) (line link w), put_on_few link ps)

-- ---- a packet taken back

-- the change of a line that leads back
back_to : (w : Waits) (link : ℕ) (f g : Line → Line) → link < length w.lines → g (f (line link w)) ≡ line link w → on_link link g (on_link link f w) ≡ w
back_to w link f g lt is =
    ap (λ (ls : List Line). record w { lines = ls })
    (set-set w.lines link (f (line link w)) (g (line link (on_link link f w)))
    ∙ ap (set w.lines link) (ap g (line_same w link f lt) ∙ is)
    ∙ set-get_or w.lines link CutLine)

last_gone : (packets : List Packet) (p : Packet) → remove (packets ++ p ∷ []) (length packets) ≡ packets
last_gone packets p =
    let all : List Packet = packets ++ p ∷ [] in
    ap (λ (xs : List Packet). xs ++ drop (suc (length packets)) all) (take_at packets (p ∷ []) (length packets) refl)
    ∙ ap (λ (xs : List Packet). packets ++ xs) (drop_all (suc (length packets)) all (omega (arith, length_push packets p)))
    ∙ append-nil packets

newest_gone : (l : Line) (p : Packet) → without_packet (length (packets_of (with_packet p l)) - 1) (with_packet p l) ≡ l
newest_gone (Open packets) p =
    let last : length (packets ++ p ∷ []) - 1 ≡ length packets = omega (arith, length_push packets p) in
    ap Open (ap (remove (packets ++ p ∷ [])) last ∙ last_gone packets p)
newest_gone CutLine p = refl

-- what was put is lost at the last place
pub undone : (w : Waits) (link : ℕ) (p : Packet) (last : ℕ) → link < length w.lines → last ≡ length (waiting link (on_link link (with_packet p) w)) - 1
    → on_link link (without_packet last) (on_link link (with_packet p) w) ≡ w
undone w link p last lt is =
    let seen : last ≡ length (packets_of (with_packet p (line link w))) - 1 = is ∙ ap (λ (l : Line). length (packets_of l) - 1) (line_same w link (with_packet p) lt) in
    back_to w link (with_packet p) (without_packet last) lt (ap (λ (n : ℕ). without_packet n (with_packet p (line link w))) seen ∙ newest_gone (line link w) p)

-- control messages that were put are taken away again
pub messages_undone : (ms : List Addressed) (w : Waits) (count : ℕ) → count ≡ length ms → without_last count (with_messages ms w) ≡ w
messages_undone ms w count is =
    let left : length (w.control ++ ms) - count ≡ length w.control = omega (arith, length-append w.control ms, is) in
    ap (λ (xs : List Addressed). record w { control = xs })
    (ap (λ (n : ℕ). take n (w.control ++ ms)) left ∙ take-append_seam w.control ms)

pub message_more : (ms : List Addressed) (m : Addressed) (w : Waits) → with_messages (m ∷ []) (with_messages ms w) ≡ with_messages (ms ++ m ∷ []) w
message_more ms m w = ap (λ (xs : List Addressed). record w { control = xs }) (append_assoc w.control ms (m ∷ []))

-- the last of what is left is taken out
last_out : (xs : List Addressed) (n : ℕ) → n ≤ length xs → remove (take n xs) (n - 1) ≡ take (n - 1) xs
last_out xs n le =
    let some : List Addressed = take n xs in
    ap (λ (ys : List Addressed). ys ++ drop (suc (n - 1)) some) (take-take (n - 1) n xs (omega arith))
    ∙ ap (λ (ys : List Addressed). take (n - 1) xs ++ ys) (drop_all (suc (n - 1)) some (omega (arith, length-take n xs)))
    ∙ append-nil (take (n - 1) xs)

pub one_less : (w : Waits) (n last : ℕ) → last ≡ length (without_last n w).control - 1 → without_message last (without_last n w) ≡ without_last (n + 1) w
one_less w n last is =
    let left : ℕ = length w.control - n in
    let at : last ≡ left - 1 = omega (arith, is, length-take left w.control) in
    let next : left - 1 ≡ length w.control - (n + 1) = omega arith in
    ap (λ (xs : List Addressed). record w { control = xs })
    (ap (remove (take left w.control)) at ∙ last_out w.control left (omega arith) ∙ ap (λ (m : ℕ). take m w.control) next)

-- ---- what an event takes, loses or cuts

-- what an event leaves of a line
abbrev left_of : Bool → (List Packet → List Packet) → Line → Line
left_of is_cut out (Open packets) = if is_cut then CutLine else Open (out packets)
left_of is_cut out CutLine = CutLine

abbrev line_left : ℕ → Event → Outcome → Line → Line
line_left link event outcome l = left_of (is_cut_of link event) (left_after link event outcome) l

abbrev out_at : Bool → ℕ → List Packet → List Packet
out_at t at packets = if t then remove packets at else packets

stays : (t : Bool) (at : ℕ) (l : Line) → l ≡ left_of false (out_at (t && false) at) l
stays true at (Open packets) = refl
stays false at (Open packets) = refl
stays t at CutLine = refl

other_stays : (t : Bool) (at : ℕ) (l : Line) → t ≡ false → l ≡ left_of false (out_at (t && true) at) l
other_stays true at l is = cc
other_stays false at (Open packets) is = refl
other_stays false at CutLine is = refl

goes : (t : Bool) (at : ℕ) (l : Line) → t ≡ true → without_packet at l ≡ left_of false (out_at (t && true) at) l
goes true at (Open packets) is = refl
goes true at CutLine is = refl
goes false at l is = cc

-- a packet that a test takes out
line_out : (t : Bool) (w : Waits) (l link at : ℕ) → (t ≡ true → l < length w.lines)
    → line link (if t then on_link l (without_packet at) w else w) ≡ left_of false (out_at ((l == link) && t) at) (line link w)
line_out false w l link at known = stays (l == link) at (line link w)
line_out true w l link at known = elim (cases_eq link l) [
  | inl same ↦
      subst (λ (k : ℕ). line k (on_link l (without_packet at) w) ≡ left_of false (out_at ((l == k) && true) at) (line k w)) (sym same)
      (line_same w l (without_packet at) (known refl) ∙ goes (l == l) at (line l w) (eq-eqb l l refl))
  | inr other ↦ line_other w l link (without_packet at) other ∙ other_stays (l == link) at (line link w) (ne_eqb l link (λ is. other (sym is)))
]

cut_here : (t : Bool) (l : Line) → t ≡ true → cut l ≡ left_of t (λ (ps : List Packet). ps) l
cut_here true (Open packets) is = refl
cut_here true CutLine is = refl
cut_here false l is = cc

cut_elsewhere : (t : Bool) (l : Line) → t ≡ false → l ≡ left_of t (λ (ps : List Packet). ps) l
cut_elsewhere true l is = cc
cut_elsewhere false (Open packets) is = refl
cut_elsewhere false CutLine is = refl

line_cut : (w : Waits) (l link : ℕ) → l < length w.lines → line link (on_link l cut w) ≡ left_of (l == link) (λ (ps : List Packet). ps) (line link w)
line_cut w l link known = elim (cases_eq link l) [
  | inl same ↦
      subst (λ (k : ℕ). line k (on_link l cut w) ≡ left_of (l == k) (λ (ps : List Packet). ps) (line k w)) (sym same)
      (line_same w l cut known ∙ cut_here (l == l) (line l w) (eq-eqb l l refl))
  | inr other ↦ line_other w l link cut other ∙ cut_elsewhere (l == link) (line link w) (ne_eqb l link (λ is. other (sym is)))
]

same_line : (l : Line) → l ≡ left_of false (λ (ps : List Packet). ps) l
same_line (Open packets) = refl
same_line CutLine = refl

-- a control message that a test takes out moves no packet
unmoved : (t : Bool) (w : Waits) (link at : ℕ) → line link (if t then without_message at w else w) ≡ left_of false (λ (ps : List Packet). ps) (line link w)
unmoved true w link at = same_line (line link w)
unmoved false w link at = same_line (line link w)

left_line : (link : ℕ) (event : Event) (outcome : Outcome) (w : Waits) → IsInPlace w event outcome → line link (left_by event outcome w) ≡ line_left link event outcome (line link w)
left_line link (Take l at keep) outcome w there =
    line_out (not keep && not (is_idle outcome)) w l.0 link at
    (λ is. (there (not-true (is_idle outcome) (and_parts (not keep) (not (is_idle outcome)) is).1)).0)
left_line link (Lose l at) outcome w there = line_out (is_ok outcome) w l.0 link at (λ is. (there is).0)
left_line link (ControlTake at keep) outcome w there = unmoved (takes_out keep outcome) w link at
left_line link (ControlLose at) outcome w there = unmoved (is_ok outcome) w link at
left_line link (Cut l) outcome w there = line_cut w l.0 link there
left_line link _ outcome w there = same_line (line link w)

out_count : (t : Bool) (w : Waits) (l at : ℕ) → length (if t then on_link l (without_packet at) w else w).lines ≡ length w.lines
out_count true w l at = on_link_count w l (without_packet at)
out_count false w l at = refl

out_control : (t : Bool) (w : Waits) (l at : ℕ) → (if t then on_link l (without_packet at) w else w).control ≡ w.control
out_control true w l at = refl
out_control false w l at = refl

message_count : (t : Bool) (w : Waits) (at : ℕ) → length (if t then without_message at w else w).lines ≡ length w.lines
message_count true w at = refl
message_count false w at = refl

message_out : (t : Bool) (w : Waits) (at : ℕ) → (if t then without_message at w else w).control ≡ (if t then remove w.control at else w.control)
message_out true w at = refl
message_out false w at = refl

left_count : (event : Event) (outcome : Outcome) (w : Waits) → length (left_by event outcome w).lines ≡ length w.lines
left_count (Take l at keep) outcome w = out_count (takes_out keep outcome) w l.0 at
left_count (Lose l at) outcome w = out_count (is_ok outcome) w l.0 at
left_count (ControlTake at keep) outcome w = message_count (takes_out keep outcome) w at
left_count (ControlLose at) outcome w = message_count (is_ok outcome) w at
left_count (Cut l) outcome w = on_link_count w l.0 cut
left_count _ outcome w = refl

left_control : (event : Event) (outcome : Outcome) (w : Waits) → (left_by event outcome w).control ≡ control_left event outcome w.control
left_control (Take l at keep) outcome w = out_control (takes_out keep outcome) w l.0 at
left_control (Lose l at) outcome w = out_control (is_ok outcome) w l.0 at
left_control (ControlTake at keep) outcome w = message_out (takes_out keep outcome) w at
left_control (ControlLose at) outcome w = message_out (is_ok outcome) w at
left_control _ outcome w = refl

-- ---- what waits after the history

after_either : (b : Bool) (xs : List Packet) → packets_of (if b then CutLine else Open (if b then [] else xs)) ≡ (if b then [] else xs)
after_either true xs = refl
after_either false xs = refl

packets_after : (link : ℕ) (past : List Record) → packets_of (line_after link past) ≡ waiting_on link past
packets_after link [] = refl
packets_after link (r ∷ past) = after_either (is_cut link (r ∷ past)) (left_after link r.event r.step.outcome (waiting_on link past) ++ put_on link r.step.put)

pub nothing_waits : (graph : Graph) (links : ℕ) → links ≡ length graph.links → Stand graph (record { lines = replicate links (Open []); control = [] }) []
nothing_waits graph links is = record {
  count = length-replicate links (Open []) ∙ is;
  lines_are = λ link lt. get_or-replicate links link (Open []) CutLine (omega (arith, is));
  control_is = refl;
}

pub waits_there : (graph : Graph) (w : Waits) (past : List Record) (link : ℕ) → Stand graph w past → link < length graph.links → waiting link w ≡ waiting_on link past
waits_there graph w past link stands lt = ap packets_of (stands.lines_are link lt) ∙ packets_after link past

-- what a test takes out stands before what is put
take_left : {A : Type 0} (b : Bool) (waiting more : List A) (place : ℕ) → (b ≡ true → place < length waiting)
    → (if b then remove (waiting ++ more) place else waiting ++ more) ≡ (if b then remove waiting place else waiting) ++ more
take_left true waiting more place there = remove-append_left waiting more place (there refl)
take_left false waiting more place there = refl

-- a place of a link is one of what waits there after the history
fits : (graph : Graph) (w : Waits) (past : List Record) (l link place : ℕ) → Stand graph w past → l ≡ link → IsThere w l place → place < length (waiting_on link past)
fits graph w past l link place stands same there =
    let known : l < length graph.links = omega (arith, there.0, stands.count) in
    subst (λ (k : ℕ). place < length (waiting_on k past)) same (subst (λ (ps : List Packet). place < length ps) (waits_there graph w past l stands known) there.1)

left_past : (graph : Graph) (w : Waits) (past : List Record) (link : ℕ) (event : Event) (outcome : Outcome) (more : List Packet) → Stand graph w past → IsInPlace w event outcome
    → left_after link event outcome (waiting_on link past ++ more) ≡ left_after link event outcome (waiting_on link past) ++ more
left_past graph w past link (Take l at keep) outcome more stands there =
    take_left ((l.0 == link) && (not keep && not (is_idle outcome))) (waiting_on link past) more at
    (λ is. let both = and_parts (l.0 == link) (not keep && not (is_idle outcome)) is in
    fits graph w past l.0 link at stands (eqb-true l.0 link both.0) (there (not-true (is_idle outcome) (and_parts (not keep) (not (is_idle outcome)) both.1).1)))
left_past graph w past link (Lose l at) outcome more stands there =
    take_left ((l.0 == link) && is_ok outcome) (waiting_on link past) more at
    (λ is. let both = and_parts (l.0 == link) (is_ok outcome) is in fits graph w past l.0 link at stands (eqb-true l.0 link both.0) (there both.1))
left_past graph w past link _ outcome more stands there = refl

moved_line : (c b : Bool) (out : List Packet → List Packet) (ws ps : List Packet) → out (ws ++ ps) ≡ out ws ++ ps
    → left_of c out (with_packets ps (if b then CutLine else Open ws)) ≡ (if c || b then CutLine else Open (if c || b then [] else out ws ++ ps))
moved_line true true out ws ps is = refl
moved_line true false out ws ps is = refl
moved_line false true out ws ps is = refl
moved_line false false out ws ps is = ap Open is

-- what is in place is so after packets are put
grown : (ps : List Packet) (l : Line) → length (packets_of l) ≤ length (packets_of (with_packets ps l))
grown ps (Open packets) = omega (arith, length-append packets ps)
grown ps CutLine = omega arith

there_more : (ps : List (LinkId × Packet)) (w : Waits) (link place : ℕ) → AreKnown (length w.lines) ps → IsThere w link place → IsThere (with_puts ps w) link place
there_more ps w link place known there = (
  omega (arith, puts_count ps w, there.0),
  omega (arith, there.1, ap length (ap packets_of (line_put link ps w known)), grown (put_on link ps) (line link w)),
)

control_more : (r : Record) (w : Waits) → length w.control ≤ length (with_items r w).control
control_more r w = omega (arith, ap length (puts_control r.step.put w), length-append (with_puts r.step.put w).control r.step.control)

pub in_place_more : (r : Record) (w : Waits) (event : Event) (outcome : Outcome) → AreKnown (length w.lines) r.step.put → IsInPlace w event outcome → IsInPlace (with_items r w) event outcome
in_place_more r w (Take l at keep) outcome known there = λ busy. there_more r.step.put w l.0 at known (there busy)
in_place_more r w (Lose l at) outcome known there = λ ok. there_more r.step.put w l.0 at known (there ok)
in_place_more r w (ControlTake at keep) outcome known there = λ busy. omega (arith, there busy, control_more r w)
in_place_more r w (ControlLose at) outcome known there = λ ok. omega (arith, there ok, control_more r w)
in_place_more r w (Cut l) outcome known there = omega (arith, puts_count r.step.put w, there)
in_place_more r w _ outcome known there = tt

-- a control message that is taken out stood before those that were put
control_past : (event : Event) (outcome : Outcome) (w : Waits) (more : List Addressed) → IsInPlace w event outcome
    → control_left event outcome (w.control ++ more) ≡ control_left event outcome w.control ++ more
control_past (ControlTake at keep) outcome w more there =
    take_left (takes_out keep outcome) w.control more at (λ is. there (not-true (is_idle outcome) (and_parts (not keep) (not (is_idle outcome)) is).1))
control_past (ControlLose at) outcome w more there = take_left (is_ok outcome) w.control more at there
control_past _ outcome w more there = refl

-- what stands for a history stands after a record for the history with that record
pub moved : (graph : Graph) (past : List Record) (r : Record) (w : Waits) → AreKnown (length w.lines) r.step.put → IsInPlace w r.event r.step.outcome
    → Stand graph w past → Stand graph (moved_by r w) (r ∷ past)
moved graph past r w known there stands =
    let put : Waits = with_items r w in
    record {
      count = left_count r.event r.step.outcome put ∙ puts_count r.step.put w ∙ stands.count;
      lines_are = λ link lt.
          left_line link r.event r.step.outcome put (in_place_more r w r.event r.step.outcome known there)
          ∙ ap (line_left link r.event r.step.outcome) (line_put link r.step.put w known ∙ ap (with_packets (put_on link r.step.put)) (stands.lines_are link lt))
          ∙ moved_line (is_cut_of link r.event) (is_cut link past) (left_after link r.event r.step.outcome) (waiting_on link past) (put_on link r.step.put)
          (left_past graph w past link r.event r.step.outcome (put_on link r.step.put) stands there);
      control_is =
          left_control r.event r.step.outcome put
          ∙ ap (λ (ms : List Addressed). control_left r.event r.step.outcome (ms ++ r.step.control)) (puts_control r.step.put w)
          ∙ control_past r.event r.step.outcome w r.step.control there
          ∙ ap (λ (ms : List Addressed). control_left r.event r.step.outcome ms ++ r.step.control) stands.control_is;
    }

-- ---- how much waits

out_few : {A : Type 0} (t : Bool) (ps : List A) (at : ℕ) → length (if t then remove ps at else ps) ≤ length ps
out_few true ps at = omega (arith, length-append (take at ps) (drop (suc at) ps), length-take at ps, length-drop (suc at) ps)
out_few false ps at = omega arith

left_few : (link : ℕ) (event : Event) (outcome : Outcome) (ps : List Packet) → length (left_after link event outcome ps) ≤ length ps
left_few link (Take l at keep) outcome ps = out_few ((l.0 == link) && (not keep && not (is_idle outcome))) ps at
left_few link (Lose l at) outcome ps = out_few ((l.0 == link) && is_ok outcome) ps at
left_few link _ outcome ps = omega arith

none_or_few : (b : Bool) (ps : List Packet) (n : ℕ) → length ps ≤ n → length (if b then [] else ps) ≤ n
none_or_few true ps n le = omega arith
none_or_few false ps n le = le

-- no more packets wait on a link than were put
waiting_few : (link : ℕ) (past : List Record) → length (waiting_on link past) ≤ items_of (reverse past)
waiting_few link [] = omega arith
waiting_few link (r ∷ past) =
    let left : List Packet = left_after link r.event r.step.outcome (waiting_on link past) in
    none_or_few (is_cut link (r ∷ past)) (left ++ put_on link r.step.put) (items_of (reverse (r ∷ past)))
    (omega (
      arith,
      length-append left (put_on link r.step.put),
      left_few link r.event r.step.outcome (waiting_on link past),
      waiting_few link past,
      put_on_few link r.step.put,
      ap items_of (reverse-append (r ∷ []) past),
      sum_by_push items_in (reverse past) r,
    ))

control_left_few : (event : Event) (outcome : Outcome) (ms : List Addressed) → length (control_left event outcome ms) ≤ length ms
control_left_few (ControlTake at keep) outcome ms = out_few (takes_out keep outcome) ms at
control_left_few (ControlLose at) outcome ms = out_few (is_ok outcome) ms at
control_left_few _ outcome ms = omega arith

control_few : (past : List Record) → length (waiting_control past) ≤ items_of (reverse past)
control_few [] = omega arith
control_few (r ∷ past) =
    let left : List Addressed = control_left r.event r.step.outcome (waiting_control past) in
    omega (
      arith,
      length-append left r.step.control,
      control_left_few r.event r.step.outcome (waiting_control past),
      control_few past,
      ap items_of (reverse-append (r ∷ []) past),
      sum_by_push items_in (reverse past) r,
    )

pub control_room : (graph : Graph) (w : Waits) (trace : List Record) (most : ℕ) → Stand graph w (reverse trace) → items_of trace ≤ most → length w.control ≤ most
control_room graph w trace most stands within =
    omega (arith, ap length stands.control_is, control_few (reverse trace), ap items_of (reverse-reverse trace))

pub room : (graph : Graph) (w : Waits) (trace : List Record) (most : ℕ) → Stand graph w (reverse trace) → items_of trace ≤ most → (link : ℕ) → length (waiting link w) ≤ most
room graph w trace most stands within link = elim (cases_lt link (length graph.links)) [
  | inl known ↦
      omega (
        arith,
        ap length (waits_there graph w (reverse trace) link stands known),
        waiting_few link (reverse trace),
        ap items_of (reverse-reverse trace),
      )
  | inr past ↦ omega (arith, ap (λ (l : Line). length (packets_of l)) (get_or_past w.lines link CutLine (omega (arith, stands.count))))
]
