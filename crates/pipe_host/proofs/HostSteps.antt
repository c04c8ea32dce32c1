-- That what a host does with a packet, at a tick and with a control message is what it owes.
use Rattle.std.proofs.Common.{◌≡◌, ℕ, ◌-◌, ◌==◌, ◌&&◌, ◌||◌, not, nat_lt, if◌then◌else◌, Bool, true, false, List, [], ◌∷◌, ◌++◌, length, drop, map, Option, None, Some, refl, sym, subst, ap, ap₂, ◌∙◌, arith, append-nil, add-zero, zero-add, inl, inr}
use Rattle.std.specs.Prelude.{flat_map, is_some, unwrap_or}
use Rattle.std.proofs.lemmas.List.{length-append}
use Rattle.std.proofs.Math.Seq.{drop-append_seam}
use Rattle.pipe_base.specs.declared.control.Addressed.{Addressed}
use Rattle.pipe_base.specs.declared.control.Announced.{Announced}
use Rattle.pipe_base.specs.declared.control.Control.{Control}
use Rattle.pipe_base.specs.declared.control.Control.TheVariants.{Done, Gone}
use Rattle.pipe_base.specs.declared.control.To.TheVariants.{Controller}
use Rattle.pipe_base.specs.declared.message.Entry.{Entry}
use Rattle.pipe_base.specs.declared.message.Service.{Service}
use Rattle.pipe_base.specs.declared.message.Service.TheVariants.{Reliable}
use Rattle.pipe_base.specs.declared.name.HostId.{HostId}
use Rattle.pipe_base.specs.declared.name.LinkId.{LinkId}
use Rattle.pipe_base.specs.declared.name.NodeId.{NodeId}
use Rattle.pipe_base.specs.declared.name.Ts.{Ts}
use Rattle.pipe_base.specs.declared.packet.Packet.{Packet}
use Rattle.pipe_base.specs.declared.packet.PacketKind.{PacketKind}
use Rattle.pipe_base.specs.declared.packet.PacketKind.TheVariants.{Beacon, Plain, Prepare, Ack, Recall, RecallAck}
use Rattle.pipe_base.specs.declared.step.Fate.{Fate}
use Rattle.pipe_base.specs.declared.step.Outcome.TheVariants.{Ok, Ignored}
use Rattle.pipe_base.specs.declared.step.Step.{Step}
use Rattle.pipe_base.specs.Clock.{next_after}
use Rattle.pipe_base.specs.Failed.{is_announced}
use Rattle.pipe_base.specs.Fate.{is_holding}
use Rattle.pipe_graph.specs.Graph.{Graph, ins_of, is_host}
use Rattle.pipe_base.specs.Moment.{Moment, Received, is_up, with_received, with_downed}
use Rattle.pipe_base.specs.Entries.{with_entries}
use Rattle.pipe_base.specs.Packets.{Fields, ack_to, beacon, recall_ack_to}
use Rattle.pipe_base.specs.Promise.{promise_of}
use Rattle.pipe_base.specs.Resends.{resends, resends_for}
use Rattle.pipe_base.specs.Scattering.{Scattering, SenderCall}
use Rattle.pipe_base.specs.Settled.{is_recalling, unsettled}
use Rattle.pipe_graph.specs.ShortestRoute.{route}
use Rattle.pipe_base.specs.Silence.{silent_marks}
use Rattle.pipe_base.specs.Step.{quiet_step}
use Rattle.pipe_base.specs.Ways.{lost, routed, with_beacons, with_ways}
use Rattle.pipe_barrier.specs.declared.registers.Barriers.{Barriers}
use Rattle.pipe_barrier.specs.Registers.{AreBarriers, downs}
use Rattle.pipe_links.specs.declared.links.Links.{Links}
use Rattle.pipe_links.specs.declared.ways.Ways.{Ways}
use Rattle.pipe_links.specs.Links as links
use Rattle.pipe_links.specs.Ways.{AreWays, outs_left}
use Rattle.pipe_links.proofs.Tells.{tells_marks}
use Rattle.pipe_links.proofs.WayLaws.{ways_stay}
use Rattle.pipe_model.specs.declared.record.Record.{Record}
use Rattle.pipe_model.specs.Clock.{next, promise}
use Rattle.pipe_model.specs.Duties.{done_told, downs_told, fields, gone_told, host_be, owed_by_half, owed_by_host, owed_by_take}
use Rattle.pipe_model.specs.Got.{carries, gets, gets_of, is_beacon}
use Rattle.pipe_model.specs.Marks.{told_drops, told_hosts}
use Rattle.pipe_model.specs.Moments.{known_drops, moments_of, noted_hosts, quiet_calls, received}
use Rattle.pipe_model.specs.Recalls.{is_recall}
use Rattle.pipe_model.specs.Run.{IsNodeStep}
use Rattle.pipe_model.specs.Sender.{accepted_stamp, is_ack, is_recall_ack, sender_calls, with_answer, with_begun}
use Rattle.pipe_model.proofs.Promises.{noted_is}
use Rattle.pipe_model.proofs.Steps.{taken_ignored, taken_received}
use Rattle.pipe_relsend.specs.Sending as sending
use Rattle.pipe_relsend.proofs.SendingLaws.{promise_first}
use Rattle.pipe_host.specs.declared.host.Host.{Host}
use Rattle.pipe_host.specs.declared.buffers.Buffers.{Buffers}
use Rattle.pipe_host.specs.Buffers.{all_noting, fate_among, last_of, logged_by}
use Rattle.pipe_host.specs.Host.{HasReceiver, Stands, StandsTaking, StandsWith, Works, buffers_for, buffers_with}
use Rattle.pipe_host.specs.Steps.{IsObeying, IsReceipt, answers_as, answers_for, beat, fields_after, fields_ticked, response}
use Rattle.pipe_model.specs.Records.{told, taken, ticked}
use Rattle.pipe_host.proofs.HeldLaws.{Brought, brought}
use Rattle.pipe_host.proofs.RecordLaws.{fate_with, logs, still_buffers, still_fate, still_logged}

-- whether the link is up, from what the walk over the in-links tells
pub up_from : (told known up : Bool) → told ≡ (known && up) → known ≡ true → up ≡ told
up_from told true up is known = sym is
up_from told false up is known = cc

ok_where_up : (b : Bool) → b ≡ true → Ok ≡ (if b then Ok else Ignored)
ok_where_up true is = refl
ok_where_up false is = cc

ignored_where_down : (b : Bool) → b ≡ false → Ignored ≡ (if b then Ok else Ignored)
ignored_where_down true is = cc
ignored_where_down false is = refl

-- ---- the two barriers of a host's packets

chosen : {A : Type 0} (t : Bool) (x y : A) → t ≡ true → (if t then x else y) ≡ x
chosen true x y is = refl
chosen false x y is = cc

-- they are its stamp, or its next timestamp, and its promise
pub fields_of_host : (graph : Graph) (node : ℕ) (own : List Record) (r : Record) (be n : ℕ) (calls : List SenderCall) → is_host graph node ≡ true
    → host_be r.step.stamped (next graph node (r ∷ own)) ≡ be → next graph node (r ∷ own) ≡ n → sender_calls graph node (r ∷ own) ≡ calls
    → fields graph node own r ≡ record { be = be; commit = promise_of n calls }
fields_of_host graph node own r be n calls host be_is next_is calls_are =
    chosen {A = Fields} (is_host graph node) (record { be = host_be r.step.stamped (next graph node (r ∷ own)); commit = promise graph node (r ∷ own) }) _ host
    ∙ ap {B = Fields} (λ (b : ℕ). record { be = b; commit = promise graph node (r ∷ own) }) be_is
    ∙ ap {B = Fields} (λ (m : ℕ). record { be = be; commit = promise_of m (sender_calls graph node (r ∷ own)) }) next_is
    ∙ ap {B = Fields} (λ (cs : List SenderCall). record { be = be; commit = promise_of n cs }) calls_are

-- ---- what a host owes for a packet

owed_at_host : (graph : Graph) (node : ℕ) (own : List Record) (r : Record) (f : Fields) → is_host graph node ≡ true
    → owed_by_take graph node f own r ≡ owed_by_host node f r.step.fate (gets graph node own r)
owed_at_host graph node own r f host =
    chosen {A = List Packet} (is_host graph node) (owed_by_host node f r.step.fate (gets graph node own r)) (owed_by_half f (received graph node own r)) host

owed_none : (graph : Graph) (node : ℕ) (own : List Record) (r : Record) (f : Fields) → is_host graph node ≡ true → received graph node own r ≡ None → owed_by_take graph node f own r ≡ []
owed_none graph node own r f host none =
    owed_at_host graph node own r f host ∙ ap (λ (o : Option (ℕ × Packet)). owed_by_host node f r.step.fate (gets_of graph node o)) none

-- a host answers packets of this kind
abbrev asks : PacketKind → Bool
asks kind = carries Reliable kind || is_recall kind

-- they are no answers themselves
no_answer : (kind : PacketKind) → asks kind ≡ true → (is_ack kind ≡ false) × (is_recall_ack kind ≡ false)
no_answer Beacon is = cc
no_answer Plain is = cc
no_answer Prepare is = (refl, refl)
no_answer Ack is = cc
no_answer Recall is = (refl, refl)
no_answer RecallAck is = cc

answers_none : (p : Packet) (m : Option Packet) (calls : List SenderCall) → Brought p m → (is_ack p.kind ≡ false) × (is_recall_ack p.kind ≡ false) → with_answer m calls ≡ calls
answers_none p m calls (inl none) other = ap (λ (o : Option Packet). with_answer o calls) none
answers_none p m calls (inr some) other = ap (λ (o : Option Packet). with_answer o calls) some ∙ (rw (other.0, other.1) refl)

-- the answers to a packet by its kind, where it is addressed to the host or not
abbrev answers_by : PacketKind → Bool → HostId → Fields → Option Fate → Packet → List Packet
answers_by kind mine host f fate p =
    if carries Reliable kind && is_holding fate then ack_to host f p ∷ [] else if mine && is_recall kind then recall_ack_to host f p ∷ [] else []

-- what the host gets of it
abbrev got_by : PacketKind → Bool → Packet → Option Packet
got_by kind mine p = if mine && not (is_beacon kind) then Some p else None

owed_not_mine : (kind : PacketKind) (host : HostId) (f : Fields) (p : Packet) → [] ≡ answers_by kind false host f None p
owed_not_mine Beacon host f p = refl
owed_not_mine Plain host f p = refl
owed_not_mine Prepare host f p = refl
owed_not_mine Ack host f p = refl
owed_not_mine Recall host f p = refl
owed_not_mine RecallAck host f p = refl

owed_mine : (kind : PacketKind) (node : ℕ) (g f : Fields) (fate : Option Fate) (p : Packet) → p.kind ≡ kind → (asks kind ≡ true → g ≡ f)
    → owed_by_host node g fate (got_by kind true p) ≡ answers_by kind true (record { 0 = node }) f fate p
owed_mine Beacon node g f fate p is same = refl
owed_mine Plain node g f fate p is same = rw is refl
owed_mine Prepare node g f fate p is same = rw is (ap (λ (h : Fields). if is_holding fate then ack_to (record { 0 = node }) h p ∷ [] else []) (same refl))
owed_mine Ack node g f fate p is same = rw is refl
owed_mine Recall node g f fate p is same = rw is (ap (λ (h : Fields). recall_ack_to (record { 0 = node }) h p ∷ []) (same refl))
owed_mine RecallAck node g f fate p is same = rw is refl

owed_answers : (mine : Bool) (node : ℕ) (g f : Fields) (fate : Option Fate) (p : Packet) → (mine ≡ false → fate ≡ None) → (asks p.kind ≡ true → g ≡ f)
    → owed_by_host node g fate (got_by p.kind mine p) ≡ answers_by p.kind mine (record { 0 = node }) f fate p
owed_answers true node g f fate p no_fate same = owed_mine p.kind node g f fate p refl same
owed_answers false node g f fate p no_fate same =
    owed_not_mine p.kind (record { 0 = node }) f p ∙ ap (λ (o : Option Fate). answers_by p.kind false (record { 0 = node }) f o p) (sym (no_fate refl))

-- what a host gets is what is addressed to it
gets_mine : (graph : Graph) (node link : ℕ) (p : Packet) → is_host graph node ≡ true → gets_of graph node (Some (link, p)) ≡ got_by p.kind (p.dst.0 == node) p
gets_mine graph node link p host = ap (λ (t : Bool). if t && ((p.dst.0 == node) && not (is_beacon p.kind)) then Some p else None) host

not_got : (mine : Bool) (kind : PacketKind) (p : Packet) → mine ≡ false → got_by kind mine p ≡ None
not_got true kind p is = cc
not_got false kind p is = refl

-- ---- steps

-- a step that is told nothing of failed hosts notes none
pub notes_none : (graph : Graph) (node : ℕ) → is_host graph node ≡ true → ◌≡◌ {A = List Announced} [] (if is_host graph node then [] else [])
notes_none graph node host = sym (chosen {A = List Announced} (is_host graph node) [] [] host)

-- a packet on a link that is not up
pub ignores : (graph : Graph) (node : ℕ) (own : List Record) (link : LinkId) (p : Packet) (place : ℕ) (keep : Bool) → is_host graph node ≡ true
    → is_up (moments_of graph node own) link.0 ≡ false → IsNodeStep graph node own (taken link p place keep (quiet_step Ignored))
ignores graph node own link p place keep host down =
    let r : Record = taken link p place keep (quiet_step Ignored) in
    let none : received graph node own r ≡ None = taken_ignored (moments_of graph node own) link p place keep down in
    let same : moments_of graph node (r ∷ own) ≡ moments_of graph node own = ap (λ (o : Option (ℕ × Packet)). with_received true o (moments_of graph node own)) none in
    let owes : owed_by_take graph node (fields graph node own r) own r ≡ [] = owed_none graph node own r (fields graph node own r) host none in
    record {
      outcome_is = ignored_where_down (is_up (moments_of graph node own) link.0) down;
      downed_is = refl;
      dropped_is = refl;
      noted_is = notes_none graph node host;
      stamped_is = refl;
      fate_is = still_fate graph node own r none;
      logged_is = still_logged graph node own r same;
      put_is =
          sym (append-nil (routed (route graph (known_drops (r ∷ own)) node) (owed_by_take graph node (fields graph node own r) own r))
          ∙ ap (routed (route graph (known_drops (r ∷ own)) node)) owes);
      unrouted_is = ap (lost (route graph (known_drops (r ∷ own)) node)) (sym owes);
      control_is = refl;
    }

-- The host while a record is worked out, before its ways are set aside and its scattering is begun: what it brings and notes is in
-- the buffers.
pub record IsReady (graph : Graph) (node : ℕ) (own : List Record) (r : Record) (k : Host) : Type 0 where
  pub host : is_host graph node ≡ true
  pub links_are : links.Stands graph node own k.links
  pub next_is : k.clock.next.0 ≡ next graph node own
  pub top_is : k.clock.top.0 ≡ graph.top
  pub held_are : k.held ≡ buffers_with graph node own r
  pub sender_is : sending.Stands (sender_calls graph node own) k.sender

-- the links while a record is worked out that drops none
pub links_ready : (graph : Graph) (node : ℕ) (own : List Record) (r : Record) (k : Links) → links.Stands graph node own k → r.step.dropped ≡ [] → links.StandsWith graph node own r k
links_ready graph node own r k stands none =
    record {
      stands = record {
        node_is = stands.node_is;
        within = stands.within;
        ins_are = stands.ins_are;
        ways_are = stands.ways_are;
        none_ahead = refl;
        history = stands.history;
      };
      ahead_are = subst (λ (o : Option Ways). AreWays graph node (known_drops (r ∷ own)) (unwrap_or o k.ways)) (sym stands.none_ahead)
          (ways_stay graph node (known_drops own) r.step.dropped k.ways none stands.ways_are);
    }

-- a record that changes nothing but what follows from it
pub still_ready : (graph : Graph) (node : ℕ) (own : List Record) (r : Record) (k : Host) → Stands graph node own k → StandsTaking r.event graph node own k.links → received graph node own r ≡ None → r.step.noted ≡ [] → r.step.dropped ≡ []
    → sending.Stands (with_begun r.event r.step.stamped (sender_calls graph node own)) k.sender → HasReceiver r.event → StandsWith graph node own r k
still_ready graph node own r k stands taking none no_news no_drops sender_is some =
    record {
      host = stands.host;
      links_are = links_ready graph node own r k.links stands.links_are no_drops;
      taking = taking;
      next_is = stands.next_is;
      top_is = stands.top_is;
      held_are = stands.held_are ∙ sym (still_buffers graph node own r none no_news);
      sender_is = sender_is;
      receiver = some;
    }

-- a record that drops no link leaves those that are known
pub drops_stay : (own : List Record) (r : Record) → r.step.dropped ≡ [] → known_drops (r ∷ own) ≡ known_drops own
drops_stay own r none = ap (λ (ls : List LinkId). known_drops own ++ ls) none ∙ append-nil (known_drops own)

-- a packet that is received
pub receives : (graph : Graph) (node : ℕ) (own : List Record) (link : LinkId) (p : Packet) (place : ℕ) (keep : Bool) (all : Option Fate) (k : Host) (step : Step)
    → IsReady graph node own (taken link p place keep step) k → is_up (moments_of graph node own) link.0 ≡ true
    → all ≡ fate_among (buffers_for graph node own) (gets_of graph node (Some (link.0, p)))
    → IsReceipt k link p all step → IsNodeStep graph node own (taken link p place keep step)
receives graph node own link p place keep all k step ready up fate_is receipt =
    let b : Barriers = receipt.barriers in
    let log : List (Service × Entry) = logged_by b k.held in
    let f : Fields = fields_after log k in
    let answers : List Packet = answers_for (record { 0 = node }) f all p in
    let s : Step = with_ways (route graph (known_drops own) node) answers (record (quiet_step Ok) { fate = all; logged = log }) in
    let r : Record = taken link p place keep s in
    let q : ℕ × Packet = (link.0, p) in
    let m : Option Packet = gets_of graph node (Some q) in
    let calls : List SenderCall = sender_calls graph node own in
    let got : received graph node own r ≡ Some q = taken_received (moments_of graph node own) link p place keep up in
    let gets_is : gets graph node own r ≡ m = ap (gets_of graph node) got in
    let moments_are : moments_of graph node (r ∷ own) ≡ Received link.0 p.be.0 p.commit.0 ∷ moments_of graph node own =
    ap (λ (o : Option (ℕ × Packet)). with_received true o (moments_of graph node own)) got in
    let are : AreBarriers (ins_of graph node) (moments_of graph node (r ∷ own)) b =
    subst (λ (ms : List Moment). AreBarriers (ins_of graph node) ms b) (sym moments_are) (receipt.barriers_are graph node own ready.links_are) in
    let drops_now : known_drops (r ∷ own) ≡ known_drops own = drops_stay own r refl in
    let mine : m ≡ got_by p.kind (p.dst.0 == node) p = gets_mine graph node link.0 p ready.host in
    let no_fate : (p.dst.0 == node) ≡ false → all ≡ None =
    λ other. fate_is ∙ ap (fate_among (buffers_for graph node own)) (mine ∙ not_got (p.dst.0 == node) p.kind p other) in
    let fields_are : asks p.kind ≡ true → fields graph node own r ≡ f =
    λ asked.
    let next_is : next graph node (r ∷ own) ≡ f.be = omega (arith, ready.next_is) in
    fields_of_host graph node own r f.be f.be calls ready.host next_is next_is
    (ap (λ (o : Option Packet). with_answer o calls) gets_is ∙ answers_none p m calls (brought graph node link.0 p) (no_answer p.kind asked))
    ∙ ap {B = Fields} (λ (n : ℕ). record { be = f.be; commit = n }) (sym (promise_first f.be calls k.sender ready.sender_is)) in
    let owes : owed_by_take graph node (fields graph node own r) own r ≡ answers =
    owed_at_host graph node own r (fields graph node own r) ready.host
    ∙ ap (owed_by_host node (fields graph node own r) all) (gets_is ∙ mine)
    ∙ owed_answers (p.dst.0 == node) node (fields graph node own r) f all p no_fate fields_are in
    let step_is : step ≡ s = receipt.step_is graph node own ready.links_are in
    subst (λ (x : Step). IsNodeStep graph node own (taken link p place keep x)) (sym step_is)
    (record {
      outcome_is = ok_where_up (is_up (moments_of graph node own) link.0) up;
      downed_is = refl;
      dropped_is = refl;
      noted_is = notes_none graph node ready.host;
      stamped_is = refl;
      fate_is = fate_is ∙ fate_with graph node own r q got;
      logged_is = ap (logged_by b) (ready.held_are ∙ ap (λ (x : Step). buffers_with graph node own (taken link p place keep x)) step_is) ∙ logs graph node own r b are;
      put_is =
          sym (append-nil (routed (route graph (known_drops (r ∷ own)) node) (owed_by_take graph node (fields graph node own r) own r))
          ∙ ap (λ (ls : List LinkId). routed (route graph ls node) (owed_by_take graph node (fields graph node own r) own r)) drops_now
          ∙ ap (routed (route graph (known_drops own) node)) owes);
      unrouted_is =
          zero-add (lost (route graph (known_drops own) node) answers)
          ∙ sym (ap (λ (ls : List LinkId). lost (route graph ls node) (owed_by_take graph node (fields graph node own r) own r)) drops_now
          ∙ ap (lost (route graph (known_drops own) node)) owes);
      control_is = refl;
    })

-- what is told of dropped links, by those that are known
abbrev gone_by : ℕ → List LinkId → List Addressed
gone_by node known = if nat_lt 0 (length known) then record { to = Controller; control = Gone (record { 0 = node }) (length known) } ∷ [] else []

-- what is told of failed hosts, by those that are noted
abbrev done_of : Graph → ℕ → List SenderCall → List Announced → List Addressed
done_of graph node calls noted =
    if is_host graph node && (nat_lt 0 (length noted) && not (is_recalling calls)) then record { to = Controller; control = Done (record { 0 = node }) (length noted) } ∷ [] else []

-- a tick
pub ticks : (graph : Graph) (node : NodeId) (own : List Record) (now : Ts) (marks : List (LinkId × Ts)) (tells : List Addressed) (b : Barriers) (n : ℕ) (k : Host) (step : Step)
    → Stands graph node.0 own k → marks ≡ silent_marks graph.patience (ins_of graph node.0) (moments_of graph node.0 own) (quiet_calls graph node.0 own) now.0
    → tells ≡ (downs (ins_of graph node.0) (with_downed marks (moments_of graph node.0 own)) ++ done_told graph node.0 own) ++ gone_told node.0 own
    → AreBarriers (ins_of graph node.0) (with_downed marks (moments_of graph node.0 own)) b
    → n ≡ next_after (next graph node.0 own) now.0 None (logged_by b k.held)
    → (f : Fields) → f ≡ record { be = n; commit = promise_of n (sender_calls graph node.0 own) }
    → step ≡ with_beacons (outs_left graph node.0 (known_drops own)) f
    (with_ways (route graph (known_drops own) node.0) (resends (sender_calls graph node.0 own) (record { 0 = node.0 }) f) (record (quiet_step Ok) { downed = marks; control = tells; logged = logged_by b k.held }))
    → IsNodeStep graph node.0 own (ticked node now step)
ticks graph node own now marks tells b n k step stands marks_are tells_are are next_is f f_is step_is =
    let calls : List SenderCall = sender_calls graph node.0 own in
    let known : List LinkId = known_drops own in
    let log : List (Service × Entry) = logged_by b k.held in
    let again : List Packet = resends calls (record { 0 = node.0 }) f in
    let s : Step = with_beacons (outs_left graph node.0 known) f (with_ways (route graph known node.0) again (record (quiet_step Ok) { downed = marks; control = tells; logged = log })) in
    let r : Record = ticked node now s in
    let fields_is : fields graph node.0 own r ≡ f = fields_of_host graph node.0 own r n n calls stands.host (sym next_is) (sym next_is) refl ∙ sym f_is in
    let drops_now : known_drops (r ∷ own) ≡ known = drops_stay own r refl in
    let noted_now : noted_hosts (r ∷ own) ≡ noted_hosts own = append-nil (noted_hosts own) in
    let resent : Fields → List Packet = λ g. if is_host graph node.0 then resends calls (record { 0 = node.0 }) g else [] in
    let owes : resent (fields graph node.0 own r) ≡ again =
    chosen {A = List Packet} (is_host graph node.0) (resends calls (record { 0 = node.0 }) (fields graph node.0 own r)) [] stands.host
    ∙ ap (resends calls (record { 0 = node.0 })) fields_is in
    let beacons_of : List LinkId → Fields → List (LinkId × Packet) = λ ls g. map (λ (l : LinkId). (l, beacon g)) (outs_left graph node.0 ls) in
    let down : List Addressed = downs_told graph node.0 (r ∷ own) in
    let control_is : tells ≡ (down ++ done_told graph node.0 (r ∷ own)) ++ gone_told node.0 (r ∷ own) =
    tells_are
    ∙ ap (λ (xs : List Addressed). (xs ++ done_told graph node.0 own) ++ gone_told node.0 own) (tells_marks graph node.0 own r stands.links_are.history marks_are)
    ∙ ap₂ (λ (noted : List Announced) (ls : List LinkId). (down ++ done_of graph node.0 calls noted) ++ gone_by node.0 ls) (sym noted_now) (sym drops_now) in
    subst (λ (x : Step). IsNodeStep graph node.0 own (ticked node now x)) (sym step_is)
    (record {
      outcome_is = refl;
      downed_is = marks_are;
      dropped_is = refl;
      noted_is = notes_none graph node.0 stands.host;
      stamped_is = refl;
      fate_is = refl;
      logged_is = ap (logged_by b) (stands.held_are ∙ sym (still_buffers graph node.0 own r refl refl)) ∙ logs graph node.0 own r b are;
      put_is =
          sym (ap (λ (ls : List LinkId). routed (route graph ls node.0) (resent (fields graph node.0 own r)) ++ beacons_of ls (fields graph node.0 own r)) drops_now
          ∙ ap (λ (g : Fields). routed (route graph known node.0) (resent (fields graph node.0 own r)) ++ beacons_of known g) fields_is
          ∙ ap (λ (ps : List Packet). routed (route graph known node.0) ps ++ beacons_of known f) owes);
      unrouted_is =
          zero-add (lost (route graph known node.0) again)
          ∙ sym (ap (λ (ls : List LinkId). lost (route graph ls node.0) (resent (fields graph node.0 own r))) drops_now
          ∙ ap (lost (route graph known node.0)) owes);
      control_is = control_is;
    })

-- what is put again where all is settled
again_none : (calls : List SenderCall) (src : HostId) (f : Fields) (pending : List Scattering) → length pending ≡ 0 → flat_map (resends_for calls src f) pending ≡ []
again_none calls src f [] none = refl
again_none calls src f (s ∷ pending) none = absurd (omega (arith, none))

-- where all is settled, a tick leads to beacons alone
pub none_again : (graph : Graph) (node : ℕ) (own : List Record) (f : Fields) → length (unsettled (sender_calls graph node own)) ≡ 0
    → with_beacons (outs_left graph node (known_drops own)) f (quiet_step Ok) ≡ beat graph node own f [] [] []
none_again graph node own f settled =
    let calls : List SenderCall = sender_calls graph node own in
    ap (λ (ps : List Packet). with_beacons (outs_left graph node (known_drops own)) f (with_ways (route graph (known_drops own) node) ps (quiet_step Ok)))
    (sym (again_none calls (record { 0 = node }) f (unsettled calls) settled))

-- A tick that is worked out is what the host owes, and the host is ready to follow it.
pub ticked_works : (graph : Graph) (node : NodeId) (own : List Record) (now : Ts) (marks : List (LinkId × Ts)) (tells : List Addressed) (b : Barriers) (k : Host) (step : Step)
    → Stands graph node.0 own k → marks ≡ silent_marks graph.patience (ins_of graph node.0) (moments_of graph node.0 own) (quiet_calls graph node.0 own) now.0
    → tells ≡ (downs (ins_of graph node.0) (with_downed marks (moments_of graph node.0 own)) ++ done_told graph node.0 own) ++ gone_told node.0 own
    → AreBarriers (ins_of graph node.0) (with_downed marks (moments_of graph node.0 own)) b
    → step ≡ beat graph node.0 own (fields_ticked graph node.0 own now (logged_by b k.held)) marks tells (logged_by b k.held)
    → Works graph node.0 own (ticked node now step) k
ticked_works graph node own now marks tells b k step stands marks_are tells_are are step_is =
    let f : Fields = fields_ticked graph node.0 own now (logged_by b k.held) in
    record {
      rules = ticks graph node own now marks tells b (next_after (next graph node.0 own) now.0 None (logged_by b k.held)) k step stands marks_are tells_are are refl f (λ i. f) step_is;
      stands = still_ready graph node.0 own (ticked node now step) k stands tt refl (ap (λ (s : Step). s.noted) step_is) (ap (λ (s : Step). s.dropped) step_is) stands.sender_is tt;
    }

-- the last ones of a list that was made longer
last_new : (news noted : List Announced) (count : ℕ) → count ≡ length news → last_of count (noted ++ news) ≡ news
last_new news noted count is =
    let before : length (noted ++ news) - count ≡ length noted = omega (arith, length-append noted news, is) in
    ap (λ (n : ℕ). drop n (noted ++ news)) before ∙ drop-append_seam noted news

-- what the step of a control message notes
pub obeyed_notes : (graph : Graph) (node : NodeId) (own : List Record) (control : Control) (drops : List LinkId) (count : ℕ) (h : Buffers) (k : Host) (step : Step)
    → h ≡ buffers_for graph node.0 own → k.held ≡ all_noting (told_hosts h.reliable.failed control) h → count ≡ length (told_hosts h.reliable.failed control)
    → IsObeying k control drops count step → step.noted ≡ told_hosts (noted_hosts own) control
obeyed_notes graph node own control drops count h k step was held_is count_is obeying =
    let news : List Announced → List Announced = λ noted. told_hosts noted control in
    let noted_are : h.reliable.failed ≡ noted_hosts own = ap (λ (b : Buffers). b.reliable.failed) was in
    ap (λ (s : Step). s.noted) obeying.step_is
    ∙ ap (λ (b : Buffers). last_of count b.reliable.failed) held_is
    ∙ last_new (news h.reliable.failed) h.reliable.failed count count_is
    ∙ ap news noted_are

-- a control message
pub obeys : (graph : Graph) (node : NodeId) (own : List Record) (control : Control) (place : ℕ) (keep : Bool) (drops : List LinkId) (count : ℕ) (k : Host) (step : Step)
    → IsReady graph node.0 own (told node control place keep step) k → drops ≡ told_drops (known_drops own) control → step.noted ≡ told_hosts (noted_hosts own) control
    → IsObeying k control drops count step → IsNodeStep graph node.0 own (told node control place keep step)
obeys graph node own control place keep drops count k step ready drops_are noted_are obeying =
    let r : Record = told node control place keep step in
    let b : Barriers = obeying.barriers in
    let is : step ≡ record (quiet_step Ok) { downed = obeying.marks; dropped = drops; noted = last_of count k.held.reliable.failed; logged = logged_by b k.held } = obeying.step_is in
    let downed : step.downed ≡ obeying.marks = ap (λ (s : Step). s.downed) is in
    let dropped : step.dropped ≡ drops = ap (λ (s : Step). s.dropped) is in
    let moments_are : moments_of graph node.0 (r ∷ own) ≡ with_entries (ins_of graph node.0) drops (with_downed obeying.marks (moments_of graph node.0 own)) = rw (dropped, downed) refl in
    let are : AreBarriers (ins_of graph node.0) (moments_of graph node.0 (r ∷ own)) b =
    subst (λ (ms : List Moment). AreBarriers (ins_of graph node.0) ms b) (sym moments_are) (obeying.barriers_are graph node.0 own ready.links_are) in
    record {
      outcome_is = ap (λ (s : Step). s.outcome) is;
      downed_is = downed ∙ obeying.marks_are graph node.0 own ready.links_are;
      dropped_is = dropped ∙ drops_are;
      noted_is = noted_are ∙ sym (chosen {A = List Announced} (is_host graph node.0) (told_hosts (noted_hosts own) control) [] ready.host);
      stamped_is = ap (λ (s : Step). s.stamped) is;
      fate_is = ap (λ (s : Step). s.fate) is;
      logged_is = ap (λ (s : Step). s.logged) is ∙ ap (logged_by b) ready.held_are ∙ logs graph node.0 own r b are;
      put_is = ap (λ (s : Step). s.put) is;
      unrouted_is = ap (λ (s : Step). s.unrouted) is;
      control_is = ap (λ (s : Step). s.control) is;
    }

-- ---- what the sender is told when failed hosts are noted

more_announced : (host : ℕ) (old new : List Announced) → is_announced host old ≡ true → is_announced host (old ++ new) ≡ true
more_announced host [] new is = cc
more_announced host (a ∷ old) new is = more_by (a.host.0 == host) (is_announced host old) (is_announced host (old ++ new)) is (more_announced host old new)
  where
    more_by : (here before after : Bool) → (here || before) ≡ true → (before ≡ true → after ≡ true) → (here || after) ≡ true
    more_by true before after is more = refl
    more_by false before after is more = more is

-- Whoever was noted before is noted now. The calls before are those of the same record without news.
pub knows_all : (graph : Graph) (node : ℕ) (own : List Record) (r : Record)
    → sending.KnowsAll (noted_hosts (r ∷ own)) (with_answer (gets graph node own r) (with_begun r.event (accepted_stamp r.step) (sender_calls graph node own)))
knows_all graph node own r host is =
    let same : Record = record r { step = record r.step { noted = [] } } in
    more_announced host (noted_hosts own) r.step.noted
    (ap (is_announced host) (sym (append-nil (noted_hosts own))) ∙ sym (noted_is graph node (same ∷ own) host) ∙ is)

-- the answer to a packet on its way, or the step as it is where there is none
pub answers_put : (way : ℕ → ℕ → Option LinkId) (ps : List Packet) (step : Step) → [] ≡ ps → step ≡ with_ways way ps step
answers_put way ps step none =
    (λ i. record step { put = sym (append-nil step.put) i; unrouted = sym (add-zero step.unrouted) i })
    ∙ ap (λ (qs : List Packet). with_ways way qs step) none

none_answers : (answer : Option PacketKind) (host : HostId) (f : Fields) (p : Packet) → is_some answer ≡ false → [] ≡ answers_as answer host f p
none_answers None host f p none = refl
none_answers (Some kind) host f p none = cc

-- where the barriers pass nothing and the packet is not answered, its fate is all
pub is_silent : (graph : Graph) (node : ℕ) (own : List Record) (b : Barriers) (k : Host) (fate : Option Fate) (p : Packet) (answer : Option PacketKind) → k.links.node.0 ≡ node
    → logged_by b k.held ≡ [] → is_some answer ≡ false
    → ((f : Fields) → answers_as answer (record { 0 = k.links.node.0 }) f p ≡ answers_for (record { 0 = k.links.node.0 }) f fate p)
    → record (quiet_step Ok) { fate = fate } ≡ response graph node own b k fate p
is_silent graph node own b k fate p answer node_is none unanswered answers_are =
    let way : ℕ → ℕ → Option LinkId = route graph (known_drops own) node in
    let f : Fields = fields_after (logged_by b k.held) k in
    let no_answer : [] ≡ answers_for (record { 0 = node }) f fate p =
    none_answers answer (record { 0 = k.links.node.0 }) f p unanswered ∙ answers_are f ∙ ap (λ (n : ℕ). answers_for (record { 0 = n }) f fate p) node_is in
    answers_put way (answers_for (record { 0 = node }) f fate p) (record (quiet_step Ok) { fate = fate }) no_answer
    ∙ ap (λ (es : List (Service × Entry)). with_ways way (answers_for (record { 0 = node }) f fate p) (record (quiet_step Ok) { fate = fate; logged = es })) (sym none)
