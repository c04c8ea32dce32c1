-- What a record does to what the controller knows: one report or count more, a decision, or nothing.
use Rattle.std.proofs.Common.{◌≡◌, ℕ, ◌<◌, ◌==◌, ◌&&◌, if◌then◌else◌, nat_le, nat_lt, not, Bool, true, false, List, [], ◌∷◌, ◌++◌, length, None, Some, refl, arith}
use Rattle.std.proofs.lemmas.Bool.{and_parts, ltb-true}
use Rattle.std.proofs.lemmas.Bool.Decides.{nat_tests}
use Rattle.pipe_base.specs.declared.control.Addressed.{Addressed}
use Rattle.pipe_base.specs.declared.control.Control.{Control}
use Rattle.pipe_base.specs.declared.control.Control.TheVariants.{Done, Down, Gone}
use Rattle.pipe_base.specs.declared.control.To.{To}
use Rattle.pipe_base.specs.declared.control.To.TheVariants.{Controller}
use Rattle.pipe_base.specs.declared.name.HostId.{HostId}
use Rattle.pipe_base.specs.declared.name.LinkId.{LinkId}
use Rattle.pipe_base.specs.declared.name.NodeId.{NodeId}
use Rattle.pipe_base.specs.declared.name.Ts.{Ts}
use Rattle.pipe_base.specs.Failed.{is_announced}
use Rattle.pipe_base.specs.declared.step.Outcome.{Outcome}
use Rattle.pipe_graph.specs.Graph.{Graph}
use Rattle.pipe_model.specs.declared.event.Event.{Event}
use Rattle.pipe_model.specs.declared.event.Event.TheVariants.{ControlTake, Decide}
use Rattle.pipe_model.specs.declared.record.Record.{Record}
use Rattle.pipe_model.specs.declared.record.Took.{Took}
use Rattle.pipe_model.specs.declared.record.Took.TheVariants.{Message}
use Rattle.pipe_model.specs.Controller.{after_addressed, after_event, announced, dropped, is_live, is_member, view}
use Rattle.pipe_model.specs.Decision.{after_announce, after_decision, after_doom, all_over, is_dead, newly_announced, newly_dead}
use Rattle.pipe_model.specs.View.{View, after_message, intact, is_kept, with_count}
use Rattle.pipe_model_atomic.specs.Begins.{Begins}
use Rattle.pipe_model_atomic.proofs.Times.{announced_before, begins_same}

-- the view with one report more, and with one count more
abbrev pub reported : LinkId → Ts → View → View
reported link value v = record v { reports = λ l. if l == link.0 then Some value else v.reports l }

abbrev pub done_by : HostId → ℕ → View → View
done_by host count v = record v { done = with_count host.0 count v.done }

abbrev pub gone_by : NodeId → ℕ → View → View
gone_by node count v = record v { gone = with_count node.0 count v.gone }

-- what a property has to keep where a message that the controller takes tells a report or a count
pub record IsKeptTold (P : View → Type 0) (v : View) (control : Control) : Type 0 where
  pub down : (link : LinkId) (value : Ts) → control ≡ Down link value → intact v link.0 ≡ true → P (reported link value v)
  pub done : (host : HostId) (count : ℕ) → control ≡ Done host count → P (done_by host count v)
  pub gone : (node : NodeId) (count : ℕ) → control ≡ Gone node count → P (gone_by node count v)

-- the same of any message that was taken
abbrev pub WhereTold : (View → Type 0) → Took → View → Type 0
WhereTold P took v = (m : Addressed) → took ≡ Message m → IsKeptTold P v m.control

chosen : (P : View → Type 0) (b : Bool) (link : LinkId) (value : Ts) (v : View) → intact v link.0 ≡ b
    → (intact v link.0 ≡ true → P (reported link value v)) → P v → P (if b then reported link value v else v)
chosen P true link value v is told before = told is
chosen P false link value v is told before = before

either : (P : View → Type 0) (b : Bool) (v w : View) → P w → P v → P (if b then w else v)
either P true v w told before = told
either P false v w told before = before

message_after : (P : View → Type 0) (graph : Graph) (control : Control) (v : View) → IsKeptTold P v control → P v → P (after_message graph control v)
message_after P graph (Down link value) v told before = chosen P (intact v link.0) link value v refl (told.down link value refl) before
message_after P graph (Done host count) v told before =
    either P (v.members host.0 && nat_le count (length v.announced)) v (done_by host count v) (told.done host count refl) before
message_after P graph (Gone node count) v told before =
    either P (nat_lt node.0 graph.nodes && nat_le count (length v.dropped)) v (gone_by node count v) (told.gone node count refl) before
message_after P graph _ v told before = before

addressed_after : (P : View → Type 0) (graph : Graph) (to : To) (control : Control) (v : View) → IsKeptTold P v control → P v → P (after_addressed graph to control v)
addressed_after P graph Controller control v told before = message_after P graph control v told before
addressed_after P graph _ control v told before = before

-- a property of the view is kept where reports and counts keep it, and a decision does
pub view_after : (P : View → Type 0) (graph : Graph) (event : Event) (took : Took) (outcome : Outcome) (v : View) → WhereTold P took v
    → (event ≡ Decide → P (after_decision graph v)) → P v → P (after_event graph event took outcome v)
view_after P graph (ControlTake place keep) (Message a) outcome v told decided before = addressed_after P graph a.to a.control v (told a refl) before
view_after P graph Decide took outcome v told decided before = decided refl
view_after P graph _ took outcome v told decided before = before

-- what no message of the controller changes is kept by all of them
pub untold : (P : View → Type 0) (v : View) (took : Took) → ((link : LinkId) (value : Ts) → P (reported link value v))
    → ((host : HostId) (count : ℕ) → P (done_by host count v)) → ((node : NodeId) (count : ℕ) → P (gone_by node count v)) → WhereTold P took v
untold P v took down done gone m is = record {
  down = λ link value told whole. down link value;
  done = λ host count told. done host count;
  gone = λ node count told. gone node count;
}

-- ---- a decision step by step

-- once the doomed hosts are worked out and those that are due were announced
abbrev pub told_view : Graph → View → View
told_view graph v = after_announce graph (after_doom graph v)

-- with the dead links dropped and the doomed hosts left out
abbrev pub dropped_view : Graph → View → View
dropped_view graph v = record v {
  members = is_kept v;
  live = λ l. v.live l && not (is_dead graph v l);
  reports = λ l. None;
  dropped = v.dropped ++ newly_dead graph v;
}

drop_by : (P : View → Type 0) (b : Bool) (graph : Graph) (v : View) → all_over graph v ≡ b → P v → (all_over graph v ≡ true → P (dropped_view graph v))
    → P (if b then dropped_view graph v else v)
drop_by P true graph v over told drops = drops over
drop_by P false graph v over told drops = told

-- a decision keeps what announcing keeps and dropping does
pub decision_after : (P : View → Type 0) (graph : Graph) (v : View) → P (told_view graph v)
    → (all_over graph (told_view graph v) ≡ true → P (dropped_view graph (told_view graph v))) → P (after_decision graph v)
decision_after P graph v told drops = drop_by P (all_over graph (told_view graph v)) graph (told_view graph v) refl told drops

-- ---- who takes part, and which links count

-- who takes part did so before
pub member_before : (graph : Graph) (past : List Record) (r : Record) (host : ℕ) → is_member graph (r ∷ past) host ≡ true → is_member graph past host ≡ true
member_before graph past r host =
    let v : View = view graph past in
    let P : View → Type 0 = λ w. w.members host ≡ true → v.members host ≡ true in
    view_after P graph r.event r.took r.step.outcome v (untold P v r.took (λ link value is. is) (λ other count is. is) (λ node count is. is))
    (λ decides. decision_after P graph v (λ is. is) (λ over is. (and_parts (v.members host) (not ((told_view graph v).doomed host)) is).0)) (λ is. is)

-- and is a host of the graph
pub member_in : (graph : Graph) (past : List Record) (host : ℕ) → is_member graph past host ≡ true → host < graph.hosts
member_in graph [] host member = ltb-true host graph.hosts member
member_in graph (r ∷ past) host member = member_in graph past host (member_before graph past r host member)

-- a link that counts did so before
pub live_before : (graph : Graph) (past : List Record) (r : Record) (link : ℕ) → is_live graph (r ∷ past) link ≡ true → is_live graph past link ≡ true
live_before graph past r link =
    let v : View = view graph past in
    let P : View → Type 0 = λ w. w.live link ≡ true → v.live link ≡ true in
    view_after P graph r.event r.took r.step.outcome v (untold P v r.took (λ l value is. is) (λ other count is. is) (λ node count is. is))
    (λ decides. decision_after P graph v (λ is. is) (λ over is. (and_parts (v.live link) (not (is_dead graph (told_view graph v) link)) is).0)) (λ is. is)

-- and is a link of the graph
pub live_in : (graph : Graph) (past : List Record) (link : ℕ) → is_live graph past link ≡ true → link < length graph.links
live_in graph [] link live = ltb-true link (length graph.links) live
live_in graph (r ∷ past) link live = live_in graph past link (live_before graph past r link live)

-- ---- those that are announced, and what is dropped

-- what was announced begins what is announced after a record
pub announced_more : (graph : Graph) (past : List Record) (r : Record) → Begins (announced graph past) (announced graph (r ∷ past))
announced_more graph past r =
    let v : View = view graph past in
    let P : View → Type 0 = λ w. Begins v.announced w.announced in
    let same : P v = begins_same v.announced in
    let more : P (told_view graph v) = (newly_announced graph (after_doom graph v), refl) in
    view_after P graph r.event r.took r.step.outcome v (untold P v r.took (λ l value. same) (λ other count. same) (λ node count. same))
    (λ decides. decision_after P graph v more (λ over. more)) same

pub drops_more : (graph : Graph) (past : List Record) (r : Record) → Begins (dropped graph past) (dropped graph (r ∷ past))
drops_more graph past r =
    let v : View = view graph past in
    let P : View → Type 0 = λ w. Begins v.dropped w.dropped in
    let same : P v = begins_same v.dropped in
    view_after P graph r.event r.took r.step.outcome v (untold P v r.took (λ l value. same) (λ other count. same) (λ node count. same))
    (λ decides. decision_after P graph v same (λ over. (newly_dead graph (told_view graph v), refl))) same

-- who is not announced was not announced before
pub trusted_before : (graph : Graph) (past : List Record) (r : Record) (host : ℕ) → is_announced host (announced graph (r ∷ past)) ≡ false
    → is_announced host (announced graph past) ≡ false
trusted_before graph past r host trusted = announced_before host (announced graph past) (announced graph (r ∷ past)) (announced_more graph past r) trusted
