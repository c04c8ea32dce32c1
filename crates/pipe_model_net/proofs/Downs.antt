-- Reports are true: a tick tells the marks of its node's in-links, and a mark stays.
use Rattle.std.proofs.Common.{◌≡◌, ℕ, Bool, true, false, List, [], ◌∷◌, ◌++◌, ◌&&◌, not, if◌then◌else◌, nat_lt, length, Option, None, Some, filter, refl, inl, inr, sym, subst, ap, ◌∙◌}
use Rattle.std.specs.Prelude.{flat_map}
use Rattle.std.specs.List.{All, Contains}
use Rattle.std.proofs.lemmas.List.Elements.{All-nil, All-cons, All-append, All-contains_itself, All-filter, All-head, All-tail, Contains-append_left, Contains-append_right}
use Rattle.pipe_base.specs.declared.control.Addressed.{Addressed}
use Rattle.pipe_base.specs.declared.control.Control.TheVariants.{Done, Down, Gone}
use Rattle.pipe_base.specs.declared.control.To.TheVariants.{Controller}
use Rattle.pipe_base.specs.declared.name.HostId.{HostId}
use Rattle.pipe_base.specs.declared.name.LinkId.{LinkId}
use Rattle.pipe_base.specs.declared.name.NodeId.{NodeId}
use Rattle.pipe_base.specs.declared.name.Ts.{Ts}
use Rattle.pipe_base.specs.declared.step.Step.{Step}
use Rattle.pipe_graph.specs.Graph.{Graph, head_of, ins_of, is_host}
use Rattle.pipe_base.specs.Settled.{is_recalling}
use Rattle.pipe_graph.specs.Passable.{not_dropped}
use Rattle.pipe_model.specs.declared.event.Event.{Event}
use Rattle.pipe_model.specs.declared.event.Event.TheVariants.{Tick}
use Rattle.pipe_model.specs.declared.record.Record.{Record}
use Rattle.pipe_model.specs.Acting.{is_own, own}
use Rattle.pipe_model.specs.Controller.{view}
use Rattle.pipe_model.specs.Decision.{drop_links, freeze, notice}
use Rattle.pipe_model.specs.DownsTold.{AreDownsTrue, HasTold, IsDownTrue, control_put}
use Rattle.pipe_model.specs.Duties.{control_of, done_told, down_told, downs_told, gone_told}
use Rattle.pipe_model.specs.Marks.{mark}
use Rattle.pipe_model.specs.Moments.{known_drops, noted_hosts}
use Rattle.pipe_model.specs.Run.{IsHistory, IsStep}
use Rattle.pipe_model.specs.Sender.{sender_calls}
use Rattle.pipe_model.specs.View.{View}
use Rattle.pipe_model.proofs.Decisions.{nobodys_control}
use Rattle.pipe_model.proofs.Links.{ComesIn, ins_come_in}
use Rattle.pipe_model.proofs.Marks.{mark_stays}
use Rattle.pipe_model.proofs.Own.{own_more, own_same}
use Rattle.pipe_model_net.proofs.Acting.{nobodys_or_own}
use Rattle.pipe_model_net.proofs.ControlMessages.{messages_keep}

-- ---- what was told stays told

told_later : (own : List Record) (r : Record) (link : LinkId) (value : Ts) (m : Addressed) → HasTold own link value m → HasTold (r ∷ own) link value m
told_later own r link value m told =
    record { put = Contains-append_left (control_put own) r.step.control m told.put; marked = mark_stays own r link.0 value told.marked }

told_by : (b : Bool) (graph : Graph) (node : ℕ) (past : List Record) (r : Record) (link : LinkId) (value : Ts) (m : Addressed) → is_own graph node r ≡ b
    → HasTold (own graph node past) link value m → HasTold (own graph node (r ∷ past)) link value m
told_by true graph node past r link value m mine told =
    subst (λ (o : List Record). HasTold o link value m) (sym (own_more graph node r past mine)) (told_later (own graph node past) r link value m told)
told_by false graph node past r link value m other told = subst (λ (o : List Record). HasTold o link value m) (sym (own_same graph node r past other)) told

down_stays : (graph : Graph) (past : List Record) (r : Record) (m : Addressed) → IsDownTrue graph past m → IsDownTrue graph (r ∷ past) m
down_stays graph past r m holds link value is =
    told_by (is_own graph (head_of graph link.0) r) graph (head_of graph link.0) past r link value m refl (holds link value is)

-- ---- what a tick tells

-- the message tells the mark of a link into the node
abbrev IsMarkOf : Graph → ℕ → List Record → Addressed → Type 0
IsMarkOf graph node own m = (link : LinkId) (value : Ts) → m.control ≡ Down link value → (head_of graph link.0 ≡ node) × (mark own link.0 ≡ Some value)

told_one : (graph : Graph) (node : ℕ) (own : List Record) (l : LinkId) (o : Option Ts) → head_of graph l.0 ≡ node → mark own l.0 ≡ o → All (IsMarkOf graph node own) (down_told l o)
told_one graph node own l None head is = All-nil (IsMarkOf graph node own)
told_one graph node own l (Some v) head is =
    All-cons (IsMarkOf graph node own) _ []
    (λ (link : LinkId) (value : Ts) same.
    let number : l ≡ link = cc in
    let mark_is : v ≡ value = cc in (
      ap (λ (k : LinkId). head_of graph k.0) (sym number) ∙ head,
      ap (λ (k : LinkId). mark own k.0) (sym number) ∙ is ∙ ap (λ (x : Ts). Some x) mark_is,
    ))
    (All-nil (IsMarkOf graph node own))

told_each : (graph : Graph) (node : ℕ) (own : List Record) (ls : List LinkId) → All (ComesIn graph node) ls
    → All (IsMarkOf graph node own) (flat_map (λ l. down_told l (mark own l.0)) ls)
told_each graph node own [] all = All-nil (IsMarkOf graph node own)
told_each graph node own (l ∷ ls) all =
    All-append (IsMarkOf graph node own) (down_told l (mark own l.0)) (flat_map (λ k. down_told k (mark own k.0)) ls)
    (told_one graph node own l (mark own l.0) (All-head (ComesIn graph node) l ls all) refl) (told_each graph node own ls (All-tail (ComesIn graph node) l ls all))

-- the other messages of a tick report no link
done_one : (b : Bool) (graph : Graph) (node : ℕ) (own : List Record) (host : HostId) (count : ℕ)
    → All (IsMarkOf graph node own) (if b then record { to = Controller; control = Done host count } ∷ [] else [])
done_one true graph node own host count = All-cons (IsMarkOf graph node own) _ [] (λ (link : LinkId) (value : Ts) same. cc) (All-nil (IsMarkOf graph node own))
done_one false graph node own host count = All-nil (IsMarkOf graph node own)

gone_one : (b : Bool) (graph : Graph) (node : ℕ) (own : List Record) (at : NodeId) (count : ℕ)
    → All (IsMarkOf graph node own) (if b then record { to = Controller; control = Gone at count } ∷ [] else [])
gone_one true graph node own at count = All-cons (IsMarkOf graph node own) _ [] (λ (link : LinkId) (value : Ts) same. cc) (All-nil (IsMarkOf graph node own))
gone_one false graph node own at count = All-nil (IsMarkOf graph node own)

told_now : (graph : Graph) (node : ℕ) (own : List Record) (event : Event) → All (IsMarkOf graph node own) (control_of graph node own event)
told_now graph node own (Tick n now) =
    All-append (IsMarkOf graph node own) (downs_told graph node own ++ done_told graph node own) (gone_told node own)
    (All-append (IsMarkOf graph node own) (downs_told graph node own) (done_told graph node own)
    (told_each graph node own (filter (λ l. not_dropped (known_drops own) l.0) (ins_of graph node))
    (All-filter (λ (l : LinkId). not_dropped (known_drops own) l.0) (ComesIn graph node) (ins_of graph node) (ins_come_in graph node)))
    (done_one (is_host graph node && (nat_lt 0 (length (noted_hosts own)) && not (is_recalling (sender_calls graph node own)))) graph node own (record { 0 = node }) (length (noted_hosts own))))
    (gone_one (nat_lt 0 (length (known_drops own))) graph node own (record { 0 = node }) (length (known_drops own)))
told_now graph node own _ = All-nil (IsMarkOf graph node own)

-- what a node puts in a record, it has told after it
told_true : (graph : Graph) (past : List Record) (r : Record) (node : ℕ) (m : Addressed) → is_own graph node r ≡ true → Contains r.step.control m
    → IsMarkOf graph node (r ∷ own graph node past) m → IsDownTrue graph (r ∷ past) m
told_true graph past r node m mine among is link value reports =
    let o : List Record = own graph node past in
    let at = is link value reports in
    let told : HasTold (r ∷ o) link value m = record { put = Contains-append_right (control_put o) r.step.control m among; marked = at.1 } in
    subst (λ (n : ℕ). HasTold (own graph n (r ∷ past)) link value m) (sym at.0)
    (subst (λ (x : List Record). HasTold x link value m) (sym (own_more graph node r past mine)) told)

puts_of_own : (graph : Graph) (past : List Record) (r : Record) (node : ℕ) → IsStep graph past r → is_own graph node r ≡ true → All (IsDownTrue graph (r ∷ past)) r.step.control
puts_of_own graph past r node step mine =
    let o : List Record = own graph node past in
    let marks_told : All (IsMarkOf graph node (r ∷ o)) r.step.control =
    subst (All (IsMarkOf graph node (r ∷ o))) (sym (step.node node mine).control_is) (told_now graph node (r ∷ o) r.event) in
    λ k d lt. told_true graph past r node _ mine (All-contains_itself r.step.control k d lt) (marks_told k d lt)

-- a decision tells the controller nothing
no_down_frozen : (graph : Graph) (past : List Record) (l : LinkId) → IsDownTrue graph past (freeze graph l)
no_down_frozen graph past l link value is = cc

no_down_noticed : (graph : Graph) (past : List Record) (v : View) (h : HostId) → IsDownTrue graph past (notice v h)
no_down_noticed graph past v h link value is = cc

no_down_dropped : (graph : Graph) (past : List Record) (v : View) (n : NodeId) → IsDownTrue graph past (drop_links v n)
no_down_dropped graph past v n link value is = cc

puts_true : (graph : Graph) (past : List Record) (r : Record) → IsStep graph past r → All (IsDownTrue graph (r ∷ past)) r.step.control
puts_true graph past r step =
    elim (nobodys_or_own graph r) [
      | inl nobody ↦ subst (All (IsDownTrue graph (r ∷ past))) (sym (ap (λ (s : Step). s.control) (step.nobodys nobody)))
          (nobodys_control (IsDownTrue graph (r ∷ past)) graph (view graph past) r.event r.took r.step.outcome (no_down_frozen graph (r ∷ past))
          (no_down_noticed graph (r ∷ past) (view graph (r ∷ past))) (no_down_dropped graph (r ∷ past) (view graph (r ∷ past))))
      | inr mine ↦ puts_of_own graph past r mine.0 step mine.1
    ]

pub downs_true : (graph : Graph) (past : List Record) → IsHistory graph past → AreDownsTrue graph past
downs_true graph past run =
    messages_keep graph (IsDownTrue graph)
    (record { stays = λ before r m step holds. down_stays graph before r m holds; starts = λ before r history step. puts_true graph before r step }) past run
