-- What is kept of the in-links after a record of the node's own.
use Rattle.std.proofs.Common.{◌≡◌, ℕ, List, [], ◌∷◌, Option, None, Some, unwrap_or, refl, sym, subst, ap, ◌∙◌}
use Rattle.std.specs.Option.{option_map}
use Rattle.pipe_base.specs.declared.name.LinkId.{LinkId}
use Rattle.pipe_base.specs.declared.name.Ts.{Ts}
use Rattle.pipe_base.specs.declared.packet.Packet.{Packet}
use Rattle.pipe_graph.specs.Graph.{Graph, ins_of}
use Rattle.pipe_base.specs.Moment.{Moment, Received, with_downed}
use Rattle.pipe_base.specs.Entries.{with_entries}
use Rattle.pipe_base.specs.Silence.{QuietCall, Took, Ticked}
use Rattle.pipe_barrier.specs.declared.in_links.InLinks.{InLinks}
use Rattle.pipe_barrier.specs.InLinks as in_links
use Rattle.pipe_model.specs.declared.record.Record.{Record}
use Rattle.pipe_model.specs.Marks.{newly_dropped}
use Rattle.pipe_model.specs.Moments.{known_drops, moments_of, quiet_calls, received, tick_of}
use Rattle.pipe_model.specs.Run.{IsNodeStep}
use Rattle.pipe_model.proofs.Steps.{drops_same, moments_downed, moments_marked, moments_received, tick_drops_nothing}
use Rattle.pipe_links.specs.declared.links.Links.{Links}
use Rattle.pipe_links.specs.declared.links.Receipt.{Receipt}
use Rattle.pipe_links.specs.declared.ways.Ways.{Ways}
use Rattle.pipe_links.specs.Links.{InsStand, Stands, StandsWith, next_ways, receipt_of}
use Rattle.pipe_links.specs.Ways.{AreWays}

-- the packet behind a receipt
pub receipt_from : (o : Option (ℕ × Packet)) (x : Receipt) → Some x ≡ option_map receipt_of o → (q : ℕ × Packet) × (o ≡ Some q) × (x ≡ receipt_of q)
receipt_from None x is = cc
receipt_from (Some q) x is = (q, refl, cc)

pub none_from : (o : Option (ℕ × Packet)) → None ≡ option_map receipt_of o → o ≡ None
none_from None is = refl
none_from (Some q) is = cc

stand_for : (graph : Graph) (node : ℕ) (own : List Record) (r : Record) (k : InLinks) (moments : List Moment) (calls : List QuietCall) → moments_of graph node (r ∷ own) ≡ moments → quiet_calls graph node (r ∷ own) ≡ calls
    → in_links.Stands (ins_of graph node) graph.patience k moments calls → InsStand graph node (r ∷ own) k
stand_for graph node own r k moments calls moments_are calls_are stands =
    subst (λ (ms : List Moment). in_links.Stands (ins_of graph node) graph.patience k ms (quiet_calls graph node (r ∷ own))) (sym moments_are)
    (subst (λ (cs : List QuietCall). in_links.Stands (ins_of graph node) graph.patience k moments cs) (sym calls_are) stands)

-- a record that received a packet
pub received_follows : (graph : Graph) (node : ℕ) (own : List Record) (r : Record) (q : ℕ × Packet) (x : Receipt) (k : InLinks) → IsNodeStep graph node own r
    → received graph node own r ≡ Some q → x ≡ receipt_of q
    → in_links.Stands (ins_of graph node) graph.patience k (Received x.link.0 x.be.0 x.commit.0 ∷ moments_of graph node own) (Took x.link.0 ∷ quiet_calls graph node own)
    → InsStand graph node (r ∷ own) k
received_follows graph node own r q x k step is same stands =
    stand_for graph node own r k (Received x.link.0 x.be.0 x.commit.0 ∷ moments_of graph node own) (Took x.link.0 ∷ quiet_calls graph node own)
    (moments_received graph node own r q step is
    ∙ ap (λ (y : Receipt). Received y.link.0 y.be.0 y.commit.0 ∷ moments_of graph node own) (sym same))
    (let calls : quiet_calls graph node (r ∷ own) ≡ Took q.0 ∷ quiet_calls graph node own = rw is refl in
    calls ∙ ap (λ (y : Receipt). Took y.link.0 ∷ quiet_calls graph node own) (sym same))
    stands

-- a tick
pub tick_follows : (graph : Graph) (node : ℕ) (own : List Record) (r : Record) (now : Ts) (k : InLinks) → IsNodeStep graph node own r
    → received graph node own r ≡ None → tick_of r.event ≡ Some now
    → in_links.Stands (ins_of graph node) graph.patience k (with_downed r.step.downed (moments_of graph node own)) (Ticked now.0 ∷ quiet_calls graph node own)
    → InsStand graph node (r ∷ own) k
tick_follows graph node own r now k step none is stands =
    stand_for graph node own r k (with_downed r.step.downed (moments_of graph node own)) (Ticked now.0 ∷ quiet_calls graph node own)
    (moments_downed graph node own r none (step.dropped_is ∙ tick_drops_nothing graph node own r now is)) (rw (none, is) refl) stands

-- a record that neither receives nor ticks
pub marks_follow : (graph : Graph) (node : ℕ) (own : List Record) (r : Record) (k : InLinks) → received graph node own r ≡ None → None ≡ tick_of r.event
    → in_links.Stands (ins_of graph node) graph.patience k (with_entries (ins_of graph node) r.step.dropped (with_downed r.step.downed (moments_of graph node own))) (quiet_calls graph node own)
    → InsStand graph node (r ∷ own) k
marks_follow graph node own r k none other stands =
    let no_tick : tick_of r.event ≡ None = sym other in
    stand_for graph node own r k (with_entries (ins_of graph node) r.step.dropped (with_downed r.step.downed (moments_of graph node own))) (quiet_calls graph node own) (moments_marked graph node own r none)
    (rw (none, no_tick) refl) stands

-- ---- the ways

-- A record that drops no link wants no other ways: what stands is ready for it.
pub ready : (graph : Graph) (node : ℕ) (own : List Record) (r : Record) (k : Links) → Stands graph node own k → IsNodeStep graph node own r
    → newly_dropped graph node own r ≡ [] → StandsWith graph node own r k
ready graph node own r k stands step none = record {
  stands = subst (λ (o : Option Ways). Stands graph node own (record k { ahead = o })) stands.none_ahead stands;
  ahead_are =
      subst (λ (known : List LinkId). AreWays graph node known (next_ways k)) (sym (drops_same graph node own r step none))
      (subst (λ (o : Option Ways). AreWays graph node (known_drops own) (unwrap_or o k.ways)) (sym stands.none_ahead) stands.ways_are);
}

-- What stands is ready for a record once the ways after it are set aside.
pub prepared : (graph : Graph) (node : ℕ) (own : List Record) (r : Record) (k : Links) (ahead : Option Ways) → Stands graph node own k
    → AreWays graph node (known_drops (r ∷ own)) (unwrap_or ahead k.ways) → StandsWith graph node own r (record k { ahead = ahead })
prepared graph node own r k ahead stands are = record {
  stands = subst (λ (o : Option Ways). Stands graph node own (record k { ahead = o })) stands.none_ahead stands;
  ahead_are = are;
}

-- After the record those ways hold that were made for it.
pub follows : (graph : Graph) (node : ℕ) (own : List Record) (r : Record) (k : Links) (ins : InLinks) (w : Ways) (ahead : Option Ways) → StandsWith graph node own r k
    → IsNodeStep graph node own r → InsStand graph node (r ∷ own) ins → w ≡ next_ways k → ahead ≡ None
    → Stands graph node (r ∷ own) (record { node = k.node; ins = ins; ways = w; ahead = ahead })
follows graph node own r k ins w ahead with_it step ins_are ways_are none = record {
  node_is = with_it.stands.node_is;
  within = with_it.stands.within;
  ins_are = ins_are;
  ways_are = subst (AreWays graph node (known_drops (r ∷ own))) (sym ways_are) with_it.ahead_are;
  none_ahead = none;
  history = (with_it.stands.history, step);
}
