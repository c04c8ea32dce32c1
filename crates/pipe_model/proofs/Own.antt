-- A node's own records along a history, and that they are a node's history.
use Rattle.std.proofs.Common.{◌≡◌, ℕ, Bool, true, false, List, [], ◌∷◌, refl, sym, subst}
use Rattle.pipe_graph.specs.Graph.{Graph}
use Rattle.pipe_model.specs.declared.record.Record.{Record}
use Rattle.pipe_model.specs.Acting.{is_own, own}
use Rattle.pipe_model.specs.Run.{IsHistory, IsNodeHistory, IsStep}

pub own_more : (graph : Graph) (n : ℕ) (r : Record) (past : List Record) → is_own graph n r ≡ true → own graph n (r ∷ past) ≡ r ∷ own graph n past
own_more graph n r past is = rw is refl

pub own_same : (graph : Graph) (n : ℕ) (r : Record) (past : List Record) → is_own graph n r ≡ false → own graph n (r ∷ past) ≡ own graph n past
own_same graph n r past isnt = rw isnt refl

node_more : (b : Bool) (graph : Graph) (n : ℕ) (r : Record) (past : List Record) → is_own graph n r ≡ b → IsStep graph past r
    → IsNodeHistory graph n (own graph n past) → IsNodeHistory graph n (own graph n (r ∷ past))
node_more true graph n r past is step before =
    subst (λ (o : List Record). IsNodeHistory graph n o) (sym (own_more graph n r past is)) (before, step.node n is)
node_more false graph n r past isnt step before =
    subst (λ (o : List Record). IsNodeHistory graph n o) (sym (own_same graph n r past isnt)) before

-- in a history each node's own records are a node's history
pub node_history : (graph : Graph) (n : ℕ) (past : List Record) → IsHistory graph past → IsNodeHistory graph n (own graph n past)
node_history graph n [] run = tt
node_history graph n (r ∷ past) run = node_more (is_own graph n r) graph n r past refl run.1 (node_history graph n past run.0)
