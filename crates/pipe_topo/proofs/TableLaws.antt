-- Lemmas on the tables of links, as they grow and when they are whole.
use Rattle.std.proofs.Common.{◌≡◌, ◌≢◌, ℕ, ◌+◌, ◌*◌, ◌<◌, ◌≤◌, ◌==◌, Bool, cond, List, [], ◌∷◌, ◌++◌, length, map, filter, get_or, set, All, inl, inr, sym, ap, subst, ◌∙◌, arith, length-set, get_or-set_same, get_or-set_other}
use Rattle.std.specs.List.{range_with_len}
use Rattle.std.proofs.lemmas.Bool.Decides.{eqb_tells}
use Rattle.std.proofs.lemmas.List.{append-nil, get_or_default}
use Rattle.std.proofs.lemmas.List.FromFn.{filter_of_map_range_with_len_more}
use Rattle.pipe_base.specs.declared.name.Link.{Link}
use Rattle.pipe_base.specs.declared.name.LinkId.{LinkId}
use Rattle.pipe_graph.specs.Graph.{Graph, tail_of, head_of, link_id, no_link}
use Rattle.pipe_topo.specs.declared.plan.CableEnd.{CableEnd}
use Rattle.pipe_topo.specs.declared.plan.Plan.{Plan}
use Rattle.pipe_topo.specs.Plan.{plan_links, IsPlan, network_of}
use Rattle.pipe_graph.proofs.Listed.{listed_below}
use Rattle.pipe_topo.proofs.LinkLaws.{plan_is_network}
use Rattle.pipe_topo.specs.Tables.{IsListed, IsTable, HasTables, IsNetwork, head_at, tail_at}
use Rattle.pipe_base.specs.Limits.{last_stamp}

-- one more link, put last in the list of its end
pub listed_more : (end : ℕ → ℕ) (nodes count node : ℕ) (table : List (List LinkId)) → IsListed end nodes count table → node < nodes → end count ≡ node
    → IsListed end nodes (count + 1) (set table node (get_or table node [] ++ link_id count ∷ []))
listed_more end nodes count node table listed lt is = record {
  size = length-set table node (get_or table node [] ++ link_id count ∷ []) ∙ listed.size;
  lists = λ n n_lt.
      let more = filter_of_map_range_with_len_more (λ (l : LinkId). end l.0 == n) link_id 0 count count (omega arith) in
      elim (eqb_tells (end count) n) [
        | inl same ↦
            let at : node ≡ n = sym is ∙ same.1 in
            let inside : node < length table = subst (λ (m : ℕ). node < m) (sym listed.size) lt in
            subst (λ (m : ℕ). get_or (set table node (get_or table node [] ++ link_id count ∷ [])) m [] ≡ filter (λ l. end l.0 == n) (map link_id (range_with_len 0 (count + 1)))) at
            (get_or-set_same table node (get_or table node [] ++ link_id count ∷ []) [] inside
            ∙ ap (λ (ls : List LinkId). ls ++ link_id count ∷ []) (subst (λ (m : ℕ). get_or table m [] ≡ filter (λ l. end l.0 == n) (map link_id (range_with_len 0 count))) (sym at) (listed.lists n n_lt))
            ∙ ap (λ (b : Bool). filter (λ l. end l.0 == n) (map link_id (range_with_len 0 count)) ++ cond b (link_id count ∷ []) []) (sym same.0)
            ∙ sym more)
        | inr other ↦
            let apart : n ≢ node = λ e. other.1 (is ∙ sym e) in
            get_or-set_other table node n (get_or table node [] ++ link_id count ∷ []) [] apart
            ∙ listed.lists n n_lt
            ∙ sym (append-nil (filter (λ l. end l.0 == n) (map link_id (range_with_len 0 count))))
            ∙ ap (λ (b : Bool). filter (λ l. end l.0 == n) (map link_id (range_with_len 0 count)) ++ cond b (link_id count ∷ []) []) (sym other.0)
            ∙ sym more
      ];
}

pub listed_is_table : (g : Graph) (end : ℕ → ℕ) (table : List (List LinkId)) → IsListed end g.nodes (length g.links) table
    → IsTable g (λ n. filter (λ l. end l.0 == n) (map link_id (range_with_len 0 (length g.links)))) table
listed_is_table g end table listed = record {
  size = listed.size;
  lists = listed.lists;
  known = λ n lt.
      subst (All (λ (l : LinkId). l.0 < length g.links)) (sym (listed.lists n lt))
      (listed_below (λ (l : LinkId). end l.0 == n) (length g.links));
}

-- the links and tables that are made of a plan: of these levels and links, with the links seen once more as a slice
module _ (plan : Plan) (is : IsPlan plan) (levels : List ℕ) (cables : List (CableEnd × CableEnd)) (links listed : List Link) (nodes : ℕ)
    (levels_are : levels ≡ plan.levels) (cables_are : cables ≡ plan.cables) (links_are : links ≡ plan_links plan.hosts levels cables)
    (listed_are : listed ≡ links) (nodes_are : nodes ≡ plan.hosts + 2 * length levels) where
  made_links : links ≡ plan_links plan.hosts plan.levels plan.cables
  made_links = links_are ∙ (λ i. plan_links plan.hosts (levels_are i) (cables_are i))

  abbrev pub made : Graph
  made = network_of plan.hosts (length levels) links plan.patience (record { 0 = last_stamp })

  made_network : IsNetwork made (length levels)
  made_network =
      subst (λ (p : List ℕ × List Link). IsNetwork (network_of plan.hosts (length p.0) p.1 plan.patience (record { 0 = last_stamp })) (length p.0))
      (λ i. (sym levels_are i, sym made_links i)) (plan_is_network plan is)

  pub made_few : length listed ≤ 65535
  made_few = let few = made_network.few_links in let same = ap length listed_are in omega arith

  pub made_heads : All (λ (l : Link). l.head.0 < nodes) listed
  made_heads k d lt =
      let inside = made_network.is_graph.heads_in k (subst (λ (ls : List Link). k < length ls) listed_are lt) in
      let read : head_of made k ≡ (get_or listed k d).head.0 =
      ap (λ (ls : List Link). (get_or ls k no_link).head.0) (sym listed_are) ∙ ap (λ (l : Link). l.head.0) (get_or_default listed k no_link d lt) in
      omega arith

  pub made_tails : All (λ (l : Link). l.tail.0 < nodes) listed
  made_tails k d lt =
      let inside = made_network.is_graph.tails_in k (subst (λ (ls : List Link). k < length ls) listed_are lt) in
      let read : tail_of made k ≡ (get_or listed k d).tail.0 =
      ap (λ (ls : List Link). (get_or ls k no_link).tail.0) (sym listed_are) ∙ ap (λ (l : Link). l.tail.0) (get_or_default listed k no_link d lt) in
      omega arith

  pub made_tables : (ins outs : List (List LinkId)) → IsListed (head_at listed) nodes (length listed) ins → IsListed (tail_at listed) nodes (length listed) outs
      → HasTables made (length levels) ins outs
  made_tables ins outs ins_listed outs_listed = record {
    network = made_network;
    ins_are = listed_is_table made (head_at links) ins
        (subst (λ (p : List Link × ℕ). IsListed (head_at p.0) p.1 (length p.0) ins) (λ i. (listed_are i, nodes_are i)) ins_listed);
    outs_are = listed_is_table made (tail_at links) outs
        (subst (λ (p : List Link × ℕ). IsListed (tail_at p.0) p.1 (length p.0) outs) (λ i. (listed_are i, nodes_are i)) outs_listed);
  }
