-- The steps of a walk keep what it knows, and at its end the table is right.
use Rattle.std.proofs.Common.{◌≡◌, ◌≢◌, ℕ, ◌+◌, ◌<◌, ◌≤◌, ◌==◌, nat_lt, ◌&&◌, Bool, true, false, List, [], ◌∷◌, ◌++◌, length, get_or, set, replicate, All, Contains, MatchBool, min, sum, take, true≢false, inl, inr, refl, sym, ap, subst, ◌∙◌, arith, length-set, get_or-set_same, get_or-set_other, length-append}
use Rattle.std.proofs.lemmas.Bool.{and_from, and_parts, eqb-true, lt-ltb, ltb-true}
use Rattle.std.proofs.lemmas.List.Sums.{sum_by-set}
use Rattle.std.proofs.lemmas.Bool.Decides.{eqb_tells, leb_tells}
use Rattle.std.proofs.lemmas.List.{get_or_past, get_or-replicate, length-replicate}
use Rattle.std.proofs.lemmas.List.Elements.{All-nil, All-cons, All-push, All-tail, All-more, All-weaker, filter_passes, Contains-push_cases, Contains-append_left, Contains-append_cases, Contains-push}
use Rattle.pipe_base.specs.declared.name.NodeId.{NodeId}
use Rattle.pipe_base.specs.declared.name.LinkId.{LinkId}
use Rattle.pipe_graph.specs.Graph.{Graph, IsGraph, tail_of, head_of, is_half, link_id, all_links, ins_of}
use Rattle.pipe_graph.specs.Path.{Leads}
use Rattle.pipe_graph.proofs.Listed.{listed_all}
use Rattle.pipe_topo.specs.Walk.{far, away_of, IsDistances, IsWalk, node_id, comes_nearer, LooksAlong}

-- an entry after a write
at_write : (away : List ℕ) (n next : ℕ) → n < length away → away_of (set away n next) n ≡ next
at_write away n next lt = get_or-set_same away n next far lt

off_write : (away : List ℕ) (n next m : ℕ) → m ≢ n → away_of (set away n next) m ≡ away_of away m
off_write away n next m apart = get_or-set_other away n m next far apart

all_far : (nodes n : ℕ) → away_of (replicate nodes far) n ≡ far
all_far nodes n = elim (leb_tells nodes n) [
  | inl outside ↦ let size = length-replicate nodes far in get_or_past (replicate nodes far) n far (omega (arith, outside.1, size))
  | inr inside ↦ get_or-replicate nodes n far far inside.1
]

-- the start: the node itself is found, and nothing else
pub walk_start : (g : Graph) (by : ℕ → Bool) (to : ℕ) → to < g.nodes → IsWalk g by to (set (replicate g.nodes far) to 0) (node_id to ∷ [])
walk_start g by to lt =
    let size : length (replicate g.nodes far) ≡ g.nodes = length-replicate g.nodes far in
    let inside : to < length (replicate g.nodes far) = subst (λ (n : ℕ). to < n) (sym size) lt in
    let here : away_of (set (replicate g.nodes far) to 0) to ≡ 0 = at_write (replicate g.nodes far) to 0 inside in
    let elsewhere : (n : ℕ) → n ≢ to → away_of (set (replicate g.nodes far) to 0) n ≡ far =
    λ n apart. off_write (replicate g.nodes far) to 0 n apart ∙ all_far g.nodes n in
    let bound : (n : ℕ) → away_of (set (replicate g.nodes far) to 0) n ≤ far =
    λ n. elim (eqb_tells n to) [
      | inl same ↦ let e : away_of (set (replicate g.nodes far) to 0) n ≡ 0 = subst (λ (m : ℕ). away_of (set (replicate g.nodes far) to 0) m ≡ 0) (sym same.1) here in omega arith
      | inr other ↦ let e = elsewhere n other.1 in omega arith
    ] in
    record {
      size = length-set (replicate g.nodes far) to 0 ∙ size;
      bound = bound;
      start = here;
      found = λ n near. elim (eqb_tells n to) [
        | inl same ↦ ([], same.1, sym (subst (λ (m : ℕ). away_of (set (replicate g.nodes far) to 0) m ≡ 0) (sym same.1) here))
        | inr other ↦ let e = elsewhere n other.1 in absurd (omega arith)
      ];
      known = All-cons (λ (n : NodeId). n.0 < g.nodes) (node_id to) [] lt (All-nil (λ (n : NodeId). n.0 < g.nodes));
      relaxed = λ l l_lt used half. elim (eqb_tells (head_of g l) to) [
        | inl same ↦ inl (subst (λ (n : ℕ). Contains (node_id to ∷ []) (node_id n)) (sym same.1) (Contains-push [] (node_id to)))
        | inr other ↦ let e = elsewhere (head_of g l) other.1 in let b = bound (tail_of g l) in inr (omega arith)
      ];
    }

-- a link into the node that is looked at, whose tail comes nearer
nearer_turn : (g : Graph) (by : ℕ → Bool) (to h l next : ℕ) (away : List ℕ) (queue : List NodeId) → IsGraph g
    → IsWalk g by to away (node_id h ∷ queue) → l < length g.links → head_of g l ≡ h → next ≡ min (away_of away h + 1) far
    → by l ≡ true → is_half g (tail_of g l) ≡ true → next < away_of away (tail_of g l)
    → IsWalk g by to (set away (tail_of g l) next) (node_id h ∷ (queue ++ node_id (tail_of g l) ∷ []))
nearer_turn g by to h l next away queue graph walk lt ends is used half nearer =
    let inside : tail_of g l < length away = subst (λ (n : ℕ). tail_of g l < n) (sym walk.size) (graph.tails_in l lt) in
    let here : away_of (set away (tail_of g l) next) (tail_of g l) ≡ next = at_write away (tail_of g l) next inside in
    let elsewhere : (n : ℕ) → n ≢ tail_of g l → away_of (set away (tail_of g l) next) n ≡ away_of away n =
    λ n apart. off_write away (tail_of g l) next n apart in
    let falls : (n : ℕ) → away_of (set away (tail_of g l) next) n ≤ away_of away n =
    λ n. elim (eqb_tells n (tail_of g l)) [
      | inl same ↦ subst (λ (m : ℕ). away_of (set away (tail_of g l) next) m ≤ away_of away m) (sym same.1) (omega arith)
      | inr other ↦ let e = elsewhere n other.1 in omega arith
    ] in
    let tail_bound = walk.bound (tail_of g l) in
    record {
      size = length-set away (tail_of g l) next ∙ walk.size;
      bound = λ n. let f = falls n in let b = walk.bound n in omega arith;
      start = let apart : to ≢ tail_of g l = λ e. (let s : away_of away (tail_of g l) ≡ 0 = subst (λ (m : ℕ). away_of away m ≡ 0) e walk.start in absurd (omega arith)) in elsewhere to apart ∙ walk.start;
      found = λ n near. elim (eqb_tells n (tail_of g l)) [
        | inl same ↦
            let head_near : away_of away h < far = omega arith in
            let way = walk.found h head_near in
            let leads : Leads g by (tail_of g l) to (l ∷ way.0) =
            (half, record { known = lt; used = used; begins = refl }, subst (λ (m : ℕ). Leads g by m to way.0) (sym ends) way.1) in (
              l ∷ way.0,
              subst (λ (m : ℕ). Leads g by m to (l ∷ way.0)) (sym same.1) leads,
              subst (λ (m : ℕ). length (l ∷ way.0) ≡ away_of (set away (tail_of g l) next) m) (sym same.1) (omega arith),
            )
        | inr other ↦
            let e = elsewhere n other.1 in
            let way = walk.found n (omega arith) in
            (way.0, way.1, way.2 ∙ sym e)
      ];
      known = All-push (λ (n : NodeId). n.0 < g.nodes) (node_id h ∷ queue) (node_id (tail_of g l)) walk.known (graph.tails_in l lt);
      relaxed = λ k k_lt k_used k_half. elim (eqb_tells (head_of g k) (tail_of g l)) [
        | inl same ↦ inl (subst (λ (m : ℕ). Contains (node_id h ∷ (queue ++ node_id (tail_of g l) ∷ [])) (node_id m)) (sym same.1)
            (Contains-push (node_id h ∷ queue) (node_id (tail_of g l))))
        | inr other ↦
            let e = elsewhere (head_of g k) other.1 in
            elim (walk.relaxed k k_lt k_used k_half) [
              | inl waits ↦ inl (Contains-append_left (node_id h ∷ queue) (node_id (tail_of g l) ∷ []) (node_id (head_of g k)) waits)
              | inr near ↦ let f = falls (tail_of g k) in inr (omega arith)
            ]
      ];
    }

-- the entry of the node that is looked at stays
pub next_kept : (g : Graph) (by : ℕ → Bool) (h l next : ℕ) (away new_away : List ℕ) (queue new_queue : List NodeId) → next ≡ min (away_of away h + 1) far → away_of away h ≤ far
    → LooksAlong g by l next away queue new_away new_queue → away_of new_away h ≡ away_of away h
next_kept g by h l next away new_away queue new_queue is bound looks = pick (comes_nearer g by away l next) refl looks
  where
    pick : (t : Bool) → comes_nearer g by away l next ≡ t
        → MatchBool t ((new_away ≡ set away (tail_of g l) next) × (new_queue ≡ queue ++ node_id (tail_of g l) ∷ [])) ((new_away ≡ away) × (new_queue ≡ queue))
        → away_of new_away h ≡ away_of away h
    pick false isnt same = ap (λ (a : List ℕ). away_of a h) same.0
    pick true nearer wrote =
        let lower = ltb-true next (away_of away (tail_of g l)) (and_parts (by l && is_half g (tail_of g l)) (nat_lt next (away_of away (tail_of g l))) nearer).1 in
        let apart : h ≢ tail_of g l = λ e. (let s : away_of away (tail_of g l) ≡ away_of away h = ap (away_of away) (sym e) in absurd (omega arith)) in
        ap (λ (a : List ℕ). away_of a h) wrote.0 ∙ off_write away (tail_of g l) next h apart

-- a node is looked at: the links so far bring their tails no nearer any more
pub record IsLooking (g : Graph) (by : ℕ → Bool) (to h next : ℕ) (done : List LinkId) (away : List ℕ) (queue : List NodeId) : Type 0 where
  pub walk : IsWalk g by to away (node_id h ∷ queue)
  pub next_is : next ≡ min (away_of away h + 1) far
  pub looked : All (λ l. by l.0 ≡ true → is_half g (tail_of g l.0) ≡ true → away_of away (tail_of g l.0) ≤ next) done

pub looking_start : (g : Graph) (by : ℕ → Bool) (to h next : ℕ) (away : List ℕ) (queue : List NodeId) → IsWalk g by to away (node_id h ∷ queue)
    → next ≡ min (away_of away h + 1) far → IsLooking g by to h next [] away queue
looking_start g by to h next away queue walk is = record {
  walk = walk;
  next_is = is;
  looked = All-nil (λ (l : LinkId). by l.0 ≡ true → is_half g (tail_of g l.0) ≡ true → away_of away (tail_of g l.0) ≤ next);
}

-- entries fall, and the tail of the link is near now
looks_falls : (g : Graph) (by : ℕ → Bool) (l next : ℕ) (away new_away : List ℕ) (queue new_queue : List NodeId) → tail_of g l < length away
    → LooksAlong g by l next away queue new_away new_queue
    → ((n : ℕ) → away_of new_away n ≤ away_of away n) × (by l ≡ true → is_half g (tail_of g l) ≡ true → away_of new_away (tail_of g l) ≤ next)
looks_falls g by l next away new_away queue new_queue inside looks = pick (comes_nearer g by away l next) refl looks
  where
    pick : (t : Bool) → comes_nearer g by away l next ≡ t
        → MatchBool t ((new_away ≡ set away (tail_of g l) next) × (new_queue ≡ queue ++ node_id (tail_of g l) ∷ [])) ((new_away ≡ away) × (new_queue ≡ queue))
        → ((n : ℕ) → away_of new_away n ≤ away_of away n) × (by l ≡ true → is_half g (tail_of g l) ≡ true → away_of new_away (tail_of g l) ≤ next)
    pick false isnt same = (
      (λ n. let e = ap (λ (a : List ℕ). away_of a n) same.0 in omega arith),
      λ used half. elim (leb_tells (away_of away (tail_of g l)) next) [
        | inl near ↦ let e = ap (λ (a : List ℕ). away_of a (tail_of g l)) same.0 in omega (arith, near.1)
        | inr nearer ↦
            absurd (true≢false (sym (and_from (by l && is_half g (tail_of g l)) (nat_lt next (away_of away (tail_of g l)))
            (and_from (by l) (is_half g (tail_of g l)) used half) (lt-ltb next (away_of away (tail_of g l)) nearer.1)) ∙ isnt))
      ],
    )
    pick true nearer wrote =
        let lower = ltb-true next (away_of away (tail_of g l)) (and_parts (by l && is_half g (tail_of g l)) (nat_lt next (away_of away (tail_of g l))) nearer).1 in
        let here : away_of new_away (tail_of g l) ≡ next = ap (λ (a : List ℕ). away_of a (tail_of g l)) wrote.0 ∙ at_write away (tail_of g l) next inside in (
          (λ n. elim (eqb_tells n (tail_of g l)) [
            | inl same ↦ subst (λ (m : ℕ). away_of new_away m ≤ away_of away m) (sym same.1) (omega arith)
            | inr other ↦ let e = ap (λ (a : List ℕ). away_of a n) wrote.0 ∙ off_write away (tail_of g l) next n other.1 in omega arith
          ]),
          λ used half. omega arith,
        )

pub looking_turn : (g : Graph) (by : ℕ → Bool) (to h next : ℕ) (links : List LinkId) (i l : ℕ) (away new_away : List ℕ) (queue new_queue : List NodeId) → IsGraph g
    → IsLooking g by to h next (take i links) away queue → i < length links → get_or links i (link_id 0) ≡ link_id l → l < length g.links → head_of g l ≡ h
    → LooksAlong g by l next away queue new_away new_queue
    → IsLooking g by to h next (take (i + 1) links) new_away new_queue
looking_turn g by to h next links i l away new_away queue new_queue graph looking i_lt item lt ends looks =
    let inside : tail_of g l < length away = subst (λ (n : ℕ). tail_of g l < n) (sym looking.walk.size) (graph.tails_in l lt) in
    let falls = looks_falls g by l next away new_away queue new_queue inside looks in
    let kept = next_kept g by h l next away new_away queue new_queue looking.next_is (looking.walk.bound h) looks in
    let Near : LinkId → Type 0 = λ (k : LinkId). by k.0 ≡ true → is_half g (tail_of g k.0) ≡ true → away_of new_away (tail_of g k.0) ≤ next in
    let Before : LinkId → Type 0 = λ (k : LinkId). by k.0 ≡ true → is_half g (tail_of g k.0) ≡ true → away_of away (tail_of g k.0) ≤ next in
    record {
      walk = walk_turn;
      next_is = subst (λ (n : ℕ). next ≡ min (n + 1) far) (sym kept) looking.next_is;
      looked = All-more Near links i (link_id 0) i_lt
          (All-weaker Before Near (λ k before used half. let f = falls.0 (tail_of g k.0) in let b = before used half in omega arith) (take i links) looking.looked)
          (subst Near (sym item) falls.1);
    }
  where
    walk_turn : IsWalk g by to new_away (node_id h ∷ new_queue)
    walk_turn = pick (comes_nearer g by away l next) refl looks
      where
        pick : (t : Bool) → comes_nearer g by away l next ≡ t
            → MatchBool t ((new_away ≡ set away (tail_of g l) next) × (new_queue ≡ queue ++ node_id (tail_of g l) ∷ [])) ((new_away ≡ away) × (new_queue ≡ queue))
            → IsWalk g by to new_away (node_id h ∷ new_queue)
        pick false isnt same = subst (λ (p : List ℕ × List NodeId). IsWalk g by to p.0 (node_id h ∷ p.1)) (λ j. (sym same.0 j, sym same.1 j)) looking.walk
        pick true nearer wrote =
            let outer = and_parts (by l && is_half g (tail_of g l)) (nat_lt next (away_of away (tail_of g l))) nearer in
            let inner = and_parts (by l) (is_half g (tail_of g l)) outer.0 in
            subst (λ (p : List ℕ × List NodeId). IsWalk g by to p.0 (node_id h ∷ p.1)) (λ j. (sym wrote.0 j, sym wrote.1 j))
            (nearer_turn g by to h l next away queue graph looking.walk lt ends looking.next_is inner.0 inner.1 (ltb-true next (away_of away (tail_of g l)) outer.1))

waits_still : (h n : ℕ) (queue : List NodeId) → n ≢ h → Contains (node_id h ∷ queue) (node_id n) → Contains queue (node_id n)
waits_still h n queue apart waits =
    elim (Contains-append_cases (node_id h ∷ []) queue (node_id n) waits) [
      | inl first ↦ elim (Contains-push_cases [] (node_id h) (node_id n) first) [
        | inl nowhere ↦ let few = nowhere.1 in absurd (omega arith)
        | inr same ↦ absurd (apart (ap (λ (m : NodeId). m.0) (sym same)))
      ]
      | inr later ↦ later
    ]

-- all links into the node are looked along: it waits no more
pub walk_done : (g : Graph) (by : ℕ → Bool) (to h next : ℕ) (away : List ℕ) (queue : List NodeId) → IsLooking g by to h next (ins_of g h) away queue
    → IsWalk g by to away queue
walk_done g by to h next away queue looking = record {
  size = looking.walk.size;
  bound = looking.walk.bound;
  start = looking.walk.start;
  found = looking.walk.found;
  known = All-tail (λ (n : NodeId). n.0 < g.nodes) (node_id h) queue looking.walk.known;
  relaxed = λ l lt used half. elim (eqb_tells (head_of g l) h) [
    | inl same ↦
        let near = listed_all (λ (k : LinkId). head_of g k.0 == h) (λ (k : LinkId). by k.0 ≡ true → is_half g (tail_of g k.0) ≡ true → away_of away (tail_of g k.0) ≤ next) (length g.links) l looking.looked lt same.0 used half in
        let e : away_of away (head_of g l) ≡ away_of away h = ap (away_of away) same.1 in
        let n = looking.next_is in
        inr (omega arith)
    | inr other ↦ elim (looking.walk.relaxed l lt used half) [
      | inl waits ↦ inl (waits_still h (head_of g l) queue other.1 waits)
      | inr near ↦ inr near
    ]
  ];
}

-- where nobody waits the table is right
least_of_walk : (g : Graph) (by : ℕ → Bool) (to : ℕ) (away : List ℕ) → IsWalk g by to away [] → (ls : List ℕ) (n : ℕ) → Leads g by n to ls → away_of away n ≤ length ls
least_of_walk g by to away walk [] n leads = let e = ap (away_of away) leads in let s = walk.start in omega arith
least_of_walk g by to away walk (l ∷ ls) n leads =
    let rest = least_of_walk g by to away walk ls (head_of g l) leads.2 in
    let half : is_half g (tail_of g l) ≡ true = subst (λ (m : ℕ). is_half g m ≡ true) (sym leads.1.begins) leads.0 in
    let e = ap (away_of away) leads.1.begins in
    elim (walk.relaxed l leads.1.known leads.1.used half) [
      | inl waits ↦ let few = waits.1 in absurd (omega arith)
      | inr near ↦ omega arith
    ]

pub walk_is_right : (g : Graph) (by : ℕ → Bool) (to : ℕ) (away : List ℕ) → IsWalk g by to away [] → IsDistances g by to away
walk_is_right g by to away walk = record { size = walk.size; found = walk.found; least = λ n ls leads. least_of_walk g by to away walk ls n leads }

-- a push lowers the sum of the entries by one at least
pub looks_work : (g : Graph) (by : ℕ → Bool) (l next : ℕ) (away new_away : List ℕ) (queue new_queue : List NodeId) → tail_of g l < length away
    → LooksAlong g by l next away queue new_away new_queue → sum new_away + length new_queue ≤ sum away + length queue
looks_work g by l next away new_away queue new_queue inside looks = pick (comes_nearer g by away l next) refl looks
  where
    pick : (t : Bool) → comes_nearer g by away l next ≡ t
        → MatchBool t ((new_away ≡ set away (tail_of g l) next) × (new_queue ≡ queue ++ node_id (tail_of g l) ∷ [])) ((new_away ≡ away) × (new_queue ≡ queue))
        → sum new_away + length new_queue ≤ sum away + length queue
    pick false isnt same = let a = ap sum same.0 in let q = ap (λ (ns : List NodeId). length ns) same.1 in omega arith
    pick true nearer wrote =
        let lower = ltb-true next (away_of away (tail_of g l)) (and_parts (by l && is_half g (tail_of g l)) (nat_lt next (away_of away (tail_of g l))) nearer).1 in
        let a = ap sum wrote.0 in
        let q = ap (λ (ns : List NodeId). length ns) wrote.1 in
        let more = length-append queue (node_id (tail_of g l) ∷ []) in
        let swapped = sum_by-set (λ (n : ℕ). n) away (tail_of g l) next far inside in
        omega arith

-- each link into a node ends there
pub ins_end : (g : Graph) (h : ℕ) (links : List LinkId) → links ≡ ins_of g h → (i : ℕ) → i < length links → head_of g (get_or links i (link_id 0)).0 ≡ h
ins_end g h links are i lt =
    let all : All (λ (l : LinkId). (head_of g l.0 == h) ≡ true) links =
    subst (All (λ (l : LinkId). (head_of g l.0 == h) ≡ true)) (sym are) (filter_passes (λ (l : LinkId). head_of g l.0 == h) (all_links g)) in
    eqb-true (head_of g (get_or links i (link_id 0)).0) h (all i (link_id 0) lt)
