-- Being cut off, in words: each path by links that count has a link with a report of at most the time.
use Rattle.std.proofs.Common.{◌≡◌, ◌⊎◌, ℕ, ◌||◌, not, Bool, true, false, List, [], ◌∷◌, refl, inl, inr, sym, ◌∙◌, true≢false}
use Rattle.std.proofs.lemmas.Bool.{and_from, and_parts, false_from_ne_true, not-true, not_from_false, or_left, or_right}
use Rattle.std.specs.List.{list_any}
use Rattle.pipe_base.specs.declared.name.Ts.{Ts}
use Rattle.pipe_graph.specs.Graph.{Graph, IsGraph, head_of}
use Rattle.pipe_graph.specs.Path.{IsPath, Leads, LeavesBy}
use Rattle.pipe_graph.specs.Reach.{reaches}
use Rattle.pipe_graph.proofs.PathLaws.{path_more}
use Rattle.pipe_graph.proofs.Rounds.{has_path, is_reach}
use Rattle.pipe_model.specs.declared.record.Record.{Record}
use Rattle.pipe_model.specs.Controller.{is_live, view}
use Rattle.pipe_model_atomic.specs.NotedOrCutOff.{AreReportedPaths, IsCutOff, is_open, is_within}

module _ (graph : Graph) (past : List Record) (time : Ts) where
  abbrev told : ℕ → Bool
  told link = is_within time ((view graph past).reports link)

  abbrev open_set : ℕ → Bool
  open_set = is_open (view graph past) time

  -- a link that counts is told, or open
  link_by : (b : Bool) (node l : ℕ) → told l ≡ b → LeavesBy graph (is_live graph past) node l → (told l ≡ true) ⊎ LeavesBy graph open_set node l
  link_by true node l is leaves = inl is
  link_by false node l isnt leaves =
      inr (record { known = leaves.known; used = and_from (is_live graph past l) (not (told l)) leaves.used (not_from_false (told l) isnt); begins = leaves.begins })

  leads_by : (node end : ℕ) (ls : List ℕ) → Leads graph (is_live graph past) node end ls → (list_any told ls ≡ true) ⊎ Leads graph open_set node end ls
  leads_by node end [] leads = inr leads
  leads_by node end (l ∷ ls) leads =
      elim (link_by (told l) node l refl leads.1) [
        | inl here ↦ inl (or_left (told l) (list_any told ls) here)
        | inr leaves ↦ elim (leads_by (head_of graph l) end ls leads.2) [
          | inl later ↦ inl (or_right (told l) (list_any told ls) later)
          | inr rest ↦ inr (leads.0, leaves, rest)
        ]
      ]

  path_by : (start end : ℕ) (path : List ℕ) → IsPath graph (is_live graph past) start end path → (list_any told path ≡ true) ⊎ IsPath graph open_set start end path
  path_by start end [] path = absurd path
  path_by start end (l ∷ ls) path =
      elim (link_by (told l) start l refl path.0) [
        | inl here ↦ inl (or_left (told l) (list_any told ls) here)
        | inr leaves ↦ elim (leads_by (head_of graph l) end ls path.1) [
          | inl later ↦ inl (or_right (told l) (list_any told ls) later)
          | inr rest ↦ inr (leaves, rest)
        ]
      ]

  -- no link of a path by open ones is told
  neither : (s t : Bool) → s ≡ false → t ≡ false → (s || t) ≡ false
  neither true t h k = absurd (true≢false h)
  neither false t h k = k

  untold : (l : ℕ) → open_set l ≡ true → told l ≡ false
  untold l is = not-true (told l) (and_parts (is_live graph past l) (not (told l)) is).1

  leads_untold : (node end : ℕ) (ls : List ℕ) → Leads graph open_set node end ls → list_any told ls ≡ false
  leads_untold node end [] leads = refl
  leads_untold node end (l ∷ ls) leads = neither (told l) (list_any told ls) (untold l leads.1.used) (leads_untold (head_of graph l) end ls leads.2)

  path_untold : (start end : ℕ) (path : List ℕ) → IsPath graph open_set start end path → list_any told path ≡ false
  path_untold start end [] path = absurd path
  path_untold start end (l ∷ ls) path = neither (told l) (list_any told ls) (untold l path.0.used) (leads_untold (head_of graph l) end ls path.1)

pub cut_in_words : (graph : Graph) (past : List Record) (host other : ℕ) (time : Ts) → IsGraph graph → IsCutOff graph past host time other → AreReportedPaths graph past host time other
cut_in_words graph past host other time whole cut path leads =
    elim (path_by graph past time host other path leads) [
      | inl told ↦ told
      | inr way ↦ absurd (true≢false (sym (is_reach graph (is_open (view graph past) time) host other path whole way) ∙ cut))
    ]

pub words_cut : (graph : Graph) (past : List Record) (host other : ℕ) (time : Ts) → AreReportedPaths graph past host time other → IsCutOff graph past host time other
words_cut graph past host other time words =
    false_from_ne_true (reaches graph (is_open (view graph past) time) host other) (λ reached.
    let way = has_path graph (is_open (view graph past) time) host other reached in
    let by_live = path_more graph (is_open (view graph past) time) (is_live graph past) host other way.0
    (λ l known is. (and_parts (is_live graph past l) (not (is_within time ((view graph past).reports l))) is).0) way.1 in
    true≢false (sym (words way.0 by_live) ∙ path_untold graph past time host other way.0 way.1))
