-- Lemmas on useless links.
use Rattle.std.proofs.Common.{◌≡◌, ℕ, ◌<◌, Bool, true, false, ◌&&◌, not, List, ◌∷◌, ◌++◌, sym, ap, ◌∙◌, true≢false}
use Rattle.std.proofs.lemmas.Bool.{and_from, and_parts, false_from_ne_true, not-true, not_from_false}
use Rattle.pipe_graph.specs.Graph.{Graph, IsGraph, tail_of}
use Rattle.pipe_graph.specs.Path.{IsPath}
use Rattle.pipe_graph.specs.Reach.{feeds}
use Rattle.pipe_graph.proofs.BelowLaws.{none_below}
use Rattle.pipe_graph.proofs.Rounds.{fed_along}
use Rattle.pipe_graph.specs.Useless.{IsUseless, is_fed, is_useless}
use Rattle.pipe_topo.specs.Sets.{has}
use Rattle.pipe_failtime.specs.Fed.{is_fed_from}
use Rattle.pipe_failtime.specs.Filled.{IsFilled}
use Rattle.pipe_failtime.proofs.TestLaws.{and_fails, none_from}

pub useless_in_words : (g : Graph) (by kept : ℕ → Bool) (link : ℕ) → is_useless g by kept link ≡ true → IsUseless g by kept link
useless_in_words g by kept link is =
    let parts = and_parts (by link) (not (is_fed g by kept link)) is in
    record {
      used = parts.0;
      unfed = λ host lt kept_is. and_fails (kept host) (feeds g by host link)
          (none_below (λ h. kept h && feeds g by h link) g.hosts host (not-true (is_fed g by kept link) parts.1) lt) kept_is;
    }

pub words_useless : (g : Graph) (by kept : ℕ → Bool) (link : ℕ) → IsUseless g by kept link → is_useless g by kept link ≡ true
words_useless g by kept link is =
    and_from (by link) (not (is_fed g by kept link)) is.used
    (not_from_false (is_fed g by kept link)
    (none_from (λ h. kept h && feeds g by h link) g.hosts
    (λ host lt both. let parts = and_parts (kept host) (feeds g by host link) both in true≢false (sym parts.1 ∙ is.unfed host lt parts.0))))

-- a path by the set from a kept host has no useless link
pub kept_paths : (g : Graph) (by kept : ℕ → Bool) (host end link : ℕ) (before after : List ℕ) → IsGraph g → host < g.hosts → kept host ≡ true
    → IsPath g by host end (before ++ link ∷ after) → is_useless g by kept link ≡ false
kept_paths g by kept host end link before after graph lt kept_is path =
    false_from_ne_true (is_useless g by kept link) (λ useless.
    true≢false (sym (fed_along g by host end link before after graph path) ∙ (useless_in_words g by kept link useless).unfed host lt kept_is))

-- whether a link is useless, by the nodes that are fed
pub useless_from : (g : Graph) (by kept : ℕ → Bool) (fed : List Bool) (link : ℕ) (told : Bool) → IsFilled fed g.nodes (is_fed_from g by kept) g.nodes → tail_of g link < g.nodes
    → told ≡ (by link && not (has fed (tail_of g link))) → is_useless g by kept link ≡ told
useless_from g by kept fed link told filled lt is = sym (is ∙ ap (λ (t : Bool). by link && not t) (filled.below (tail_of g link) lt))
