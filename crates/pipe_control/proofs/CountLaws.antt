-- Lemmas on the counts that nodes told.
use Rattle.std.proofs.Common.{◌≡◌, inl, inr, ℕ, ◌<◌, ◌≤◌, max, nat_le, nat_lt, Bool, true, false, ◌&&◌, if◌then◌else◌, List, length, set, refl, sym, ap, ◌∙◌, true≢false, arith}
use Rattle.std.proofs.lemmas.Bool.Decides.{eqb_tells, leb_tells}
use Rattle.std.proofs.lemmas.List.{get_or-set_same, get_or-set_other, get_or_past}
use Rattle.pipe_base.specs.declared.name.HostId.{HostId}
use Rattle.pipe_base.specs.declared.name.NodeId.{NodeId}
use Rattle.pipe_graph.specs.Graph.{Graph}
use Rattle.pipe_control.specs.declared.controller.Controller.{Controller}
use Rattle.pipe_control.specs.Known.{count_of, counts_with, view_of}
use Rattle.pipe_model.specs.View.{with_count, with_done, with_gone}
use Rattle.pipe_topo.specs.Sets.{has}

-- where the greater of two counts was put in place, there is one more
pub raised : (counts : List ℕ) (number count : ℕ) → number < length counts → count_of (set counts number (max (count_of counts number) count)) ≡ with_count number count (count_of counts)
raised counts number count lt = λ i n. at n i
  where
    at : (n : ℕ) → count_of (set counts number (max (count_of counts number) count)) n ≡ with_count number count (count_of counts) n
    at n = elim (eqb_tells n number) [
      | inl same ↦
          ap (λ (m : ℕ). count_of (set counts number (max (count_of counts number) count)) m) same.1
          ∙ get_or-set_same counts number (max (count_of counts number) count) 0 lt ∙ ap (λ (m : ℕ). max (count_of counts m) count) (sym same.1)
          ∙ sym (ap (λ (b : Bool). if b then max (count_of counts n) count else count_of counts n) same.0)
      | inr other ↦
          get_or-set_other counts number n (max (count_of counts number) count) 0 other.1
          ∙ sym (ap (λ (b : Bool). if b then max (count_of counts n) count else count_of counts n) other.0)
    ]

pub counts_more : (may : Bool) (most number count : ℕ) (counts more : List ℕ) → number < length counts → (may && nat_le count most) ≡ true
    → more ≡ set counts number (max (count_of counts number) count) → count_of more ≡ counts_with may most number count (count_of counts)
counts_more may most number count counts more lt counted is =
    ap count_of is ∙ raised counts number count lt ∙ sym (ap (λ (b : Bool). if b then with_count number count (count_of counts) else count_of counts) counted)

pub counts_same : (may : Bool) (most number count : ℕ) (counts : List ℕ) → (may && nat_le count most) ≡ false → count_of counts ≡ counts_with may most number count (count_of counts)
counts_same may most number count counts idle = sym (ap (λ (b : Bool). if b then with_count number count (count_of counts) else count_of counts) idle)

-- the members of a set are below its length
pub within : (xs : List Bool) (n : ℕ) → has xs n ≡ true → n < length xs
within xs n is = elim (leb_tells (length xs) n) [
  | inl past ↦ absurd (true≢false (sym is ∙ get_or_past xs n false past.1))
  | inr inside ↦ inside.1
]

pub done_known : (k : Controller) (done : List ℕ) (host : HostId) (count : ℕ) → count_of done ≡ counts_with (has k.members host.0) (length k.announced) host.0 count (count_of k.done)
    → record (view_of k) { done = count_of done } ≡ with_done host count (view_of k)
done_known k done host count is = ap (λ (d : ℕ → ℕ). record (view_of k) { done = d }) is ∙ pick (has k.members host.0 && nat_le count (length k.announced))
  where
    pick : (b : Bool) → record (view_of k) { done = if b then with_count host.0 count (count_of k.done) else count_of k.done }
        ≡ (if b then record (view_of k) { done = with_count host.0 count (count_of k.done) } else view_of k)
    pick true = refl
    pick false = refl

pub gone_known : (graph : Graph) (k : Controller) (gone : List ℕ) (node : NodeId) (count : ℕ) → length k.gone ≡ graph.nodes
    → count_of gone ≡ counts_with (nat_lt node.0 (length k.gone)) (length k.dropped) node.0 count (count_of k.gone)
    → record (view_of k) { gone = count_of gone } ≡ with_gone graph node count (view_of k)
gone_known graph k gone node count size is =
    ap (λ (d : ℕ → ℕ). record (view_of k) { gone = d }) (is ∙ ap (λ (n : ℕ). counts_with (nat_lt node.0 n) (length k.dropped) node.0 count (count_of k.gone)) size)
    ∙ pick (nat_lt node.0 graph.nodes && nat_le count (length k.dropped))
  where
    pick : (b : Bool) → record (view_of k) { gone = if b then with_count node.0 count (count_of k.gone) else count_of k.gone }
        ≡ (if b then record (view_of k) { gone = with_count node.0 count (count_of k.gone) } else view_of k)
    pick true = refl
    pick false = refl

-- both tests pass
pub both : (may : Bool) (count most : ℕ) → may ≡ true → count ≤ most → (may && nat_le count most) ≡ true
both may count most is le = ap (λ (b : Bool). b && nat_le count most) is ∙ within_most
  where
    within_most : nat_le count most ≡ true
    within_most = elim (leb_tells count most) [
      | inl below ↦ below.0
      | inr above ↦ let lt = above.1 in absurd (omega arith)
    ]
