-- Lemmas on the links that are dropped.
use Rattle.std.proofs.Common.{◌≡◌, ℕ, Bool, true, false, ◌&&◌, ◌||◌, not, if◌then◌else◌, List, [], ◌++◌, filter, replicate, Option, None, sym, ap, ◌∙◌}
use Rattle.pipe_base.specs.declared.name.LinkId.{LinkId}
use Rattle.pipe_base.specs.declared.name.Ts.{Ts}
use Rattle.pipe_graph.specs.Graph.{Graph, all_links}
use Rattle.pipe_control.specs.declared.controller.Controller.{Controller}
use Rattle.pipe_control.specs.Known.{count_of, view_of}
use Rattle.pipe_control.proofs.KnownLaws.{one_value}
use Rattle.pipe_model.specs.Decision.{after_drop, all_over, is_dead, newly_dead}
use Rattle.pipe_model.specs.View.{View, is_kept}
use Rattle.pipe_topo.specs.Reports.{report_of}
use Rattle.pipe_topo.specs.Sets.{has}

-- where no host is a reason to wait, the dead links are dropped
pub dead_now : (graph : Graph) (v : View) → all_over graph v ≡ true → newly_dead graph v ≡ filter (λ l. is_dead graph v l.0) (all_links graph)
dead_now graph v over = ap (λ (b : Bool). if b then filter (λ l. is_dead graph v l.0) (all_links graph) else []) over

pub dead_later : (graph : Graph) (v : View) → all_over graph v ≡ false → newly_dead graph v ≡ []
dead_later graph v waits = ap (λ (b : Bool). if b then filter (λ l. is_dead graph v l.0) (all_links graph) else []) waits

abbrev left_after : Graph → View → View
left_after graph v = record v {
  members = is_kept v;
  live = λ l. v.live l && not (is_dead graph v l);
  reports = λ l. None;
  dropped = v.dropped ++ newly_dead graph v;
}

pub drop_later : (graph : Graph) (v : View) → all_over graph v ≡ false → v ≡ after_drop graph v
drop_later graph v waits = sym (ap (λ (b : Bool). if b then left_after graph v else v) waits)

pub drop_known : (graph : Graph) (k next : Controller) (links : ℕ) (dead : List LinkId) → all_over graph (view_of k) ≡ true
    → dead ≡ filter (λ l. is_dead graph (view_of k) l.0) (all_links graph) → has next.members ≡ is_kept (view_of k)
    → has next.live ≡ (λ (l : ℕ). has k.live l && not (is_dead graph (view_of k) l)) → next.reports ≡ replicate links None → next.dropped ≡ k.dropped ++ dead
    → next.doomed ≡ k.doomed → next.announced ≡ k.announced → next.done ≡ k.done → next.gone ≡ k.gone → view_of next ≡ after_drop graph (view_of k)
drop_known graph k next links dead over dead_are members live reports dropped doomed announced done gone =
    left ∙ sym (ap (λ (b : Bool). if b then left_after graph (view_of k) else view_of k) over)
  where
    left : view_of next ≡ left_after graph (view_of k)
    left = λ i. record {
      members = members i;
      live = live i;
      reports = λ n. (ap (λ (xs : List (Option Ts)). report_of xs n) reports ∙ one_value links n None) i;
      doomed = has (doomed i);
      announced = announced i;
      dropped = (dropped ∙ ap (λ (ls : List LinkId). k.dropped ++ ls) (dead_are ∙ sym (dead_now graph (view_of k) over))) i;
      done = count_of (done i);
      gone = count_of (gone i);
    }

-- a live link without report is dead where it is useless
pub dies_useless : (live reported useless answer : Bool) → live ≡ true → reported ≡ false → answer ≡ useless → answer ≡ (live && (reported || useless))
dies_useless live reported useless answer lives unknown is =
    is ∙ sym (ap (λ (b : Bool). b && (reported || useless)) lives ∙ ap (λ (b : Bool). b || useless) unknown)
