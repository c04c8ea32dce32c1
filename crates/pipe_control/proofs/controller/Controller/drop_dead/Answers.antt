use Rattle.std.proofs.Common.{ℕ, Bool, None, length, refl, sym, ap, ◌∙◌}
use Rattle.std.proofs.lemmas.List.{length-replicate}
use Rattle.pipe_graph.specs.Useless.{is_useless}
use Rattle.pipe_control.specs.declared.controller.Controller.{Controller}
use Rattle.pipe_control.specs.Known.{view_of}
use Rattle.pipe_control.proofs.DeadLaws.{drop_known}
use Rattle.pipe_model.specs.View.{intact}
use Rattle.pipe_control.proofs.controller.Controller.drop_dead.Goals as goal

pub dead_links-requires-clause-value : goal.dead_links-requires-clause-value
dead_links-requires-clause-value c =
    c.in_ok-useless.ensures.value ∙ ap (λ (kept : ℕ → Bool). is_useless c.args.topology.now (intact (view_of c.args.self.now)) kept) c.kept-kept.ensures

pub links_left-requires-clause-value : goal.links_left-requires-clause-value
links_left-requires-clause-value c =
    c.in_ok-useless.ensures.value ∙ ap (λ (kept : ℕ → Bool). is_useless c.args.topology.now (intact (view_of c.args.self.now)) kept) c.kept-kept.ensures

pub returns-clause-known : goal.returns-clause-known
returns-clause-known c =
    let k = c.args.self.now in
    let next : Controller = record k {
      members = c.kept-kept.result;
      live = c.in_ok-live.live;
      reports = c.in_ok-reports.reports;
      dropped = c.in_ok-dropped.dropped;
    } in
    record {
      fits = record {
        sized = record {
          live = c.in_ok-live.ensures.size ∙ sym c.requires.all;
          reports = ap length c.in_ok-reports.ensures ∙ length-replicate c.links.result None ∙ c.links.ensures.value ∙ sym c.requires.all;
          done = c.requires.sized.done;
        };
        all = c.requires.all;
        gone = c.requires.gone;
      };
      known = drop_known c.args.topology.now k next c.links.result c.in_ok-dead.dead (sym c.all_over.ensures ∙ c.if-not-all_over.false) c.in_ok-dead.ensures c.kept-kept.ensures
          c.in_ok-live.ensures.value c.in_ok-reports.ensures c.in_ok-dropped.ensures refl refl refl refl;
    }
