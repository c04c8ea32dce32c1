use Rattle.std.proofs.Common.{ℕ, ◌-◌, true, None, length, ap, ◌∙◌}
use Rattle.std.proofs.lemmas.List.{length-replicate}
use Rattle.pipe_control.specs.declared.controller.Controller.{Controller}
use Rattle.pipe_control.proofs.KnownLaws.{first_known}
use Rattle.pipe_control.proofs.controller.Controller.new.Goals as goal

pub returns : goal.returns
returns c =
    let links = c.links-links.result in
    let made : Controller = record {
      alloc = c.args.alloc;
      links = links;
      members = c.first.result;
      live = c.in_ok-all.field-0;
      reports = c.in_ok-none.field-0;
      doomed = c.none-2.result;
      announced = c.empty.result;
      dropped = c.empty-2.result;
      done = c.in_ok-none-2.field-0;
      gone = c.in_ok-none-3.field-0;
    } in
    record {
      fits = record {
        sized = record {
          live = ap length c.in_ok-all.ensures ∙ length-replicate links true;
          reports = ap length c.in_ok-none.ensures ∙ length-replicate links None;
          done = ap length c.in_ok-none-2.ensures ∙ length-replicate {A = ℕ} 64 0;
        };
        all = c.links-links.ensures.value;
        gone = ap length c.in_ok-none-3.ensures ∙ length-replicate {A = ℕ} c.nodes.result 0 ∙ c.nodes.ensures.value;
      };
      known = first_known c.args.topology.now made links c.hosts.result (64 - c.hosts.result) c.nodes.result c.first.ensures c.in_ok-all.ensures c.in_ok-none.ensures c.none-2.ensures c.empty.ensures
          c.empty-2.ensures c.in_ok-none-2.ensures c.in_ok-none-3.ensures c.links-links.ensures.value c.hosts.ensures.value;
    }
