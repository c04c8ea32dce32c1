use Rattle.std.proofs.Common.{◌+◌, subst, sym, refl, List}
use Rattle.pipe_base.specs.declared.name.LinkId.{LinkId}
use Rattle.pipe_topo.specs.Tables.{IsListed, tail_at}
use Rattle.pipe_graph.specs.Graph.{no_link}
use Rattle.pipe_topo.proofs.TableLaws.{listed_more}
use Rattle.pipe_topo.proofs.tables.outs_table.Goals as goal

pub loop-number-preserved : goal.loop-number-preserved
loop-number-preserved c =
    let inside = c.requires.known c.loop-number.number no_link c.loop-number-test.true in
    subst (λ (table : List (List LinkId)). IsListed (tail_at c.args.links.now) c.args.nodes (c.loop-number.number + 1) table) (sym c.in_ok-add_link.ensures)
    (listed_more (tail_at c.args.links.now) c.args.nodes c.loop-number.number (tail_at c.args.links.now c.loop-number.number) c.loop-number.table.items c.loop-number.invariant inside refl)
