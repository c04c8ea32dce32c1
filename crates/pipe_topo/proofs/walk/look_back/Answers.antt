use Rattle.std.proofs.Common.{◌≡◌, ◌<◌, List, length, take, get_or, subst, ◌∙◌, refl, arith}
use Rattle.std.proofs.lemmas.List.{take_all}
use Rattle.pipe_base.specs.declared.name.LinkId.{LinkId}
use Rattle.pipe_graph.specs.Graph.{link_id, tail_of, ins_of}
use Rattle.pipe_topo.specs.Sets.{has}
use Rattle.pipe_topo.proofs.WalkLaws.{IsLooking, looking_turn, looks_work, ins_end, walk_done}
use Rattle.pipe_topo.proofs.walk.look_back.Goals as goal

pub loop-link-preserved : goal.loop-link-preserved
loop-link-preserved c =
    let links = c.ins-link-items.result.now in
    let l = (get_or links c.loop-link.link-index (link_id 0)).0 in
    let known = c.ins-link-items.ensures.known c.loop-link.link-index (link_id 0) c.loop-link-test.true in
    record {
      looking = λ to walk.
          looking_turn c.args.wiring.now (has c.args.by.now) to c.args.node.0 c.saturating_add-next.result links c.loop-link.link-index l
          c.loop-link.away c.look_along.new.away c.loop-link.queue.items c.look_along.new.queue.items c.requires.graph (c.loop-link.invariant.looking to walk)
          c.loop-link-test.true refl known (ins_end c.args.wiring.now c.args.node.0 links c.ins-link-items.ensures.value c.loop-link.link-index c.loop-link-test.true) c.in_ok-look_along.ensures;
      work =
          let tail = c.requires.graph.tails_in l known in
          let kept = c.loop-link.auto.away in
          let size = c.requires.size in
          let inside : tail_of c.args.wiring.now l < length c.loop-link.away = omega arith in
          let falls = looks_work c.args.wiring.now (has c.args.by.now) l c.saturating_add-next.result c.loop-link.away c.look_along.new.away c.loop-link.queue.items c.look_along.new.queue.items inside c.in_ok-look_along.ensures in
          let before = c.loop-link.invariant.work in
          omega arith;
    }

pub returns-clause-walk : goal.returns-clause-walk
returns-clause-walk c = λ to walk.
    let whole : take c.loop-link.link-index c.ins-link-items.result.now ≡ ins_of c.args.wiring.now c.args.node.0 =
    take_all c.loop-link.link-index c.ins-link-items.result.now c.loop-link-test.false ∙ c.ins-link-items.ensures.value in
    walk_done c.args.wiring.now (has c.args.by.now) to c.args.node.0 c.saturating_add-next.result c.loop-link.away c.loop-link.queue.items
    (subst (λ (links : List LinkId). IsLooking c.args.wiring.now (has c.args.by.now) to c.args.node.0 c.saturating_add-next.result links c.loop-link.away c.loop-link.queue.items) whole
    (c.loop-link.invariant.looking to walk))
