use Rattle.std.specs.List.{flat_map}
use Rattle.pipe_topo.specs.Plan.{cable_links, loop_of}
use Rattle.pipe_topo.proofs.LinkLaws.{loops_more}
use Rattle.pipe_topo.proofs.tables.links_of.Goals as goal

pub loop-switch-preserved : goal.loop-switch-preserved
loop-switch-preserved c =
    loops_more (loop_of c.args.hosts) (flat_map (cable_links c.args.hosts c.args.levels.now) c.args.cables.now) c.loop-switch.links.items c.push.new.self.items c.loop_of.result c.loop-switch.switch
    c.loop-switch.invariant c.in_ok-push.ensures.items c.loop_of.ensures
