use Rattle.std.proofs.Common.{◌≡◌, List, [], ◌++◌, length, ap, sym, ◌∙◌, eqb-true}
use Rattle.std.proofs.lemmas.List.{nil_from_length}
use Rattle.pipe_base.specs.declared.name.LinkId.{LinkId}
use Rattle.pipe_model.specs.Moments.{known_drops}
use Rattle.pipe_links.proofs.WayLaws.{ways_grow, ways_stay}
use Rattle.pipe_links.proofs.links.Links.ways_with.Goals as goal

pub returns-then-is_empty : goal.returns-then-is_empty
returns-then-is_empty c = λ node own stands.
    let drops = c.args.drops.now in
    let none : drops ≡ [] = nil_from_length drops (eqb-true (length drops) 0 (sym c.is_empty.ensures ∙ c.if-is_empty.true)) in
    ways_stay c.args.topology.now node (known_drops own) drops c.args.self.now.ways none stands.ways_are

pub returns : goal.returns
returns c = λ node own stands.
    ways_grow c.args.topology.now c.args.self.now.node.0 node c.args.self.now.ways.known (known_drops own) c.args.drops.now c.in_ok-known.known c.in_ok-new.field-0 stands.node_is
    (c.in_ok-known.ensures ∙ ap (λ (ls : List LinkId). c.args.self.now.ways.known ++ ls) c.as_slice.ensures) stands.ways_are.known_are c.in_ok-new.ensures
