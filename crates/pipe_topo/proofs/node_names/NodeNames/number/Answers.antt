use Rattle.std.proofs.Common.{position, sym, ap, ◌∙◌}
use Rattle.std.specs.Str.{bytes_eq}
use Rattle.pipe_topo.proofs.NameLaws.{position-map}
use Rattle.pipe_topo.proofs.node_names.NodeNames.number.Goals as goal

pub returns : goal.returns
returns c =
    c.get_index_of.ensures.index ∙ sym (position-map (bytes_eq c.args.name.now) (λ name. name.items) c.self.inside.names.keys)
    ∙ ap (position (bytes_eq c.args.name.now)) c.self.view_is
