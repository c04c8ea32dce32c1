use Rattle.std.proofs.Common.{◌≡◌, ◌∷◌, ◌++◌, [], ℕ, List, false, Vec, Global, string_bytes, sym, ap, ◌∙◌}
use Rattle.std.specs.List.{list_any}
use Rattle.std.specs.Str.{bytes_eq}
use Rattle.pipe_topo.proofs.NameLaws.{list_any-map, name_added}
use Rattle.pipe_topo.proofs.node_names.NodeNames.add.Goals as goal

pub returns : goal.returns
returns c =
    let seen : Vec ℕ Global → List ℕ = λ key. key.items in
    let none : list_any (λ key. bytes_eq (string_bytes c.args.name) (seen key)) c.self.inside.names.keys ≡ false =
    sym (list_any-map (bytes_eq (string_bytes c.args.name)) seen c.self.inside.names.keys)
    ∙ ap (list_any (bytes_eq (string_bytes c.args.name))) c.self.view_is ∙ c.requires.new in
    name_added seen c.self.inside.names.keys c.insert.new.self.keys c.into_bytes.result (string_bytes c.args.name) (ap seen c.into_bytes.ensures.value) none c.in_ok-insert.ensures.keys
    ∙ ap (λ (ns : List (List ℕ)). ns ++ string_bytes c.args.name ∷ []) c.self.view_is
