use Rattle.std.proofs.Common.{◌≡◌, ◌<◌, ◌∷◌, ◌++◌, [], length, ℕ, List, not, map, true, false, String, Global, string_bytes, sym, ap, subst, ◌∙◌}
use Rattle.std.specs.List.{list_any}
use Rattle.std.specs.Str.{bytes_eq}
use Rattle.pipe_topo.specs.Names.{AreNames}
use Rattle.pipe_topo.proofs.NameLaws.{list_any-map, name_added, names_more}
use Rattle.pipe_topo.proofs.names.Names.add.Goals as goal

pub returns-then-contains-clause-added : goal.returns-then-contains-clause-added
returns-then-contains-clause-added c =
    let found : list_any (bytes_eq c.args.name.now) c.args.self.now ≡ true =
    ap (list_any (bytes_eq c.args.name.now)) (sym c.self.view_is) ∙ list_any-map (bytes_eq c.args.name.now) string_bytes c.self.inside.names.keys ∙ sym c.if-contains.ensures in
    sym (ap not found)

pub invariant_of-self-2 : goal.invariant_of-self-2
invariant_of-self-2 c =
    let none : list_any (λ (k : String Global). bytes_eq c.args.name.now (string_bytes k)) c.self.inside.names.keys ≡ false = sym c.if-contains.ensures in
    let before : list_any (bytes_eq c.args.name.now) (map string_bytes c.self.inside.names.keys) ≡ false = list_any-map (bytes_eq c.args.name.now) string_bytes c.self.inside.names.keys ∙ none in
    subst AreNames (sym (name_added string_bytes c.self.inside.names.keys c.insert.new.self.keys c.in_ok-name.name c.args.name.now c.in_ok-name.ensures.ok none c.in_ok-insert.ensures.keys))
    (names_more (map string_bytes c.self.inside.names.keys) c.args.name.now c.self.invariant before (subst (λ (ns : List (List ℕ)). length ns < 65535) (sym c.self.view_is) c.requires))

pub returns-clause-added : goal.returns-clause-added
returns-clause-added c =
    let none : list_any (bytes_eq c.args.name.now) c.args.self.now ≡ false =
    ap (list_any (bytes_eq c.args.name.now)) (sym c.self.view_is) ∙ list_any-map (bytes_eq c.args.name.now) string_bytes c.self.inside.names.keys ∙ sym c.if-contains.ensures in
    sym (ap not none)

pub returns-clause-names : goal.returns-clause-names
returns-clause-names c =
    let none : list_any (λ (k : String Global). bytes_eq c.args.name.now (string_bytes k)) c.self.inside.names.keys ≡ false = sym c.if-contains.ensures in
    name_added string_bytes c.self.inside.names.keys c.insert.new.self.keys c.in_ok-name.name c.args.name.now c.in_ok-name.ensures.ok none c.in_ok-insert.ensures.keys
    ∙ ap (λ (ns : List (List ℕ)). ns ++ c.args.name.now ∷ []) c.self.view_is
