-- Any two hosts that take part reach each other by links that count.
use Rattle.std.specs.Prelude.{◌≡◌, ℕ, true, List}
use Rattle.pipe_graph.specs.Graph.{Graph}
use Rattle.pipe_graph.specs.Reach.{reaches}
use Rattle.pipe_model.specs.declared.record.Record.{Record}
use Rattle.pipe_model.specs.Controller.{is_live, is_member}

abbrev pub AreMembersJoined : Graph → List Record → Type 0
AreMembersJoined graph past = (a b : ℕ) → is_member graph past a ≡ true → is_member graph past b ≡ true
    → reaches graph (is_live graph past) a b ≡ true
