-- What a list of drops does to the in-links of a node, one entry after the other. It takes the in-links, since what an entry does
-- may depend on the barriers of the node at that moment.
use Rattle.std.specs.Prelude.{List, [], ◌∷◌}
use Rattle.pipe_base.specs.declared.name.LinkId.{LinkId}
use Rattle.pipe_base.specs.Moment.{Moment, Dropped}

-- the moments with that of one more entry, at a node with these in-links: the link is dropped
abbrev pub after_entry : List LinkId → LinkId → List Moment → List Moment
after_entry ins entry past = Dropped entry.0 ∷ past

-- all entries in listed order
abbrev pub with_entries : List LinkId → List LinkId → List Moment → List Moment
with_entries ins [] past = past
with_entries ins (entry ∷ entries) past = with_entries ins entries (after_entry ins entry past)
