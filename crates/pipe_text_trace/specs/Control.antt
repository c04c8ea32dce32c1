-- The words of a control message.
use Rattle.std.specs.Prelude.{ℕ, List, [], ◌∷◌, ◌++◌, length, map, codes, decimal}
use Rattle.pipe_base.specs.declared.control.Addressed.{Addressed}
use Rattle.pipe_base.specs.declared.control.Announced.{Announced}
use Rattle.pipe_base.specs.declared.control.Control.{Control}
use Rattle.pipe_base.specs.declared.control.Control.TheVariants.{Down, Freeze, Notice, Done, DropLinks, Gone}
use Rattle.pipe_base.specs.declared.control.To.{To}
use Rattle.pipe_base.specs.declared.control.To.TheVariants.{Controller, Node}
use Rattle.pipe_base.specs.declared.name.LinkId.{LinkId}
use Rattle.pipe_text.specs.Name.{name_of}

-- `HOST:TIME`
abbrev pub announced_word : List (List ℕ) → Announced → List ℕ
announced_word names announced = name_of names announced.host.0 ++ codes ":" ++ decimal announced.time.0

-- the number of a link
abbrev pub link_word : LinkId → List ℕ
link_word link = decimal link.0

-- what is told
abbrev pub control_words : List (List ℕ) → Control → List (List ℕ)
control_words names (Down link value) = codes "down" ∷ link_word link ∷ decimal value.0 ∷ []
control_words names (Freeze link) = codes "freeze" ∷ link_word link ∷ []
control_words names (Notice announced) = codes "notice" ∷ decimal (length announced) ∷ map (announced_word names) announced
control_words names (Done host count) = codes "done" ∷ name_of names host.0 ∷ decimal count ∷ []
control_words names (DropLinks links) = codes "drop" ∷ decimal (length links) ∷ map link_word links
control_words names (Gone node count) = codes "gone" ∷ name_of names node.0 ∷ decimal count ∷ []

-- who is told
abbrev pub receiver_word : List (List ℕ) → To → List ℕ
receiver_word names Controller = codes "controller"
receiver_word names (Node node) = name_of names node.0

-- a control message with its receiver
abbrev pub addressed_words : List (List ℕ) → Addressed → List (List ℕ)
addressed_words names addressed = codes "to" ∷ receiver_word names addressed.to ∷ control_words names addressed.control
