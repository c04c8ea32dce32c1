-- The text of a switch.
use Rattle.std.specs.Prelude.{ℕ, ◌==◌, if◌then◌else◌, List, Option, None, Some, option_and_then, Result}
use Rattle.pipe_text.specs.Number.{number_of}
use Rattle.pipe_text_plan.specs.declared.fault.PlanFault.{PlanFault}
use Rattle.pipe_text_plan.specs.declared.fault.PlanFault.TheVariants.{SwitchText}
use Rattle.pipe_text_plan.specs.Name.{is_name}
use Rattle.pipe_text_plan.specs.ReadAll.{read_all, faulted}
use Rattle.pipe_text_plan.specs.Texts.{around_space}

-- the highest level
abbrev pub most_level : ℕ
most_level = 15

-- a level from 1 on
abbrev pub level_in : ℕ → Option ℕ
level_in n = if n == 0 then None else Some n

-- the level that a word says
abbrev pub level_of : List ℕ → Option ℕ
level_of word = option_and_then level_in (number_of most_level word)

-- a name with its level, where it has one
abbrev pub with_level : List ℕ → Option ℕ → Option (List ℕ × ℕ)
with_level name None = None
with_level name (Some level) = Some (name, level)

-- a switch of two words
abbrev pub named_level : List ℕ × List ℕ → Option (List ℕ × ℕ)
named_level words = if is_name words.0 then with_level words.0 (level_of words.1) else None

-- a name, one space and a level
abbrev pub switch_of : List ℕ → Option (List ℕ × ℕ)
switch_of text = option_and_then named_level (around_space text)

-- all of them, or the first text that is none
abbrev pub switches_of : List (List ℕ) → Result (List (List ℕ × ℕ)) PlanFault
switches_of texts = faulted (λ at. SwitchText at) (read_all switch_of texts)
