-- No reliable message is late of itself: where one is late, its receiver knows what became of it.
use Rattle.std.specs.Prelude.{◌≡◌, ◌⊎◌, ℕ, true, List, [], ◌∷◌, Some}
use Rattle.pipe_base.specs.declared.message.Key.{Key}
use Rattle.pipe_base.specs.declared.message.Service.TheVariants.{Reliable}
use Rattle.pipe_base.specs.declared.packet.Packet.{Packet}
use Rattle.pipe_base.specs.Failed.{is_void}
use Rattle.pipe_graph.specs.Graph.{Graph}
use Rattle.pipe_base.specs.Messages.{has_key}
use Rattle.pipe_model.specs.declared.record.Record.{Record}
use Rattle.pipe_model.specs.Acting.{is_own, own}
use Rattle.pipe_model.specs.Correct.{IsCorrect}
use Rattle.pipe_model.specs.Fate.{held}
use Rattle.pipe_model.specs.Got.{got, key_of}
use Rattle.pipe_model.specs.Moments.{noted_hosts}
use Rattle.pipe_model.specs.NeverLate.{is_late}
use Rattle.pipe_model.specs.Recalls.{got_recall}

-- the host held the message, was told to take it back, or has noted its sender as failed by then
abbrev pub IsKnown : Graph → ℕ → List Record → Key → Type 0
IsKnown graph host own key =
    (has_key key (held Reliable graph host own) ≡ true) ⊎ ((got_recall graph host key own ≡ true) ⊎ (is_void (noted_hosts own) key ≡ true))

-- a reliable message that comes late in the record was known to its host before
abbrev pub IsLateKnown : Graph → ℕ → List Record → Record → Type 0
IsLateKnown graph host own r = (p : Packet) → got Reliable graph host own r ≡ Some p → is_late r.step.fate ≡ true
    → IsKnown graph host own (key_of p)

-- the records of some history, at the hosts that are correct in another that goes on
abbrev pub AreLateKnown : Graph → List Record → List Record → Type 0
AreLateKnown graph end [] = Unit {0}
AreLateKnown graph end (r ∷ past) =
    AreLateKnown graph end past
    × ((host : ℕ) → IsCorrect graph end host → is_own graph host r ≡ true
    → IsLateKnown graph host (own graph host past) r)

-- No reliable message is late of itself: at a host that stays correct, one that comes late was held before, was taken back, or
-- its sender had failed by then.
abbrev pub IsNoneLateOfItself : Graph → List Record → Type 0
IsNoneLateOfItself graph past = AreLateKnown graph past past
