-- What happens at a sender of reliable scatterings, newest first, and which of them were begun.
use Rattle.std.specs.Prelude.{ℕ, ◌==◌, ◌<◌, Bool, List, [], ◌∷◌, ◌++◌, All}
use Rattle.std.specs.List.{list_any}
use Rattle.pipe_base.specs.declared.control.Announced.{Announced}
use Rattle.pipe_base.specs.declared.name.HostId.{HostId}
use Rattle.pipe_base.specs.declared.name.Ts.{Ts}

-- a group of messages under one timestamp: the receivers, in listed order, and what each is sent
pub record Scattering : Type 0 where
  pub ts : Ts
  pub dests : List (HostId × List ℕ)

pub data SenderCall : Type 0 where
  -- a scattering was begun
  Began : (scattering : Scattering) → SenderCall
  -- a host acknowledged the scattering with this timestamp
  Acked : (ts host : ℕ) → SenderCall
  -- failed hosts were noted: these are all that are noted now
  Noted : (failed : List Announced) → SenderCall
  -- a host told that it took back the scattering with this timestamp
  RecallAcked : (ts host : ℕ) → SenderCall

-- the scatterings that were begun, the oldest first
abbrev pub begun : List SenderCall → List Scattering
begun [] = []
begun (Began s ∷ past) = begun past ++ s ∷ []
begun (_ ∷ past) = begun past

-- a scattering with this timestamp was begun
abbrev pub is_begun : List SenderCall → ℕ → Bool
is_begun calls ts = list_any (λ s. s.ts.0 == ts) (begun calls)

-- a timestamp is above those of all scatterings that were begun
abbrev pub IsAboveBegun : ℕ → List SenderCall → Type 0
IsAboveBegun ts calls = All (λ s. s.ts.0 < ts) (begun calls)

-- each scattering has a timestamp below those of all that follow it
abbrev pub AreRising : List Scattering → Type 0
AreRising [] = Unit {0}
AreRising (s ∷ ss) = All (λ t. s.ts.0 < t.ts.0) ss × AreRising ss
