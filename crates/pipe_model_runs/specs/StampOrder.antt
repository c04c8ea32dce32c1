-- The stamps of a node rise.
use Rattle.std.specs.Prelude.{ℕ, ◌<◌, List, [], ◌∷◌, All, IfSome}
use Rattle.pipe_model.specs.declared.record.Record.{Record}

-- the stamp is above all that were given before, of either service
abbrev pub IsAboveStamps : ℕ → List Record → Type 0
IsAboveStamps stamp own = All (λ r. IfSome r.step.stamped (λ ts. ts.0 < stamp)) own

-- each stamp of a node is above all that it gave before
abbrev pub DoStampsRise : List Record → Type 0
DoStampsRise [] = Unit {0}
DoStampsRise (r ∷ own) = DoStampsRise own × IfSome r.step.stamped (λ ts. IsAboveStamps ts.0 own)
