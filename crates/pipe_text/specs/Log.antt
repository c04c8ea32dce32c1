-- The lines of a log.
use Rattle.std.specs.Prelude.{ℕ, List, [], ◌∷◌, ◌++◌, codes, decimal}
use Rattle.pipe_base.specs.declared.message.Service.{Service}
use Rattle.pipe_base.specs.declared.message.Service.TheVariants.{BestEffort, Reliable}
use Rattle.pipe_text.specs.Body.{hex_text}

-- the word of a service
abbrev pub service_word : Service → List ℕ
service_word BestEffort = codes "best"
service_word Reliable = codes "reliable"

-- `-` where it is empty
abbrev pub body_text : List ℕ → List ℕ
body_text [] = codes "-"
body_text (byte ∷ bytes) = hex_text (byte ∷ bytes)

-- `log HOST SERVICE COUNT`
abbrev pub log_head : List ℕ → Service → ℕ → List ℕ
log_head host service count = codes "log " ++ host ++ codes " " ++ service_word service ++ codes " " ++ decimal count ++ codes "\n"

-- `TS HOST BODY`, where HOST is the sender
abbrev pub log_line : ℕ → List ℕ → List ℕ → List ℕ
log_line ts host body = decimal ts ++ codes " " ++ host ++ codes " " ++ body_text body ++ codes "\n"
