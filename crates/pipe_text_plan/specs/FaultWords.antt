-- What is printed of a fault.
use Rattle.std.specs.Prelude.{ℕ, List, ◌++◌, codes, decimal}
use Rattle.pipe_topo.specs.declared.fault.TopoFault.{TopoFault}
use Rattle.pipe_topo.specs.declared.fault.TopoFault.TheVariants.{NoHost, TooMany, Level, DoubleCable, Idle, Apart, NoMemory}
use Rattle.pipe_topo.specs.declared.fault.What.{What}
use Rattle.pipe_topo.specs.declared.fault.What.TheVariants as what
use Rattle.pipe_text_plan.specs.declared.fault.KeyName.{KeyName}
use Rattle.pipe_text_plan.specs.declared.fault.KeyName.TheVariants as key
use Rattle.pipe_text_plan.specs.declared.fault.PlanFault.{PlanFault}
use Rattle.pipe_text_plan.specs.declared.fault.PlanFault.TheVariants.{NoMark, Star, NotToml, Extra, Shape, Name, SwitchText, CableText, Topo}

-- the name of a key
abbrev pub key_words : KeyName → List ℕ
key_words key.Hosts = codes "hosts"
key_words key.Switches = codes "switches"
key_words key.Cables = codes "cables"
key_words key.Patience = codes "patience"

-- what a plan has too many of
abbrev pub what_words : What → List ℕ
what_words what.Hosts = codes "hosts"
what_words what.Switches = codes "switches"
what_words what.Cables = codes "cables"

-- the words of a fault of a plan
abbrev pub topo_words : TopoFault → List ℕ
topo_words NoHost = codes "no host"
topo_words (TooMany kind count) = codes "too many " ++ what_words kind ++ codes " " ++ decimal count
topo_words (Level cable) = codes "level of cable " ++ decimal cable
topo_words (DoubleCable cable) = codes "cable " ++ decimal cable ++ codes " twice"
topo_words (Idle switch) = codes "idle switch " ++ decimal switch
topo_words (Apart a b) = codes "apart " ++ decimal a ++ codes " " ++ decimal b
topo_words NoMemory = codes "no memory"

-- the words of a fault of a topology part
abbrev pub fault_words : PlanFault → List ℕ
fault_words NoMark = codes "no mark"
fault_words Star = codes "star"
fault_words NotToml = codes "not toml"
fault_words Extra = codes "unknown key"
fault_words (Shape name) = codes "key " ++ key_words name
fault_words (Name at) = codes "name " ++ decimal at
fault_words (SwitchText at) = codes "switch " ++ decimal at
fault_words (CableText at) = codes "cable " ++ decimal at
fault_words (Topo fault) = topo_words fault
