-- Items that copies share.
use Rattle.std.specs.Prelude.{List, [], Option, None, Some}
use Rattle.std.specs.declared.alloc.Global.{Global}
use Rattle.std.specs.declared.rc.RcSlice.{RcSlice}
use Rattle.std.specs.Rc.{rc_slice_items}

-- what a shared block holds; no block holds nothing
abbrev pub shared_items : {A : Type 0} → Option (RcSlice A Global) → List A
shared_items None = []
shared_items (Some block) = rc_slice_items block
