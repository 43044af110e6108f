use Rattle.std.proofs.Common.{take}
use Rattle.std.specs.List.{AllZip}
use Rattle.fidl_table.specs.Listed.{IsMethodEntry}
use Rattle.fidl_table.proofs.methods.method_entries.Given as goal

-- the methods so far
abbrev pub invariant-loop-method : goal.invariant-loop-method
invariant-loop-method l = AllZip (IsMethodEntry l.named) (take l.method-index l.methods) l.entries.items
