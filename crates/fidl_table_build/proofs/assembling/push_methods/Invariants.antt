use Rattle.std.proofs.Common.{◌≡◌, ◌++◌, take, flat_map}
use Rattle.fidl_table_build.specs.Starts.{method_numbers}
use Rattle.fidl_table_build.proofs.assembling.push_methods.Given as goal

abbrev pub invariant-loop-method : goal.invariant-loop-method
invariant-loop-method l = l.starts.items ≡ l.fn.starts.items ++ flat_map method_numbers (take l.method-index l.methods)
