use Rattle.std.proofs.Common.{◌≡◌, ◌++◌, take, flat_map}
use Rattle.fidl_protocol.specs.Gathered.{method_payloads}
use Rattle.fidl_protocol.proofs.starts.push_methods.Given as goal

abbrev pub invariant-loop-method : goal.invariant-loop-method
invariant-loop-method l = l.starts.items ≡ l.fn.starts.items ++ flat_map method_payloads (take l.method-index l.methods)
