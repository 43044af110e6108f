use Rattle.std.proofs.Common.{◌≡◌, map, take}
use Rattle.fidl_protocol.specs.Gathered.{name_text, NamesDiffer}
use Rattle.fidl_protocol.proofs.Naming.{texts_of}
use Rattle.fidl_protocol.proofs.names.two_of_one_name.Given as goal

-- the set has the names of the methods so far, which differ
abbrev pub invariant-loop-method : goal.invariant-loop-method
invariant-loop-method l = record {
  names : texts_of l.names.keys ≡ map (name_text l.named) (take l.method-index l.methods);
  differ : NamesDiffer l.named (take l.method-index l.methods);
}
