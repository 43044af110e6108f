use Rattle.std.proofs.Common.{[]}
use Rattle.fidl_wire.specs.Term as ty
use Rattle.fidl_wire.specs.Views.{value_view}
use Rattle.fidl_wire.specs.Message.{Encodes}
use Rattle.fidl_table_format.specs.Terms.{declarations_of}
use Rattle.fidl_bench.proofs.encoding.encode_again.Given as goal

abbrev pub invariant-loop : goal.invariant-loop
invariant-loop l = Encodes (declarations_of l.table) (ty.named l.entry) (value_view l.value) l.message []
