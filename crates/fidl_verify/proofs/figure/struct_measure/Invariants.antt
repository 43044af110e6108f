use Rattle.std.proofs.Common.{◌-◌, ◌<◌, ◌^◌}
use Rattle.fidl_verify.proofs.Laying.{Left}
use Rattle.fidl_verify.proofs.figure.struct_measure.Given as goal

abbrev pub invariant-loop-index : goal.invariant-loop-index
invariant-loop-index l = record {
  left : Left l.table.bytes.now l.table.header l.first l.count l.index (l.index-end - l.index) l.end l.alignment l.nest;
  small : l.end < 2 ^ 34;
  narrow : l.nest < 256;
}
