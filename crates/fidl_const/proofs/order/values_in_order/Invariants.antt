use Rattle.std.proofs.Common.{take}
use Rattle.fidl_consts.specs.Tables.{AreTrue}
use Rattle.fidl_const.specs.Columns.{HasRoom}
use Rattle.fidl_const.proofs.InOrder.{AllHold, AreDone}
use Rattle.fidl_const.proofs.order.values_in_order.Given as goal

-- the table is true and has room, and all is done of those whose numbers have come
abbrev pub invariant-loop-number : goal.invariant-loop-number
invariant-loop-number l = record {
  known : AreTrue l.named l.consts;
  room : HasRoom l.named l.fn.numbers.nodes.items l.consts;
  done : AreDone l.named l.fn.numbers.nodes.items l.consts (take l.number-index l.order);
  holds : AllHold l.named l.fn.numbers.nodes.items (take l.number-index l.order);
}
