use Rattle.fidl_wire.specs.Term as ty
use Rattle.fidl_table_format.specs.Terms.{declarations_of}
use Rattle.fidl_bench.proofs.spelled.read_once.Goals as goal

pub returns-in-Err-clause-err : goal.returns-in-Err-clause-err
returns-in-Err-clause-err c =
    c.failure_of.ensures (declarations_of c.args.table.now) (ty.named c.args.entry) c.args.text.now c.in-Err.ensures.fault_is_true
