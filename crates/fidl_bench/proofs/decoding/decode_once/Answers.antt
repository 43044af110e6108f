use Rattle.std.proofs.Common.{◌∙◌}
use Rattle.fidl_bench.proofs.Writing.{of_copy}
use Rattle.fidl_bench.proofs.decoding.decode_once.Goals as goal

pub returns-in-Ok-decode-clause-ok : goal.returns-in-Ok-decode-clause-ok
returns-in-Ok-decode-clause-ok c =
    of_copy c.args.table.now c.args.entry c.deref_mut.result.now c.args.message.now (c.deref_mut.ensures.value ∙ c.in-Ok.ensures) c.in-Ok-decode.ensures.ok
