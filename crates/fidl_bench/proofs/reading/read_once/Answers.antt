use Rattle.std.proofs.Common.{◌∙◌}
use Rattle.fidl_bench.proofs.Writing.{of_copy}
use Rattle.fidl_bench.proofs.reading.read_once.Goals as goal

pub returns-in_default-found-clause-err : goal.returns-in_default-found-clause-err
returns-in_default-found-clause-err g c =
    of_copy c.args.table.now c.args.entry c.deref_mut.result.now c.args.message.now (c.deref_mut.ensures.value ∙ c.in-Ok.ensures) c.in-Ok-decode.ensures.ok

pub returns-in-Some-sum-clause-ok : goal.returns-in-Some-sum-clause-ok
returns-in-Some-sum-clause-ok g c =
    of_copy c.args.table.now c.args.entry c.deref_mut.result.now c.args.message.now (c.deref_mut.ensures.value ∙ c.in-Ok.ensures) c.in-Ok-decode.ensures.ok

pub returns-in-None-clause-err : goal.returns-in-None-clause-err
returns-in-None-clause-err g c =
    of_copy c.args.table.now c.args.entry c.deref_mut.result.now c.args.message.now (c.deref_mut.ensures.value ∙ c.in-Ok.ensures) c.in-Ok-decode.ensures.ok
