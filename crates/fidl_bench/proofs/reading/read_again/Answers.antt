use Rattle.fidl_bench.proofs.reading.read_again.Goals as goal

pub returns-in-Ok-2-clause-err : goal.returns-in-Ok-2-clause-err
returns-in-Ok-2-clause-err g c = c.in-Ok-2.ensures.ok
