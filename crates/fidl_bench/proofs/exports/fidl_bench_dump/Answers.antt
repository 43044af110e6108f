use Rattle.std.proofs.Common.{◌∙◌, length, drop}
use Rattle.fidl_bench.specs.Texts.{contents_of}
use Rattle.fidl_bench.proofs.Writing.{begins_with_copy}
use Rattle.fidl_bench.proofs.exports.fidl_bench_dump.Goals as goal

pub returns-else-written-text-clause-written : goal.returns-else-written-text-clause-written
returns-else-written-text-clause-written c zero =
    begins_with_copy c.args.table.now c.args.root.now c.args.message.now (contents_of c.in-Ok.room) c.copy_from_slice.new.self
    (drop (length c.contents-written.result.now) c.args.text.now)
    (c.copy_from_slice.ensures.after ∙ c.contents-written.ensures) c.in-Ok.ensures.ok
