use Rattle.std.proofs.Common.{ap}
use Rattle.fidl_wire.specs.Text.{text_of}
use Rattle.fidl_table_format.specs.Terms.{declarations_of}
use Rattle.fidl_view.specs.Elements.{Part}
use Rattle.fidl_view.specs.Shows.{type_of}
use Rattle.fidl_bench.proofs.Writing.{all_written}
use Rattle.fidl_bench.proofs.dumping.dump_once.Goals as goal

pub returns-in-Ok-clause-text : goal.returns-in-Ok-clause-text
returns-in-Ok-clause-text c v e =
    let same = ap (λ (p : Part). text_of (declarations_of p.message.table) (type_of p.message p.index) v) c.view.ensures.whole in
    all_written _ _ _ _ c.clear.ensures (c.in-Ok.ensures.text v (c.view.ensures.shows v e)).contents same
