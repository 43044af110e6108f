use Rattle.fidl_verify.proofs.Stated.{array_figure}
use Rattle.fidl_verify.proofs.figure.array_measure.Goals as goal

pub returns : goal.returns
returns c = array_figure c.args.table.now.bytes.now c.args.table.now.header c.args.element c.args.count c.entry-element.result c.from.result c.from-2.result c.from-3.result
    c.requires c.entry-element.ensures c.from.ensures c.from-2.ensures c.from-3.ensures
