use Rattle.fidl_table_build.specs.declared.listing.Listing.{Listing}
use Rattle.fidl_table.proofs.Shown.{written}
use Rattle.fidl_table.proofs.writing.write_table.Goals as goal

pub returns-clause-shows : goal.returns-clause-shows
returns-clause-shows c =
    let l : Listing = record {
      definitions = c.definitions.result;
      figures = c.figures.result;
      names = c.deref-2.result;
      roots = c.deref-3.result;
      protocols = c.deref-4.result;
    } in
    let ds = c.figure-figure.ensures.0 in
    written c.args.checked.now c.laid-laid.result.now c.types-types.result.now c.named.result.now c.laid-laid.ensures c.types-types.ensures c.named.ensures
    l ds c.in_ok-table.table.items c.in_ok-names.names.items c.in_ok-roots.roots.items c.in_ok-protocols.protocols.items c.protocols.result.now c.forms.result.now
    c.figure-figure.ensures.1 c.definitions.ensures c.in_ok-names.ensures c.forms.ensures c.in_ok-roots.ensures c.protocols.ensures.protocols c.in_ok-protocols.ensures
    c.deref-2.ensures.value c.deref-3.ensures.value c.deref-4.ensures.value c.in_ok-table.ensures.well_formed c.in_ok-table.ensures.assembled
