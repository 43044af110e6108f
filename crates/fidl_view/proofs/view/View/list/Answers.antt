use Rattle.fidl_table_format.specs.Section.{header_of, entry_at}
use Rattle.fidl_table_format.specs.Terms.{declarations_of}
use Rattle.fidl_view.proofs.Viewing as viewing
use Rattle.fidl_view.proofs.Lists as lists
use Rattle.fidl_view.proofs.view.View.list.Goals as goal

pub returns-in_default : goal.returns-in_default
returns-in_default c =
    let d = c.args.self.decoded.now in
    let i = c.args.self.index in
    let w = c.kind.ensures.well_formed in
    record {
      run = tt;
      parts = λ v s. lists.no_list_of (declarations_of d.table) d.table (header_of d.table) (entry_at d.table i) c.kind.result c.in_default.not-Array c.in_default.not-Vector v
          (viewing.lies d w i c.args.self.place c.args.self.in_range c.kind.result c.kind.ensures.of v s).0;
    }
