use Rattle.fidl_table_format.specs.Section.{header_of, entry_at}
use Rattle.fidl_table_format.specs.Terms.{declarations_of}
use Rattle.fidl_view.proofs.Viewing as viewing
use Rattle.fidl_view.proofs.Content as content
use Rattle.fidl_view.proofs.view.View.as_str.Goals as goal

pub returns-in_default : goal.returns-in_default
returns-in_default c v s =
    let d = c.args.self.decoded.now in
    let i = c.args.self.index in
    let p = c.args.self.place in
    content.no_string (declarations_of d.table) d.table (header_of d.table) (entry_at d.table i) c.kind.result c.in_default.not-String v
    (viewing.lies d c.kind.ensures.well_formed i p c.args.self.in_range c.kind.result c.kind.ensures.of v s).0
