use Rattle.fidl_table_format.specs.Section.{header_of, entry_at}
use Rattle.fidl_table_format.specs.declared.kind.EntryKind.TheVariants.{Array}
use Rattle.fidl_table_format.specs.Uses.{uses_entry}
use Rattle.fidl_verify.proofs.Known.{test_of}
use Rattle.fidl_verify.proofs.Declared.{element_nests}
use Rattle.fidl_verify.proofs.laws.elements_nest_less.Goals as goal

pub returns : goal.returns
returns c = λ bytes w index p is.
    let e = w.entries index p in
    let child = e.children.elements (test_of uses_entry Array (entry_at bytes index) is) in
    (child, element_nests bytes (header_of bytes) (entry_at bytes index) is child e.nest.nest)
