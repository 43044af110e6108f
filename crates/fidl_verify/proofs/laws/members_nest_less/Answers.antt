use Rattle.fidl_table_format.specs.Section.{header_of, entry_at}
use Rattle.fidl_table_format.specs.declared.kind.EntryKind.TheVariants.{Struct}
use Rattle.fidl_table_format.specs.Uses.{uses_rows}
use Rattle.fidl_verify.proofs.Known.{test_of}
use Rattle.fidl_verify.proofs.Declared.{member_nests}
use Rattle.fidl_verify.proofs.laws.members_nest_less.Goals as goal

pub returns : goal.returns
returns c = λ bytes w index p is k q.
    let e = w.entries index p in
    let child = e.children.members (test_of uses_rows Struct (entry_at bytes index) is) k q in
    (child, member_nests bytes (header_of bytes) (entry_at bytes index) is e.nest.nest k q child)
