use Rattle.std.proofs.Common.{arith}
use Rattle.fidl_table_format.specs.Section.{header_of, entry_at}
use Rattle.fidl_table_format.specs.Entry.{lowest_value, highest_value}
use Rattle.fidl_verify.proofs.Enumerated.{rising}
use Rattle.fidl_verify.proofs.laws.enum_ranges_rise.Goals as goal

pub returns : goal.returns
returns c = λ bytes w index p is i j less within.
    let h = header_of bytes in
    let e = entry_at bytes index in
    let ranges = (w.entries index p).sorted.values is in
    rising (lowest_value bytes h e) (highest_value bytes h e) e.count (λ k q. (ranges k q).order) (λ k q. (ranges k (omega (arith, q))).rises q) i j less within
