use Rattle.std.proofs.Common.{arith}
use Rattle.fidl_table_format.specs.Section.{header_of, entry_at}
use Rattle.fidl_table_format.specs.Entry.{row_key}
use Rattle.fidl_verify.proofs.Ordered.{rising_keys}
use Rattle.fidl_verify.proofs.laws.ordinals_rise.Goals as goal

pub returns : goal.returns
returns c = λ bytes w index p is i j less within.
    let e = entry_at bytes index in
    rising_keys (row_key bytes (header_of bytes) e) e.count (λ k q. ((w.entries index p).sorted.ordinals is k (omega (arith, q))).rises q) i j less within
