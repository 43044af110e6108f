use Rattle.std.proofs.Common.{suc, ◌<◌, arith}
use Rattle.fidl_verify.proofs.Enumerated.{is_range_if, below_64}
use Rattle.fidl_verify.proofs.number.is_enum_range.Goals as goal

pub returns : goal.returns
returns c =
    let more : suc c.args.place < c.args.entry.now.count = omega (arith, c.requires.place, c.if-entry-place.false) in
    is_range_if c.args.table.now.bytes.now c.args.table.now.header c.args.entry.now c.args.place _ c.ends_in_enum-range.result.lowest c.ends_in_enum-range.result.highest c.requires.kind
    c.ends_in_enum-range.ensures.lowest c.ends_in_enum-range.ensures.highest
    c.ends_in_enum-next.result.lowest c.comes_before.result c.ends_in_enum-next.ensures.lowest more (c.is_range.ensures.0 c.if-not-is_range.false) c.comes_before.ensures

pub comes_before-requires : goal.comes_before-requires
comes_before-requires c = below_64 _ _ (c.is_range.ensures.0 c.if-not-is_range.false).1
