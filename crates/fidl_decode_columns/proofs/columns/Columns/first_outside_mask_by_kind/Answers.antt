use Rattle.std.proofs.Common.{sym, subst}
use Rattle.fidl_wire.specs.Term.{Kind}
use Rattle.fidl_wire.specs.Typed.{InMask}
use Rattle.fidl_table_format.specs.Number.{number_standing}
use Rattle.fidl_decode_columns.specs.Columns.{place_of, IsFirstNot}
use Rattle.fidl_decode_columns.proofs.Numbers.{as_uint8}
use Rattle.fidl_decode_columns.proofs.columns.Columns.first_outside_mask_by_kind.Goals as goal

pub returns-in_default : goal.returns-in_default
returns-in_default c =
    let same = as_uint8 c.args.kind c.requires.kind c.in_default.not-Uint16 c.in_default.not-Uint32 c.in_default.not-Uint64 in
    subst (λ (u : Kind). IsFirstNot (λ k. InMask c.args.mask (number_standing u c.args.self.now.links.now.came (place_of c.args.column k))) c.args.limit c.first_outside_mask-in_default.result) (sym same) c.first_outside_mask-in_default.ensures
