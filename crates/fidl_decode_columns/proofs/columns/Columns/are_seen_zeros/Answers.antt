use Rattle.fidl_decode_columns.specs.Columns.{place_of, bits_at}
use Rattle.fidl_decode_columns.proofs.Raw.{member_within_came}
use Rattle.fidl_decode_columns.proofs.Words.{no_bits, within_none}
use Rattle.fidl_decode_columns.proofs.columns.Columns.are_seen_zeros.Goals as goal

pub returns-clause-value : goal.returns-clause-value
returns-clause-value c =
    let m = c.args.self.now.links.now in
    λ yes k lt.
    no_bits m.came (place_of c.args.column k) c.args.width (member_within_came m c.args.column c.args.width c.args.limit k c.requires.room lt) (within_none (bits_at m.came (place_of c.args.column k) c.args.width) (c.are_within.ensures.value yes k lt))
