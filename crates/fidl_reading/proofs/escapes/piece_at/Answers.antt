use Rattle.std.proofs.Common.{arith}
use Rattle.fidl_reading.proofs.Escaping.{no_piece_at, plain_piece}
use Rattle.fidl_reading.proofs.escapes.piece_at.Goals.{then-byte-eq34-via-then-byte-eq34, then-byte-eq34-via-else-byte-eq34+then-byte-eq10, then-byte-eq34-via-else-byte-eq34+else-byte-eq10+then-byte-eq13}
use Rattle.fidl_reading.proofs.escapes.piece_at.Goals as goal

pub returns-then-byte-eq34-clause-none : goal.returns-then-byte-eq34-clause-none
returns-then-byte-eq34-clause-none c =
    no_piece_at c.args.text.now c.args.at c.requires.within c.if-byte-eq92.false
    (λ p. elim c.then-byte-eq34.branch [
      | then-byte-eq34-via-then-byte-eq34 w ↦ p.no_quote w.if-byte-eq34.true
      | then-byte-eq34-via-else-byte-eq34+then-byte-eq10 w ↦ p.no_line_feed w.if-byte-eq10.true
      | then-byte-eq34-via-else-byte-eq34+else-byte-eq10+then-byte-eq13 w ↦ p.no_return w.if-byte-eq13.true
    ])

pub returns-clause-found : goal.returns-clause-found
returns-clause-found c = (
  omega arith,
  omega (arith, c.requires.within),
  plain_piece c.args.text.now c.args.at c.requires.within (record {
    no_quote = c.if-byte-eq34.false;
    no_backslash = c.if-byte-eq92.false;
    no_line_feed = c.if-byte-eq10.false;
    no_return = c.if-byte-eq13.false;
  }),
)
