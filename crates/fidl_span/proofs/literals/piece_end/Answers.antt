use Rattle.std.proofs.Common.{arith}
use Rattle.fidl_span.proofs.PieceLaws.{plain_piece}
use Rattle.fidl_span.proofs.literals.piece_end.Goals as goal

pub returns-else-src-at-eq92-clause-found : goal.returns-else-src-at-eq92-clause-found
returns-else-src-at-eq92-clause-found c =
    (omega arith, omega arith, plain_piece c.args.src.now c.args.at c.requires.within c.requires.no_quote c.if-src-at-eq92.false c.requires.no_line_feed)
