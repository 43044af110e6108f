use Rattle.std.proofs.Common.{◌+◌, refl, arith}
use Rattle.std.specs.Prelude.{codes}
use Rattle.fidl_streams.proofs.Taking.{begin_failed, so_far_begin, so_far_more, so_far_failed, so_far_written, so_far_as, failed_as}
use Rattle.fidl_notation.proofs.Quoting.{quoted, quoted_left, quoted_more, quoted_end}
use Rattle.fidl_notation.proofs.quoted.write_quoted.Goals as goal

pub returns-in_err-write_all : goal.returns-in_err-write_all
returns-in_err-write_all g c = failed_as _ _ _ c.from_residual.result c.from_residual.ensures.0
    (begin_failed _ _ (quoted c.args.text.now) (codes "\"") (quoted_left c.args.text.now 0) c.in_err-write_all.ensures refl)

pub loop-byte-init : goal.loop-byte-init
loop-byte-init g c = so_far_begin _ _ (quoted c.args.text.now) (codes "\"") (quoted_left c.args.text.now 0) c.in_ok-write_all.ensures refl

pub returns-in_err-write_quoted_byte : goal.returns-in_err-write_quoted_byte
returns-in_err-write_quoted_byte g c =
    let text = c.args.text.now in
    failed_as _ _ _ c.from_residual-in_err-write_quoted_byte.result c.from_residual-in_err-write_quoted_byte.ensures.0
    (so_far_failed _ _ _ (quoted text) (quoted_left text c.loop-byte.byte-index) _ (quoted_left text (c.loop-byte.byte-index + 1)) c.loop-byte.invariant c.in_err-write_quoted_byte.ensures (quoted_more text c.loop-byte.byte-index _ c.loop-byte-test.true))

pub loop-byte-preserved : goal.loop-byte-preserved
loop-byte-preserved g c =
    let text = c.args.text.now in
    so_far_more _ _ _ (quoted text) (quoted_left text c.loop-byte.byte-index) _ (quoted_left text (c.loop-byte.byte-index + 1)) c.loop-byte.invariant c.in_ok-write_quoted_byte.ensures (quoted_more text c.loop-byte.byte-index _ c.loop-byte-test.true)

pub returns : goal.returns
returns g c =
    let text = c.args.text.now in
    let done = quoted_end text c.loop-byte.byte-index (omega (arith, c.loop-byte-test.false)) in
    so_far_written _ _ _ (quoted text) (codes "\"") c.write_all-2.result (so_far_as _ _ (quoted text) (quoted_left text c.loop-byte.byte-index) (codes "\"") c.loop-byte.invariant done) c.write_all-2.ensures
