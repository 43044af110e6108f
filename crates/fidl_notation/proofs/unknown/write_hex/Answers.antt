use Rattle.std.proofs.Common.{◌+◌, arith}
use Rattle.std.specs.Prelude.{flat_map}
use Rattle.fidl_wire.specs.Text.{hex_byte}
use Rattle.fidl_streams.proofs.Taking.{so_far_none, so_far_more, so_far_failed, so_far_all, failed_as}
use Rattle.fidl_notation.proofs.RawText.{hex_left, hex_more, hex_end}
use Rattle.fidl_notation.proofs.unknown.write_hex.Goals as goal

pub loop-byte-init : goal.loop-byte-init
loop-byte-init g c = so_far_none _ (flat_map hex_byte c.args.bytes.now)

pub returns-in_err-write_hex_byte : goal.returns-in_err-write_hex_byte
returns-in_err-write_hex_byte g c =
    let bytes = c.args.bytes.now in
    failed_as _ _ _ c.from_residual.result c.from_residual.ensures.0
    (so_far_failed _ _ _ (flat_map hex_byte bytes) (hex_left bytes c.loop-byte.byte-index) _ (hex_left bytes (c.loop-byte.byte-index + 1)) c.loop-byte.invariant c.in_err-write_hex_byte.ensures (hex_more bytes c.loop-byte.byte-index _ c.loop-byte-test.true))

pub loop-byte-preserved : goal.loop-byte-preserved
loop-byte-preserved g c =
    let bytes = c.args.bytes.now in
    so_far_more _ _ _ (flat_map hex_byte bytes) (hex_left bytes c.loop-byte.byte-index) _ (hex_left bytes (c.loop-byte.byte-index + 1)) c.loop-byte.invariant c.in_ok-write_hex_byte.ensures (hex_more bytes c.loop-byte.byte-index _ c.loop-byte-test.true)

pub returns : goal.returns
returns g c =
    let bytes = c.args.bytes.now in
    so_far_all _ _ (flat_map hex_byte bytes) (hex_left bytes c.loop-byte.byte-index) c.loop-byte.invariant (hex_end bytes c.loop-byte.byte-index (omega (arith, c.loop-byte-test.false)))
