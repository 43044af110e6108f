use Rattle.std.specs.Prelude.{codes, flat_map, false, if◌then◌else◌}
use Rattle.fidl_wire.specs.Text.{hex_byte, handles_text}
use Rattle.fidl_streams.proofs.Taking.{takes_then, writes_then, failed_then, more_left, failed_as}
use Rattle.fidl_notation.proofs.unknown.write_unknown.Goals as goal

pub returns-in_err-write_decimal : goal.returns-in_err-write_decimal
returns-in_err-write_decimal g c ds rows = failed_as _ _ _ c.from_residual.result c.from_residual.ensures.0
    (more_left _ _ _ (codes "]") (more_left _ _ _ (handles_text false c.args.member.handles.now)
    (more_left _ _ _ (codes " [") (more_left _ _ _ (flat_map hex_byte c.args.member.bytes.now)
    (more_left _ _ _ (if c.args.member.inline then codes "in " else codes "out ")
    (more_left _ _ _ (codes ": unknown ") c.in_err-write_decimal.ensures))))))

pub returns-in_err-write_all : goal.returns-in_err-write_all
returns-in_err-write_all g c ds rows = failed_as _ _ _ c.from_residual-in_err-write_all.result c.from_residual-in_err-write_all.ensures.0
    (more_left _ _ _ (codes "]") (more_left _ _ _ (handles_text false c.args.member.handles.now)
    (more_left _ _ _ (codes " [") (more_left _ _ _ (flat_map hex_byte c.args.member.bytes.now)
    (more_left _ _ _ (if c.args.member.inline then codes "in " else codes "out ")
    (failed_then _ _ _ _ _ c.in_ok-write_decimal.ensures c.in_err-write_all.ensures))))))

pub returns-in_err-write_inline : goal.returns-in_err-write_inline
returns-in_err-write_inline g c ds rows = failed_as _ _ _ c.from_residual-in_err-write_inline.result c.from_residual-in_err-write_inline.ensures.0
    (more_left _ _ _ (codes "]") (more_left _ _ _ (handles_text false c.args.member.handles.now)
    (more_left _ _ _ (codes " [") (more_left _ _ _ (flat_map hex_byte c.args.member.bytes.now)
    (failed_then _ _ _ _ _ (takes_then _ _ _ _ _ c.in_ok-write_decimal.ensures c.in_ok-write_all.ensures) c.in_err-write_inline.ensures)))))

pub returns-in_err-write_hex : goal.returns-in_err-write_hex
returns-in_err-write_hex g c ds rows = failed_as _ _ _ c.from_residual-in_err-write_hex.result c.from_residual-in_err-write_hex.ensures.0
    (more_left _ _ _ (codes "]") (more_left _ _ _ (handles_text false c.args.member.handles.now)
    (more_left _ _ _ (codes " [") (failed_then _ _ _ _ _ (takes_then _ _ _ _ _
    (takes_then _ _ _ _ _ c.in_ok-write_decimal.ensures c.in_ok-write_all.ensures) c.in_ok-write_inline.ensures) c.in_err-write_hex.ensures))))

pub returns-in_err-write_all-2 : goal.returns-in_err-write_all-2
returns-in_err-write_all-2 g c ds rows = failed_as _ _ _ c.from_residual-in_err-write_all-2.result c.from_residual-in_err-write_all-2.ensures.0
    (more_left _ _ _ (codes "]") (more_left _ _ _ (handles_text false c.args.member.handles.now)
    (failed_then _ _ _ _ _ (takes_then _ _ _ _ _ (takes_then _ _ _ _ _ (takes_then _ _ _ _ _ c.in_ok-write_decimal.ensures
    c.in_ok-write_all.ensures) c.in_ok-write_inline.ensures) c.in_ok-write_hex.ensures) c.in_err-write_all-2.ensures)))

pub returns-in_err-write_handles : goal.returns-in_err-write_handles
returns-in_err-write_handles g c ds rows = failed_as _ _ _ c.from_residual-in_err-write_handles.result c.from_residual-in_err-write_handles.ensures.0
    (more_left _ _ _ (codes "]") (failed_then _ _ _ _ _ (takes_then _ _ _ _ _
    (takes_then _ _ _ _ _ (takes_then _ _ _ _ _ (takes_then _ _ _ _ _ c.in_ok-write_decimal.ensures c.in_ok-write_all.ensures)
    c.in_ok-write_inline.ensures) c.in_ok-write_hex.ensures) c.in_ok-write_all-2.ensures) c.in_err-write_handles.ensures))

pub returns : goal.returns
returns g c ds rows = writes_then _ _ _ _ _ c.write_all-3.result (takes_then _ _ _ _ _
    (takes_then _ _ _ _ _ (takes_then _ _ _ _ _ (takes_then _ _ _ _ _ (takes_then _ _ _ _ _ c.in_ok-write_decimal.ensures c.in_ok-write_all.ensures)
    c.in_ok-write_inline.ensures) c.in_ok-write_hex.ensures) c.in_ok-write_all-2.ensures) c.in_ok-write_handles.ensures) c.write_all-3.ensures
