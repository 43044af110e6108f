use Rattle.std.specs.Prelude.{codes, decimal}
use Rattle.fidl_streams.proofs.Taking.{takes_then, writes_then, failed_then, more_left, failed_as}
use Rattle.fidl_notation.proofs.quoted.write_handle.Goals as goal

pub returns-in_err-write_all : goal.returns-in_err-write_all
returns-in_err-write_all g c = failed_as _ _ _ c.from_residual.result c.from_residual.ensures.0
    (more_left _ _ _ (codes ")") (more_left _ _ _ (decimal c.args.handle.rights) (more_left _ _ _ (codes ", ") (more_left _ _ _ (decimal c.args.handle.object_type) (more_left _ _ _ (codes ", ") (more_left _ _ _ (decimal c.args.handle.id) c.in_err-write_all.ensures))))))

pub returns-in_err-write_decimal : goal.returns-in_err-write_decimal
returns-in_err-write_decimal g c = failed_as _ _ _ c.from_residual-in_err-write_decimal.result c.from_residual-in_err-write_decimal.ensures.0
    (more_left _ _ _ (codes ")") (more_left _ _ _ (decimal c.args.handle.rights) (more_left _ _ _ (codes ", ") (more_left _ _ _ (decimal c.args.handle.object_type) (more_left _ _ _ (codes ", ") (failed_then _ _ _ _ _ c.in_ok-write_all.ensures c.in_err-write_decimal.ensures))))))

pub returns-in_err-write_all-2 : goal.returns-in_err-write_all-2
returns-in_err-write_all-2 g c = failed_as _ _ _ c.from_residual-in_err-write_all-2.result c.from_residual-in_err-write_all-2.ensures.0
    (more_left _ _ _ (codes ")") (more_left _ _ _ (decimal c.args.handle.rights) (more_left _ _ _ (codes ", ") (more_left _ _ _ (decimal c.args.handle.object_type) (failed_then _ _ _ _ _ (takes_then _ _ _ _ _ c.in_ok-write_all.ensures c.in_ok-write_decimal.ensures) c.in_err-write_all-2.ensures)))))

pub returns-in_err-write_decimal-2 : goal.returns-in_err-write_decimal-2
returns-in_err-write_decimal-2 g c = failed_as _ _ _ c.from_residual-in_err-write_decimal-2.result c.from_residual-in_err-write_decimal-2.ensures.0
    (more_left _ _ _ (codes ")") (more_left _ _ _ (decimal c.args.handle.rights) (more_left _ _ _ (codes ", ") (failed_then _ _ _ _ _ (takes_then _ _ _ _ _ (takes_then _ _ _ _ _ c.in_ok-write_all.ensures c.in_ok-write_decimal.ensures) c.in_ok-write_all-2.ensures) c.in_err-write_decimal-2.ensures))))

pub returns-in_err-write_all-3 : goal.returns-in_err-write_all-3
returns-in_err-write_all-3 g c = failed_as _ _ _ c.from_residual-in_err-write_all-3.result c.from_residual-in_err-write_all-3.ensures.0
    (more_left _ _ _ (codes ")") (more_left _ _ _ (decimal c.args.handle.rights)
    (failed_then _ _ _ _ _ (takes_then _ _ _ _ _ (takes_then _ _ _ _ _ (takes_then _ _ _ _ _ c.in_ok-write_all.ensures
    c.in_ok-write_decimal.ensures) c.in_ok-write_all-2.ensures) c.in_ok-write_decimal-2.ensures) c.in_err-write_all-3.ensures)))

pub returns-in_err-write_decimal-3 : goal.returns-in_err-write_decimal-3
returns-in_err-write_decimal-3 g c = failed_as _ _ _ c.from_residual-in_err-write_decimal-3.result c.from_residual-in_err-write_decimal-3.ensures.0
    (more_left _ _ _ (codes ")") (failed_then _ _ _ _ _ (takes_then _ _ _ _ _
    (takes_then _ _ _ _ _ (takes_then _ _ _ _ _ (takes_then _ _ _ _ _ c.in_ok-write_all.ensures c.in_ok-write_decimal.ensures)
    c.in_ok-write_all-2.ensures) c.in_ok-write_decimal-2.ensures) c.in_ok-write_all-3.ensures) c.in_err-write_decimal-3.ensures))

pub returns : goal.returns
returns g c = writes_then _ _ _ _ _ c.write_all-4.result (takes_then _ _ _ _ _
    (takes_then _ _ _ _ _ (takes_then _ _ _ _ _ (takes_then _ _ _ _ _ (takes_then _ _ _ _ _ c.in_ok-write_all.ensures c.in_ok-write_decimal.ensures)
    c.in_ok-write_all-2.ensures) c.in_ok-write_decimal-2.ensures) c.in_ok-write_all-3.ensures) c.in_ok-write_decimal-3.ensures) c.write_all-4.ensures
