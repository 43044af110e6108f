use Rattle.std.proofs.Common.{sym, ◌∙◌}
use Rattle.fidl_streams.proofs.Taking.{writes_as}
use Rattle.fidl_notation.proofs.Printing.{handle_there, absent_handle}
use Rattle.fidl_notation.proofs.printer.write_handle_or_absent.Goals as goal

pub returns-in-Some : goal.returns-in-Some
returns-in-Some g c ds optional subtype rights v p =
    let is = sym c.in-Some.is ∙ c.handle.ensures v p.shown in
    writes_as _ _ _ _ c.write_handle.result (sym (handle_there ds optional subtype rights v p.typed _ is)) c.write_handle.ensures

pub returns-in-None : goal.returns-in-None
returns-in-None g c ds optional subtype rights v p =
    let is = sym c.in-None.is ∙ c.handle.ensures v p.shown in
    writes_as _ _ _ _ c.write_all.result (sym (absent_handle ds optional subtype rights v p.typed is)) c.write_all.ensures
