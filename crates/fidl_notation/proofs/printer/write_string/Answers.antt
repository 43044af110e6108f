use Rattle.std.proofs.Common.{sym, ap, ◌∙◌}
use Rattle.std.specs.Option.{option_copied}
use Rattle.fidl_streams.proofs.Taking.{writes_as}
use Rattle.fidl_notation.proofs.Quoting.{quoted}
use Rattle.fidl_notation.proofs.Printing.{string_text, absent_string}
use Rattle.fidl_notation.proofs.printer.write_string.Goals as goal

pub returns-in-Some : goal.returns-in-Some
returns-in-Some g c ds optional bound v p =
    let is = ap option_copied (sym c.in-Some.is) ∙ c.as_str.ensures v p.shown in
    writes_as _ _ _ _ c.write_quoted.result (ap quoted c.as_bytes.ensures.value ∙ sym (string_text ds optional bound v p.typed _ is)) c.write_quoted.ensures

pub returns-in-None : goal.returns-in-None
returns-in-None g c ds optional bound v p =
    let is = ap option_copied (sym c.in-None.is) ∙ c.as_str.ensures v p.shown in
    writes_as _ _ _ _ c.write_all.result (sym (absent_string ds optional bound v p.typed is)) c.write_all.ensures
