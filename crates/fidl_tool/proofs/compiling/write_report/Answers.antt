use Rattle.std.proofs.Common.{List, ℕ, [], ◌∷◌, ◌++◌}
use Rattle.std.specs.Prelude.{codes, decimal}
use Rattle.fidl_text.specs.Words.{words_line}
use Rattle.fidl_commands.proofs.Told.{at_ok}
use Rattle.fidl_text.proofs.Written.{appends_kept, appends_then}
use Rattle.fidl_tool.specs.Compiling.{shown_name}
use Rattle.fidl_tool.proofs.compiling.write_report.Goals as goal

pub returns-clause-line : goal.returns-clause-line
returns-clause-line g c =
    let place = c.args.place in
    let refusal = c.args.refusal.now in
    let words : List ℕ = words_line (codes ":") (refusal.stage.now ∷ decimal refusal.number ∷ refusal.name.now ∷ []) in
    let named : List ℕ = shown_name place.file.now ++ codes ":" in
    let lined : List ℕ = named ++ decimal place.line ++ codes ":" in
    let name = appends_then _ _ _ (shown_name place.file.now) (codes ":") c.in_ok-write_name.ensures.name c.in_ok-write_all.ensures.bytes in
    let line = appends_then _ _ _ named (decimal place.line) name c.in_ok-write_decimal.ensures.text in
    let colon = appends_then _ _ _ (named ++ decimal place.line) (codes ":") line c.in_ok-write_all-2.ensures.bytes in
    let column = appends_then _ _ _ lined (decimal place.column) colon c.in_ok-write_decimal-2.ensures.text in
    let whole = appends_then _ _ _ (lined ++ decimal place.column) words column c.in_ok-write_words.ensures.text in
    let shown = appends_then _ _ _ (lined ++ decimal place.column ++ words) c.args.shown.now whole c.in_ok-write_all-3.ensures.bytes in
    at_ok c.flush.result (appends_kept _ _ _ _ shown c.flush.ensures.bytes)
