use Rattle.std.proofs.Common.{ap, refl}
use Rattle.std.specs.Prelude.{codes}
use Rattle.fidl_wire.specs.Term as ty
use Rattle.fidl_wire.specs.Text.{Text, text_of}
use Rattle.fidl_table_format.specs.Terms.{declarations_of}
use Rattle.fidl_view.specs.Elements.{Part}
use Rattle.fidl_view.specs.Shows.{type_of}
use Rattle.fidl_text.proofs.Written.{appends_as, writes_then, begin_failed, front_as}
use Rattle.fidl_text.proofs.Sinks.{front_of_part}
use Rattle.fidl_text.proofs.message.write_message.Goals as goal

pub returns-in-Ok-clause-text : goal.returns-in-Ok-clause-text
returns-in-Ok-clause-text g c v e =
    let d = c.args.decoded.now in
    let same = ap (λ (p : Part). text_of (declarations_of p.message.table) (type_of p.message p.index) v) c.view.ensures.whole in
    writes_then _ _ _ (Text (declarations_of d.table) (ty.named d.entry) v) (codes "\n") c.end_line.result (appends_as _ _ _ _ same (c.in-Ok.ensures.text v (c.view.ensures.shows v e)).contents) c.end_line.ensures.text

pub returns-in-Err-clause-text : goal.returns-in-Err-clause-text
returns-in-Err-clause-text g c v e =
    let d = c.args.decoded.now in
    let same = ap (λ (p : Part). text_of (declarations_of p.message.table) (type_of p.message p.index) v) c.view.ensures.whole in
    begin_failed _ _ _ (Text (declarations_of d.table) (ty.named d.entry) v) (codes "\n") (front_as _ _ _ _ same (front_of_part _ _ _ (c.in-Err.ensures.text v (c.view.ensures.shows v e)))) refl
