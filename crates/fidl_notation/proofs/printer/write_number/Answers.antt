use Rattle.std.proofs.Common.{ℤ, ap, ◌∙◌}
use Rattle.std.specs.Int.{w64}
use Rattle.std.specs.Fmt.{signed_decimal}
use Rattle.std.proofs.lemmas.Int.{to_z-of_z}
use Rattle.std.proofs.Math.Logic.{∥∥₁_elim}
use Rattle.fidl_view.proofs.Truncated.{is_some_prop}
use Rattle.fidl_streams.proofs.Taking.{writes_as}
use Rattle.fidl_view.proofs.Numbered.{wants_signed}
use Rattle.fidl_notation.proofs.Numbers.{unsigned_text, signed_text}
use Rattle.fidl_notation.proofs.printer.write_number.Goals as goal

pub unwrap-number-requires : goal.unwrap-number-requires
unwrap-number-requires g c = ∥∥₁_elim c.requires.part (is_some_prop _) (λ q.
    let p = q.3.1 in
    let v = q.3.0 in
    wants_signed c.args.view.decoded.now.table c.requires.well_formed c.args.view.index c.args.view.in_range q.0 q.1 q.2 v p.typed p.shown.typed
    c.as_u64.result c.as_i64.result (c.as_u64.ensures v p.shown) c.in-None.is (c.as_i64.ensures v p.shown))

pub returns-in-Some : goal.returns-in-Some
returns-in-Some g c ds t is v p =
    unsigned_text c.args.view.decoded.now.table c.requires.well_formed c.args.view.index c.args.view.in_range ds t is v p.typed p.shown.typed
    c.as_u64.result c.in-Some.number (c.as_u64.ensures v p.shown) c.in-Some.is _ _ c.write_all.result (writes_as _ _ _ _ c.write_all.result (c.as_bytes.ensures.value ∙ c.format.ensures.text) c.write_all.ensures)

pub returns-in-None : goal.returns-in-None
returns-in-None g c ds t is v p =
    let old = g.W.Sink.taken c.args.out.now in
    let new = g.W.Sink.taken c.write_all-in-None.new.out in
    let same = to_z-of_z w64 c.unwrap-number.result (record { sfits = c.unwrap-number.type_inv }) in
    signed_text c.args.view.decoded.now.table c.requires.well_formed c.args.view.index c.args.view.in_range ds t is v p.typed p.shown.typed
    c.as_u64.result c.as_i64.result c.unwrap-number.result (c.as_u64.ensures v p.shown) c.in-None.is (c.as_i64.ensures v p.shown) c.unwrap-number.ensures old new c.write_all-in-None.result
    (writes_as old new _ _ c.write_all-in-None.result (c.as_bytes-in-None.ensures.value ∙ c.format-in-None.ensures.text ∙ ap (λ (z : ℤ). signed_decimal z) same) c.write_all-in-None.ensures)
