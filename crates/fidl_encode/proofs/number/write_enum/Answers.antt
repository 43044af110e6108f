use Rattle.std.proofs.Common.{rules, sym, subst}
use Rattle.fidl_wire.specs.Views.{value_view}
use Rattle.fidl_table_format.specs.Section.{entry_at}
use Rattle.fidl_encode.specs.Writing.{written}
use Rattle.fidl_wire.specs.Figure.{Declarations}
use Rattle.fidl_encode.specs.Parts.{value_part, enum_at, IsRefused}
use Rattle.fidl_encode.proofs.Leaving.{handed_on}
use Rattle.fidl_encode.proofs.Masked.{enum_none, enum_unlisted, enum_written}
use Rattle.fidl_encode.proofs.number.write_enum.Goals as goal

pub returns-in_err-word-clause-fault_is_true : goal.returns-in_err-word-clause-fault_is_true
returns-in_err-word-clause-fault_is_true c =
    let t = c.args.table.now in
    let v = value_view c.args.value.now in
    handed_on c.from_residual.result c.in_err-word.field-0.0 (λ f. (ds : Declarations) → IsRefused (value_part ds (enum_at t c.args.index) v) c.args.target.depth (written c.args.out.now) f) c.from_residual.ensures.1
    (subst (λ f. (ds : Declarations) → IsRefused (value_part ds (enum_at t c.args.index) v) c.args.target.depth (written c.args.out.now) f) (sym c.in_err-word.ensures.fault)
    (λ ds. enum_none ds t v c.entry-entry.result (entry_at t c.args.index) c.entry-entry.ensures.value c.in_err-word.ensures.none))

pub returns-then-is_listed-clause-ok : goal.returns-then-is_listed-clause-ok
returns-then-is_listed-clause-ok c ds =
    enum_written ds c.args.table.now (value_view c.args.value.now) c.entry-entry.result (entry_at c.args.table.now c.args.index) c.entry-entry.ensures.value c.in_ok-word.word c.args.target.depth c.args.target.at
    (written c.args.out.now) (written c.put_underlying.new.out) c.in_ok-word.ensures.value c.in_ok-word.ensures.range (c.is_listed.ensures.0 c.if-is_listed.true) c.in_ok-word.ensures.over c.put_underlying.ensures.same c.put_underlying.ensures.handles c.requires.within

pub returns-else-is_listed-clause-fault_is_true : goal.returns-else-is_listed-clause-fault_is_true
returns-else-is_listed-clause-fault_is_true c ds =
    enum_unlisted ds c.args.table.now (value_view c.args.value.now) c.entry-entry.result (entry_at c.args.table.now c.args.index) c.entry-entry.ensures.value c.in_ok-word.word c.in_ok-word.ensures.value c.in_ok-word.ensures.range
    (λ h. let t = c.is_listed.ensures.1 h in search rules)
