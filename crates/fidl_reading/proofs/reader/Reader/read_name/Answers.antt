use Rattle.std.proofs.Common.{◌≡◌, ◌<◌, ◌≤◌, ◌+◌, List, ℕ, false, nat_eq, ap, sym, subst, ◌∙◌, arith}
use Rattle.std.specs.Cmp.Lexicographic.{pointwise}
use Rattle.fidl_table_format.specs.declared.record.Entry.{Entry}
use Rattle.fidl_table_format.specs.declared.record.Row.{Row}
use Rattle.fidl_table_format.specs.Section.{header_of, entry_at, name_at}
use Rattle.fidl_reading.specs.Cuts.{texts_of}
use Rattle.fidl_reading.proofs.Handing.{handed_so}
use Rattle.fidl_reading.proofs.Entered.{row_lt}
use Rattle.fidl_reading.specs.Keys.{name_of_row}
use Rattle.fidl_reading.proofs.Keyed.{name_no_colon, name_differs}
use Rattle.fidl_reading.proofs.reader.Reader.read_name.Goals as goal

pub overflow_add-entry : goal.overflow_add-entry
overflow_add-entry c =
    let b = c.args.self.now.table.now in
    let less = row_lt b c.entry-entry.ensures.well_formed c.args.index c.requires.index c.requires.of_struct c.args.k c.requires.member in
    let own = subst (λ (e : Entry). e.first + c.args.k < (header_of b).rows) (sym c.entry-entry.ensures.value) less in
    let few = c.rows-rows.type_inv in
    let same = c.rows-rows.ensures.value in
    record { fits = omega (arith, own, few, same) }

pub row-row-requires : goal.row-row-requires
row-row-requires c =
    let b = c.args.self.now.table.now in
    let less = row_lt b c.entry-entry.ensures.well_formed c.args.index c.requires.index c.requires.of_struct c.args.k c.requires.member in
    subst (λ (e : Entry). e.first + c.args.k < (header_of b).rows) (sym c.entry-entry.ensures.value) less

pub misnamed-requires : goal.misnamed-requires
misnamed-requires c =
    let b = c.args.self.now.table.now in
    let less = row_lt b c.entry-entry.ensures.well_formed c.args.index c.requires.index c.requires.of_struct c.args.k c.requires.member in
    subst (λ (e : Entry). e.first + c.args.k ≤ (header_of b).rows) (sym c.entry-entry.ensures.value) (omega (arith, less))

pub returns-in_err-rest-clause-fault_is_true : goal.returns-in_err-rest-clause-fault_is_true
returns-in_err-rest-clause-fault_is_true c =
    handed_so c.from_residual-in_err-rest.result c.in_err-rest.field-0.0 _ c.from_residual-in_err-rest.ensures.1
    (name_no_colon c.args.self.now.table.now ((entry_at c.args.self.now.table.now c.args.index).first + c.args.k) (texts_of c.args.words.now) c.in_ok-word.word.text.now (texts_of c.in_ok-word.behind.now) c.in_ok-word.ensures.ok
    c.in_err-rest.ensures.fault_is_true)

pub returns-clause-fault_is_true : goal.returns-clause-fault_is_true
returns-clause-fault_is_true c =
    let b = c.args.self.now.table.now in
    let own : c.row_name.result.now ≡ name_of_row b ((entry_at b c.args.index).first + c.args.k)
    = c.row_name.ensures ∙ ap (λ (r : Row). name_at b (header_of b) r.name_place r.name_length) c.row-row.ensures.value ∙ ap (λ (e : Entry). name_of_row b (e.first + c.args.k)) c.entry-entry.ensures.value in
    name_differs b ((entry_at b c.args.index).first + c.args.k) (texts_of c.args.words.now) c.in_ok-word.word.text.now (texts_of c.in_ok-word.behind.now) c.in_ok-word.ensures.ok
    (subst (λ (l : List ℕ). pointwise nat_eq l c.in_ok-word.word.text.now ≡ false) own (sym c.eq.ensures ∙ c.if-eq.false))
