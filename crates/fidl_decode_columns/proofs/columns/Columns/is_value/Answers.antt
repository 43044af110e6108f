use Rattle.std.proofs.Common.{inl, inr, sym, subst, ◌∙◌, get_or-set_other}
use Rattle.std.specs.Prelude.{Contains, true, false}
use Rattle.std.proofs.lemmas.Bool.{cases_eq}
use Rattle.fidl_table_format.specs.Section.{header_of, entry_at}
use Rattle.fidl_table_format.specs.Terms.{underlying, value_number, values_from}
use Rattle.fidl_decode_columns.proofs.columns.Columns.is_value.Goals as goal

pub returns-clause-noted : goal.returns-clause-noted
returns-clause-noted c =
    let t = c.args.self.now.table.now in
    let d = entry_at t c.args.entry in
    let found = c.has_value-2.ensures.value.0 c.if-not-has_value.false in
    λ n one. elim (cases_eq n c.args.number) [
      | inl same ↦ subst (λ k. Contains (values_from t (header_of t) (underlying d) d.first d.count) (value_number (underlying d) k)) (sym same) found
      | inr other ↦ c.requires.noted n (sym (get_or-set_other c.args.noted.now c.args.number n true false other) ∙ one)
    ]
