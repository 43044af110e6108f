use Rattle.std.proofs.Common.{◌≡◌, ◌∙◌, true, false, ap, sym, subst}
use Rattle.std.specs.Option.{option_map_or}
use Rattle.std.proofs.lemmas.Bool.{eqb-true}
use Rattle.fidl_wire.specs.Term as ty
use Rattle.fidl_table_format.specs.Kind.{kind_of}
use Rattle.fidl_table_format.specs.Section.{header_of, entry_at}
use Rattle.fidl_table_format.specs.Terms.{as_number, underlying, values_from}
use Rattle.fidl_table_format.specs.Uses.{uses_values}
use Rattle.fidl_migrate.specs.Kept.{KeepsEntry}
use Rattle.fidl_migrate.proofs.Kept.{values_within}
use Rattle.fidl_migrate.proofs.keeping.keeps_entry.Goals as goal

pub keeps_values-requires-clause-before : goal.keeps_values-requires-clause-before
keeps_values-requires-clause-before c =
    values_within c.args.old.now c.entry-before.ensures.well_formed c.args.index c.requires.old c.entry-before.result c.entry-before.ensures.value (sym c.has_values.ensures ∙ c.if-has_values.true)

pub keeps_values-requires-clause-after : goal.keeps_values-requires-clause-after
keeps_values-requires-clause-after c =
    let kind = (c.has_fields.ensures c.if-not-has_fields.false).kind in
    values_within c.args.new.now c.entry-after.ensures.well_formed c.args.index c.requires.new c.entry-after.result c.entry-after.ensures.value
    (ap (λ k. option_map_or uses_values (kind_of k) false) kind ∙ sym c.has_values.ensures ∙ c.if-has_values.true)

pub returns-then-has_values : goal.returns-then-has_values
returns-then-has_values c = λ is.
    let before = c.entry-before.result in
    let after = c.entry-after.result in
    let new = c.args.new.now in
    let fields = c.has_fields.ensures c.if-not-has_fields.false in
    let on = sym c.has_values.ensures ∙ c.if-has_values.true in
    let number : underlying after ≡ underlying before = ap (λ s. option_map_or as_number (kind_of s) ty.uint8) fields.subtype in
    let one : KeepsEntry c.args.old.now new before after = record {
      fields = fields;
      first = λ off. absurd (let never : true ≡ false = sym on ∙ off in cc);
      count = λ off. absurd (let never : true ≡ false = sym on ∙ off in cc);
      values = λ _. ap (λ k. values_from new (header_of new) k after.first after.count) number ∙ c.keeps_values.ensures is;
    } in
    subst (λ e. KeepsEntry c.args.old.now new e (entry_at new c.args.index)) c.entry-before.ensures.value (subst (KeepsEntry c.args.old.now new before) c.entry-after.ensures.value one)

pub returns-then-after-before : goal.returns-then-after-before
returns-then-after-before c = λ is.
    let before = c.entry-before.result in
    let after = c.entry-after.result in
    let new = c.args.new.now in
    let off = sym c.has_values.ensures ∙ c.if-has_values.false in
    let one : KeepsEntry c.args.old.now new before after = record {
      fields = c.has_fields.ensures c.if-not-has_fields.false;
      first = λ _. c.if-after-before.true;
      count = λ _. eqb-true after.count before.count is;
      values = λ on. absurd (let never : false ≡ true = sym off ∙ on in cc);
    } in
    subst (λ e. KeepsEntry c.args.old.now new e (entry_at new c.args.index)) c.entry-before.ensures.value (subst (KeepsEntry c.args.old.now new before) c.entry-after.ensures.value one)
