use Rattle.std.proofs.Common.{rules, ◌≡◌, ◌∙◌, List, [], ◌∷◌, map, take, refl, ap, sym, subst, arith}
use Rattle.std.proofs.lemmas.List.{take_all}
use Rattle.fidl_ir.specs.declared.term.Field.{Field}
use Rattle.fidl_ir.specs.Terms.{term_view, fields_view}
use Rattle.fidl_ir.specs.Members.{field_types}
use Rattle.fidl_reachable_types.specs.Growing.{GrowsBy, IsFullBy}
use Rattle.fidl_reachable_types.proofs.Growth.{one_more, one_past}
use Rattle.fidl_reachable_types.proofs.list.TypeList.add_fields.Goals as goal

types : (xs : List Field) → field_types (fields_view xs) ≡ map (λ x. term_view x.of) xs
types [] = refl
types (x ∷ xs) = ap (λ l. term_view x.of ∷ l) (types xs)

pub returns-in_err-add-clause-full : goal.returns-in_err-add-clause-full
returns-in_err-add-clause-full c =
    let xs = c.args.fields.now in
    let h = one_past (λ x. term_view x.of) xs c.loop-field.field-index c.field-item.result c.loop-field-test.true c.field-item.is c.args.self.now c.loop-field.self c.in_err-add.field-0.0 c.loop-field.invariant c.in_err-add.ensures.full in
    let all = subst (λ l. IsFullBy c.args.self.now l c.in_err-add.field-0.0) (sym (types xs)) h in
    search (rules, all)

pub loop-field-preserved : goal.loop-field-preserved
loop-field-preserved c =
    one_more (λ x. term_view x.of) c.args.fields.now c.loop-field.field-index c.field-item.result c.loop-field-test.true c.field-item.is c.args.self.now c.loop-field.self c.add.new.self c.loop-field.invariant c.in_ok-add.ensures.ok

pub returns-clause-ok : goal.returns-clause-ok
returns-clause-ok c =
    let xs = c.args.fields.now in
    let whole : take c.loop-field.field-index xs ≡ xs = take_all c.loop-field.field-index xs (omega (arith, c.loop-field-test.false)) in
    subst (GrowsBy c.args.self.now c.loop-field.self) (ap (map (λ x. term_view x.of)) whole ∙ sym (types xs)) c.loop-field.invariant
