use Rattle.std.proofs.Common.{rules, ◌≡◌, ◌∙◌, List, [], ◌∷◌, map, take, refl, ap, sym, subst, arith}
use Rattle.std.proofs.lemmas.List.{take_all}
use Rattle.fidl_ir.specs.declared.term.Row.{Row}
use Rattle.fidl_ir.specs.Terms.{term_view, rows_view}
use Rattle.fidl_ir.specs.Members.{row_types}
use Rattle.fidl_reachable_types.specs.Growing.{GrowsBy, IsFullBy}
use Rattle.fidl_reachable_types.proofs.Growth.{one_more, one_past}
use Rattle.fidl_reachable_types.proofs.list.TypeList.add_rows.Goals as goal

types : (xs : List Row) → row_types (rows_view xs) ≡ map (λ x. term_view x.of) xs
types [] = refl
types (x ∷ xs) = ap (λ l. term_view x.of ∷ l) (types xs)

pub returns-in_err-add-clause-full : goal.returns-in_err-add-clause-full
returns-in_err-add-clause-full c =
    let xs = c.args.rows.now in
    let h = one_past (λ x. term_view x.of) xs c.loop-row.row-index c.row-item.result c.loop-row-test.true c.row-item.is c.args.self.now c.loop-row.self c.in_err-add.field-0.0 c.loop-row.invariant c.in_err-add.ensures.full in
    let all = subst (λ l. IsFullBy c.args.self.now l c.in_err-add.field-0.0) (sym (types xs)) h in
    search (rules, all)

pub loop-row-preserved : goal.loop-row-preserved
loop-row-preserved c =
    one_more (λ x. term_view x.of) c.args.rows.now c.loop-row.row-index c.row-item.result c.loop-row-test.true c.row-item.is c.args.self.now c.loop-row.self c.add.new.self c.loop-row.invariant c.in_ok-add.ensures.ok

pub returns-clause-ok : goal.returns-clause-ok
returns-clause-ok c =
    let xs = c.args.rows.now in
    let whole : take c.loop-row.row-index xs ≡ xs = take_all c.loop-row.row-index xs (omega (arith, c.loop-row-test.false)) in
    subst (GrowsBy c.args.self.now c.loop-row.self) (ap (map (λ x. term_view x.of)) whole ∙ sym (types xs)) c.loop-row.invariant
