use Rattle.std.proofs.Common.{Option, refl, subst, map}
use Rattle.std.specs.Prelude.{IfSome, IsNone}
use Rattle.std.specs.Global.{Vec}
use Rattle.fidl_tree.specs.Views.{ordinal_member_view}
use Rattle.fidl_wire.specs.Term.{Rows}
use Rattle.fidl_ir.specs.declared.term.Row.{Row}
use Rattle.fidl_ir.specs.Terms.{rows_view}
use Rattle.fidl_lower_layouts.specs.Members.{RowsAre}
use Rattle.fidl_lower_layouts.proofs.Making.{union_with, no_union}
use Rattle.fidl_lower_layouts.proofs.definition.union_of.Goals as goal

pub returns-in-None-clause-none : goal.returns-in-None-clause-none
returns-in-None-clause-none c = λ _.
    let files = c.args.scope.sources.now.named.now in
    let n = c.args.scope.file_index in
    let f = c.args.scope.file.now in
    let ms = map ordinal_member_view c.args.members.now in
    no_union files n f ms c.args.optional c.args.strict (subst (λ (o : Option (Vec Row)). IsNone o → (l : Rows) → RowsAre files n f ms l → ⊥) c.in-None.is c.in_ok-rows.ensures.none refl)

pub returns-in-Some-clause-found : goal.returns-in-Some-clause-found
returns-in-Some-clause-found c =
    let files = c.args.scope.sources.now.named.now in
    let n = c.args.scope.file_index in
    let f = c.args.scope.file.now in
    let ms = map ordinal_member_view c.args.members.now in
    union_with files n f ms c.args.optional c.args.strict (rows_view c.in-Some.rows.items) (subst (λ (o : Option (Vec Row)). IfSome o (λ l. RowsAre files n f ms (rows_view l.items))) c.in-Some.is c.in_ok-rows.ensures.found)
