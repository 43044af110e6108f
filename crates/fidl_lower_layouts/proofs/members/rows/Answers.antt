use Rattle.std.proofs.Common.{◌<◌, List, Option, None, Some, refl, subst, map}
use Rattle.std.specs.Prelude.{IfSome, IsNone}
use Rattle.std.specs.Global.{Vec}
use Rattle.std.specs.List.{AllPairs}
use Rattle.std.specs.List.Sorted.{IsPermutation}
use Rattle.fidl_tree.specs.Views.{ordinal_member_view}
use Rattle.fidl_wire.specs.Term.{Rows}
use Rattle.fidl_ir.specs.declared.term.Row.{Row}
use Rattle.fidl_ir.specs.Terms.{rows_view}
use Rattle.fidl_lower_layouts.specs.Members.{WrittenRowsAre, row_ordinals, RowsAre}
use Rattle.fidl_lower_layouts.proofs.Ordered.{rows_written, rows_sorted, no_order}
use Rattle.fidl_lower_layouts.proofs.members.rows.Goals as goal

pub returns-in-None-clause-none : goal.returns-in-None-clause-none
returns-in-None-clause-none c = λ _ rows h.
    let files = c.args.scope.sources.now.named.now in
    let n = c.args.scope.file_index in
    let f = c.args.scope.file.now in
    let ms = map ordinal_member_view c.args.members.now in
    let none = subst (λ (o : Option (Vec Row)). IsNone o → (l : Rows) → WrittenRowsAre files n f ms l → ⊥) c.in-None.is c.in_ok-written_rows.ensures.none refl in
    let w = rows_written files n f ms rows h in
    none w.0 w.1

-- one after the other, where there is one
both : (P Q R : List Row → Type 0) → ((l : List Row) → P l → Q l → R l) → (o : Option (Vec Row)) → IfSome o (λ v. P v.items) → IfSome o (λ v. Q v.items) → IfSome o (λ v. R v.items)
both P Q R more None p q = tt
both P Q R more (Some v) p q = more v.items p q

pub returns-in-Some-clause-found : goal.returns-in-Some-clause-found
returns-in-Some-clause-found c =
    let files = c.args.scope.sources.now.named.now in
    let n = c.args.scope.file_index in
    let f = c.args.scope.file.now in
    let ms = map ordinal_member_view c.args.members.now in
    let xs = c.in-Some.written.items in
    let are : WrittenRowsAre files n f ms (rows_view xs) = subst (λ (o : Option (Vec Row)). IfSome o (λ l. WrittenRowsAre files n f ms (rows_view l.items))) c.in-Some.is c.in_ok-written_rows.ensures.found in
    both (IsPermutation xs) (λ l. AllPairs (λ m n. m < n) (row_ordinals (rows_view l))) (λ l. RowsAre files n f ms (rows_view l)) (λ l moved rise. rows_sorted files n f ms xs l are moved rise) c.by_ordinal.result c.by_ordinal.ensures.same c.by_ordinal.ensures.rise

pub returns-in-Some-clause-none : goal.returns-in-Some-clause-none
returns-in-Some-clause-none c = λ missing rows h.
    let files = c.args.scope.sources.now.named.now in
    let n = c.args.scope.file_index in
    let f = c.args.scope.file.now in
    let ms = map ordinal_member_view c.args.members.now in
    let xs = c.in-Some.written.items in
    let are : WrittenRowsAre files n f ms (rows_view xs) = subst (λ (o : Option (Vec Row)). IfSome o (λ l. WrittenRowsAre files n f ms (rows_view l.items))) c.in-Some.is c.in_ok-written_rows.ensures.found in
    no_order files n f ms xs are (c.by_ordinal.ensures.none missing) rows h
