use Rattle.std.proofs.Common.{Option, refl, subst, map}
use Rattle.std.specs.Prelude.{IfSome, IsNone}
use Rattle.std.specs.Global.{Vec}
use Rattle.fidl_tree.specs.Views.{member_view}
use Rattle.fidl_wire.specs.Term.{Fields}
use Rattle.fidl_ir.specs.declared.term.Field.{Field}
use Rattle.fidl_ir.specs.Terms.{fields_view}
use Rattle.fidl_lower_layouts.specs.Members.{FieldsAre}
use Rattle.fidl_lower_layouts.proofs.Making.{struct_with, no_struct}
use Rattle.fidl_lower_layouts.proofs.definition.struct_of.Goals as goal

pub returns-in-None-clause-none : goal.returns-in-None-clause-none
returns-in-None-clause-none c = λ _.
    let files = c.args.scope.sources.now.named.now in
    let n = c.args.scope.file_index in
    let f = c.args.scope.file.now in
    let ms = map member_view c.args.members.now in
    no_struct files n f ms (subst (λ (o : Option (Vec Field)). IsNone o → (l : Fields) → FieldsAre files n f ms l → ⊥) c.in-None.is c.in_ok-fields.ensures.none refl)

pub returns-in-Some-clause-found : goal.returns-in-Some-clause-found
returns-in-Some-clause-found c =
    let files = c.args.scope.sources.now.named.now in
    let n = c.args.scope.file_index in
    let f = c.args.scope.file.now in
    let ms = map member_view c.args.members.now in
    struct_with files n f ms (fields_view c.in-Some.fields.items) (subst (λ (o : Option (Vec Field)). IfSome o (λ l. FieldsAre files n f ms (fields_view l.items))) c.in-Some.is c.in_ok-fields.ensures.found)
