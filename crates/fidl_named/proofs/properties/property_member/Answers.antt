use Rattle.std.proofs.Common.{rules, ◌≡◌, [], Some, None, ap, sym, ◌∙◌}
use Rattle.fidl_tree.specs.declared.type_constructor.TypeConstructor as ty
use Rattle.fidl_tree.specs.declared.type_constructor.NamedType.{NamedType, out-NamedType}
use Rattle.fidl_named.specs.Aliases.{type_path}
use Rattle.fidl_named.specs.Constraints.{IsDeclaredMember, IsPropertyMember, texts_of, written_members}
use Rattle.fidl_named.proofs.Readings.{ok_iff}
use Rattle.fidl_named.proofs.PropertyMembers.{declared_as, declared_back, written_as, written_none}
use Rattle.fidl_named.proofs.properties.property_member.Goals as goal

pub returns-in-Named : goal.returns-in-Named
returns-in-Named c =
    let t = c.args.found.property.now.constructor in
    let written : type_path t ≡ Some (out-NamedType c.in-Named.written.value).path = search (rules, ty.the_lemmas, c.in-Named.is) in
    let path : type_path t ≡ Some (out-NamedType c.deref.result.now).path = written ∙ ap (λ (n : NamedType). Some (out-NamedType n).path) (sym c.deref.ensures) in
    let none : written_members t ≡ [] = search (rules, ty.the_lemmas, c.in-Named.is) in
    let fs = c.args.named.now in
    let f = c.args.found.file.now in
    ok_iff (IsDeclaredMember fs f (out-NamedType c.deref.result.now).path c.args.name.now) (IsPropertyMember fs c.args.found.id f c.args.found.number t c.args.name.now)
    (declared_as fs c.args.found.id f c.args.found.number t c.args.name.now (out-NamedType c.deref.result.now).path path)
    (declared_back fs c.args.found.id f c.args.found.number t c.args.name.now (out-NamedType c.deref.result.now).path path none)
    c.declared_member.result c.declared_member.ensures

pub returns-in-None : goal.returns-in-None
returns-in-None c =
    let t = c.args.found.property.now.constructor in
    let path : type_path t ≡ None = search (rules, ty.the_lemmas, c.in-Layout.is) in
    let number = sym (c.in-None.ensures (texts_of c.args.found.file.now (written_members t)) c.requires.written) in
    written_none c.args.named.now c.args.found.id c.args.found.file.now c.args.found.number t c.args.name.now path number

pub returns-in-Some : goal.returns-in-Some
returns-in-Some c =
    let t = c.args.found.property.now.constructor in
    let path : type_path t ≡ None = search (rules, ty.the_lemmas, c.in-Layout.is) in
    let number = sym (c.in-Some.ensures (texts_of c.args.found.file.now (written_members t)) c.requires.written) in
    written_as c.args.named.now c.args.found.id c.args.found.file.now c.args.found.number t c.args.name.now path c.in-Some.number number
