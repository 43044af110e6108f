use Rattle.std.proofs.Common.{◌≡◌, [], ◌∷◌, Some, ap, sym, ◌∙◌}
use Rattle.fidl_tree.specs.Leaf.{text_at}
use Rattle.fidl_tree.specs.declared.file.File.{File}
use Rattle.fidl_tree.specs.declared.declaration.Property.{Property}
use Rattle.fidl_tree.specs.declared.type_constructor.Layout.{Layout, out-Layout}
use Rattle.fidl_tree.specs.declared.value_member.ValueMember.{ValueMember}
use Rattle.fidl_named.specs.Meanings.{layout_members}
use Rattle.fidl_named.specs.Constraints.{type_layout, members_in, texts_of}
use Rattle.fidl_named.specs.MemberNumbers.{written_names}
use Rattle.fidl_named.proofs.worked.names_of_written_members.Goals as goal

one_name : (f : File) (p : Property) (l : Layout) (m : ValueMember) → type_layout p.constructor ≡ Some l → layout_members (out-Layout l).body ≡ m ∷ [] → written_names f p ≡ text_at f.src.now m.name ∷ []
one_name f p l m is has = ap (λ o. texts_of f (members_in o)) is ∙ ap (texts_of f) has

pub returns-clause-seen : goal.returns-clause-seen
returns-clause-seen c = one_name

pub returns-clause-named : goal.returns-clause-named
returns-clause-named c = λ f p is. ap (λ o. texts_of f (members_in o)) is

pub returns-clause-other : goal.returns-clause-other
returns-clause-other c = λ f p l m is has e.
    let both : text_at f.src.now m.name ∷ [] ≡ [] = sym (one_name f p l m is has) ∙ e in
    absurd (cc)
