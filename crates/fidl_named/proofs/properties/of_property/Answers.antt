use Rattle.std.proofs.Common.{rules, ◌≡◌, List, [], ◌∷◌, ap, sym, refl, ◌∙◌}
use Rattle.std.specs.Prelude.{map}
use Rattle.fidl_tree.specs.Leaf.{text_at}
use Rattle.fidl_tree.specs.declared.path.PathPart.{PathPart}
use Rattle.fidl_tree.specs.Views.{path_view}
use Rattle.fidl_named.specs.Meanings.{components}
use Rattle.fidl_named.specs.Paths.{texts}
use Rattle.fidl_named.proofs.AliasFacts.{components_seen}
use Rattle.fidl_named.proofs.Components.{no_items}
use Rattle.fidl_named.specs.Constraints.{IsPropertyMember, IsOfProperty}
use Rattle.fidl_named.proofs.Readings.{ok_iff}
use Rattle.fidl_named.proofs.PropertyMembers.{of_member, to_member}
use Rattle.fidl_named.proofs.properties.of_property.Goals as goal

pub returns-in-None : goal.returns-in-None
returns-in-None c = λ m h. c.in-None.ensures.none refl h.id h.file h.number h.property h.is_for

pub returns-in-Some : goal.returns-in-Some
returns-in-Some c =
    let fs = c.args.scope.now.named.now in
    let f = c.args.scope.now.file.now in
    let x = c.in-Some.found in
    let path = c.args.path.now in
    let len : path.rest.len ≡ 0 = search (rules, c.is_empty.ensures, c.if-not-is_empty.false) in
    let empty : path.rest.items ≡ [] = no_items path.rest.items (sym path.rest.ok.0 ∙ len) in
    let tree_one : components f.src.now c.args.path.now ≡ c.text.result.now ∷ [] = ap (λ (ps : List PathPart). text_at f.src.now path.first ∷ map (λ (q : PathPart). text_at f.src.now q.name) ps) empty ∙ ap (λ t. t ∷ []) (sym c.text.ensures.bytes) in
    let one : texts f.src.now (path_view path) ≡ c.text.result.now ∷ [] = sym (components_seen f.src.now path) ∙ tree_one in
    ok_iff (IsPropertyMember fs x.id x.file.now x.number x.property.now.constructor c.text.result.now) (IsOfProperty fs f c.args.end c.args.rank (path_view path))
    (of_member fs f c.args.end c.args.rank (path_view path) x.id x.file.now x.number x.property.now c.text.result.now c.in-Some.ensures.found one)
    (to_member fs f c.args.end c.args.rank (path_view path) x.id x.file.now x.number x.property.now c.text.result.now c.in-Some.ensures.found one)
    c.property_member.result c.property_member.ensures
