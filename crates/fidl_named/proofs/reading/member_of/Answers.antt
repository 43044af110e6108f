use Rattle.std.proofs.Common.{◌≡◌, [], ◌+◌, ◌-◌, ℕ, List, take, length, get_or, sym, subst, ◌∙◌, arith}
use Rattle.std.specs.Prelude.{IfOk}
use Rattle.fidl_tree.specs.Leaf.{text_at}
use Rattle.fidl_tree.specs.declared.path.PathPart.{PathPart}
use Rattle.fidl_named.specs.Names.{library_of}
use Rattle.fidl_named.specs.Meanings.{names_in, dotted, IsMember, IsImportedMember, IsJust, IsMemberAfter}
use Rattle.fidl_named.proofs.Components.{just_after, no_items, names_in-last, dotted-names_in}
use Rattle.fidl_named.proofs.Texts.{no_part}
use Rattle.fidl_named.specs.Imports.{visible}
use Rattle.fidl_named.proofs.reading.member_of.Goals as goal

pub returns-then-count-eq0 : goal.returns-then-count-eq0
returns-then-count-eq0 c =
    let set = c.args.scope.now.names.set.now in
    let f = c.args.scope.now.file.now in
    let n = c.args.name.now in
    let empty : c.args.parts.now ≡ [] = no_items c.args.parts.now c.if-count-eq0.true in
    let library : c.deref.result.now ≡ library_of f = c.deref.ensures.value ∙ c.in_ok-library.ensures in
    let h = subst (λ (t : List ℕ). IfOk c.member.result (IsJust (IsMember set (library_of f) t n))) c.text.ensures.bytes
    (subst (λ (l : List ℕ). IfOk c.member.result (IsJust (IsMember set l c.text.result.now n))) library c.member.ensures) in
    subst (λ (ps : List PathPart). IfOk c.member.result (IsJust (IsMemberAfter set f (names_in f c.args.first ps) n))) (sym empty)
    (just_after set f [] (text_at f.src.now c.args.first) n c.member.result h)

pub returns : goal.returns
returns c =
    let set = c.args.scope.now.names.set.now in
    let f = c.args.scope.now.file.now in
    let n = c.args.name.now in
    let ps = c.args.parts.now in
    let i = length ps - 1 in
    let some = c.if-count-eq0.false in
    let last : length ps - 1 + 1 ≡ length ps = omega arith in
    let t = text_at f.src.now (get_or ps i no_part).name in
    let front : c.deref-2.result.now ≡ dotted (names_in f c.args.first (take i ps)) = c.deref-2.ensures.value ∙ c.in_ok-front.ensures ∙ dotted-names_in f c.args.first (take i ps) in
    let h = subst (λ (u : List ℕ). IfOk c.imported_member.result (IsJust (IsImportedMember set (visible f) (dotted (names_in f c.args.first (take i ps))) u n))) c.text-type_name.ensures.bytes
    (subst (λ (l : List ℕ). IfOk c.imported_member.result (IsJust (IsImportedMember set (visible f) l c.text-type_name.result.now n))) front c.imported_member.ensures) in
    subst (λ (before : List (List ℕ)). IfOk c.imported_member.result (IsJust (IsMemberAfter set f before n))) (sym (names_in-last f c.args.first ps i no_part last))
    (just_after set f (names_in f c.args.first (take i ps)) t n c.imported_member.result h)
