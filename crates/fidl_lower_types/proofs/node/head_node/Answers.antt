use Rattle.std.proofs.Common.{◌≡◌, ◌∙◌, ℕ, Bool, ap, refl, sym, subst}
use Rattle.fidl_tree.specs.Views.{body_view}
use Rattle.fidl_constraints.specs.Behind.{Head, handle_head}
use Rattle.fidl_constraints.specs.BehindViews.{head_view}
use Rattle.fidl_constraints.specs.Parts.{optional_in, subtype_in, rights_in}
use Rattle.fidl_wire.specs.Term as ty
use Rattle.fidl_wire.specs.Term.{Term}
use Rattle.fidl_lower_types.specs.Numbers.{IsNumber}
use Rattle.fidl_lower_types.specs.Terms.{leaf, HeadIs}
use Rattle.fidl_lower_types.proofs.Heads.{layout_numbered}
use Rattle.fidl_lower_types.proofs.node.head_node.Goals as goal

pub returns-in-None-clause-none : goal.returns-in-None-clause-none
returns-in-None-clause-none c = λ _ n h.
    let fs = c.args.sources.now.named.now in
    let i = c.args.file_index in
    let l = body_view c.in-Layout.body.now in
    let k = layout_numbered fs i c.args.parts.now.list.items (head_view c.args.head) n l (ap head_view c.in-Layout.is) h in
    c.in-None.ensures.none refl k.0 (subst (λ (o : Bool). IsNumber fs i o l k.0) (sym c.is_optional.ensures) k.1)

pub returns-in-Some-clause-found : goal.returns-in-Some-clause-found
returns-in-Some-clause-found c =
    let fs = c.args.sources.now.named.now in
    let i = c.args.file_index in
    let ps = c.args.parts.now.list.items in
    let l = body_view c.in-Layout.body.now in
    let n = c.in-Some.number in
    let numbered = subst (λ (o : Bool). IsNumber fs i o l n) c.is_optional.ensures c.in-Some.ensures.found in
    subst (λ (h : Head). HeadIs fs i ps h (leaf (ty.named n))) (sym (ap head_view c.in-Layout.is)) (HeadIs.layout l n numbered)

pub returns-in-Handle-clause-found : goal.returns-in-Handle-clause-found
returns-in-Handle-clause-found c =
    let fs = c.args.sources.now.named.now in
    let i = c.args.file_index in
    let ps = c.args.parts.now.list.items in
    let p = c.in-Handle.field-0 in
    let optional = c.is_optional-in-Handle.result in
    let sub = c.subtype.result in
    let granted = c.rights.result in
    let made : ty.handle (optional_in ps) (subtype_in ps) (rights_in ps) ≡ ty.handle optional sub granted =
    ap (λ (b : Bool). ty.handle b (subtype_in ps) (rights_in ps)) (sym c.is_optional-in-Handle.ensures)
    ∙ (ap (λ (n : ℕ). ty.handle optional n (rights_in ps)) (sym c.subtype.ensures) ∙ ap (λ (n : ℕ). ty.handle optional sub n) (sym c.rights.ensures)) in
    subst (λ (h : Head). HeadIs fs i ps h (leaf (ty.handle optional sub granted))) (sym (ap head_view c.in-Handle.is)) (subst (λ (e : Term). HeadIs fs i ps (handle_head p) (leaf e)) made (HeadIs.handle p))
