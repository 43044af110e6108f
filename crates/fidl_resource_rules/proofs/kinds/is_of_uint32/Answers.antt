use Rattle.std.proofs.Common.{Bool, refl}
use Rattle.std.specs.Prelude.{◌↔◌, IsTrue}
use Rattle.std.proofs.lemmas.Result.{IfOk-weaker}
use Rattle.fidl_tree.specs.Views.{kind_view, named_view, values_view}
use Rattle.fidl_tree.specs.declared.type_constructor.ValuesLayout.{out-ValuesLayout}
use Rattle.fidl_tree.specs.declared.type_constructor.Underlying.{out-Underlying}
use Rattle.fidl_resource_rules.specs.Kinds.{IsUint32, LayoutSuits}
use Rattle.fidl_resource_rules.proofs.Layouts.{suits_without, suits_written, written_suits}
use Rattle.fidl_resource_rules.proofs.kinds.is_of_uint32.Goals as goal

pub returns-in-None : goal.returns-in-None
returns-in-None c = ((λ _. suits_without c.args.layout.now c.args.sources.now.named.now c.args.file_index c.in-None.is), λ _. refl)

pub returns-in-Some : goal.returns-in-Some
returns-in-Some c =
    let fs = c.args.sources.now.named.now in
    let i = c.args.file_index in
    let l = c.args.layout.now in
    let u = c.in-Some.underlying in
    IfOk-weaker c.is_uint32.result (λ (b : Bool). IsTrue b ↔ IsUint32 fs i (named_view (out-Underlying u).named)) (λ (b : Bool). IsTrue b ↔ LayoutSuits fs i (kind_view (out-ValuesLayout l).keyword) (values_view l))
    (λ b h. ((λ yes. suits_written l fs i u c.in-Some.is (h.0 yes)), λ s. h.1 (written_suits l fs i u c.in-Some.is s)))
    c.is_uint32.ensures
