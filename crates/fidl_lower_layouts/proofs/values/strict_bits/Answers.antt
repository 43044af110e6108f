use Rattle.std.proofs.Common.{ℤ, List, Option, refl, sym, subst, map, ◌∙◌}
use Rattle.std.specs.Prelude.{IfSome}
use Rattle.std.specs.Global.{Vec}
use Rattle.fidl_tree.specs.Views.{value_member_view}
use Rattle.fidl_member_rules.specs.Numbers.{NumbersAre}
use Rattle.fidl_lower_layouts.specs.Values.{IsMaskOf}
use Rattle.fidl_lower_layouts.proofs.One.{one_list}
use Rattle.fidl_lower_layouts.proofs.values.strict_bits.Goals as goal

pub returns-in_default-mask_of-clause-none : goal.returns-in_default-mask_of-clause-none
returns-in_default-mask_of-clause-none c = λ _ t h.
    let files = c.args.scope.sources.now.named.now in
    let f = c.args.scope.file.now in
    let ms = map value_member_view c.args.members.now in
    let its = subst (λ (o : Option (Vec ℤ)). IfSome o (λ zs. NumbersAre files f c.args.kind ms zs.items)) c.in-Some.is c.in_ok-numbers.ensures.found in
    let same = one_list files f c.args.kind ms h.numbers c.in-Some.numbers.items h.are its in
    c.in_default-mask_of.ensures.none refl h.mask (subst (λ (zs : List ℤ). IsMaskOf zs h.mask) (same ∙ sym c.deref.ensures.value) h.masked)
