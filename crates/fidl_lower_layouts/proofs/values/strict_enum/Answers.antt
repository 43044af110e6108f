use Rattle.std.proofs.Common.{ℤ, List, Option, refl, subst, map}
use Rattle.std.specs.Prelude.{IfSome}
use Rattle.std.specs.Global.{Vec}
use Rattle.std.specs.List.Sorted.{IsPermutation}
use Rattle.fidl_tree.specs.Views.{value_member_view}
use Rattle.fidl_member_rules.specs.Numbers.{NumbersAre}
use Rattle.fidl_lower_layouts.proofs.One.{one_list}
use Rattle.fidl_lower_layouts.proofs.values.strict_enum.Goals as goal

pub returns-in_default-rising-clause-none : goal.returns-in_default-rising-clause-none
returns-in_default-rising-clause-none c = λ _ t h.
    let files = c.args.scope.sources.now.named.now in
    let f = c.args.scope.file.now in
    let ms = map value_member_view c.args.members.now in
    let its = subst (λ (o : Option (Vec ℤ)). IfSome o (λ zs. NumbersAre files f c.args.kind ms zs.items)) c.in-Some.is c.in_ok-written.ensures.found in
    let same = one_list files f c.args.kind ms h.written c.in-Some.written.items h.are its in
    c.in_default-rising.ensures.none refl h.numbers (subst (λ (zs : List ℤ). IsPermutation zs h.numbers) same h.same) h.rise
