use Rattle.std.proofs.Common.{◌∙◌, List, Option, ℤ, length, map, refl, ap, sym, subst, true≢false}
use Rattle.std.specs.Prelude.{IfSome, IsNone}
use Rattle.std.specs.declared.vec.Vec.{Vec}
use Rattle.std.proofs.Common.{Global}
use Rattle.std.proofs.lemmas.Result.{on_ok_weaker, IfErr-weaker}
use Rattle.std.proofs.Math.ListN.{length-map}
use Rattle.fidl_tree.specs.Views.{value_member_view, kind_view, values_view}
use Rattle.fidl_tree.specs.declared.value_member.ValueMember.{ValueMember as Tree}
use Rattle.fidl_tree.specs.declared.type_constructor.ValuesLayout.{out-ValuesLayout}
use Rattle.fidl_member_rules.specs.Numbers.{HasNumber, NumbersAre}
use Rattle.fidl_member_rules.specs.ValueRules.{MemberBreaks, LayoutBreaks, IsReportIn, NumbersHold}
use Rattle.fidl_member_rules.proofs.Listing.{zip_length}
use Rattle.fidl_member_rules.proofs.ValueReports.{report_in}
use Rattle.fidl_member_rules.proofs.Members.{refused_kind, holds_without_numbers, holds_with_numbers, breaks_with_numbers}
use Rattle.fidl_member_rules.proofs.value_rules.check_members.Goals as goal

pub returns-in-Err-clause-ok : goal.returns-in-Err-clause-ok
returns-in-Err-clause-ok c =
    refused_kind c.args.scope.named.now c.args.scope.file.now c.args.layout.now c.args.scope.file_index c.requires.at c.in-Err.fault c.in-Err.ensures.fault_is_true
    (λ is. true≢false (sym (c.is_memory.ensures.1 is) ∙ c.if-is_memory.false))

pub returns-in_default-clause-ok : goal.returns-in_default-clause-ok
returns-in_default-clause-ok c =
    let files = c.args.scope.named.now in
    let f = c.args.scope.file.now in
    let none = subst (λ (o : Option (Vec ℤ Global)). IsNone o → (zs : List ℤ) → NumbersAre files f c.in-Ok.kind (map value_member_view c.deref.result.now) zs → ⊥) c.in_default.is c.in_ok-numbers.ensures.none refl in
    let its = subst (λ (l : List Tree). (zs : List ℤ) → NumbersAre files f c.in-Ok.kind (map value_member_view l) zs → ⊥) c.deref.ensures.value none in
    holds_without_numbers files f c.args.layout.now c.in-Ok.kind (c.in-Ok.ensures.ok f c.requires.at) its

pub check_numbers-requires : goal.check_numbers-requires
check_numbers-requires c =
    let files = c.args.scope.named.now in
    let f = c.args.scope.file.now in
    let found = subst (λ (o : Option (Vec ℤ Global)). IfSome o (λ zs. NumbersAre files f c.in-Ok.kind (map value_member_view c.deref.result.now) zs.items)) c.in-Some.is c.in_ok-numbers.ensures.found in
    let as_long = zip_length (HasNumber files f c.in-Ok.kind) (map value_member_view c.deref.result.now) c.in-Some.numbers.items found in
    ap length (c.deref-2.ensures.value ∙ sym c.deref.ensures.value) ∙ sym (length-map c.deref.result.now value_member_view) ∙ as_long ∙ ap length (sym c.deref-3.ensures.value)

pub returns-clause-ok : goal.returns-clause-ok
returns-clause-ok c =
    let files = c.args.scope.named.now in
    let f = c.args.scope.file.now in
    let l = c.args.layout.now in
    let found = subst (λ (o : Option (Vec ℤ Global)). IfSome o (λ zs. NumbersAre files f c.in-Ok.kind (map value_member_view c.deref.result.now) zs.items)) c.in-Some.is c.in_ok-numbers.ensures.found in
    let are = subst (λ (ms : List Tree). NumbersAre files f c.in-Ok.kind (map value_member_view ms) c.in-Some.numbers.items) c.deref.ensures.value found in
    on_ok_weaker c.check_numbers.result
    (λ (h : NumbersHold (kind_view (out-ValuesLayout l).keyword) c.deref-3.result.now). holds_with_numbers files f l c.in-Ok.kind (c.in-Ok.ensures.ok f c.requires.at) c.in-Some.numbers.items are (subst (NumbersHold (kind_view (out-ValuesLayout l).keyword)) c.deref-3.ensures.value h))
    c.check_numbers.ensures.ok

pub returns-clause-fault_is_true : goal.returns-clause-fault_is_true
returns-clause-fault_is_true c =
    let files = c.args.scope.named.now in
    let f = c.args.scope.file.now in
    let l = c.args.layout.now in
    let values = kind_view (out-ValuesLayout l).keyword in
    let found = subst (λ (o : Option (Vec ℤ Global)). IfSome o (λ zs. NumbersAre files f c.in-Ok.kind (map value_member_view c.deref.result.now) zs.items)) c.in-Some.is c.in_ok-numbers.ensures.found in
    let are = subst (λ (ms : List Tree). NumbersAre files f c.in-Ok.kind (map value_member_view ms) c.in-Some.numbers.items) c.deref.ensures.value found in
    IfErr-weaker c.check_numbers.result (IsReportIn c.args.scope.file_index (MemberBreaks values (map value_member_view c.deref-2.result.now) c.deref-3.result.now)) (IsReportIn c.args.scope.file_index (LayoutBreaks files f (values_view l)))
    (report_in c.args.scope.file_index (MemberBreaks values (map value_member_view c.deref-2.result.now) c.deref-3.result.now) (LayoutBreaks files f (values_view l))
    (λ rule span b. breaks_with_numbers files f l c.in-Ok.kind (c.in-Ok.ensures.ok f c.requires.at) c.in-Some.numbers.items are rule span
    (subst (λ (zs : List ℤ). MemberBreaks values (map value_member_view (out-ValuesLayout l).members.items) zs rule span) c.deref-3.ensures.value
    (subst (λ (ms : List Tree). MemberBreaks values (map value_member_view ms) c.deref-3.result.now rule span) c.deref-2.ensures.value b))))
    c.check_numbers.ensures.fault_is_true
