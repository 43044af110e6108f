use Rattle.std.proofs.Common.{rules, ◌≡◌, get_or, ap, sym, subst, ◌∙◌, arith}
use Rattle.std.specs.List.{Contains}
use Rattle.std.specs.Global.{Vec}
use Rattle.std.proofs.lemmas.List.Elements.{Contains-get_or}
use Rattle.std.proofs.Math.ListN.{get_or-map, length-map}
use Rattle.fidl_span.specs.declared.words.Span.{Span}
use Rattle.fidl_names.specs.MemberLists.{held, NamesDiffer, RepeatsName, RepeatsIn, IsRepeatedAt}
use Rattle.fidl_cycles.proofs.Lists.{all_take}
use Rattle.fidl_names.proofs.Differing.{repeated_within}
use Rattle.fidl_names.proofs.differ.check_lists.Goals as goal

pub loop-list-preserved : goal.loop-list-preserved
loop-list-preserved c =
    let src = c.args.file.now.src.now in
    let lists = c.args.lists.now in
    let i = c.loop-list.list-index in
    let item = c.list-item.result in
    let lt = c.loop-list-test.true in
    let is : item.items ≡ get_or (held lists) i item.items = ap (λ (v : Vec Span). v.items) c.list-item.is ∙ sym (get_or-map (λ (v : Vec Span). v.items) lists i item) in
    all_take (held lists) i item.items (omega (arith, length-map lists (λ (v : Vec Span). v.items))) is (NamesDiffer src) c.loop-list.invariant (subst (NamesDiffer src) c.deref.ensures.value c.in_ok-check_names.ensures.differ)

pub returns-in_err-check_names-clause-fault_is_true : goal.returns-in_err-check_names-clause-fault_is_true
returns-in_err-check_names-clause-fault_is_true c =
    let src = c.args.file.now.src.now in
    let lists = c.args.lists.now in
    let i = c.loop-list.list-index in
    let item = c.list-item.result in
    let lt = c.loop-list-test.true in
    let fault = c.in_err-check_names.field-0.0 in
    let is : item.items ≡ get_or (held lists) i item.items = ap (λ (v : Vec Span). v.items) c.list-item.is ∙ sym (get_or-map (λ (v : Vec Span). v.items) lists i item) in
    let there : Contains (held lists) item.items = subst (Contains (held lists)) (sym is) (Contains-get_or (held lists) i item.items (omega (arith, length-map lists (λ (v : Vec Span). v.items)))) in
    let fault_is_true = subst (λ l. IsRepeatedAt (RepeatsName src l) c.args.file_index fault) c.deref.ensures.value c.in_err-check_names.ensures.fault_is_true in
    let h = repeated_within (RepeatsName src item.items) (RepeatsIn src (held lists)) c.args.file_index (λ s r. record { names = item.items; list = there; repeats = r }) fault fault_is_true in
    search (rules, h)
