use Rattle.std.proofs.Common.{rules, ◌≡◌, ◌<◌, ◌∙◌, List, length, map, get_or, ap, arith}
use Rattle.fidl_tree.specs.Views.{declaration_view}
use Rattle.fidl_tree.specs.declared.declaration.Declaration.{Declaration}
use Rattle.fidl_member_rules.specs.Rules.{TransportHolds, TransportBreaks}
use Rattle.fidl_declarations.proofs.Items.{among_seen, all_seen}
use Rattle.fidl_member_rules.proofs.Reports.{report_one}
use Rattle.fidl_member_rules.proofs.rules.check_transports.Goals as goal

pub returns-in_err-check_transport-clause-fault_is_true : goal.returns-in_err-check_transport-clause-fault_is_true
returns-in_err-check_transport-clause-fault_is_true c =
    let trees = c.args.file.now.declarations.items in
    let i = c.loop-declaration.declaration-index in
    let tree = c.declaration-item.result in
    let lt = c.loop-declaration-test.true in
    let within : i < length trees = omega (arith, lt, c.deref-declaration-items.ensures.len) in
    let is : tree ≡ get_or trees i tree = c.declaration-item.is ∙ ap (λ (l : List Declaration). get_or l i tree) c.deref-declaration-items.ensures.value in
    let among = among_seen declaration_view trees i tree within is in
    let h = report_one (TransportBreaks c.args.file.now.src.now) (map declaration_view trees) (declaration_view tree) among c.args.file_index c.in_err-check_transport.field-0.0 c.in_err-check_transport.ensures.fault_is_true in
    search (rules, h)

pub loop-declaration-preserved : goal.loop-declaration-preserved
loop-declaration-preserved c =
    let trees = c.args.file.now.declarations.items in
    let i = c.loop-declaration.declaration-index in
    let tree = c.declaration-item.result in
    let lt = c.loop-declaration-test.true in
    let within : i < length trees = omega (arith, lt, c.deref-declaration-items.ensures.len) in
    let is : tree ≡ get_or trees i tree = c.declaration-item.is ∙ ap (λ (l : List Declaration). get_or l i tree) c.deref-declaration-items.ensures.value in
    all_seen declaration_view trees i tree within is (TransportHolds c.args.file.now.src.now) c.loop-declaration.invariant c.in_ok-check_transport.ensures.ok
