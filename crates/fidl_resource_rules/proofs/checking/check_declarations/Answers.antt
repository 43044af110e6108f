use Rattle.std.proofs.Common.{rules, sym, subst}
use Rattle.std.specs.List.{Contains}
use Rattle.std.proofs.lemmas.List.Elements.{Contains-get_or}
use Rattle.fidl_cycles.proofs.Lists.{all_take}
use Rattle.fidl_resource_rules.specs.Resources.{DeclarationHolds}
use Rattle.fidl_resource_rules.proofs.Reports.{report_one}
use Rattle.fidl_resource_rules.proofs.checking.check_declarations.Goals as goal

pub returns-in_err-check_declaration-clause-fault_is_true : goal.returns-in_err-check_declaration-clause-fault_is_true
returns-in_err-check_declaration-clause-fault_is_true c =
    let ds = c.args.declarations.now in
    let among = subst (Contains ds) (sym c.declaration-item.is) (Contains-get_or ds c.loop-declaration.declaration-index c.declaration-item.result c.loop-declaration-test.true) in
    let h = report_one c.args.sources.now.named.now c.args.file_index c.args.file.now ds c.declaration-item.result among c.in_err-check_declaration.field-0.0 c.in_err-check_declaration.ensures.fault_is_true in
    search (rules, h)

pub loop-declaration-preserved : goal.loop-declaration-preserved
loop-declaration-preserved c =
    all_take c.args.declarations.now c.loop-declaration.declaration-index c.declaration-item.result c.loop-declaration-test.true c.declaration-item.is (DeclarationHolds c.args.sources.now.named.now c.args.file_index c.args.file.now)
    c.loop-declaration.invariant c.in_ok-check_declaration.ensures.ok
