use Rattle.std.proofs.Common.{rules, sym, subst}
use Rattle.std.specs.List.{Contains}
use Rattle.std.proofs.lemmas.List.Elements.{Contains-get_or}
use Rattle.fidl_cycles.proofs.Lists.{all_take}
use Rattle.fidl_resource_rules.specs.Resources.{PropertyHolds}
use Rattle.fidl_resource_rules.proofs.Reports.{report_property}
use Rattle.fidl_resource_rules.proofs.properties.check_properties.Goals as goal

pub returns-in_err-check_property-clause-fault_is_true : goal.returns-in_err-check_property-clause-fault_is_true
returns-in_err-check_property-clause-fault_is_true c =
    let ps = c.args.properties.now in
    let among = subst (Contains ps) (sym c.property-item.is) (Contains-get_or ps c.loop-property.property-index c.property-item.result c.loop-property-test.true) in
    let h = report_property c.args.sources.now.named.now c.args.file_index c.args.file.now ps c.property-item.result among c.in_err-check_property.field-0.0 c.in_err-check_property.ensures.fault_is_true in
    search (rules, h)

pub loop-property-preserved : goal.loop-property-preserved
loop-property-preserved c =
    all_take c.args.properties.now c.loop-property.property-index c.property-item.result c.loop-property-test.true c.property-item.is (PropertyHolds c.args.sources.now.named.now c.args.file_index c.args.file.now)
    c.loop-property.invariant c.in_ok-check_property.ensures.ok
