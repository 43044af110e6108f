use Rattle.std.proofs.Common.{rules, ◌≡◌, ◌<◌, length, get_or, sym}
use Rattle.std.proofs.lemmas.Option.{slice_get_within, get_or_from_slice_get}
use Rattle.fidl_cycles.proofs.Lists.{all_take}
use Rattle.fidl_member_rules.specs.ValueRules.{FileHolds}
use Rattle.fidl_member_rules.proofs.ValueReports.{report_file}
use Rattle.fidl_member_rules.proofs.value_rules.check_values.Goals as goal

pub returns-in_err-check_file-clause-fault_is_true : goal.returns-in_err-check_file-clause-fault_is_true
returns-in_err-check_file-clause-fault_is_true c =
    let h = report_file c.args.named.now c.loop-file_index.file_index c.file.result.now c.file.ensures c.in_err-check_file.field-0.0 c.in_err-check_file.ensures.fault_is_true in
    search (rules, h)

pub loop-file_index-preserved : goal.loop-file_index-preserved
loop-file_index-preserved c =
    let files = c.args.named.now in
    let i = c.loop-file_index.file_index in
    let f = c.file.result.now in
    let lt : i < length files = slice_get_within files i f c.file.ensures in
    let is : f ≡ get_or files i f = sym (get_or_from_slice_get files i f f c.file.ensures) in
    all_take files i f lt is (FileHolds files) c.loop-file_index.invariant c.in_ok-check_file.ensures.ok
