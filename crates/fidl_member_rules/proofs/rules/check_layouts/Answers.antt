use Rattle.std.proofs.Common.{rules, ◌≡◌, ◌<◌, ◌∙◌, Some, map, length, get_or, ap, sym}
use Rattle.std.specs.Prelude.{slice_get, option_map}
use Rattle.std.proofs.lemmas.Option.{slice_get-map, slice_get_within, get_or_from_slice_get}
use Rattle.fidl_tree.specs.Views.{file_view}
use Rattle.fidl_member_rules.specs.Rules.{FileHolds}
use Rattle.fidl_declarations.proofs.Items.{all_seen}
use Rattle.fidl_member_rules.proofs.Reports.{report_file}
use Rattle.fidl_member_rules.proofs.rules.check_layouts.Goals as goal

pub returns-in_err-check_file-clause-fault_is_true : goal.returns-in_err-check_file-clause-fault_is_true
returns-in_err-check_file-clause-fault_is_true c =
    let files = c.args.named.now in
    let i = c.loop-file_index.file_index in
    let f = c.file.result.now in
    let at : slice_get (map file_view files) i ≡ Some (file_view f) = slice_get-map file_view files i ∙ ap (option_map file_view) c.file.ensures in
    let h = report_file (map file_view files) i (file_view f) at c.in_err-check_file.field-0.0 c.in_err-check_file.ensures.fault_is_true in
    search (rules, h)

pub loop-file_index-preserved : goal.loop-file_index-preserved
loop-file_index-preserved c =
    let files = c.args.named.now in
    let i = c.loop-file_index.file_index in
    let f = c.file.result.now in
    let lt : i < length files = slice_get_within files i f c.file.ensures in
    let is : f ≡ get_or files i f = sym (get_or_from_slice_get files i f f c.file.ensures) in
    all_seen file_view files i f lt is FileHolds c.loop-file_index.invariant c.in_ok-check_file.ensures.ok
