use Rattle.std.proofs.Common.{◌∙◌, get_or, ap, sym}
use Rattle.std.specs.List.{list_any}
use Rattle.fidl_wire.specs.Term.{Term, nothing}
use Rattle.fidl_ir.specs.Terms.{definition_view, definitions_view}
use Rattle.fidl_ir.specs.Members.{member_types}
use Rattle.fidl_ir_rules.specs.declared.mark.Mark.{Mark}
use Rattle.fidl_ir_rules.specs.Resources.{bears, is_resource_by}
use Rattle.fidl_ir_rules.specs.Flags.{is_flagged}
use Rattle.fidl_ir_rules.proofs.Seen.{definition_is}
use Rattle.fidl_ir_rules.proofs.Flagged.{any_bears}
use Rattle.fidl_ir_rules.proofs.resources.is_resource.Goals as goal

pub returns-else-number-definitions : goal.returns-else-number-definitions
returns-else-number-definitions c =
    let ds = c.args.definitions.now in
    let i = c.args.number in
    let d = c.index-definitions-number.result in
    let marked = is_flagged c.args.marked.now in
    let any = any_bears marked (member_types (definition_view d)) c.bearing_member.result c.bearing_member.ensures.some c.bearing_member.ensures.none in
    let term = ap (λ (t : Term). list_any (bears marked) (member_types t)) (definition_is ds i d c.if-number-definitions.false c.index-definitions-number.is) in
    let mark = ap (λ (m : Mark). is_resource_by marked m (get_or (definitions_view ds) i nothing)) c.in-Result.is in
    c.is_some.ensures ∙ any ∙ term ∙ sym mark
