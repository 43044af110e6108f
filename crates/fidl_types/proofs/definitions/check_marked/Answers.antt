use Rattle.fidl_ir.specs.Terms.{definitions_view}
use Rattle.fidl_types.proofs.Counted.{holder_there, cycle_there}
use Rattle.fidl_types.proofs.definitions.check_marked.Goals as goal

pub place_of-requires : goal.place_of-requires
place_of-requires c =
    let arm = c.in-Err-NotResource in
    let s = c.args.sources.now in
    holder_there s.named.now s.forms.now c.requires.known.forms (definitions_view c.args.definitions.now) c.requires.are c.deref.result.now arm.field-0 arm.ensures.fault_is_true arm.definition arm.field-0-1 arm.field-0-is

pub place_of-requires-in-Err-InlineCycle : goal.place_of-requires-in-Err-InlineCycle
place_of-requires-in-Err-InlineCycle c =
    let arm = c.in-Err-InlineCycle in
    let s = c.args.sources.now in
    cycle_there s.named.now s.forms.now c.requires.known.forms (definitions_view c.args.definitions.now) c.requires.are c.deref.result.now arm.field-0 arm.ensures.fault_is_true arm.definition arm.field-0-is
