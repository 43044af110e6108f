use Rattle.std.proofs.Common.{◌∙◌, sym, true≢false}
use Rattle.fidl_composition.proofs.Naming.{just_protocol, no_protocol_meant}
use Rattle.fidl_composition.proofs.names.protocol_meant.Goals as goal

pub returns-in-Ok : goal.returns-in-Ok
returns-in-Ok c = just_protocol c.args.named.now c.args.file_index c.args.path.now c.requires c.in-Ok.meaning c.in-Ok.ensures.ok c.declared.result c.declared.ensures.found c.declared.ensures.none

pub returns-else-is_memory : goal.returns-else-is_memory
returns-else-is_memory c = no_protocol_meant c.args.named.now c.args.file_index c.args.path.now c.requires c.in-Err.fault c.in-Err.ensures.fault_is_true (λ is. true≢false (sym (c.is_memory.ensures.1 is) ∙ c.if-is_memory.false))
