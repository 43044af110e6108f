use Rattle.fidl_decode_model.proofs.Led.{own_handle, other_handle}
use Rattle.fidl_decode_model.proofs.worked.placed.an_unknown_member_has_its_own_handle.Goals as goal

pub returns-clause-second : goal.returns-clause-second
returns-clause-second c = own_handle

pub returns-clause-first : goal.returns-clause-first
returns-clause-first c = other_handle
