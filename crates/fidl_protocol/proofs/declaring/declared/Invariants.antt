use Rattle.std.proofs.Common.{take}
use Rattle.std.specs.List.{Contains}
use Rattle.fidl_named.specs.declared.place.DeclarationId.{DeclarationId}
use Rattle.fidl_protocol.specs.Checked.{MembersHold}
use Rattle.fidl_protocol.specs.Gathered.{AreRows}
use Rattle.fidl_protocol.proofs.declaring.declared.Given as goal

-- the rows so far
abbrev pub invariant-loop-id : goal.invariant-loop-id
invariant-loop-id l = record {
  rows : AreRows l.types (take l.id-index l.ids) l.rows.items;
  hold : (id : DeclarationId) → Contains (take l.id-index l.ids) id → MembersHold l.types id;
}
