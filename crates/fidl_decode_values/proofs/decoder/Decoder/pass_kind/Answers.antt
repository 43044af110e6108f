use Rattle.std.specs.Prelude.{Some}
use Rattle.fidl_table_format.specs.declared.kind.EntryKind.{EntryKind}
use Rattle.std.proofs.Common.{ap, ◌∙◌}
use Rattle.fidl_decode_values.proofs.decoder.Decoder.pass_kind.Goals as goal

pub pass_bool-requires-clause-entry : goal.pass_bool-requires-clause-entry
pass_bool-requires-clause-entry c = c.requires.entry

pub pass_bool-requires-clause-room : goal.pass_bool-requires-clause-room
pass_bool-requires-clause-room c = c.requires.room

pub pass_bool-requires-clause-state : goal.pass_bool-requires-clause-state
pass_bool-requires-clause-state c = c.requires.state

pub pass_bool-requires-clause-depth : goal.pass_bool-requires-clause-depth
pass_bool-requires-clause-depth c = c.requires.depth

pub pass_bool-requires-clause-budget : goal.pass_bool-requires-clause-budget
pass_bool-requires-clause-budget c = c.requires.budget

pub pass_text-requires-clause-entry : goal.pass_text-requires-clause-entry
pass_text-requires-clause-entry c = c.requires.entry

pub pass_text-requires-clause-room : goal.pass_text-requires-clause-room
pass_text-requires-clause-room c = c.requires.room

pub pass_text-requires-clause-state : goal.pass_text-requires-clause-state
pass_text-requires-clause-state c = c.requires.state

pub pass_text-requires-clause-depth : goal.pass_text-requires-clause-depth
pass_text-requires-clause-depth c = c.requires.depth

pub pass_text-requires-clause-budget : goal.pass_text-requires-clause-budget
pass_text-requires-clause-budget c = c.requires.budget

pub pass_struct-requires-clause-entry : goal.pass_struct-requires-clause-entry
pass_struct-requires-clause-entry c = c.requires.entry

pub pass_struct-requires-clause-room : goal.pass_struct-requires-clause-room
pass_struct-requires-clause-room c = c.requires.room

pub pass_struct-requires-clause-state : goal.pass_struct-requires-clause-state
pass_struct-requires-clause-state c = c.requires.state

pub pass_struct-requires-clause-depth : goal.pass_struct-requires-clause-depth
pass_struct-requires-clause-depth c = c.requires.depth

pub pass_struct-requires-clause-budget : goal.pass_struct-requires-clause-budget
pass_struct-requires-clause-budget c = c.requires.budget

pub returns-in-Bool-clause-passed : goal.returns-in-Bool-clause-passed
returns-in-Bool-clause-passed c = c.pass_bool.ensures.passed

pub returns-in-Bool-clause-kept : goal.returns-in-Bool-clause-kept
returns-in-Bool-clause-kept c = c.pass_bool.ensures.kept

pub returns-in-Bool-clause-grows : goal.returns-in-Bool-clause-grows
returns-in-Bool-clause-grows c = c.pass_bool.ensures.grows

pub returns-in-Bool-clause-pays : goal.returns-in-Bool-clause-pays
returns-in-Bool-clause-pays c = c.pass_bool.ensures.pays

pub pass_bool-requires-clause-kind : goal.pass_bool-requires-clause-kind
pass_bool-requires-clause-kind c = c.requires.kind ∙ ap (λ (k : EntryKind). Some k) c.in-Bool.is

pub returns-in-String-clause-passed : goal.returns-in-String-clause-passed
returns-in-String-clause-passed c = c.pass_text.ensures.passed

pub returns-in-String-clause-kept : goal.returns-in-String-clause-kept
returns-in-String-clause-kept c = c.pass_text.ensures.kept

pub returns-in-String-clause-grows : goal.returns-in-String-clause-grows
returns-in-String-clause-grows c = c.pass_text.ensures.grows

pub returns-in-String-clause-pays : goal.returns-in-String-clause-pays
returns-in-String-clause-pays c = c.pass_text.ensures.pays

pub pass_text-requires-clause-kind : goal.pass_text-requires-clause-kind
pass_text-requires-clause-kind c = c.requires.kind ∙ ap (λ (k : EntryKind). Some k) c.in-String.is

pub returns-in-Struct-clause-passed : goal.returns-in-Struct-clause-passed
returns-in-Struct-clause-passed c = c.pass_struct.ensures.passed

pub returns-in-Struct-clause-kept : goal.returns-in-Struct-clause-kept
returns-in-Struct-clause-kept c = c.pass_struct.ensures.kept

pub returns-in-Struct-clause-grows : goal.returns-in-Struct-clause-grows
returns-in-Struct-clause-grows c = c.pass_struct.ensures.grows

pub returns-in-Struct-clause-pays : goal.returns-in-Struct-clause-pays
returns-in-Struct-clause-pays c = c.pass_struct.ensures.pays

pub pass_struct-requires-clause-kind : goal.pass_struct-requires-clause-kind
pass_struct-requires-clause-kind c = c.requires.kind ∙ ap (λ (k : EntryKind). Some k) c.in-Struct.is
