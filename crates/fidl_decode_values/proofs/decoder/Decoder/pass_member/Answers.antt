use Rattle.std.proofs.Common.{◌≡◌, sym, ap, ◌∙◌}
use Rattle.std.specs.Prelude.{Some, None}
use Rattle.fidl_table_format.specs.declared.record.Entry.{Entry}
use Rattle.fidl_table_format.specs.Kind.{kind_of}
use Rattle.fidl_table_format.specs.Section.{entry_at}
use Rattle.fidl_decode_values.proofs.decoder.Decoder.pass_member.Goals as goal

no_some : {A : Type 0} (a : A) → Some a ≡ None → ⊥
no_some a e = cc

pub unreachable-requires : goal.unreachable-requires
unreachable-requires c =
    let f = c.args.self.now.fine.each c.args.entry c.requires.entry in
    let none : kind_of (entry_at c.args.self.now.table.now c.args.entry).kind ≡ None = ap (λ (e : Entry). kind_of e.kind) (sym c.entry-e.ensures.value) ∙ sym c.from_number.ensures ∙ c.in_default.is in
    no_some f.0 (sym f.1.is ∙ none)

pub entry-e-requires : goal.entry-e-requires
entry-e-requires c = c.requires.entry

pub pass_kind-requires-clause-entry : goal.pass_kind-requires-clause-entry
pass_kind-requires-clause-entry c = c.requires.entry

pub pass_kind-requires-clause-room : goal.pass_kind-requires-clause-room
pass_kind-requires-clause-room c = c.requires.room

pub pass_kind-requires-clause-state : goal.pass_kind-requires-clause-state
pass_kind-requires-clause-state c = c.requires.state

pub pass_kind-requires-clause-depth : goal.pass_kind-requires-clause-depth
pass_kind-requires-clause-depth c = c.requires.depth

pub pass_kind-requires-clause-budget : goal.pass_kind-requires-clause-budget
pass_kind-requires-clause-budget c = c.requires.budget

pub returns-clause-passed : goal.returns-clause-passed
returns-clause-passed c = c.pass_kind.ensures.passed

pub returns-clause-kept : goal.returns-clause-kept
returns-clause-kept c = c.pass_kind.ensures.kept

pub returns-clause-grows : goal.returns-clause-grows
returns-clause-grows c = c.pass_kind.ensures.grows

pub returns-clause-pays : goal.returns-clause-pays
returns-clause-pays c = c.pass_kind.ensures.pays
