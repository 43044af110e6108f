use Rattle.std.proofs.Common.{◌≡◌, ap, sym, ◌∙◌}
use Rattle.std.specs.Prelude.{Some, None}
use Rattle.fidl_table_format.specs.declared.record.Entry.{Entry}
use Rattle.fidl_table_format.specs.Kind.{kind_of}
use Rattle.fidl_table_format.specs.Section.{entry_at}
use Rattle.fidl_decode_model.proofs.Bridge.{fine_of}
use Rattle.fidl_members.proofs.kinds.entry_kind.Goals as goal

no_some : {A : Type 0} (a : A) → Some a ≡ None → ⊥
no_some a e = cc

pub unreachable-requires : goal.unreachable-requires
unreachable-requires c =
    let t = c.args.table.now in
    let f = (fine_of t c.entry.ensures.well_formed).each c.args.entry c.requires in
    let none : kind_of (entry_at t c.args.entry).kind ≡ None = ap (λ (e : Entry). kind_of e.kind) (sym c.entry.ensures.value) ∙ sym c.from_number.ensures ∙ c.in-None.is in
    no_some f.0 (sym f.1.is ∙ none)
