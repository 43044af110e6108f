use Rattle.std.proofs.Common.{◌≡◌, ℕ, List, ap, sym, subst, ◌∙◌}
use Rattle.std.specs.Prelude.{Some, None}
use Rattle.fidl_table_format.specs.declared.record.Entry.{Entry}
use Rattle.fidl_table_format.specs.Kind.{kind_of}
use Rattle.fidl_table_format.specs.Section.{entry_at}
use Rattle.fidl_table_format.specs.WellFormed.{WellFormed}
use Rattle.fidl_decode_model.proofs.Bridge.{fine_of}
use Rattle.fidl_view.proofs.kind.entry_kind.Goals as goal

no_some : {A : Type 0} (a : A) → Some a ≡ None → ⊥
no_some a e = cc

pub unreachable-requires : goal.unreachable-requires
unreachable-requires c =
    let t = c.args.decoded.now.table in
    let w : WellFormed t = subst (λ (b : List ℕ). WellFormed b) c.table.ensures c.entry-entry.ensures.well_formed in
    let f = (fine_of t w).each c.args.index c.requires in
    let e : c.entry-entry.result ≡ entry_at t c.args.index = c.entry-entry.ensures.value ∙ ap (λ (b : List ℕ). entry_at b c.args.index) c.table.ensures in
    let none : kind_of (entry_at t c.args.index).kind ≡ None = ap (λ (e : Entry). kind_of e.kind) (sym e) ∙ sym c.from_number.ensures ∙ c.in-None.is in
    no_some f.0 (sym f.1.is ∙ none)
