use Rattle.std.proofs.Common.{◌≡◌, ℕ, List, ap, sym, subst, ◌∙◌, arith}
use Rattle.std.specs.Prelude.{Option, Some, None, IsTrue, false, true}
use Rattle.std.specs.Option.{option_map_or}
use Rattle.fidl_table_format.specs.declared.record.Entry.{Entry}
use Rattle.fidl_table_format.specs.declared.kind.EntryKind.{EntryKind}
use Rattle.fidl_table_format.specs.Kind.{kind_of}
use Rattle.fidl_table_format.specs.Section.{entry_at}
use Rattle.fidl_table_format.specs.Uses.{is_number}
use Rattle.fidl_table_format.specs.WellFormed.{WellFormed}
use Rattle.fidl_view.proofs.Viewing as viewing
use Rattle.fidl_view.proofs.view.View.underlying.Goals as goal

pub unreachable-requires : goal.unreachable-requires
unreachable-requires c =
    let d = c.args.self.decoded.now in
    let i = c.args.self.index in
    let w = subst (λ (b : List ℕ). WellFormed b) c.table.ensures c.entry.ensures.well_formed in
    let same : c.entry.result ≡ entry_at d.table i = c.entry.ensures.value ∙ ap (λ (b : List ℕ). entry_at b i) c.table.ensures in
    let none : kind_of (entry_at d.table i).subtype ≡ None = ap (λ (e : Entry). kind_of e.subtype) (sym same) ∙ sym c.from_subtype.ensures ∙ c.in-None.is in
    let number = viewing.subtype_there d w i c.args.self.place c.args.self.in_range c.requires in
    let never : false ≡ true = subst (λ (o : Option EntryKind). IsTrue (option_map_or is_number o false)) none number in
    viewing.unknown_none never

pub returns-clause-numbers : goal.returns-clause-numbers
returns-clause-numbers c =
    let d = c.args.self.decoded.now in
    let i = c.args.self.index in
    let k = c.in-Some.kind in
    let w = subst (λ (b : List ℕ). WellFormed b) c.table.ensures c.entry.ensures.well_formed in
    let same : c.entry.result ≡ entry_at d.table i = c.entry.ensures.value ∙ ap (λ (b : List ℕ). entry_at b i) c.table.ensures in
    let named : kind_of (entry_at d.table i).subtype ≡ Some k = ap (λ (e : Entry). kind_of e.subtype) (sym same) ∙ sym c.from_subtype.ensures ∙ c.in-Some.is in
    viewing.numbers_there d w i c.args.self.place c.args.self.in_range c.requires k named

pub returns-clause-room : goal.returns-clause-room
returns-clause-room c =
    let d = c.args.self.decoded.now in
    let i = c.args.self.index in
    let k = c.in-Some.kind in
    let w = subst (λ (b : List ℕ). WellFormed b) c.table.ensures c.entry.ensures.well_formed in
    let same : c.entry.result ≡ entry_at d.table i = c.entry.ensures.value ∙ ap (λ (b : List ℕ). entry_at b i) c.table.ensures in
    let named : kind_of (entry_at d.table i).subtype ≡ Some k = ap (λ (e : Entry). kind_of e.subtype) (sym same) ∙ sym c.from_subtype.ensures ∙ c.in-Some.is in
    let fits = viewing.fits_there d w i c.args.self.place c.args.self.in_range c.requires k named in
    omega (arith, fits, c.args.self.room)
