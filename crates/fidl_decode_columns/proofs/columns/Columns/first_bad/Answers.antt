use Rattle.std.proofs.Common.{◌≡◌, sym, ap, subst, ◌∙◌}
use Rattle.std.specs.Prelude.{Some, IsTrue}
use Rattle.std.specs.Int.{byte_len}
use Rattle.fidl_wire.specs.Term.{width}
use Rattle.fidl_table_format.specs.declared.kind.EntryKind.{EntryKind}
use Rattle.fidl_table_format.specs.declared.kind.EntryKind.TheVariants.{Bool as Boolean, Bits, Enum}
use Rattle.fidl_table_format.specs.declared.record.Entry.{Entry}
use Rattle.fidl_table_format.specs.Entry.{subtype_is}
use Rattle.fidl_table_format.specs.Kind.{kind_of}
use Rattle.fidl_table_format.specs.Section.{entry_at}
use Rattle.fidl_table_format.specs.Terms.{underlying}
use Rattle.fidl_table_format.specs.Uses.{is_unsigned}
use Rattle.fidl_decode_model.proofs.Visiting.{fine_as}
use Rattle.fidl_decode_columns.specs.Columns.{place_of, HasRoom, IsFirstNot, IsGoodAt}
use Rattle.fidl_decode_columns.proofs.Numbers.{bool_size, bits_size, enum_size}
use Rattle.fidl_decode_columns.proofs.columns.Columns.first_bad.Goals as goal

pub first_no_bool-requires : goal.first_no_bool-requires
first_no_bool-requires c =
    let t = c.args.self.now.table.now in
    let is : kind_of (entry_at t c.args.entry).kind ≡ Some Boolean = c.requires.kind ∙ ap (λ (k : EntryKind). Some k) c.in-Bool.is in
    record { room = subst (λ n. HasRoom c.args.self.now.links.now c.args.column n c.args.limit) (sym (bool_size t c.args.self.now.fine c.args.entry c.requires.entry is)) c.requires.room }

pub first_bad_bits-requires-clause-kind : goal.first_bad_bits-requires-clause-kind
first_bad_bits-requires-clause-kind c =
    let t = c.args.self.now.table.now in
    let is : kind_of (entry_at t c.args.entry).kind ≡ Some Bits = c.requires.kind ∙ ap (λ (k : EntryKind). Some k) c.in-Bits.is in
    subst (λ (e : Entry). IsTrue (subtype_is is_unsigned e)) (sym c.entry.ensures.value) (fine_as t c.args.self.now.fine c.args.entry Bits c.requires.entry is).content

pub first_bad_bits-requires-clause-room : goal.first_bad_bits-requires-clause-room
first_bad_bits-requires-clause-room c =
    let t = c.args.self.now.table.now in
    let is : kind_of (entry_at t c.args.entry).kind ≡ Some Bits = c.requires.kind ∙ ap (λ (k : EntryKind). Some k) c.in-Bits.is in
    let own = subst (λ n. HasRoom c.args.self.now.links.now c.args.column n c.args.limit) (sym (bits_size t c.args.self.now.fine c.args.entry c.requires.entry is)) c.requires.room in
    subst (λ (e : Entry). HasRoom c.args.self.now.links.now c.args.column (byte_len (width (underlying e))) c.args.limit) (sym c.entry.ensures.value) own

pub first_bad_enum-requires-clause-room : goal.first_bad_enum-requires-clause-room
first_bad_enum-requires-clause-room c =
    let t = c.args.self.now.table.now in
    let is : kind_of (entry_at t c.args.entry).kind ≡ Some Enum = c.requires.kind ∙ ap (λ (k : EntryKind). Some k) c.in-Enum.is in
    subst (λ n. HasRoom c.args.self.now.links.now c.args.column n c.args.limit) (sym (enum_size t c.args.self.now.fine c.args.entry c.requires.entry is)) c.requires.room

pub returns-in-Bits-clause-value : goal.returns-in-Bits-clause-value
returns-in-Bits-clause-value c =
    let t = c.args.self.now.table.now in
    let bytes = c.args.self.now.links.now.came in
    let own = subst (λ (e : Entry). IsFirstNot (λ k. IsGoodAt t bytes e Bits (place_of c.args.column k)) c.args.limit c.first_bad_bits.result) c.entry.ensures.value c.first_bad_bits.ensures in
    subst (λ (j : EntryKind). IsFirstNot (λ k. IsGoodAt t bytes (entry_at t c.args.entry) j (place_of c.args.column k)) c.args.limit c.first_bad_bits.result) (sym c.in-Bits.is) own

pub returns-in-Enum-clause-value : goal.returns-in-Enum-clause-value
returns-in-Enum-clause-value c =
    let t = c.args.self.now.table.now in
    subst (λ (j : EntryKind). IsFirstNot (λ k. IsGoodAt t c.args.self.now.links.now.came (entry_at t c.args.entry) j (place_of c.args.column k)) c.args.limit c.first_bad_enum.result) (sym c.in-Enum.is) c.first_bad_enum.ensures.value
