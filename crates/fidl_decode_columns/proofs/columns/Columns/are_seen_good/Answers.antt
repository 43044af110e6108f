use Rattle.std.proofs.Common.{rules, ◌≡◌, ℕ, sym, ap, subst, ◌∙◌, arith}
use Rattle.std.specs.Prelude.{Bool, true, Option, Some, None, IfSome, bit_or, if◌then◌else◌}
use Rattle.std.proofs.lemmas.Nat.{le_or_l}
use Rattle.fidl_wire.specs.Term.{width}
use Rattle.fidl_wire.specs.Typed.{InMask}
use Rattle.fidl_table_format.specs.declared.kind.EntryKind.{EntryKind}
use Rattle.fidl_table_format.specs.declared.kind.EntryKind.TheVariants.{Bool as Boolean, Bits}
use Rattle.fidl_table_format.specs.declared.record.Entry.{Entry}
use Rattle.fidl_table_format.specs.Kind.{kind_of}
use Rattle.fidl_table_format.specs.Number.{number_standing}
use Rattle.fidl_table_format.specs.Section.{entry_at}
use Rattle.fidl_table_format.specs.Terms.{underlying, mask_of, is_strict}
use Rattle.fidl_decode_model.proofs.Visiting.{fine_as}
use Rattle.fidl_decode_columns.specs.Columns.{place_of, bits_at, HasRoom, IsGoodAt}
use Rattle.fidl_decode_columns.proofs.Numbers.{bool_size, bits_size}
use Rattle.fidl_decode_columns.proofs.Words.{bits_8, bits_standing, some_bytes}
use Rattle.fidl_decode_columns.proofs.columns.Columns.are_seen_good.Goals as goal

pub are_within-requires-clause-room : goal.are_within-requires-clause-room
are_within-requires-clause-room c =
    let t = c.args.self.now.table.now in
    let is : kind_of (entry_at t c.args.entry).kind ≡ Some Boolean = c.requires.kind ∙ ap (λ (k : EntryKind). Some k) c.in-Bool.is in
    subst (λ n. HasRoom c.args.self.now.links.now c.args.column n c.args.limit) (sym (bool_size t c.args.self.now.fine c.args.entry c.requires.entry is)) c.requires.room

pub are_within-requires-then-is_strict-clause-wide : goal.are_within-requires-then-is_strict-clause-wide
are_within-requires-then-is_strict-clause-wide c =
    let t = c.args.self.now.table.now in
    let is : kind_of (entry_at t c.args.entry).kind ≡ Some Bits = c.requires.kind ∙ ap (λ (k : EntryKind). Some k) c.in-Bits.is in
    let own : c.entry-e.result.size ≡ (entry_at t c.args.entry).size = ap (λ (e : Entry). e.size) c.entry-e.ensures.value in
    let size = bits_size t c.args.self.now.fine c.args.entry c.requires.entry is in
    omega (arith, own, size, some_bytes (width (underlying (entry_at t c.args.entry))))

pub returns-in-Bool-clause-value : goal.returns-in-Bool-clause-value
returns-in-Bool-clause-value c =
    let t = c.args.self.now.table.now in
    let bytes = c.args.self.now.links.now.came in
    λ yes k lt.
    let p = place_of c.args.column k in
    let one = c.are_within.ensures.value yes k lt in
    subst (λ (j : EntryKind). IsGoodAt t bytes (entry_at t c.args.entry) j p) (sym c.in-Bool.is) (omega (arith, one, le_or_l (bits_at bytes p 1) 1, bits_8 bytes p))

pub returns-then-is_strict-clause-value : goal.returns-then-is_strict-clause-value
returns-then-is_strict-clause-value c =
    let t = c.args.self.now.table.now in
    let bytes = c.args.self.now.links.now.came in
    let d = entry_at t c.args.entry in
    let own = c.entry-e.ensures.value in
    let is : kind_of d.kind ≡ Some Bits = c.requires.kind ∙ ap (λ (k : EntryKind). Some k) c.in-Bits.is in
    let strict : is_strict d ≡ true = (let r = sym c.is_strict.ensures in search (rules, r, own, c.if-is_strict.true)) in
    let masked : mask_of d ≡ Some d.bound = ap (λ (b : Bool). if b then Some d.bound else None) strict in
    λ yes k lt.
    let p = place_of c.args.column k in
    let within = subst (λ (e : Entry). bit_or (bits_at bytes p e.size) e.bound ≡ e.bound) own (c.are_within-then-is_strict.ensures.value yes k lt) in
    let sized = subst (λ n. bit_or (bits_at bytes p n) d.bound ≡ d.bound) (sym (bits_size t c.args.self.now.fine c.args.entry c.requires.entry is)) within in
    let number = bits_standing (kind_of d.subtype) (fine_as t c.args.self.now.fine c.args.entry Bits c.requires.entry is).content bytes p in
    let good = subst (InMask d.bound) (sym number) sized in
    subst (λ (j : EntryKind). IsGoodAt t bytes d j p) (sym c.in-Bits.is) (subst (λ (o : Option ℕ). IfSome o (λ mask. InMask mask (number_standing (underlying d) bytes p))) (sym masked) good)
