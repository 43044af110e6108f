-- Tables that declare the same.
use Rattle.std.proofs.Common.{◌≡◌, ℕ, zero, suc, ◌+◌, ◌<◌, ◌≤◌, ◌/◌, ◌%◌, List, [], ◌∷◌, ◌++◌, map, Bool, false, IsTrue, if◌then◌else◌, Option, Some, None, refl, sym, ap, ◌∙◌, subst, arith}
use Rattle.std.specs.Prelude.{IsFalse, ◌==◌}
use Rattle.std.specs.Option.{option_map_or}
use Rattle.std.proofs.lemmas.List.{map-append}
use Rattle.fidl_wire.specs.Term as ty
use Rattle.fidl_wire.specs.Term.{Term, Fields, field, Rows, row, nothing}
use Rattle.fidl_wire.specs.Figure.{Figure, figure}
use Rattle.fidl_table_format.specs.declared.record.Header.{Header}
use Rattle.fidl_table_format.specs.declared.record.Entry.{Entry}
use Rattle.fidl_table_format.specs.declared.record.Row.{Row}
use Rattle.fidl_table_format.specs.declared.kind.EntryKind.{EntryKind}
use Rattle.fidl_table_format.specs.declared.kind.EntryKind.TheVariants.{Bool as Boolean, Int8, Int16, Int32, Int64, Uint8, Uint16, Uint32, Uint64, Bits, Enum, String, Vector, Array, Box, Struct, Table, Union, Handle}
use Rattle.fidl_table_format.specs.Kind.{kind_of}
use Rattle.fidl_table_format.specs.Section.{header_of, entry_at, name_at, row_at}
use Rattle.fidl_table_format.specs.Terms.{is_optional, is_strict, as_number, underlying, strict_values, fields_from, rows_from, term_as, term_of, stated_figure, below}
use Rattle.fidl_table_format.specs.Uses.{uses_rows, uses_values}
use Rattle.fidl_table_format.specs.Entry.{kind_is}
use Rattle.fidl_table_format.specs.WellFormed.{WellFormed}
use Rattle.fidl_migrate.specs.Kept.{HasCounts, HasFields, KeepsEntry, KeepsRows, KeepsEntries, KeepsRest, numbers_of}
use Rattle.fidl_migrate.specs.Migrated.{IsKept}
use Rattle.fidl_migrate.proofs.Moved.{same_root, same_protocol, same_method, same_text}

-- an entry's values are in the table
pub values_within : (bytes : List ℕ) → WellFormed bytes → (index : ℕ) → index < (header_of bytes).entries → (e : Entry) → e ≡ entry_at bytes index
    → IsTrue (kind_is uses_values e) → e.first + e.count ≤ (header_of bytes).values
values_within bytes well index p e is =
    subst (λ e. IsTrue (kind_is uses_values e) → e.first + e.count ≤ (header_of bytes).values) (sym is) (well.entries index p).children.values

-- one entry
same_entry : (before after : Entry) → HasFields before after → after.first ≡ before.first → after.count ≡ before.count → after ≡ before
same_entry before after fields first count = λ i. record {
  kind = fields.kind i;
  flags = fields.flags i;
  alignment = fields.alignment i;
  nest = fields.nest i;
  size = fields.size i;
  first = first i;
  count = count i;
  bound = fields.bound i;
  subtype = fields.subtype i;
  rights = fields.rights i;
  name_place = fields.name_place i;
  name_length = fields.name_length i;
}

-- the same list of what is at each number
same_map : {X : Type 0} (f g : ℕ → X) (n : ℕ) → ((i : ℕ) → i < n → f i ≡ g i) → map f (below n) ≡ map g (below n)
same_map f g zero each = refl
same_map f g (suc n) each =
    map-append f (below n) (n ∷ []) ∙ ap (λ l. l ++ f n ∷ []) (same_map f g n (λ i p. each i (omega (arith, p))))
    ∙ ap (λ x. map g (below n) ++ x ∷ []) (each n (omega arith)) ∙ sym (map-append g (below n) (n ∷ []))

module _ (old new : List ℕ) (rows : KeepsRows old new) (text : (place name_length : ℕ) → name_at new (header_of new) place name_length ≡ name_at old (header_of old) place name_length) where
  abbrev old_header : Header
  old_header = header_of old

  abbrev new_header : Header
  new_header = header_of new

  -- the same members
  same_fields : (first count : ℕ) → first + count ≤ old_header.rows → fields_from new new_header first count ≡ fields_from old old_header first count
  same_fields first zero p = refl
  same_fields first (suc n) p =
      let r = row_at old old_header first in
      ap (λ (r : Row). field (name_at new new_header r.name_place r.name_length) (ty.named r.entry) (fields_from new new_header (suc first) n)) (rows first (omega (arith, p)))
      ∙ ap (λ name. field name (ty.named r.entry) (fields_from new new_header (suc first) n)) (text r.name_place r.name_length)
      ∙ ap (λ fs. field (name_at old old_header r.name_place r.name_length) (ty.named r.entry) fs) (same_fields (suc first) n (omega (arith, p)))

  same_rows : (first count : ℕ) → first + count ≤ old_header.rows → rows_from new new_header first count ≡ rows_from old old_header first count
  same_rows first zero p = refl
  same_rows first (suc n) p =
      let r = row_at old old_header first in
      ap (λ (r : Row). row r.key (name_at new new_header r.name_place r.name_length) (ty.named r.entry) (rows_from new new_header (suc first) n)) (rows first (omega (arith, p)))
      ∙ ap (λ name. row r.key name (ty.named r.entry) (rows_from new new_header (suc first) n)) (text r.name_place r.name_length)
      ∙ ap (λ rs. row r.key (name_at old old_header r.name_place r.name_length) (ty.named r.entry) rs) (same_rows (suc first) n (omega (arith, p)))

  -- the same type, by its kind
  same_term : (k : EntryKind) (before after : Entry) → HasFields before after → (IsFalse (uses_values k) → after.first ≡ before.first)
      → (IsFalse (uses_values k) → after.count ≡ before.count) → (IsTrue (uses_values k) → numbers_of new after ≡ numbers_of old before)
      → (IsTrue (uses_rows k) → before.first + before.count ≤ old_header.rows) → term_as k new new_header after ≡ term_as k old old_header before
  same_term Boolean before after fields first count values within = ap (term_as Boolean new new_header) (same_entry before after fields (first refl) (count refl))
  same_term Int8 before after fields first count values within = ap (term_as Int8 new new_header) (same_entry before after fields (first refl) (count refl))
  same_term Int16 before after fields first count values within = ap (term_as Int16 new new_header) (same_entry before after fields (first refl) (count refl))
  same_term Int32 before after fields first count values within = ap (term_as Int32 new new_header) (same_entry before after fields (first refl) (count refl))
  same_term Int64 before after fields first count values within = ap (term_as Int64 new new_header) (same_entry before after fields (first refl) (count refl))
  same_term Uint8 before after fields first count values within = ap (term_as Uint8 new new_header) (same_entry before after fields (first refl) (count refl))
  same_term Uint16 before after fields first count values within = ap (term_as Uint16 new new_header) (same_entry before after fields (first refl) (count refl))
  same_term Uint32 before after fields first count values within = ap (term_as Uint32 new new_header) (same_entry before after fields (first refl) (count refl))
  same_term Uint64 before after fields first count values within = ap (term_as Uint64 new new_header) (same_entry before after fields (first refl) (count refl))
  same_term Bits before after fields first count values within = ap (term_as Bits new new_header) (same_entry before after fields (first refl) (count refl))
  same_term String before after fields first count values within = ap (term_as String new new_header) (same_entry before after fields (first refl) (count refl))
  same_term Vector before after fields first count values within = ap (term_as Vector new new_header) (same_entry before after fields (first refl) (count refl))
  same_term Array before after fields first count values within = ap (term_as Array new new_header) (same_entry before after fields (first refl) (count refl))
  same_term Box before after fields first count values within = ap (term_as Box new new_header) (same_entry before after fields (first refl) (count refl))
  same_term Handle before after fields first count values within = ap (term_as Handle new new_header) (same_entry before after fields (first refl) (count refl))
  same_term Enum before after fields first count values within =
      let number : underlying after ≡ underlying before = ap (λ s. option_map_or as_number (kind_of s) ty.uint8) fields.subtype in
      let flag : is_strict after ≡ is_strict before = ap (λ f. f / 2 % 2 == 1) fields.flags in
      ap (λ k. ty.enum k (strict_values new new_header after)) number
      ∙ ap (λ b. ty.enum (underlying before) (if b then Some (numbers_of new after) else None)) flag
      ∙ ap (λ ns. ty.enum (underlying before) (if is_strict before then Some ns else None)) (values refl)
  same_term Struct before after fields first count values within =
      ap (term_as Struct new new_header) (same_entry before after fields (first refl) (count refl)) ∙ ap ty.struct (same_fields before.first before.count (within refl))
  same_term Table before after fields first count values within =
      ap (term_as Table new new_header) (same_entry before after fields (first refl) (count refl)) ∙ ap ty.table (same_rows before.first before.count (within refl))
  same_term Union before after fields first count values within =
      ap (term_as Union new new_header) (same_entry before after fields (first refl) (count refl))
      ∙ ap (ty.union (is_optional before) (is_strict before)) (same_rows before.first before.count (within refl))

  -- what an entry that is kept declares
  kept_term : (before after : Entry) → KeepsEntry old new before after → (IsTrue (kind_is uses_rows before) → before.first + before.count ≤ old_header.rows)
      → term_of new new_header after ≡ term_of old old_header before
  kept_term before after kept within = ap (λ k. option_map_or (λ k. term_as k new new_header after) (kind_of k) nothing) kept.fields.kind ∙ by (kind_of before.kind) refl
    where
      by : (o : Option EntryKind) → kind_of before.kind ≡ o → option_map_or (λ k. term_as k new new_header after) o nothing ≡ option_map_or (λ k. term_as k old old_header before) o nothing
      by None is = refl
      by (Some k) is =
          let test : (t : EntryKind → Bool) → kind_is t before ≡ t k = λ t. ap (λ o. option_map_or t o false) is in
          same_term k before after kept.fields (λ off. kept.first (test uses_values ∙ off)) (λ off. kept.count (test uses_values ∙ off))
          (λ on. kept.values (test uses_values ∙ on)) (λ on. within (test uses_rows ∙ on))

-- all that is kept
pub all_kept : (old new : List ℕ) → WellFormed old → HasCounts (header_of old) (header_of new) → KeepsRows old new → KeepsEntries old new → KeepsRest old new → IsKept old new
all_kept old new well counts rows entries rest =
    let text = same_text old new counts rest in
    let term : List ℕ → ℕ → Term = λ bytes i. term_of bytes (header_of bytes) (entry_at bytes i) in
    let stated : List ℕ → ℕ → Figure = λ bytes i. stated_figure (entry_at bytes i) in
    let terms : map (term new) (below (header_of new).entries) ≡ map (term old) (below (header_of old).entries) =
    ap (λ n. map (term new) (below n)) counts.entries
    ∙ same_map (term new) (term old) (header_of old).entries (λ i p. kept_term old new rows text (entry_at old i) (entry_at new i) (entries i p) (well.entries i p).children.within) in
    let figures : map (stated new) (below (header_of new).entries) ≡ map (stated old) (below (header_of old).entries) =
    ap (λ n. map (stated new) (below n)) counts.entries
    ∙ same_map (stated new) (stated old) (header_of old).entries (λ i p. let f = (entries i p).fields in λ j. figure (f.size j) (f.alignment j) (f.nest j)) in
    record {
      declarations = λ j. record { terms = terms j; figures = figures j };
      names = record {
        names = counts.names;
        text = text;
        entries = λ i p. let f = (entries i p).fields in
            ap (λ place. name_at new (header_of new) place (entry_at new i).name_length) f.name_place
            ∙ ap (λ n. name_at new (header_of new) (entry_at old i).name_place n) f.name_length
            ∙ text (entry_at old i).name_place (entry_at old i).name_length;
      };
      records = record {
        roots = counts.roots;
        protocols = counts.protocols;
        methods = counts.methods;
        root = λ i p. same_root old new counts rest i;
        protocol = λ i p. same_protocol old new counts rest i;
        method = λ i p. same_method old new counts rest i;
      };
    }

-- a table keeps what it says itself
pub kept_itself : (bytes : List ℕ) → IsKept bytes bytes
kept_itself bytes = record {
  declarations = refl;
  names = record { names = refl; text = λ place name_length. refl; entries = λ index p. refl };
  records = record { roots = refl; protocols = refl; methods = refl; root = λ index p. refl; protocol = λ index p. refl; method = λ index p. refl };
}
