-- The written text of a value spells it within the limit.
use Rattle.std.proofs.Common.{◌≡◌, ◌≤◌, ◌<◌, inl, inr, ℕ, zero, suc, List, [], ◌∷◌, length, map, refl, sym, ap, subst, arith}
use Rattle.std.specs.Prelude.{Option, Some, None, Result, Ok, Err, IfErr, MatchResult}
use Rattle.std.specs.Result.{IsErrAnd}
use Rattle.std.proofs.lemmas.List.{get_or_past}
use Rattle.std.proofs.lemmas.Bool.{cases_lt}
use Rattle.std.specs.Option.{option_map_or}
use Rattle.fidl_limits.specs.declared.limits.TheConstants.{MAX_NEST}
use Rattle.fidl_wire.specs.Term.{Term, Fields, Rows, resolve, nothing}
use Rattle.fidl_wire.specs.Term as ty
use Rattle.fidl_wire.specs.Value.{Value}
use Rattle.fidl_wire.specs.Figure.{Figure, figure, figure_of}
use Rattle.fidl_wire.specs.Text.{text_of}
use Rattle.fidl_table_format.specs.declared.record.Entry.{Entry}
use Rattle.fidl_table_format.specs.declared.kind.EntryKind.{EntryKind}
use Rattle.fidl_table_format.specs.declared.kind.EntryKind.TheVariants.{Bool as Boolean, Int8, Int16, Int32, Int64, Uint8, Uint16, Uint32, Uint64, Bits, Enum, String, Vector, Array, Box, Struct, Table, Union, Handle}
use Rattle.fidl_table_format.specs.Kind.{kind_of}
use Rattle.fidl_table_format.specs.Section.{header_of, entry_at, row_at}
use Rattle.fidl_table_format.specs.Entry.{figures_of}
use Rattle.fidl_table_format.specs.Terms.{declarations_of, below, term_of, term_as, stated_figure, fields_from, rows_from}
use Rattle.fidl_table_format.specs.WellFormed.{WellFormed}
use Rattle.fidl_verify.proofs.Declared.{laid_out}
use Rattle.fidl_verify.proofs.Stated.{length-below, stated_at}
use Rattle.fidl_spelling.specs.Spells.{Spelled, SpellsWithin}
use Rattle.fidl_spelling.specs.Readable.{AreNamesDistinct}
use Rattle.fidl_spelling.specs.Nested.{HasNest, HasParts, FieldsHaveNests, RowsHaveNests, IsNested, AreNested}
use Rattle.fidl_spelling.proofs.Opening.{few_in_value}
use Rattle.fidl_spelling.proofs.Reading.{whole}
use Rattle.fidl_spelling.proofs.Readable.{readable_resolve}
use Rattle.fidl_spelling.proofs.Texts.{spells}
use Rattle.fidl_spelling.proofs.WordLaws.{words_same}
use Rattle.fidl_reading.specs.declared.fault.NotationFault.{NotationFault}
use Rattle.fidl_reading.specs.declared.fault.NotationFault.TheVariants.{Syntax, UnknownName, OutOfRange, Repeated, Memory}
use Rattle.fidl_reading.specs.Reads.{IfJudged}
use Rattle.fidl_reading.specs.Written.{HasDistinctNames, IsWritten}
use Rattle.fidl_reading.proofs.Named.{all_declared, table_named, table_readable, single_at}

long_as : {X Y : Type 0} (f : X → Y) (xs : List X) → length (map f xs) ≡ length xs
long_as f [] = refl
long_as f (x ∷ xs) = ap suc (long_as f xs)

-- the nests of a well-formed table are within the limit
module _ (b : List ℕ) (w : WellFormed b) where
  named_nest : (i : ℕ) → HasNest (declarations_of b).figures (ty.named i)
  named_nest i = elim (cases_lt i (header_of b).entries) [
    | inl lt ↦ subst (λ (f : Figure). f.nest ≤ MAX_NEST) (sym (stated_at b (header_of b) i (figure 1 1 0) lt)) (w.entries i lt).nest.limit
    | inr past ↦
        let long : length (declarations_of b).figures ≤ i = omega (arith, past, long_as (λ j. stated_figure (entry_at b j)) (below (header_of b).entries), length-below (header_of b).entries) in
        subst (λ (f : Figure). f.nest ≤ MAX_NEST) (sym (get_or_past (declarations_of b).figures i (figure 1 1 0) long)) (omega arith)
  ]

  fields_nested : (first n : ℕ) → FieldsHaveNests (declarations_of b).figures (fields_from b (header_of b) first n)
  fields_nested first zero = tt
  fields_nested first (suc n) = (named_nest (row_at b (header_of b) first).entry, tt, fields_nested (suc first) n)

  rows_nested : (first n : ℕ) → RowsHaveNests (declarations_of b).figures (rows_from b (header_of b) first n)
  rows_nested first zero = tt
  rows_nested first (suc n) = (named_nest (row_at b (header_of b) first).entry, tt, rows_nested (suc first) n)

  term_nested : (k : EntryKind) (e : Entry) → HasParts (declarations_of b).figures (term_as k b (header_of b) e)
  term_nested Struct e = fields_nested e.first e.count
  term_nested Table e = rows_nested e.first e.count
  term_nested Union e = rows_nested e.first e.count
  term_nested Vector e = (named_nest e.first, tt)
  term_nested Array e = (named_nest e.first, tt)
  term_nested Box e = (named_nest e.first, tt)
  term_nested Boolean e = tt
  term_nested Int8 e = tt
  term_nested Int16 e = tt
  term_nested Int32 e = tt
  term_nested Int64 e = tt
  term_nested Uint8 e = tt
  term_nested Uint16 e = tt
  term_nested Uint32 e = tt
  term_nested Uint64 e = tt
  term_nested Bits e = tt
  term_nested Enum e = tt
  term_nested String e = tt
  term_nested Handle e = tt

  entry_nested : (i : ℕ) → i < (header_of b).entries → IsNested (declarations_of b).figures (term_of b (header_of b) (entry_at b i))
  entry_nested i lt =
      let n = (w.entries i lt).nest in
      let limit : (figure_of (figures_of b (header_of b)) (term_of b (header_of b) (entry_at b i))).nest ≤ MAX_NEST = subst (λ k. k ≤ MAX_NEST) n.nest n.limit in
      (limit, go (kind_of (entry_at b i).kind))
    where
      go : (o : Option EntryKind) → HasParts (declarations_of b).figures (option_map_or (λ k. term_as k b (header_of b) (entry_at b i)) o nothing)
      go None = tt
      go (Some k) = term_nested k (entry_at b i)

  table_nested : AreNested (declarations_of b)
  table_nested = all_declared b w (IsNested (declarations_of b).figures) entry_nested

  -- a written text spells its value
  module _ (entry : ℕ) (text : List ℕ) (v : Value) where
    pub written_spells : HasDistinctNames b → IsWritten b entry text v → SpellsWithin (declarations_of b) (ty.named entry) text v
    written_spells distinct is =
        let ds = declarations_of b in
        let t = ty.named entry in
        let u = resolve ds.terms t in
        let ready = table_readable b w distinct in
        let s = whole (Spelled ds u v) (text_of ds u v) (spells ds ready u v (readable_resolve AreNamesDistinct ds.terms t ready tt) is.typed) in
        subst (λ l. SpellsWithin ds t l v) (sym is.written)
        (s.0, (s.1.0, s.1.1, few_in_value ds (laid_out b w) (table_named b w) table_nested t tt (named_nest entry, tt) v is.typed is.depth s.1.0 s.1.2, s.1.2))

    -- and no other
    pub one_written : HasDistinctNames b → IsWritten b entry text v → (x : Value) → SpellsWithin (declarations_of b) (ty.named entry) text x → x ≡ v
    one_written distinct is x h =
        let ds = declarations_of b in
        let u = resolve ds.terms (ty.named entry) in
        let k = written_spells distinct is in
        let same = words_same text text k.1.0 h.1.0 refl k.1.1 h.1.1 in
        (single_at b w entry x v h.1.0 [] [] h.1.3 (subst (λ ws. Spelled ds u v ws []) same k.1.3)).0

-- what is spelled is refused for want of memory alone
pub only_memory : (Q : Value → Type 0) (v : Value) (f : NotationFault) → Q v → IfJudged ((u : Value) → ¬ (Q u)) f → f ≡ Memory
only_memory Q v (Syntax at) q h = absurd (h v q)
only_memory Q v (UnknownName at) q h = absurd (h v q)
only_memory Q v (OutOfRange at) q h = absurd (h v q)
only_memory Q v (Repeated at) q h = absurd (h v q)
only_memory Q v Memory q h = refl

pub refused_for_memory : {T : Type 0} (r : Result T NotationFault) (f : NotationFault) (P : T → Type 0) (Q : Value → Type 0) (v : Value) → IsErrAnd r (λ g. g ≡ f) → Q v → IfErr r (IfJudged ((u : Value) → ¬ (Q u))) → MatchResult r P (λ g. g ≡ Memory)
refused_for_memory (Ok x) f P Q v is q h = absurd is
refused_for_memory (Err g) f P Q v is q h = only_memory Q v g q h
