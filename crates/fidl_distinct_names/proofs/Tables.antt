-- The members of each table and union of a written table have different names.
use Rattle.std.proofs.Common.{◌≡◌, ℕ, zero, suc, ◌+◌, ◌<◌, ◌≤◌, List, [], ◌∷◌, map, length, get_or, refl, sym, ap, subst, inl, inr, arith, ◌∙◌, if◌then◌else◌}
use Rattle.std.specs.Prelude.{◌==◌, Bool, true, false, Option, Some, None, slice_get, IsTrue}
use Rattle.std.specs.Option.{option_map_or}
use Rattle.std.specs.List.{AllByRecursion, Contains}
use Rattle.std.proofs.Math.ListN.{get_or-map}
use Rattle.std.proofs.lemmas.Bool.{eqb-true, eq-eqb}
use Rattle.fidl_tree.specs.declared.file.File.{File}
use Rattle.fidl_names.specs.Resolved.{Resolves}
use Rattle.fidl_wire.specs.Term as ty
use Rattle.fidl_wire.specs.Term.{Term, Rows, no_rows, row, rows_of, find, resolve, nothing}
use Rattle.fidl_wire.specs.Text.{name_at}
use Rattle.fidl_table_format.specs.declared.record.Header.{Header}
use Rattle.fidl_table_format.specs.declared.kind.EntryKind.{EntryKind}
use Rattle.fidl_table_format.specs.declared.kind.EntryKind.TheVariants.{Table, Union}
use Rattle.fidl_table_format.specs.Kind.{kind_of}
use Rattle.fidl_table_format.specs.Section.{header_of, entry_at, row_at}
use Rattle.fidl_table_format.specs.Terms.{term_as, term_of, rows_from, members_of, declarations_of, below}
use Rattle.fidl_table_format.specs.Uses.{uses_ordinals}
use Rattle.fidl_table_format.specs.Entry.{kind_is, row_key}
use Rattle.fidl_table_format.specs.WellFormed.{WellFormed}
use Rattle.fidl_verify.proofs.Ordered.{rising_keys}
use Rattle.fidl_verify.proofs.Stated.{length-below, get_or-below}
use Rattle.fidl_ir.specs.Members.{member_types}
use Rattle.fidl_reachable_types.specs.Reached.{held, IsReached}
use Rattle.fidl_equivalence.specs.Alike.{Alike, AlikeMember, AlikeRows, IsNumbered}
use Rattle.fidl_spelling.specs.Spells.{Bears}
use Rattle.fidl_spelling.specs.Readable.{AreNamesDistinct}
use Rattle.fidl_reading.specs.Written.{HasDistinctNames}
use Rattle.fidl_table.specs.Shows.{Shows}
use Rattle.fidl_cycles.proofs.Lists.{contains_at, all_at}
use Rattle.fidl_lower_layouts.proofs.Rising.{nothing_there, first_or_rest}
use Rattle.fidl_distinct_names.proofs.Plain.{IsPlain}
use Rattle.fidl_distinct_names.proofs.Rows.{IsSound, definitions_sound}

no_names : AreNamesDistinct no_rows
no_names name i j h k = absurd h

-- ---- the types of a list are plain, and those that they resolve to have members of different names

module _ (terms : List Term) (sound : AllByRecursion IsSound terms) where
  sound_in : (ts : List Term) (i : ℕ) → AllByRecursion IsSound ts → IsSound (get_or ts i nothing)
  sound_in [] i h = record { names = no_names; plain = tt }
  sound_in (t ∷ ts) zero h = h.0
  sound_in (t ∷ ts) (suc i) h = sound_in ts i h.1

  only_held : (t u : Term) → IsPlain t → Contains (t ∷ []) u → IsPlain u
  only_held t u h c = elim (first_or_rest t [] u c) [
    | inl is ↦ subst IsPlain is h
    | inr none ↦ absurd (nothing_there u none)
  ]

  held_plain : (t u : Term) → IsPlain t → Contains (held terms t) u → IsPlain u
  held_plain (ty.vector optional bound t) u h c = only_held t u h c
  held_plain (ty.array t n) u h c = only_held t u h c
  held_plain (ty.box t) u h c = only_held t u h c
  held_plain (ty.named i) u h c = all_at IsPlain (member_types (get_or terms i nothing)) u (sound_in terms i sound).plain c
  held_plain _ u h c = absurd (nothing_there u c)

  reached_plain : (roots : List ℕ) (t : Term) → IsReached terms roots t → IsPlain t
  reached_plain roots _ (IsReached.root i c) = tt
  reached_plain roots _ (IsReached.part t u r c) = held_plain t u (reached_plain roots t r) c

  resolved_differ : (t : Term) → IsPlain t → AreNamesDistinct (rows_of (resolve terms t))
  resolved_differ (ty.named i) h = (sound_in terms i sound).names
  resolved_differ (ty.table rows) h = absurd h
  resolved_differ (ty.union optional strict rows) h = absurd h
  resolved_differ _ h = no_names

-- ---- rows by rising ordinal

-- each ordinal is at least this, and greater than those before it
abbrev Risen : ℕ → Rows → Type 0
Risen low no_rows = Unit {0}
Risen low (row key name t rows) = (low ≤ key) × Risen (suc key) rows

differ : (a b : ℕ) → a < b → (a == b) ≡ false
differ a b lt = by (a == b) refl
  where
    by : (r : Bool) → (a == b) ≡ r → (a == b) ≡ false
    by false e = e
    by true e = let same = eqb-true a b e in absurd (omega (arith, lt, same))

-- who bears a name stands at its ordinal
record Stands (rows : Rows) (name : List ℕ) (i low : ℕ) : Type 0 where
  pub least : low ≤ i
  pub named : name_at rows i ≡ name
  pub type : Term
  pub found : find rows i ≡ Some type

stands : (rows : Rows) (low : ℕ) (name : List ℕ) (i : ℕ) → Risen low rows → Bears rows name i → Stands rows name i low
stands no_rows low name i h b = absurd b
stands (row key n t rows) low name i h (inl b) =
    let e = eq-eqb key i (sym b.0) in
    let least = h.0 in
    let is = b.0 in
    record {
      least = omega (arith, least, is);
      named = ap (λ (c : Bool). if c then n else name_at rows i) e ∙ sym b.1;
      type = t;
      found = ap (λ (c : Bool). if c then Some t else find rows i) e;
    }
stands (row key n t rows) low name i h (inr b) =
    let s = stands rows (suc key) name i h.1 b in
    let least = h.0 in
    let more = s.least in
    let e = differ key i (omega (arith, more)) in
    record {
      least = omega (arith, least, more);
      named = ap (λ (c : Bool). if c then n else name_at rows i) e ∙ s.named;
      type = s.type;
      found = ap (λ (c : Bool). if c then Some t else find rows i) e ∙ s.found;
    }

-- the member that is found bears its name
borne_in : (key i : ℕ) (n : List ℕ) (u t : Term) (rows : Rows) → (find rows i ≡ Some t → Bears rows (name_at rows i) i)
    → (b : Bool) → (key == i) ≡ b → (if b then Some u else find rows i) ≡ Some t → Bears (row key n u rows) (if b then n else name_at rows i) i
borne_in key i n u t rows rest true e h = inl (sym (eqb-true key i e), refl)
borne_in key i n u t rows rest false e h = inr (rest h)

bears_back : (rows : Rows) (i : ℕ) (t : Term) → find rows i ≡ Some t → Bears rows (name_at rows i) i
bears_back no_rows i t h = absurd (cc h)
bears_back (row key n u rows) i t h = borne_in key i n u t rows (bears_back rows i t) (key == i) refl h

found_alike : (R : Term → Term → Type 0) (o p : Option Term) (t : Term) → AlikeMember R o p → p ≡ Some t → (u : Term) × (o ≡ Some u)
found_alike R _ _ t AlikeMember.missing h = absurd (cc h)
found_alike R _ _ t (AlikeMember.there r) h = (_, refl)

-- ---- types that are alike

module _ (R : Term → Term → Type 0) where
  bears_alike : (rows others : Rows) (name : List ℕ) (i : ℕ) → AlikeRows R rows others → Risen 0 others → Bears others name i → Bears rows name i
  bears_alike rows others name i a r b =
      let s = stands others 0 name i r b in
      let t = found_alike R (find rows i) (find others i) s.type (a.members i) s.found in
      subst (λ n. Bears rows n i) (a.names i ∙ s.named) (bears_back rows i t.0 t.1)

  rows_alike : (rows others : Rows) → AlikeRows R rows others → Risen 0 others → AreNamesDistinct rows → AreNamesDistinct others
  rows_alike rows others a r d name i j h k = d name i j (bears_alike rows others name i a r h) (bears_alike rows others name j a r k)

  names_alike : (t u : Term) → Alike R t u → Risen 0 (rows_of u) → AreNamesDistinct (rows_of t) → AreNamesDistinct (rows_of u)
  names_alike _ _ Alike.bool r d = no_names
  names_alike _ _ (Alike.number k) r d = no_names
  names_alike _ _ (Alike.bits k m) r d = no_names
  names_alike _ _ (Alike.enum k v) r d = no_names
  names_alike _ _ (Alike.handle o s q) r d = no_names
  names_alike _ _ (Alike.string o m) r d = no_names
  names_alike _ _ (Alike.vector o m e) r d = no_names
  names_alike _ _ (Alike.array e n) r d = no_names
  names_alike _ _ (Alike.box e) r d = no_names
  names_alike _ _ (Alike.struct fs) r d = no_names
  names_alike _ _ (Alike.table a) r d = rows_alike _ _ a r d
  names_alike _ _ (Alike.union o s a) r d = rows_alike _ _ a r d

-- ---- the members that an entry declares

module _ (bytes : List ℕ) (h : Header) where
  risen_from : (first n low : ℕ) → ((k : ℕ) → k < n → low ≤ (row_at bytes h (first + k)).key) → ((i j : ℕ) → i < j → j < n → (row_at bytes h (first + i)).key < (row_at bytes h (first + j)).key) → Risen low (rows_from bytes h first n)
  risen_from first zero low least rise = tt
  risen_from first (suc n) low least rise =
      let at : first + 0 ≡ first = omega arith in
      let next : (k : ℕ) → first + suc k ≡ suc first + k = λ k. omega arith in
      let key : ℕ → ℕ = λ m. (row_at bytes h m).key in (
        subst (λ m. low ≤ key m) at (least 0 (omega arith)),
        risen_from (suc first) n (suc (key first))
            (λ k lt. let more = subst (λ m. key m < key (suc first + k)) at (subst (λ m. key (first + 0) < key m) (next k) (rise 0 (suc k) (omega arith) (omega (arith, lt)))) in more)
            (λ i j lt within. subst (λ m. key m < key (suc first + j)) (next i) (subst (λ m. key (first + suc i) < key m) (next j) (rise (suc i) (suc j) (omega (arith, lt)) (omega (arith, within))))),
      )

-- the ordinals of an entry's members rise
module _ (bytes : List ℕ) (w : WellFormed bytes) (index : ℕ) (lt : index < (header_of bytes).entries) where
  keys : IsTrue (kind_is uses_ordinals (entry_at bytes index)) → (i j : ℕ) → i < j → j < (entry_at bytes index).count
      → row_key bytes (header_of bytes) (entry_at bytes index) i < row_key bytes (header_of bytes) (entry_at bytes index) j
  keys is = rising_keys (row_key bytes (header_of bytes) (entry_at bytes index)) (entry_at bytes index).count
      (λ k q. ((w.entries index lt).sorted.ordinals is k (omega (arith, q))).rises q)

  risen_by : (o : Option EntryKind) → kind_of (entry_at bytes index).kind ≡ o → Risen 0 (rows_of (option_map_or (λ k. term_as k bytes (header_of bytes) (entry_at bytes index)) o nothing))
  risen_by None is = tt
  risen_by (Some Table) is = risen_from bytes (header_of bytes) (entry_at bytes index).first (entry_at bytes index).count 0 (λ k p. omega arith) (keys (ap (λ o. option_map_or uses_ordinals o false) is))
  risen_by (Some Union) is = risen_from bytes (header_of bytes) (entry_at bytes index).first (entry_at bytes index).count 0 (λ k p. omega arith) (keys (ap (λ o. option_map_or uses_ordinals o false) is))
  risen_by (Some _) is = tt

  entry_risen : Risen 0 (members_of bytes index)
  entry_risen = risen_by (kind_of (entry_at bytes index).kind) refl

any_default : {A : Type 0} (xs : List A) (i : ℕ) (a b : A) → i < length xs → get_or xs i a ≡ get_or xs i b
any_default [] i a b h = absurd (omega (arith, h))
any_default (x ∷ xs) zero a b h = refl
any_default (x ∷ xs) (suc i) a b h = any_default xs i a b (omega (arith, h))

length-map' : {A : Type 0} (f : ℕ → A) (xs : List ℕ) → length (map f xs) ≡ length xs
length-map' f [] = refl
length-map' f (x ∷ xs) = ap suc (length-map' f xs)

declared_at : (bytes : List ℕ) (i : ℕ) → i < (header_of bytes).entries → resolve (declarations_of bytes).terms (ty.named i) ≡ term_of bytes (header_of bytes) (entry_at bytes i)
declared_at bytes i lt =
    let f : ℕ → Term = λ k. term_of bytes (header_of bytes) (entry_at bytes k) in
    let n = (header_of bytes).entries in
    let long = length-map' f (below n) in
    let all = length-below n in
    any_default (map f (below n)) i nothing (f 0) (omega (arith, lt, long, all))
    ∙ get_or-map f (below n) i 0
    ∙ ap f (get_or-below n i lt)

type_at : (types : List Term) (i : ℕ) → i < length types → (t : Term) × (slice_get types i ≡ Some t)
type_at [] i lt = absurd (omega (arith, lt))
type_at (t ∷ ts) zero lt = (t, refl)
type_at (t ∷ ts) (suc i) lt = type_at ts i (omega (arith, lt))

-- the members of the tables and unions of a written table have different names
pub tables_differ : (files : List File) (bytes : List ℕ) → Resolves files → Shows files bytes → WellFormed bytes → HasDistinctNames bytes
tables_differ files bytes resolved shows w index lt =
    let ds = shows.declarations in
    let types = shows.entries.types in
    let count = shows.entries.entries.count in
    let found = type_at types index (omega (arith, lt, count)) in
    let t = found.0 in
    let sound = definitions_sound files ds.terms resolved.rules.members shows.laid_out.checked.definitions in
    let plain = reached_plain ds.terms sound _ t (shows.entries.reached.sound t (contains_at types index t found.1)) in
    let u = resolve (declarations_of bytes).terms (ty.named index) in
    let is = declared_at bytes index lt in
    subst (λ v. AreNamesDistinct (rows_of v)) is
    (names_alike (λ t u. IsNumbered types t u) (resolve ds.terms t) u (shows.entries.entries.levels index t found.1)
    (subst (λ v. Risen 0 (rows_of v)) (sym is) (entry_risen bytes w index lt)) (resolved_differ ds.terms sound t plain))
