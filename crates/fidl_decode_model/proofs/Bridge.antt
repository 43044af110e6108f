-- A well-formed table is what the decoder rests on.
use Rattle.std.proofs.Common.{◌≡◌, ℕ, zero, suc, ◌+◌, ◌<◌, List, [], ◌∷◌, ◌++◌, map, true, false, refl, sym, ap, subst, ◌∙◌, arith}
use Rattle.std.specs.Prelude.{Bool, Option, Some, None, IsTrue}
use Rattle.std.specs.Option.{option_map_or}
use Rattle.std.specs.Int.{next_multiple_of}
use Rattle.fidl_wire.specs.Term as ty
use Rattle.fidl_wire.specs.Figure.{Figure, figure, figure_of, offsets, IsLaidOut}
use Rattle.fidl_table_format.specs.declared.kind.EntryKind.{EntryKind}
use Rattle.fidl_table_format.specs.declared.kind.EntryKind.TheVariants.{Bool as Boolean, Int8, Int16, Int32, Int64, Uint8, Uint16, Uint32, Uint64, Bits, Enum, String, Vector, Array, Box, Struct, Table, Union, Handle}
use Rattle.fidl_table_format.specs.Kind.{kind_of}
use Rattle.fidl_table_format.specs.Section.{header_of, entry_at, row_at}
use Rattle.fidl_table_format.specs.Terms.{term_of, stated_figure, declarations_of, below, fields_from}
use Rattle.fidl_table_format.specs.Uses.{is_known, uses_entry, uses_rows}
use Rattle.fidl_table_format.specs.declared.record.Entry.{Entry}
use Rattle.fidl_table_format.specs.Entry.{kind_is, keys_from, IsEntry}
use Rattle.fidl_table_format.specs.WellFormed.{WellFormed}
use Rattle.fidl_decode_model.specs.Invariants.{Keys, ContentFine, EntryFine, IsFine}

-- equal lists have equal parts
head_same : (a b : ℕ) (as' bs : List ℕ) → a ∷ as' ≡ b ∷ bs → a ≡ b
head_same a b as' bs e = cc

tail_same : (a b : ℕ) (as' bs : List ℕ) → a ∷ as' ≡ b ∷ bs → as' ≡ bs
tail_same a b as' bs e = cc

-- rows whose keys are the offsets have keys at their offsets
keys_of : (t : List ℕ) (first n from : ℕ) → ((k : ℕ) → k < n → (row_at t (header_of t) (first + k)).entry < (header_of t).entries)
    → keys_from t (header_of t) first n ≡ offsets (declarations_of t).figures from (fields_from t (header_of t) first n) → Keys t first n from
keys_of t first zero from within same = tt
keys_of t first (suc n) from within same =
    let r = row_at t (header_of t) first in
    let f = figure_of (declarations_of t).figures (ty.named r.entry) in
    let at = next_multiple_of from f.align in
    let here : first + 0 ≡ first = omega arith in
    let next : (k : ℕ) → first + suc k ≡ suc first + k = λ k. omega arith in (
      subst (λ i. (row_at t (header_of t) i).entry < (header_of t).entries) here (within 0 (omega arith)),
      head_same _ _ _ _ same,
      keys_of t (suc first) n (at + f.size) (λ k lt. subst (λ i. (row_at t (header_of t) i).entry < (header_of t).entries) (next k) (within (suc k) (omega arith))) (tail_same _ _ _ _ same),
    )

-- an entry of a known kind has one
some_kind : (o : Option EntryKind) → IsTrue (option_map_or is_known o false) → (k : EntryKind) × (o ≡ Some k)
some_kind None h = absurd (no_true h)
  where
    no_true : IsTrue false → ⊥
    no_true h = cc
some_kind (Some k) h = (k, refl)

-- a test that the kind passes
of_kind : (test : EntryKind → Bool) (e : Entry) (k : EntryKind) → kind_of e.kind ≡ Some k → test k ≡ true → IsTrue (kind_is test e)
of_kind test e k is passes = let all : kind_is test e ≡ true = ap (λ (o : Option EntryKind). option_map_or test o false) is ∙ passes in cc

content_of : (t : List ℕ) (i : ℕ) (k : EntryKind) → kind_of (entry_at t i).kind ≡ Some k → IsEntry t (header_of t) i → ContentFine t (entry_at t i) k
content_of t i Array is e = (e.children.elements (of_kind uses_entry (entry_at t i) Array is refl), e.size.elements is)
content_of t i Struct is e =
    let d = entry_at t i in
    let rows = of_kind uses_rows d Struct is refl in
    (e.children.within rows, keys_of t d.first d.count 0 (e.children.members rows) (e.offsets is))
content_of t i Bits is e = (e.shape.bits is).subtype
content_of t i Enum is e = tt
content_of t i Boolean is e = tt
content_of t i Int8 is e = tt
content_of t i Int16 is e = tt
content_of t i Int32 is e = tt
content_of t i Int64 is e = tt
content_of t i Uint8 is e = tt
content_of t i Uint16 is e = tt
content_of t i Uint32 is e = tt
content_of t i Uint64 is e = tt
content_of t i String is e = tt
content_of t i Vector is e = (e.children.elements (of_kind uses_entry (entry_at t i) Vector is refl), e.shape.count_bound is)
content_of t i Box is e = (e.children.elements (of_kind uses_entry (entry_at t i) Box is refl), e.children.content is)
content_of t i Table is e = tt
content_of t i Union is e = tt
content_of t i Handle is e = tt

same_figure : (f : Figure) (s a n : ℕ) → s ≡ f.size → a ≡ f.align → n ≡ f.nest → f ≡ figure s a n
same_figure f s a n p q r = λ i. figure (sym p i) (sym q i) (sym r i)

-- the entry states the figure of its type
figure_of_entry : (t : List ℕ) (i : ℕ) → IsEntry t (header_of t) i → figure_of (declarations_of t).figures (term_of t (header_of t) (entry_at t i)) ≡ stated_figure (entry_at t i)
figure_of_entry t i e = same_figure (figure_of (declarations_of t).figures (term_of t (header_of t) (entry_at t i))) _ _ _ e.size.size e.size.alignment e.nest.nest

entry_of : (t : List ℕ) (i : ℕ) → IsEntry t (header_of t) i → (k : EntryKind) × EntryFine t (entry_at t i) k
entry_of t i e =
    let k = some_kind (kind_of (entry_at t i).kind) e.shape.known in
    let limit = e.size.limit in
    (k.0, record { is = k.1; figure = figure_of_entry t i e; size = omega arith; nest = e.nest.limit; content = content_of t i k.0 k.1 e })

map-more : {A : Type 0} (f : ℕ → A) (xs : List ℕ) (x : ℕ) → map f (xs ++ x ∷ []) ≡ map f xs ++ f x ∷ []
map-more f [] x = refl
map-more f (y ∷ xs) x = ap (λ l. f y ∷ l) (map-more f xs x)

map-map : {A B : Type 0} (g : A → B) (f : ℕ → A) (xs : List ℕ) → map g (map f xs) ≡ map (λ i. g (f i)) xs
map-map g f [] = refl
map-map g f (x ∷ xs) = ap (λ l. g (f x) ∷ l) (map-map g f xs)

-- two functions that agree below n map the numbers below n alike
map_same : {A : Type 0} (f g : ℕ → A) (n : ℕ) → ((i : ℕ) → i < n → f i ≡ g i) → map f (below n) ≡ map g (below n)
map_same f g zero h = refl
map_same f g (suc n) h = map-more f (below n) n ∙ (λ i. map_same f g n (λ j lt. h j (omega arith)) i ++ h n (omega arith) i ∷ []) ∙ sym (map-more g (below n) n)

laid_out_of : (t : List ℕ) → WellFormed t → IsLaidOut (declarations_of t)
laid_out_of t w =
    let h = header_of t in
    map-map (figure_of (declarations_of t).figures) (λ i. term_of t h (entry_at t i)) (below h.entries)
    ∙ map_same (λ i. figure_of (declarations_of t).figures (term_of t h (entry_at t i))) (λ i. stated_figure (entry_at t i)) h.entries (λ i lt. figure_of_entry t i (w.entries i lt))

pub fine_of : (t : List ℕ) → WellFormed t → IsFine t
fine_of t w = record { laid_out = laid_out_of t w; each = λ i lt. entry_of t i (w.entries i lt) }
