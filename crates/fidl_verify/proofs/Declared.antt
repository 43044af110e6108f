-- What the declarations of a well-formed table keep.
use Rattle.std.proofs.Common.{◌≡◌, ℕ, zero, suc, ◌+◌, ◌<◌, ◌≤◌, List, [], ◌∷◌, ◌++◌, map, get_or, false, true, refl, ap, sym, ◌∙◌, subst, arith, Option, Some, None}
use Rattle.std.proofs.lemmas.List.{map-append}
use Rattle.std.specs.List.{AllByRecursion}
use Rattle.std.specs.Option.{option_map_or}
use Rattle.fidl_wire.specs.Term.{IsBounded, AreFieldsBounded, AreRowsBounded, nothing}
use Rattle.fidl_wire.specs.Figure.{figure, figure_of, nest_of, IsLaidOut, IsSound}
use Rattle.fidl_table_format.specs.declared.record.Header.{Header}
use Rattle.fidl_table_format.specs.declared.record.Entry.{Entry}
use Rattle.fidl_table_format.specs.declared.kind.EntryKind.{EntryKind}
use Rattle.fidl_table_format.specs.declared.kind.EntryKind.TheVariants.{Bool as Boolean, Int8, Int16, Int32, Int64, Uint8, Uint16, Uint32, Uint64, Bits, Enum, String, Vector, Array, Box, Struct, Table, Union, Handle}
use Rattle.fidl_table_format.specs.Kind.{kind_of}
use Rattle.fidl_table_format.specs.Section.{header_of, entry_at, row_at}
use Rattle.fidl_table_format.specs.Terms.{below, term_of, term_as, stated_figure, fields_from, rows_from, declarations_of}
use Rattle.fidl_table_format.specs.Uses.{is_known}
use Rattle.fidl_table_format.specs.Entry.{IsOf, IsEntry, HasShape, figures_of, entry_figure}
use Rattle.fidl_table_format.specs.WellFormed.{WellFormed}
use Rattle.fidl_verify.proofs.Stated.{stated_at}
use Rattle.fidl_verify.proofs.Known.{figure_as}

-- lists over the numbers below n are one where their parts are
same_below : {X : Type 0} (f g : ℕ → X) (n : ℕ) → ((i : ℕ) → i < n → f i ≡ g i) → map f (below n) ≡ map g (below n)
same_below f g zero h = refl
same_below f g (suc n) h =
    map-append f (below n) (n ∷ []) ∙ (λ j. same_below f g n (λ i p. h i (omega (arith, p))) j ++ h n (omega arith) j ∷ []) ∙ sym (map-append g (below n) (n ∷ []))

-- functions one behind the other
map-map : {X Y Z : Type 0} (g : Y → Z) (f : X → Y) (xs : List X) → map g (map f xs) ≡ map (λ x. g (f x)) xs
map-map g f [] = refl
map-map g f (x ∷ xs) = λ j. g (f x) ∷ map-map g f xs j

-- an entry states the figure of its type
states : (bytes : List ℕ) (h : Header) (i : ℕ) → IsEntry bytes h i → entry_figure bytes h (entry_at bytes i) ≡ stated_figure (entry_at bytes i)
states bytes h i e = λ j. figure (sym e.size.size j) (sym e.size.alignment j) (sym e.nest.nest j)

pub laid_out : (bytes : List ℕ) → WellFormed bytes → IsLaidOut (declarations_of bytes)
laid_out bytes w =
    let h = header_of bytes in
    map-map (figure_of (figures_of bytes h)) (λ i. term_of bytes h (entry_at bytes i)) (below h.entries)
    ∙ same_below (λ i. entry_figure bytes h (entry_at bytes i)) (λ i. stated_figure (entry_at bytes i)) h.entries (λ i p. states bytes h i (w.entries i p))

-- an entry of the right shape has a kind
kind_known : (o : Option EntryKind) → option_map_or is_known o false ≡ true → (k : EntryKind) × (o ≡ Some k)
kind_known None e = absurd (let never : false ≡ true = e in cc)
kind_known (Some k) e = (k, refl)

fields_bounded : (bytes : List ℕ) (h : Header) (first count : ℕ) → AreFieldsBounded (fields_from bytes h first count)
fields_bounded bytes h first zero = tt
fields_bounded bytes h first (suc n) = (tt, fields_bounded bytes h (suc first) n)

rows_bounded : (bytes : List ℕ) (h : Header) (first count : ℕ) → AreRowsBounded (rows_from bytes h first count)
rows_bounded bytes h first zero = tt
rows_bounded bytes h first (suc n) = (tt, rows_bounded bytes h (suc first) n)

term_bounded : (bytes : List ℕ) (h : Header) (k : EntryKind) (e : Entry) → IsOf k e → HasShape e → IsBounded (term_as k bytes h e)
term_bounded bytes h Boolean e is s = tt
term_bounded bytes h Int8 e is s = tt
term_bounded bytes h Int16 e is s = tt
term_bounded bytes h Int32 e is s = tt
term_bounded bytes h Int64 e is s = tt
term_bounded bytes h Uint8 e is s = tt
term_bounded bytes h Uint16 e is s = tt
term_bounded bytes h Uint32 e is s = tt
term_bounded bytes h Uint64 e is s = tt
term_bounded bytes h Bits e is s = tt
term_bounded bytes h Enum e is s = tt
term_bounded bytes h String e is s = s.text_bound is
term_bounded bytes h Vector e is s = (s.count_bound is, tt)
term_bounded bytes h Array e is s = tt
term_bounded bytes h Box e is s = tt
term_bounded bytes h Struct e is s = fields_bounded bytes h e.first e.count
term_bounded bytes h Handle e is s = tt
term_bounded bytes h Table e is s = rows_bounded bytes h e.first e.count
term_bounded bytes h Union e is s = rows_bounded bytes h e.first e.count

entry_bounded : (bytes : List ℕ) (h : Header) (e : Entry) → HasShape e → IsBounded (term_of bytes h e)
entry_bounded bytes h e s =
    let k = kind_known (kind_of e.kind) s.known in
    subst (λ o. IsBounded (option_map_or (λ k. term_as k bytes h e) o nothing)) (sym k.1) (term_bounded bytes h k.0 e k.1 s)

all-append : {X : Type 0} (P : X → Type 0) (xs ys : List X) → AllByRecursion P xs → AllByRecursion P ys → AllByRecursion P (xs ++ ys)
all-append P [] ys a b = b
all-append P (x ∷ xs) ys a b = (a.0, all-append P xs ys a.1 b)

all_below : {X : Type 0} (P : X → Type 0) (f : ℕ → X) (n : ℕ) → ((i : ℕ) → i < n → P (f i)) → AllByRecursion P (map f (below n))
all_below P f zero h = tt
all_below P f (suc n) h =
    subst (AllByRecursion P) (sym (map-append f (below n) (n ∷ []))) (all-append P (map f (below n)) (f n ∷ []) (all_below P f n (λ i p. h i (omega (arith, p)))) (h n (omega arith), tt))

pub sound : (bytes : List ℕ) → WellFormed bytes → IsSound (declarations_of bytes)
sound bytes w =
    let h = header_of bytes in
    record {
      laid_out = laid_out bytes w;
      bounded = all_below IsBounded (λ i. term_of bytes h (entry_at bytes i)) h.entries (λ i p. entry_bounded bytes h (entry_at bytes i) (w.entries i p).shape);
    }

-- an array nests once more than its elements
pub element_nests : (bytes : List ℕ) (h : Header) (e : Entry) → IsOf Array e → e.first < h.entries → e.nest ≡ (entry_figure bytes h e).nest → (entry_at bytes e.first).nest < e.nest
element_nests bytes h e is p n =
    let own : e.nest ≡ suc (get_or (figures_of bytes h) e.first (figure 1 1 0)).nest = n ∙ ap (λ f. f.nest) (figure_as bytes h Array e is) in
    let child : (get_or (figures_of bytes h) e.first (figure 1 1 0)).nest ≡ (entry_at bytes e.first).nest = ap (λ f. f.nest) (stated_at bytes h e.first (figure 1 1 0) p) in
    omega (arith, own, child)

-- the nest of a member is among those of the members
member_nest : (bytes : List ℕ) (h : Header) (first count k : ℕ) → k < count
    → (get_or (figures_of bytes h) (row_at bytes h (first + k)).entry (figure 1 1 0)).nest ≤ nest_of (figures_of bytes h) (fields_from bytes h first count)
member_nest bytes h first zero k p = absurd (omega (arith, p))
member_nest bytes h first (suc n) zero p =
    let e : first ≡ first + 0 = omega arith in
    subst (λ row. (get_or (figures_of bytes h) (row_at bytes h row).entry (figure 1 1 0)).nest ≤ nest_of (figures_of bytes h) (fields_from bytes h first (suc n))) e (omega arith)
member_nest bytes h first (suc n) (suc k) p =
    let e : suc first + k ≡ first + suc k = omega arith in
    let rest = member_nest bytes h (suc first) n k (omega (arith, p)) in
    let more = subst (λ row. (get_or (figures_of bytes h) (row_at bytes h row).entry (figure 1 1 0)).nest ≤ nest_of (figures_of bytes h) (fields_from bytes h (suc first) n)) e rest in
    omega (arith, more)

-- a struct nests once more than the deepest of its members
pub member_nests : (bytes : List ℕ) (h : Header) (e : Entry) → IsOf Struct e → e.nest ≡ (entry_figure bytes h e).nest → (k : ℕ) → k < e.count
    → (row_at bytes h (e.first + k)).entry < h.entries → (entry_at bytes (row_at bytes h (e.first + k)).entry).nest < e.nest
member_nests bytes h e is n k p q =
    let own : e.nest ≡ suc (nest_of (figures_of bytes h) (fields_from bytes h e.first e.count)) = n ∙ ap (λ f. f.nest) (figure_as bytes h Struct e is) in
    let child : (get_or (figures_of bytes h) (row_at bytes h (e.first + k)).entry (figure 1 1 0)).nest ≡ (entry_at bytes (row_at bytes h (e.first + k)).entry).nest
    = ap (λ f. f.nest) (stated_at bytes h (row_at bytes h (e.first + k)).entry (figure 1 1 0) q) in
    omega (arith, own, child, member_nest bytes h e.first e.count k p)
