-- What the entries of a fine table state, and which rows their values are read by.
use Rattle.std.proofs.Common.{◌≡◌, ℕ, zero, suc, ◌+◌, ◌-◌, ◌<◌, ◌≤◌, max, List, [], ◌∷◌, ◌++◌, map, length, get_or, refl, sym, ap, subst, ◌∙◌, arith, inl, inr, length-append}
use Rattle.fidl_limits.specs.declared.limits.TheConstants.{MAX_DEPTH}
use Rattle.std.proofs.lemmas.Bool.{cases_lt}
use Rattle.std.proofs.Math.ListN.{get_or-map}
use Rattle.std.specs.Int.{next_multiple_of}
use Rattle.fidl_wire.specs.Value.{Value, Values, none, value, fields}
use Rattle.fidl_wire.specs.Term.{Fields, resolve, nothing}
use Rattle.fidl_wire.specs.Term as ty
use Rattle.fidl_wire.specs.Figure.{Declarations, figure, figure_of, end_of, nest_of, size_of}
use Rattle.fidl_wire.specs.Typed.{IsTyped, EachTyped}
use Rattle.fidl_wire.specs.Encoding.{Encoding, zeros, inline_only, joined, encoding_of, members}
use Rattle.fidl_wire.specs.Depth.{depth_of, fields_depth}
use Rattle.fidl_wire.proofs.Sizes.{le-next_multiple_of}
use Rattle.fidl_table_format.specs.Section.{header_of, entry_at, row_at}
use Rattle.fidl_table_format.specs.Terms.{term_of, stated_figure, declarations_of, below, fields_from}
use Rattle.fidl_decode_model.specs.Invariants.{Keys}
use Rattle.fidl_decode_model.specs.Rows.{Row, table_rows, element_rows, TypedRows, enc_rows, depth_rows, RowsRise}
use Rattle.fidl_decode_model.specs.State.{Message, Position, after, after_fields, after_rows, StandsAt, ValueAt, Members}
use Rattle.fidl_decode_model.specs.Breaks.{Part, member_parts}
use Rattle.fidl_decode_model.specs.Work.{values_work}
use Rattle.fidl_decode_model.specs.Machine.{row_parts}
use Rattle.fidl_decode_model.specs.Worth.{ValueWorth, MembersWorth}

-- ---- the numbers below n, by place

length-below : (n : ℕ) → length (below n) ≡ n
length-below zero = refl
length-below (suc n) = length-append (below n) (n ∷ []) ∙ omega (arith, length-below n)

get_or-front : (xs ys : List ℕ) (i d : ℕ) → i < length xs → get_or (xs ++ ys) i d ≡ get_or xs i d
get_or-front [] ys i d h = absurd (omega arith)
get_or-front (x ∷ xs) ys zero d h = refl
get_or-front (x ∷ xs) ys (suc i) d h = get_or-front xs ys i d (omega arith)

get_or-last : (xs : List ℕ) (x d : ℕ) → get_or (xs ++ x ∷ []) (length xs) d ≡ x
get_or-last [] x d = refl
get_or-last (y ∷ xs) x d = get_or-last xs x d

get_or-below : (n i d : ℕ) → i < n → get_or (below n) i d ≡ i
get_or-below zero i d h = absurd (omega arith)
get_or-below (suc n) i d h = elim (cases_lt i n) [
  | inl lt ↦ get_or-front (below n) (n ∷ []) i d (omega (arith, length-below n)) ∙ get_or-below n i d lt
  | inr le ↦ let e : i ≡ n = omega arith in
      ap (λ k. get_or (below n ++ n ∷ []) k d) (e ∙ sym (length-below n)) ∙ get_or-last (below n) n d ∙ sym e
]

any_default : {A : Type 0} (xs : List A) (i : ℕ) (a b : A) → i < length xs → get_or xs i a ≡ get_or xs i b
any_default [] i a b h = absurd (omega arith)
any_default (x ∷ xs) zero a b h = refl
any_default (x ∷ xs) (suc i) a b h = any_default xs i a b (omega arith)

length-map' : {A : Type 0} (f : ℕ → A) (xs : List ℕ) → length (map f xs) ≡ length xs
length-map' f [] = refl
length-map' f (x ∷ xs) = ap suc (length-map' f xs)

-- the i-th of what a function makes of the numbers below n
nth : {A : Type 0} (f : ℕ → A) (n i : ℕ) (d : A) → i < n → get_or (map f (below n)) i d ≡ f i
nth f n i d h =
    any_default (map f (below n)) i d (f 0) (omega (arith, length-map' f (below n), length-below n))
    ∙ get_or-map f (below n) i 0
    ∙ ap f (get_or-below n i 0 h)

module _ (t : List ℕ) where
  pub stated_term : (e : ℕ) → e < (header_of t).entries → resolve (declarations_of t).terms (ty.named e) ≡ term_of t (header_of t) (entry_at t e)
  stated_term e lt = nth (λ i. term_of t (header_of t) (entry_at t i)) (header_of t).entries e nothing lt

  pub stated : (e : ℕ) → e < (header_of t).entries → figure_of (declarations_of t).figures (ty.named e) ≡ stated_figure (entry_at t e)
  stated e lt = nth (λ i. stated_figure (entry_at t i)) (header_of t).entries e (figure 1 1 0) lt

  -- ---- a struct's rows

  pub typed_rows : (first n : ℕ) (vs : Values) → EachTyped (declarations_of t) (fields_from t (header_of t) first n) vs → TypedRows (declarations_of t) (table_rows t (header_of t) first n) vs
  typed_rows first zero none h = tt
  typed_rows first (suc n) (value v vs) h = (h.0, typed_rows (suc first) n vs h.1)
  typed_rows first zero (value v vs) h = absurd h
  typed_rows first (suc n) none h = absurd h

  pub rows_typed : (first n : ℕ) (vs : Values) → TypedRows (declarations_of t) (table_rows t (header_of t) first n) vs → EachTyped (declarations_of t) (fields_from t (header_of t) first n) vs
  rows_typed first zero none h = tt
  rows_typed first (suc n) (value v vs) h = (h.0, rows_typed (suc first) n vs h.1)
  rows_typed first zero (value v vs) h = absurd h
  rows_typed first (suc n) none h = absurd h

  pub enc_rows-table : (first n size from : ℕ) (vs : Values) → Keys t first n from → members (declarations_of t) size from (fields_from t (header_of t) first n) vs ≡ enc_rows (declarations_of t) size from (table_rows t (header_of t) first n) vs
  enc_rows-table first n size from none k = refl
  enc_rows-table first zero size from (value v vs) k = refl
  enc_rows-table first (suc n) size from (value v vs) k =
      let ds = declarations_of t in
      let r = row_at t (header_of t) first in
      let f = figure_of ds.figures (ty.named r.entry) in
      let e = encoding_of ds (resolve ds.terms (ty.named r.entry)) v in
      ap (λ (x : Encoding). joined (inline_only (zeros (next_multiple_of from f.align - from))) (joined e x)) (enc_rows-table (suc first) n size (next_multiple_of from f.align + f.size) vs k.2)
      ∙ ap (λ (o : ℕ). joined (inline_only (zeros (o - from))) (joined e (enc_rows ds size (o + f.size) (table_rows t (header_of t) (suc first) n) vs))) (sym k.1)

  pub depth_rows-table : (first n : ℕ) (vs : Values) → fields_depth (declarations_of t) (fields_from t (header_of t) first n) vs ≡ depth_rows (declarations_of t) (table_rows t (header_of t) first n) vs
  depth_rows-table first n none = refl
  depth_rows-table first zero (value v vs) = refl
  depth_rows-table first (suc n) (value v vs) = let ds = declarations_of t in ap (λ d. max (depth_of ds (resolve ds.terms (ty.named (row_at t (header_of t) first).entry)) v) d) (depth_rows-table (suc first) n vs)

  pub after_rows-table : (first n from : ℕ) (vs : Values) (base : ℕ) (s : Position) → Keys t first n from → after_fields (declarations_of t) (fields_from t (header_of t) first n) from vs base s ≡ after_rows (declarations_of t) (table_rows t (header_of t) first n) vs base s
  after_rows-table first n from none base s k = refl
  after_rows-table first zero from (value v vs) base s k = refl
  after_rows-table first (suc n) from (value v vs) base s k =
      let ds = declarations_of t in
      let r = row_at t (header_of t) first in
      let f = figure_of ds.figures (ty.named r.entry) in
      let at = next_multiple_of from f.align in
      let u = resolve ds.terms (ty.named r.entry) in
      after_rows-table (suc first) n (at + f.size) vs base (after ds u v (base + at) s) k.2
      ∙ ap (λ (o : ℕ). after_rows ds (table_rows t (header_of t) (suc first) n) vs base (after ds u v (base + o) s)) (sym k.1)

  -- the rows rise within the struct
  pub table_rise : (first n nest size from : ℕ) → Keys t first n from → end_of (declarations_of t).figures from (fields_from t (header_of t) first n) ≤ size → nest_of (declarations_of t).figures (fields_from t (header_of t) first n) < nest
      → RowsRise (declarations_of t) (header_of t).entries nest size from (table_rows t (header_of t) first n)
  table_rise first zero nest size from k fits deep = fits
  table_rise first (suc n) nest size from k fits deep =
      let ds = declarations_of t in
      let r = row_at t (header_of t) first in
      let f = figure_of ds.figures (ty.named r.entry) in
      let at = next_multiple_of from f.align in
      let le = le-next_multiple_of from f.align in
      let rest = table_rise (suc first) n nest size (at + f.size) k.2 fits (omega (arith, deep)) in
      (k.0, omega (arith, k.1), omega (arith, deep), subst (λ o. RowsRise ds (header_of t).entries nest size (o + f.size) (table_rows t (header_of t) (suc first) n)) (sym k.1) rest)

  -- ---- a struct, and its rows

  module _ (m : Message) (held place first n : ℕ) (from to : Position) (k : Keys t first n 0) where
    pub struct_item : (let ds = declarations_of t in ValueAt ds m held (ty.struct (fields_from t (header_of t) first n)) place from to → Members ds m held (size_of ds (ty.struct (fields_from t (header_of t) first n))) place 0 (table_rows t (header_of t) first n) from to)
    struct_item x = only x.value x.typed x.shallow x.stands x.end
      where
        ds : Declarations
        ds = declarations_of t

        fs : Fields
        fs = fields_from t (header_of t) first n

        only : (v : Value) → IsTyped ds (ty.struct fs) v → depth_of ds (ty.struct fs) v + held ≤ MAX_DEPTH → StandsAt m (encoding_of ds (ty.struct fs) v) place from → to ≡ after ds (ty.struct fs) v place from
            → Members ds m held (size_of ds (ty.struct fs)) place 0 (table_rows t (header_of t) first n) from to
        only (fields vs) h d s e =
            let same = enc_rows-table first n (size_of ds (ty.struct fs)) 0 vs k in
            let deep = depth_rows-table first n vs in
            let none_more : place ≡ place + 0 = omega arith in
            record {
              values = vs;
              typed = typed_rows first n vs h;
              shallow = omega (arith, d, deep);
              stands = subst (λ (p : ℕ). StandsAt m (enc_rows ds (size_of ds (ty.struct fs)) 0 (table_rows t (header_of t) first n) vs) p from) none_more (subst (λ (x : Encoding). StandsAt m x place from) same s);
              end = e ∙ after_rows-table first n 0 vs place from k;
            }
        only _ h d s e = absurd h

    -- a struct is worth one more than its members
    pub worth_struct : (w : ℕ) → (let ds = declarations_of t in MembersWorth ds m held (size_of ds (ty.struct (fields_from t (header_of t) first n))) place 0 (table_rows t (header_of t) first n) from to w → ValueWorth ds m held (ty.struct (fields_from t (header_of t) first n)) place from to (w + 1))
    worth_struct w (y, le) =
        let ds = declarations_of t in
        let fs = fields_from t (header_of t) first n in
        let same = sym (enc_rows-table first n (size_of ds (ty.struct fs)) 0 y.values k) in
        let deep = depth_rows-table first n y.values in
        let none_more : place + 0 ≡ place = omega arith in (
          record {
            value = fields y.values;
            typed = rows_typed first n y.values y.typed;
            shallow = omega (arith, y.shallow, deep);
            stands = subst (λ (x : Encoding). StandsAt m x place from) same (subst (λ (p : ℕ). StandsAt m (enc_rows ds (size_of ds (ty.struct fs)) 0 (table_rows t (header_of t) first n) y.values) p from) none_more y.stands);
            end = y.end ∙ sym (after_rows-table first n 0 y.values place from k);
          },
          omega (arith, le),
        )

    pub item_struct : (let ds = declarations_of t in Members ds m held (size_of ds (ty.struct (fields_from t (header_of t) first n))) place 0 (table_rows t (header_of t) first n) from to → ValueAt ds m held (ty.struct (fields_from t (header_of t) first n)) place from to)
    item_struct y = (worth_struct (values_work y.values) (y, omega arith)).0

-- a struct's rows are its parts
pub table_parts : (t : List ℕ) (first n from : ℕ) → Keys t first n from → row_parts (table_rows t (header_of t) first n) ≡ member_parts (declarations_of t) from (fields_from t (header_of t) first n)
table_parts t first zero from k = refl
table_parts t first (suc n) from k =
    let ds = declarations_of t in
    let r = row_at t (header_of t) first in
    let f = figure_of ds.figures (ty.named r.entry) in
    ap (λ (o : ℕ). (let p : Part = record { offset = o; term = ty.named r.entry } in p) ∷ row_parts (table_rows t (header_of t) (suc first) n)) k.1
    ∙ ap (λ (ps : List Part). (let p : Part = record { offset = next_multiple_of from f.align; term = ty.named r.entry } in p) ∷ ps) (table_parts t (suc first) n (next_multiple_of from f.align + f.size) k.2)

-- ---- the next of what is left

pub table_rows-more : (t : List ℕ) (first n : ℕ) → (n ≡ 0 → ⊥) → table_rows t (header_of t) first n ≡ record { offset = (row_at t (header_of t) first).key; entry = (row_at t (header_of t) first).entry } ∷ table_rows t (header_of t) (first + 1) (n - 1)
table_rows-more t first zero h = absurd (h refl)
table_rows-more t first (suc n) h =
    let r : Row = record { offset = (row_at t (header_of t) first).key; entry = (row_at t (header_of t) first).entry } in
    let next : suc first ≡ first + 1 = omega arith in
    let rest : n ≡ suc n - 1 = omega arith in
    λ i. r ∷ table_rows t (header_of t) (next i) (rest i)

pub element_rows-more : (e size n at : ℕ) → (n ≡ 0 → ⊥) → element_rows e size n at ≡ record { offset = at; entry = e } ∷ element_rows e size (n - 1) (at + size)
element_rows-more e size zero at h = absurd (h refl)
element_rows-more e size (suc n) at h =
    let r : Row = record { offset = at; entry = e } in
    let rest : n ≡ suc n - 1 = omega arith in
    ap (λ k. r ∷ element_rows e size k (at + size)) rest
