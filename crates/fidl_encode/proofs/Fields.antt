-- What is left of a struct's members.
use Rattle.std.proofs.Common.{◌≡◌, ℕ, zero, suc, ◌+◌, ◌-◌, ◌<◌, ◌≤◌, List, [], ◌∷◌, length, drop, get_or, refl, sym, ap, subst, ◌∙◌, arith}
use Rattle.std.proofs.lemmas.List.{drop_all}
use Rattle.std.specs.Int.{next_multiple_of}
use Rattle.fidl_wire.specs.declared.value.Value.{Value as Tree}
use Rattle.fidl_wire.specs.Value.{Value, Values, absent, fields}
use Rattle.fidl_wire.specs.Views.{value_view}
use Rattle.fidl_wire.specs.Term.{Term, Fields, resolve, fields_of}
use Rattle.fidl_wire.specs.Term as ty
use Rattle.fidl_wire.specs.Figure.{Declarations, IsLaidOut, figure_of, size_of, offsets}
use Rattle.fidl_wire.specs.Typed.{IsTyped, EachTyped, IsStruct}
use Rattle.fidl_wire.specs.Depth.{fields_depth}
use Rattle.fidl_wire.specs.Encoding.{members, pointing, present}
use Rattle.fidl_wire.proofs.Sizes.{length-inline, size_of-resolve, le-next_multiple_of}
use Rattle.fidl_table_format.specs.Section.{header_of, row_at}
use Rattle.fidl_table_format.specs.Terms.{declarations_of, fields_from}
use Rattle.fidl_table_format.specs.Entry.{keys_from, AreOffsets}
use Rattle.fidl_encode.specs.declared.fault.EncodeFault.{EncodeFault}
use Rattle.fidl_encode.specs.Broken.{FieldBreaks}
use Rattle.fidl_encode.specs.Writing.{Written, IsWithin}
use Rattle.fidl_encode.specs.Parts.{Part, type_at, value_part, fields_part, IsWritten, IsRefused}
use Rattle.fidl_encode.proofs.Ending.{both, written_zeros, Points}
use Rattle.fidl_encode.proofs.Leaving.{Leaves, leaves_all, leaves_led, leaves_rest, leaves_none}
use Rattle.fidl_encode.proofs.Elements.{views, drop_next}

-- values that are not as many as the members are not of their types
pub not_as_many : (ds : Declarations) (b : List ℕ) (first n : ℕ) (vs : List Tree) → (length vs ≡ n → ⊥) → EachTyped ds (fields_from b (header_of b) first n) (views vs) → ⊥
not_as_many ds b first zero [] other h = other refl
not_as_many ds b first zero (v ∷ vs) other h = h
not_as_many ds b first (suc n) [] other h = h
not_as_many ds b first (suc n) (v ∷ vs) other h = not_as_many ds b (suc first) n vs (λ e. other (ap (λ n. suc n) e)) h.1

same_head : (a b : ℕ) (as' bs : List ℕ) → a ∷ as' ≡ b ∷ bs → a ≡ b
same_head a b as' bs e = cc

same_tail : (a b : ℕ) (as' bs : List ℕ) → a ∷ as' ≡ b ∷ bs → as' ≡ bs
same_tail a b as' bs e = cc

module _ (b : List ℕ) (size first count : ℕ) (vs : List Tree) (depth at : ℕ) (old : Written) where
  abbrev whole : Part
  whole = fields_part (declarations_of b) size 0 (fields_from b (header_of b) first count) (views vs)

  -- the rows from `row` on, of which there are `rows`, with the values `tail`, stand from an offset on
  pub record IsRest (k from row rows : ℕ) (tail : List Tree) : Type 0 where
    pub tail_is : tail ≡ drop k vs
    pub row_is : row ≡ first + k
    pub rows_are : rows + k ≡ count
    pub keys_are : keys_from b (header_of b) row rows ≡ offsets (declarations_of b).figures from (fields_from b (header_of b) row rows)

  -- they are left
  pub record IsLeft (k : ℕ) (now : Written) : Type 0 where
    pub from : ℕ
    pub row : ℕ
    pub rows : ℕ
    pub tail : List Tree
    pub is : IsRest k from row rows tail
    pub left : Leaves whole (fields_part (declarations_of b) size from (fields_from b (header_of b) row rows) (views tail)) depth at (at + from) old now
    pub within : IsWithin now
    pub longer : length old.bytes ≤ length now.bytes

  pub left_all : AreOffsets b (header_of b) first count → IsWithin old → IsLeft 0 old
  left_all keys h =
      let e : at ≡ at + 0 = omega arith in
      record {
        from = 0;
        row = first;
        rows = count;
        tail = vs;
        is = record { tail_is = refl; row_is = omega arith; rows_are = omega arith; keys_are = keys };
        left = subst (λ p. Leaves whole whole depth at p old old) e (leaves_all whole depth at old);
        within = h;
        longer = omega arith;
      }

  module _ (laid : IsLaidOut (declarations_of b)) (k : ℕ) (v : Tree) (now : Written) (lt : k < length vs) (is : get_or vs k v ≡ v) where
    -- the next row and value are the first of the rest
    module _ (from row n : ℕ) (rest : IsRest k from row (suc n) (v ∷ drop (k + 1) vs))
        (left : Leaves whole (fields_part (declarations_of b) size from (fields_from b (header_of b) row (suc n)) (views (v ∷ drop (k + 1) vs))) depth at (at + from) old now) where
      abbrev entry : ℕ
      entry = (row_at b (header_of b) row).entry

      abbrev offset : ℕ
      offset = next_multiple_of from (figure_of (declarations_of b).figures (ty.named entry)).align

      abbrev own : Part
      own = value_part (declarations_of b) (type_at b entry) (value_view v)

      abbrev behind : Part
      behind = fields_part (declarations_of b) size (offset + size_of (declarations_of b) (ty.named entry)) (fields_from b (header_of b) (suc row) n) (views (drop (k + 1) vs))

      key_is : (row_at b (header_of b) row).key ≡ offset
      key_is = same_head _ _ _ _ rest.keys_are

      here : Leaves whole (both own behind) depth at (at + offset) old now
      here =
          let le = le-next_multiple_of from (figure_of (declarations_of b).figures (ty.named entry)).align in
          let e : at + from + (offset - from) ≡ at + offset = omega (arith, le) in
          subst (λ p. Leaves whole (both own behind) depth at p old now) e (leaves_led whole depth at (at + from) old now (offset - from) (both own behind) left)

      next_here : (next : Written) → length old.bytes ≤ length now.bytes → IsWritten own depth (at + (row_at b (header_of b) row).key) now next → IsLeft (k + 1) next
      next_here next before w =
          let wrote = subst (λ o. IsWritten own depth (at + o) now next) key_is w in
          let long = length-inline (declarations_of b) laid (type_at b entry) (value_view v) wrote.typed ∙ size_of-resolve (declarations_of b) laid (ty.named entry) in
          let more = wrote.adds.longer in
          let r = rest.row_is in
          let c = rest.rows_are in
          let e : at + offset + length own.encoding.inline ≡ at + (offset + size_of (declarations_of b) (ty.named entry)) = omega (arith, long) in
          record {
            from = offset + size_of (declarations_of b) (ty.named entry);
            row = suc row;
            rows = n;
            tail = drop (k + 1) vs;
            is = record { tail_is = refl; row_is = omega (arith, r); rows_are = omega (arith, c); keys_are = same_tail _ _ _ _ rest.keys_are };
            left = subst (λ p. Leaves whole behind depth at p old next) e (leaves_rest whole depth at (at + offset) old now own behind next here wrote);
            within = wrote.within;
            longer = omega (arith, more, before);
          }

      refused_here : (f : EncodeFault) → IsRefused own depth now f → IsRefused whole depth old f
      refused_here f r = leaves_none whole depth at (at + offset) old now own behind here f r

    -- the same, of any rest
    abbrev part : ℕ → Part
    part r = value_part (declarations_of b) (type_at b (row_at b (header_of b) r).entry) (value_view v)

    more_rows : (rows : ℕ) → rows + k ≡ count → k < count → (n : ℕ) × (rows ≡ suc n)
    more_rows zero e l = absurd (omega (arith, e, l))
    more_rows (suc n) e l = (n, refl)

    module _ (many : length vs ≡ count) (h : IsLeft k now) where
      some : (n : ℕ) × (h.rows ≡ suc n)
      some = more_rows h.rows h.is.rows_are (omega (arith, lt, many))

      tail_is : h.tail ≡ v ∷ drop (k + 1) vs
      tail_is = h.is.tail_is ∙ drop_next vs k v lt ∙ ap (λ x. x ∷ drop (k + 1) vs) is

      rest_is : IsRest k h.from h.row (suc some.0) (v ∷ drop (k + 1) vs)
      rest_is = subst (λ l. IsRest k h.from h.row (suc some.0) l) tail_is (subst (λ n. IsRest k h.from h.row n h.tail) some.1 h.is)

      left_is : Leaves whole (fields_part (declarations_of b) size h.from (fields_from b (header_of b) h.row (suc some.0)) (views (v ∷ drop (k + 1) vs))) depth at (at + h.from) old now
      left_is =
          subst (λ l. Leaves whole (fields_part (declarations_of b) size h.from (fields_from b (header_of b) h.row (suc some.0)) (views l)) depth at (at + h.from) old now) tail_is
          (subst (λ n. Leaves whole (fields_part (declarations_of b) size h.from (fields_from b (header_of b) h.row n) (views h.tail)) depth at (at + h.from) old now) some.1 h.left)

      pub left_next : (next : Written) → IsWritten (part (first + k)) depth (at + (row_at b (header_of b) (first + k)).key) now next → IsLeft (k + 1) next
      left_next next w = next_here h.from h.row some.0 rest_is left_is next h.longer (subst (λ r. IsWritten (part r) depth (at + (row_at b (header_of b) r).key) now next) (sym h.is.row_is) w)

      pub left_refused : (f : EncodeFault) → IsRefused (part (first + k)) depth now f → IsRefused whole depth old f
      left_refused f r = refused_here h.from h.row some.0 rest_is left_is f (subst (λ r. IsRefused (part r) depth now f) (sym h.is.row_is) r)

  nothing_left : (rows : ℕ) (row from : ℕ) (tail : List Tree) (now : Written) → rows ≡ 0 → tail ≡ [] → IsWithin now → IsWritten (fields_part (declarations_of b) size from (fields_from b (header_of b) row rows) (views tail)) depth (at + from) now now
  nothing_left rows row from tail now e t h =
      subst (λ n. IsWritten (fields_part (declarations_of b) size from (fields_from b (header_of b) row n) (views tail)) depth (at + from) now now) (sym e)
      (subst (λ l. IsWritten (fields_part (declarations_of b) size from (fields_from b (header_of b) row 0) (views l)) depth (at + from) now now) (sym t) (written_zeros (size - from) depth (at + from) now h))

  pub left_none : (k : ℕ) (now : Written) → length vs ≡ count → k ≡ count → IsLeft k now → IsWritten whole depth at old now
  left_none k now many end h =
      let n = h.is.rows_are in
      h.left.done now (nothing_left h.rows h.row h.from h.tail now (omega (arith, n, end)) (h.is.tail_is ∙ drop_all k vs (omega (arith, many, end))) h.within)

-- a box that is there is what points to its struct
pub points_struct : (ds : Declarations) → IsLaidOut ds → (t : Term) (fs : Fields) (vs : Values) (size : ℕ) → resolve ds.terms t ≡ ty.struct fs → size_of ds (ty.struct fs) ≡ size
    → Points present size (fields_part ds (size_of ds (ty.struct fs)) 0 fs vs) (value_part ds (ty.box t) (fields vs))
points_struct ds laid t fs vs size is sized =
    subst (λ (u : Term). Points present size (fields_part ds (size_of ds (ty.struct fs)) 0 fs vs) (boxed u)) (sym is)
    (record { from = λ h. h.1; breaks = λ f b. b; depth = refl; encoding = refl; sized = λ h. length-inline ds laid (ty.struct fs) (fields vs) h ∙ sized })
  where
    boxed : Term → Part
    boxed u =
        record {
          Typed = IsStruct u × EachTyped ds (fields_of u) vs;
          breaks = FieldBreaks ds (fields_of u) vs;
          depth = suc (fields_depth ds (fields_of u) vs);
          encoding = pointing present (members ds (size_of ds (ty.struct (fields_of u))) 0 (fields_of u) vs);
        }

pub boxed_typed : (ds : Declarations) (t : Term) (fs : Fields) (vs : Values) → resolve ds.terms t ≡ ty.struct fs → EachTyped ds fs vs → IsTyped ds (ty.box t) (fields vs)
boxed_typed ds t fs vs is h = subst (λ (u : Term). IsStruct u × EachTyped ds (fields_of u) vs) (sym is) (tt, h)

-- what is no struct is none in a box either
pub no_box : (ds : Declarations) (t : Term) (v : Value) → ((vs : Values) → v ≡ fields vs → ⊥) → (v ≡ absent → ⊥) → IsTyped ds (ty.box t) v → ⊥
no_box ds t absent lacks there h = there refl
no_box ds t (fields vs) lacks there h = lacks vs refl
no_box ds t _ lacks there h = h

pub no_struct : (ds : Declarations) (fs : Fields) (v : Value) → ((vs : Values) → v ≡ fields vs → ⊥) → IsTyped ds (ty.struct fs) v → ⊥
no_struct ds fs absent lacks h = h
no_struct ds fs (fields vs) lacks h = lacks vs refl
no_struct ds fs _ lacks h = h
