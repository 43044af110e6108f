-- What is left to be written of elements or members.
use Rattle.std.proofs.Common.{◌≡◌, ℕ, suc, ◌+◌, ◌-◌, ◌<◌, List, ◌++◌, refl, sym, ap, ◌∙◌, arith}
use Rattle.std.specs.Prelude.{Some, None, nat_lt, codes, Bool, true, false}
use Rattle.std.proofs.lemmas.Bool.{lt-ltb}
use mathlib.Core.List.{append_assoc}
use Rattle.fidl_wire.specs.declared.handle.HandleInfo.{HandleInfo}
use Rattle.fidl_wire.specs.Value.{Value, Values, absent, text, list, fields, handle, count}
use Rattle.fidl_wire.specs.Term.{Term, Kind, Fields, fields_of, resolve, int8, int16, int32, int64, uint8, uint16, uint32, uint64}
use Rattle.fidl_wire.specs.Term as ty
use Rattle.fidl_wire.specs.Figure.{Declarations}
use Rattle.fidl_wire.specs.Typed.{IsTyped}
use Rattle.fidl_wire.specs.Encoding as encoding
use Rattle.fidl_wire.specs.Text.{text_of, elements_text, fields_text, comma_if, handle_text}
use Rattle.fidl_table_format.specs.declared.record.Header.{Header}
use Rattle.fidl_table_format.specs.Section.{header_of, entry_at, row_at, name_at}
use Rattle.fidl_table_format.specs.Terms.{declarations_of, fields_from}
use Rattle.fidl_view.specs.declared.view.View.{View}
use Rattle.fidl_streams.specs.Written.{Taken}
use Rattle.fidl_view.specs.Within.{IsElements, IsMembers}
use Rattle.fidl_streams.proofs.Taking.{IsSoFar}
use Rattle.fidl_notation.proofs.Quoting.{quoted}
use Rattle.fidl_view.specs.Parts.{absence_of, nth, string_of, handle_of}
use Rattle.fidl_view.proofs.Listed.{values_after, values_at, values_end, own_element}

positive : (i : ℕ) → 0 < i → nat_lt 0 i ≡ true
positive i h = lt-ltb 0 i h

-- the text of the elements from a place on begins with that of the element there
pub elements_at : (ds : Declarations) (t : Term) (vs : Values) (i next : ℕ) (x : Value) (last : List ℕ) → nth vs i ≡ Some x → next ≡ suc i
    → elements_text ds t (nat_lt 0 i) (values_after i vs) ++ last ≡ (comma_if (nat_lt 0 i) ++ text_of ds t x) ++ (elements_text ds t (nat_lt 0 next) (values_after next vs) ++ last)
elements_at ds t vs i next x last e n =
    let front = comma_if (nat_lt 0 i) ++ text_of ds t x in
    ap (λ (us : Values). elements_text ds t (nat_lt 0 i) us ++ last) (values_at vs i x e)
    ∙ append_assoc front (elements_text ds t true (values_after (suc i) vs)) last
    ∙ ap (λ (later : Bool). front ++ (elements_text ds t later (values_after (suc i) vs) ++ last)) (sym (positive next (omega (arith, n))))
    ∙ ap (λ k. front ++ (elements_text ds t (nat_lt 0 next) (values_after k vs) ++ last)) (sym n)

-- no text of elements is left at the end
pub elements_end : (ds : Declarations) (t : Term) (vs : Values) (i : ℕ) (later : Bool) (last : List ℕ) → i ≡ count vs → elements_text ds t later (values_after i vs) ++ last ≡ last
elements_end ds t vs i later last e = ap (λ (us : Values). elements_text ds t later us ++ last) (ap (λ k. values_after k vs) e ∙ values_end vs)

module _ (ds : Declarations) (b : List ℕ) (h : Header) where
  -- the name and the type of a member
  abbrev pub name_of : (row : ℕ) → List ℕ
  name_of row = name_at b h (row_at b h row).name_place (row_at b h row).name_length

  abbrev pub type_of : (row : ℕ) → Term
  type_of row = resolve ds.terms (ty.named (row_at b h row).entry)

  -- the text of the members from a place on begins with that of the member there
  pub fields_at : (first n : ℕ) (vs : Values) (i next : ℕ) (x : Value) (last : List ℕ) → nth vs i ≡ Some x → i < n → next ≡ suc i
      → fields_text ds (fields_from b h (first + i) (n - i)) (nat_lt 0 i) (values_after i vs) ++ last
      ≡ (comma_if (nat_lt 0 i) ++ name_of (first + i) ++ codes ": " ++ text_of ds (type_of (first + i)) x) ++ (fields_text ds (fields_from b h (first + next) (n - next)) (nat_lt 0 next) (values_after next vs) ++ last)
  fields_at first n vs i next x last e less is =
      let more : n - i ≡ suc (n - suc i) = omega arith in
      let after : suc (first + i) ≡ first + suc i = omega arith in
      let front = comma_if (nat_lt 0 i) ++ name_of (first + i) ++ codes ": " ++ text_of ds (type_of (first + i)) x in
      ap (λ k. fields_text ds (fields_from b h (first + i) k) (nat_lt 0 i) (values_after i vs) ++ last) more
      ∙ ap (λ (us : Values). fields_text ds (fields_from b h (first + i) (suc (n - suc i))) (nat_lt 0 i) us ++ last) (values_at vs i x e)
      ∙ append_assoc front (fields_text ds (fields_from b h (suc (first + i)) (n - suc i)) true (values_after (suc i) vs)) last
      ∙ ap (λ k. front ++ (fields_text ds (fields_from b h k (n - suc i)) true (values_after (suc i) vs) ++ last)) after
      ∙ ap (λ (later : Bool). front ++ (fields_text ds (fields_from b h (first + suc i) (n - suc i)) later (values_after (suc i) vs) ++ last)) (sym (positive next (omega (arith, is))))
      ∙ ap (λ k. front ++ (fields_text ds (fields_from b h (first + k) (n - k)) (nat_lt 0 next) (values_after k vs) ++ last)) (sym is)

  -- no text of members is left at the end
  pub fields_end : (first n : ℕ) (vs : Values) (later : Bool) (last : List ℕ) → fields_text ds (fields_from b h (first + n) (n - n)) later (values_after n vs) ++ last ≡ last
  fields_end first n vs later last =
      let done : n - n ≡ 0 = omega arith in
      ap (λ k. fields_text ds (fields_from b h (first + n) k) later (values_after n vs) ++ last) done

-- what is left to write of elements from a place on
pub record IsElementsLeft (b : List ℕ) (element at : ℕ) (view : View) (old now : Taken) : Type 0 where
  pub left : (t : Term) (vs : Values) → IsElements b element view t vs
      → IsSoFar old now (text_of (declarations_of b) t (list vs))
      (elements_text (declarations_of b) (resolve (declarations_of b).terms (ty.named element)) (nat_lt 0 at) (values_after at vs) ++ codes "]")

-- what is left to write of members from a place on
pub record IsMembersLeft (b : List ℕ) (index at : ℕ) (view : View) (old now : Taken) : Type 0 where
  pub left : (t : Term) (vs : Values) → IsMembers b index view t vs
      → IsSoFar old now (text_of (declarations_of b) t (fields vs))
      (fields_text (declarations_of b) (fields_from b (header_of b) ((entry_at b index).first + at) ((entry_at b index).count - at)) (nat_lt 0 at) (values_after at vs) ++ codes "}")

-- elements, as their view answers them
module _ (b : List ℕ) (element : ℕ) (view : View) (t : Term) (vs : Values) (p : IsElements b element view t vs) where
  pub list_text : text_of (declarations_of b) t (list vs) ≡ codes "[" ++ (elements_text (declarations_of b) (own_element b element view t vs p) false vs ++ codes "]")
  list_text =
      append_assoc (codes "[") (elements_text (declarations_of b) (encoding.element_of (declarations_of b) t) false vs) (codes "]")
      ∙ ap (λ (u : Term). codes "[" ++ (elements_text (declarations_of b) u false vs ++ codes "]")) p.each

absurd_bool : {P : Type 0} → false ≡ true → P
absurd_bool e = cc

-- the text of what is absent
pub absent_text : (ds : Declarations) (t : Term) (v : Value) → true ≡ absence_of v → codes "absent" ≡ text_of ds t v
absent_text ds t absent e = refl
absent_text ds t _ e = absurd_bool (sym e)

-- the text of a string that is there, or absent
pub string_text : (ds : Declarations) (optional : Bool) (bound : ℕ) (v : Value) → IsTyped ds (ty.string optional bound) v → (bytes : List ℕ) → Some bytes ≡ string_of v
    → text_of ds (ty.string optional bound) v ≡ quoted bytes
string_text ds optional bound (text bytes) h other e = let same : bytes ≡ other = cc in ap quoted same
string_text ds optional bound absent h other e = cc
string_text ds optional bound _ h other e = absurd h

pub absent_string : (ds : Declarations) (optional : Bool) (bound : ℕ) (v : Value) → IsTyped ds (ty.string optional bound) v → None ≡ string_of v → text_of ds (ty.string optional bound) v ≡ codes "absent"
absent_string ds optional bound (text bytes) h e = cc
absent_string ds optional bound absent h e = refl
absent_string ds optional bound _ h e = absurd h

-- the text of a handle that is there, or absent
pub handle_there : (ds : Declarations) (optional : Bool) (subtype rights : ℕ) (v : Value) → IsTyped ds (ty.handle optional subtype rights) v → (i : HandleInfo) → Some i ≡ handle_of v
    → text_of ds (ty.handle optional subtype rights) v ≡ handle_text i
handle_there ds optional subtype rights (handle i) h other e = let same : i ≡ other = cc in ap handle_text same
handle_there ds optional subtype rights absent h other e = cc
handle_there ds optional subtype rights _ h other e = absurd h

pub absent_handle : (ds : Declarations) (optional : Bool) (subtype rights : ℕ) (v : Value) → IsTyped ds (ty.handle optional subtype rights) v → None ≡ handle_of v
    → text_of ds (ty.handle optional subtype rights) v ≡ codes "absent"
absent_handle ds optional subtype rights (handle i) h e = cc
absent_handle ds optional subtype rights absent h e = refl
absent_handle ds optional subtype rights _ h e = absurd h
