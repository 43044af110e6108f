-- What a well-formed table says of an entry, its elements and its members.
use Rattle.std.proofs.Common.{◌≡◌, ℕ, zero, suc, ◌+◌, ◌*◌, ◌<◌, ◌≤◌, List, sym, ap, subst, ◌∙◌, arith, mul-suc}
use Rattle.std.specs.Prelude.{Some, None, pos, ℤ, ◌⊎◌, false}
use Rattle.fidl_wire.specs.Value.{Value, Values, number, fields, none, value}
use Rattle.fidl_wire.specs.Term.{Term, Kind, Fields, fields_of, resolve, int8, int16, int32, int64, uint8, uint16, uint32, uint64}
use Rattle.fidl_wire.specs.Term as ty
use Rattle.fidl_wire.specs.Typed.{IsTyped, EachTyped}
use Rattle.fidl_limits.specs.declared.limits.TheConstants.{MAX_INLINE_SIZE, MAX_NEST}
use Rattle.fidl_wire.specs.Encoding as encoding
use Rattle.fidl_wire.specs.Depth.{depth_of, fields_depth}
use Rattle.fidl_table_format.specs.declared.record.Row.{Row}
use Rattle.fidl_table_format.specs.declared.kind.EntryKind.{EntryKind}
use Rattle.fidl_table_format.specs.declared.kind.EntryKind.TheVariants.{Vector, Array, Box, Struct}
use Rattle.fidl_table_format.specs.Section.{header_of, entry_at, row_at}
use Rattle.fidl_table_format.specs.Terms.{declarations_of, fields_from, term_as}
use Rattle.fidl_table_format.specs.Uses.{uses_entry, uses_rows}
use Rattle.fidl_table_format.specs.Entry.{IsOf}
use Rattle.fidl_table_format.specs.WellFormed.{WellFormed}
use Rattle.fidl_wire.specs.Figure.{Figure, size_of}
use Rattle.fidl_verify.proofs.Known.{test_of}
use Rattle.fidl_verify.proofs.Standing.{members_stand}
use Rattle.fidl_verify.proofs.Declared.{element_nests, member_nests}
use Rattle.fidl_decode_model.proofs.Bridge.{fine_of}
use Rattle.fidl_decode_model.proofs.Visiting.{term_is, figure_is, size_is}
use Rattle.fidl_view.specs.declared.view.View.{View}
use Rattle.fidl_view.specs.Within.{IsPart, IsMembers}
use Rattle.fidl_view.specs.Parts.{absence_of, nth, unsigned_of, signed_of}
use Rattle.fidl_view.proofs.Listed.{box_is, by_term, each_nth, each_typed, number_kind, struct_is}

le_product : (a n own whole : ℕ) → own ≡ a → 0 < n → a * n ≡ whole → own ≤ whole
le_product a (suc n) own whole e some is = let more : a * n + a ≡ whole = sym (mul-suc a n) ∙ is in omega (arith, e, more)
le_product a zero own whole e some is = absurd (omega (arith, some))

module _ (b : List ℕ) (w : WellFormed b) (i : ℕ) (lt : i < (header_of b).entries) where
  -- the entry's kind
  pub kind_at : (k : EntryKind) × IsOf k (entry_at b i)
  kind_at = let f = (fine_of b w).each i lt in (f.0, f.1.is)

  -- the type of the entry, by its kind
  pub term_at : (k : EntryKind) → IsOf k (entry_at b i) → resolve (declarations_of b).terms (ty.named i) ≡ term_as k b (header_of b) (entry_at b i)
  term_at k is = term_is b (fine_of b w) i k lt is

  pub element_lt : IsOf Array (entry_at b i) → (entry_at b i).first < (header_of b).entries
  element_lt is = (w.entries i lt).children.elements (test_of uses_entry Array (entry_at b i) is)

  pub element_less : IsOf Array (entry_at b i) → (entry_at b (entry_at b i).first).nest < (entry_at b i).nest
  element_less is = element_nests b (header_of b) (entry_at b i) is (element_lt is) (w.entries i lt).nest.nest

  pub vector_lt : IsOf Vector (entry_at b i) → (entry_at b i).first < (header_of b).entries
  vector_lt is = (w.entries i lt).children.elements (test_of uses_entry Vector (entry_at b i) is)

  pub box_lt : IsOf Box (entry_at b i) → (entry_at b i).first < (header_of b).entries
  box_lt is = (w.entries i lt).children.elements (test_of uses_entry Box (entry_at b i) is)

  pub box_struct : IsOf Box (entry_at b i) → IsOf Struct (entry_at b (entry_at b i).first)
  box_struct is = (w.entries i lt).children.content is

  -- neither an element nor a member is larger than what holds it
  pub element_fits : IsOf Array (entry_at b i) → (entry_at b (entry_at b i).first).size ≤ (entry_at b i).size
  element_fits is =
      let c = (entry_at b i).first in
      let g : size_of (declarations_of b) (ty.named c) * (entry_at b i).count ≡ (entry_at b i).size = ap (λ (f : Figure). f.size) (figure_is b (fine_of b w) i Array lt is) in
      let own = size_is b (fine_of b w) c (element_lt is) in
      le_product (size_of (declarations_of b) (ty.named c)) (entry_at b i).count (entry_at b c).size (entry_at b i).size (sym own) ((w.entries i lt).size.elements is) g

  pub member_fits : IsOf Struct (entry_at b i) → (k : ℕ) → k < (entry_at b i).count → (entry_at b (row_at b (header_of b) ((entry_at b i).first + k)).entry).size ≤ (entry_at b i).size
  member_fits is k less = let apart = (members_stand b w i lt is k less).within in omega (arith, apart)

  pub size_few : (entry_at b i).size ≤ MAX_INLINE_SIZE
  size_few = (w.entries i lt).size.limit

  pub nest_few : (entry_at b i).nest ≤ MAX_NEST
  nest_few = (w.entries i lt).nest.limit

  pub row_lt : IsOf Struct (entry_at b i) → (k : ℕ) → k < (entry_at b i).count → (entry_at b i).first + k < (header_of b).rows
  row_lt is k less = let all = (w.entries i lt).children.within (test_of uses_rows Struct (entry_at b i) is) in omega (arith, all, less)

  pub member_lt : IsOf Struct (entry_at b i) → (k : ℕ) → k < (entry_at b i).count → (row_at b (header_of b) ((entry_at b i).first + k)).entry < (header_of b).entries
  member_lt is k less = (w.entries i lt).children.members (test_of uses_rows Struct (entry_at b i) is) k less

  pub member_less : IsOf Struct (entry_at b i) → (k : ℕ) → k < (entry_at b i).count → (entry_at b (row_at b (header_of b) ((entry_at b i).first + k)).entry).nest < (entry_at b i).nest
  member_less is k less = member_nests b (header_of b) (entry_at b i) is (w.entries i lt).nest.nest k less (member_lt is k less)

  -- a number is answered by one of the two calls of its view
  pub number_answered : (z : ℤ) → IsTyped (declarations_of b) (resolve (declarations_of b).terms (ty.named i)) (number z)
      → let t = resolve (declarations_of b).terms (ty.named i) in ((n : ℕ) × (z ≡ pos n) × (unsigned_of t (number z) ≡ Some n)) ⊎ ((unsigned_of t (number z) ≡ None) × (signed_of t (number z) ≡ Some z))
  number_answered z typed =
      let k = kind_at.0 in
      let e = term_at k kind_at.1 in
      let h = header_of b in
      let here = subst (λ (u : Term). IsTyped (declarations_of b) u (number z)) e typed in
      let is = number_kind b h (entry_at b i) k
      (λ q. subst (λ (j : EntryKind). IsTyped (declarations_of b) (term_as j b h (entry_at b i)) (number z)) q here)
      (λ q. subst (λ (j : EntryKind). IsTyped (declarations_of b) (term_as j b h (entry_at b i)) (number z)) q here)
      (λ q. subst (λ (j : EntryKind). IsTyped (declarations_of b) (term_as j b h (entry_at b i)) (number z)) q here)
      (λ q. subst (λ (j : EntryKind). IsTyped (declarations_of b) (term_as j b h (entry_at b i)) (number z)) q here)
      (λ q. subst (λ (j : EntryKind). IsTyped (declarations_of b) (term_as j b h (entry_at b i)) (number z)) q here)
      (λ q. subst (λ (j : EntryKind). IsTyped (declarations_of b) (term_as j b h (entry_at b i)) (number z)) q here)
      (λ q. subst (λ (j : EntryKind). IsTyped (declarations_of b) (term_as j b h (entry_at b i)) (number z)) q here)
      (λ q. subst (λ (j : EntryKind). IsTyped (declarations_of b) (term_as j b h (entry_at b i)) (number z)) q here)
      (λ q. subst (λ (j : EntryKind). IsTyped (declarations_of b) (term_as j b h (entry_at b i)) (number z)) q here) in
      subst (λ (t : Term). ((n : ℕ) × (z ≡ pos n) × (unsigned_of t (number z) ≡ Some n)) ⊎ ((unsigned_of t (number z) ≡ None) × (signed_of t (number z) ≡ Some z))) (sym e)
      (by_term (declarations_of b) (term_as k b h (entry_at b i)) is z here)

  -- the members that a struct's entry declares
  abbrev pub members_at : Fields
  members_at = fields_from b (header_of b) (entry_at b i).first (entry_at b i).count

  pub struct_members : IsOf Struct (entry_at b i) → encoding.content_of (declarations_of b) (resolve (declarations_of b).terms (ty.named i)) ≡ members_at
  struct_members is = ap (λ (u : Term). encoding.content_of (declarations_of b) u) (term_at Struct is)

  pub boxed_members : IsOf Struct (entry_at b i) → encoding.content_of (declarations_of b) (ty.box (ty.named i)) ≡ members_at
  boxed_members is = ap (λ (u : Term). fields_of u) (term_at Struct is)

  -- those of a struct that is shown, and of a struct in a box that is not absent
  pub members_of_struct : (is : IsOf Struct (entry_at b i)) (view : View) (v : Value) → let own = resolve (declarations_of b).terms (ty.named i) in IsPart (declarations_of b) own view v
      → (vs : Values) × (v ≡ fields vs) × IsMembers b i view own vs × (depth_of (declarations_of b) own v ≡ fields_depth (declarations_of b) members_at vs)
  members_of_struct is view v p =
      let ds = declarations_of b in
      let own = resolve ds.terms (ty.named i) in
      let e = term_at Struct is in
      let x = struct_is ds members_at v (subst (λ (u : Term). IsTyped ds u v) e p.typed) in (
        x.0,
        x.1,
        record { part = subst (λ (u : Value). IsPart ds own view u) x.1 p; each = struct_members is },
        ap (λ (t : Term). depth_of ds t v) e ∙ ap (λ (u : Value). depth_of ds (ty.struct members_at) u) x.1,
      )

  pub members_of_box : (is : IsOf Struct (entry_at b i)) (view : View) (v : Value) → IsPart (declarations_of b) (ty.box (ty.named i)) view v → false ≡ absence_of v
      → (vs : Values) × (v ≡ fields vs) × IsMembers b i view (ty.box (ty.named i)) vs × (depth_of (declarations_of b) (ty.box (ty.named i)) v ≡ suc (fields_depth (declarations_of b) members_at vs))
  members_of_box is view v p there =
      let ds = declarations_of b in
      let x = box_is ds (ty.named i) v p.typed there in (
        x.0,
        x.1,
        record { part = subst (λ (u : Value). IsPart ds (ty.box (ty.named i)) view u) x.1 p; each = boxed_members is },
        ap (λ (u : Value). depth_of ds (ty.box (ty.named i)) u) x.1 ∙ ap (λ (fs : Fields). suc (fields_depth ds fs x.0)) (boxed_members is),
      )

  -- the members of a struct, as its view answers them
  module _ (view : View) (t : Term) (vs : Values) (p : IsMembers b i view t vs) where
    abbrev member : ℕ → Row
    member k = row_at b (header_of b) ((entry_at b i).first + k)

    abbrev type_at : ℕ → Term
    type_at k = resolve (declarations_of b).terms (ty.named (member k).entry)

    typed : EachTyped (declarations_of b) members_at vs
    typed = subst (λ (fs : Fields). EachTyped (declarations_of b) fs vs) p.each (each_typed (declarations_of b) t vs p.part.typed)

    pub member_there : (k : ℕ) → k < (entry_at b i).count → (x : Value) × (nth vs k ≡ Some x)
    member_there k less = let r = each_nth (declarations_of b) b (header_of b) (entry_at b i).first (entry_at b i).count vs k typed less in (r.0, r.1)

    same_value : (a b : Value) → Some a ≡ Some b → a ≡ b
    same_value a b e = cc

    pub member_typed : (k : ℕ) → k < (entry_at b i).count → (x : Value) → nth vs k ≡ Some x → IsTyped (declarations_of b) (type_at k) x
    member_typed k less x e =
        let r = each_nth (declarations_of b) b (header_of b) (entry_at b i).first (entry_at b i).count vs k typed less in
        subst (λ (y : Value). IsTyped (declarations_of b) (type_at k) y) (same_value r.0 x (sym r.1 ∙ e)) r.2

    -- a member lies no deeper than all of them
    pub member_depth : (k : ℕ) → k < (entry_at b i).count → (x : Value) → nth vs k ≡ Some x → depth_of (declarations_of b) (type_at k) x ≤ fields_depth (declarations_of b) members_at vs
    member_depth k less x e = go (entry_at b i).first (entry_at b i).count vs k typed less e
      where
        go : (first n : ℕ) (vs : Values) (k : ℕ) → EachTyped (declarations_of b) (fields_from b (header_of b) first n) vs → k < n → nth vs k ≡ Some x
            → depth_of (declarations_of b) (resolve (declarations_of b).terms (ty.named (row_at b (header_of b) (first + k)).entry)) x ≤ fields_depth (declarations_of b) (fields_from b (header_of b) first n) vs
        go first zero vs k h less e = absurd (omega (arith, less))
        go first (suc n) none k h less e = absurd h
        go first (suc n) (value v vs) zero h less e =
            let here : first ≡ first + 0 = omega arith in
            let same : v ≡ x = cc in
            subst (λ q. depth_of (declarations_of b) (resolve (declarations_of b).terms (ty.named (row_at b (header_of b) q).entry)) x ≤ fields_depth (declarations_of b) (fields_from b (header_of b) first (suc n)) (value v vs)) here
            (subst (λ (y : Value). depth_of (declarations_of b) (resolve (declarations_of b).terms (ty.named (row_at b (header_of b) first).entry)) y ≤ fields_depth (declarations_of b) (fields_from b (header_of b) first (suc n)) (value v vs)) same (omega arith))
        go first (suc n) (value v vs) (suc k) h less e =
            let next : suc first + k ≡ first + suc k = omega arith in
            let rest = go (suc first) n vs k h.1 (omega (arith, less)) e in
            subst (λ q. depth_of (declarations_of b) (resolve (declarations_of b).terms (ty.named (row_at b (header_of b) q).entry)) x ≤ fields_depth (declarations_of b) (fields_from b (header_of b) first (suc n)) (value v vs)) next
            (omega (arith, rest))
