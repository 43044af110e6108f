-- The members of a struct, or of the struct in a box, which are found without a branch.
use Rattle.std.proofs.Common.{◌≡◌, ℕ, ◌+◌, ◌/◌, ◌<◌, ◌≤◌, ◌%◌, Bool, true, false, List, length, ap, sym, subst, ◌∙◌, arith, inl, inr, refl}
use Rattle.std.specs.Prelude.{◌⊎◌, ◌↔◌, ◌==◌, ◌&&◌, ◌||◌, not, Option, Some, None, IsTrue, slice_index, eqb}
use Rattle.std.specs.Option.{option_map_or}
use Rattle.std.proofs.lemmas.Bool.{agree_below_at, eqb-true, eqb-false, cases_lt}
use Rattle.std.proofs.lemmas.List.{get_or_past}
use Rattle.fidl_wire.specs.Value.{Value}
use Rattle.fidl_wire.specs.Term.{Term, fields_of}
use Rattle.fidl_wire.specs.Term as ty
use Rattle.fidl_wire.specs.Encoding.{object, encoding_of, zeros, present}
use Rattle.fidl_wire.specs.Standing.{Stands}
use Rattle.fidl_wire.specs.Message.{IsEncoding}
use Rattle.fidl_wire.specs.declared.handle.HandleInfo.{HandleInfo}
use Rattle.fidl_wire.proofs.Whole.{whole-message}
use Rattle.fidl_table_format.specs.declared.record.Entry.{Entry}
use Rattle.fidl_table_format.specs.declared.kind.EntryKind.{EntryKind}
use Rattle.fidl_table_format.specs.declared.kind.EntryKind.TheVariants.{Struct, Box}
use Rattle.fidl_table_format.specs.Kind.{kinds, kind_of}
use Rattle.fidl_table_format.specs.Section.{header_of, entry_at}
use Rattle.fidl_table_format.specs.Entry.{IsOf}
use Rattle.fidl_table_format.specs.Terms.{declarations_of}
use Rattle.fidl_table_format.specs.WellFormed.{WellFormed}
use Rattle.fidl_links.specs.Links.{Written, IsFreeWord}
use Rattle.fidl_decode_model.specs.Links.{Linked, noted}
use Rattle.fidl_decode_model.specs.Placed.{object_at}
use Rattle.fidl_decode_model.specs.Model.{Shown}
use Rattle.fidl_view.specs.Parts.{IsNoStruct, absence_of}
use Rattle.fidl_view.specs.Shows.{Shows, HasValue, type_of}
use Rattle.fidl_view.specs.Members.{HaveMembersAt, fields_at, struct_of}
use Rattle.fidl_view.proofs.Viewing as viewing
use Rattle.fidl_view.proofs.Blank as blanks
use Rattle.fidl_view.proofs.MemberPlaces as places

-- ---- the numbers of two kinds

abbrev tells : EntryKind → EntryKind → Bool
tells Box Box = true
tells Struct Struct = true
tells _ _ = false

no_kind : (k : EntryKind) → None ≡ Some k → ⊥
no_kind k e = cc

number_below : (k : EntryKind) (n : ℕ) → kind_of n ≡ Some k → n < 20
number_below k n is =
    elim (cases_lt n 20) [
      | inl less ↦ less
      | inr past ↦ absurd (no_kind k (sym (get_or_past kinds n None past) ∙ is))
    ]

pub box_number : (n : ℕ) → kind_of n ≡ Some Box → n ≡ 15
box_number n is =
    let same = agree_below_at (λ k. option_map_or (tells Box) (kind_of k) false) (λ k. eqb k 15) 20 n refl (number_below Box n is) in
    eqb-true n 15 (sym same ∙ ap (λ (o : Option EntryKind). option_map_or (tells Box) o false) is)

pub struct_number : (n : ℕ) → kind_of n ≡ Some Struct → n ≡ 16
struct_number n is =
    let same = agree_below_at (λ k. option_map_or (tells Struct) (kind_of k) false) (λ k. eqb k 16) 20 n refl (number_below Struct n is) in
    eqb-true n 16 (sym same ∙ ap (λ (o : Option EntryKind). option_map_or (tells Struct) o false) is)

-- ---- a message that is not empty has a first word

pub first_word : (d : Shown) → IsEncoding (declarations_of d.table) (ty.named d.entry) d.bytes d.handles → 0 < length d.bytes → 8 ≤ length d.bytes
first_word d x some =
    let ds = declarations_of d.table in
    let whole = whole-message ds (type_of d d.entry) x.0 x.1.typed in
    let long : length (object (encoding_of ds (type_of d d.entry) x.0)) ≡ length d.bytes = ap (λ (m : List ℕ × List HandleInfo). length m.0) x.1.message in
    omega (arith, whole, long, some)

-- ---- the entry and the place of the members

module _ (d : Shown) (w : WellFormed d.table) (index place : ℕ) (lt : index < (header_of d.table).entries) where
  abbrev own : Entry
  own = entry_at d.table index

  module _ (i p : ℕ) where
    -- those of the struct in a box that is there, or of a struct
    abbrev pub InBox : Type 0
    InBox = IsOf Box own × (i ≡ own.first) × ((v : Value) → Shows d index place v → HaveMembersAt d own.first p v)

    abbrev pub Itself : Type 0
    Itself = IsOf Struct own × (i ≡ index) × (p ≡ place)

    pub found_in_range : InBox ⊎ Itself → i < (header_of d.table).entries
    found_in_range (inl x) = subst (λ k. k < (header_of d.table).entries) (sym x.1) (places.box_struct d w index place lt x.0).0
    found_in_range (inr x) = subst (λ k. k < (header_of d.table).entries) (sym x.1) lt

    pub found_struct : InBox ⊎ Itself → IsOf Struct (entry_at d.table i)
    found_struct (inl x) = subst (λ k. IsOf Struct (entry_at d.table k)) (sym x.1) (places.box_struct d w index place lt x.0).1
    found_struct (inr x) = subst (λ k. IsOf Struct (entry_at d.table k)) (sym x.1) x.0

    pub found_members : InBox ⊎ Itself → (v : Value) → Shows d index place v → HaveMembersAt d i p v
    found_members (inl x) v s = subst (λ k. HaveMembersAt d k p v) (sym x.1) (x.2 v s)
    found_members (inr x) v s = subst (λ k. HaveMembersAt d k p v) (sym x.1) (subst (λ k. HaveMembersAt d index k v) (sym x.2) (places.struct_shown d w index place lt x.0 v s))

    pub found_fields : InBox ⊎ Itself → fields_of (struct_of (declarations_of d.table) (type_of d index)) ≡ fields_at d i
    found_fields (inl x) =
        let b = places.box_struct d w index place lt x.0 in
        ap (λ (t : Term). fields_of (struct_of (declarations_of d.table) t)) (viewing.own_type d w index place lt Box x.0)
        ∙ ap fields_of (viewing.own_type d w own.first place b.0 Struct b.1) ∙ ap (λ k. fields_at d k) (sym x.1)
    found_fields (inr x) =
        ap (λ (t : Term). fields_of (struct_of (declarations_of d.table) t)) (viewing.own_type d w index place lt Struct x.0) ∙ ap (λ k. fields_at d k) (sym x.1)

  -- what is neither a struct nor a box that is there has no members
  pub found_none : (IsOf Struct own → ⊥) → (IsOf Box own → ⊥) → (v : Value) → Shows d index place v → IsNoStruct v
  found_none no_struct no_box v s =
      let k = viewing.kind_there d w index place lt in
      places.no_struct_of (declarations_of d.table) d.table (header_of d.table) own k.0
      (λ e. no_struct (subst (λ (x : EntryKind). IsOf x own) e k.1)) (λ e. no_box (subst (λ (x : EntryKind). IsOf x own) e k.1)) v (viewing.lies d w index place lt k.0 k.1 v s).0

  -- a box's marker, which is read at a place that is the box's own
  module _ (l : Written) (came : l.came ≡ d.bytes) (same : noted l ≡ d.links) (blank : Bool) (is : IsOf Box own) (m : ℕ) (at : m ≡ place) (tells : IsTrue blank ↔ IsFreeWord l m × Stands l.came m (zeros 8)) where
    here : IsTrue blank ↔ IsFreeWord l place × Stands l.came place (zeros 8)
    here = subst (λ k. IsTrue blank ↔ IsFreeWord l k × Stands l.came k (zeros 8)) at tells

    pub absent_box : blank ≡ true → (v : Value) → Shows d index place v → IsNoStruct v
    absent_box b v s = places.no_box v (blanks.absent d w index place lt l came same place (viewing.box_marks d w index place lt is) blank here b v s)

    box_there : blank ≡ false → (v : Value) → Shows d index place v → false ≡ absence_of v
    box_there b v s = blanks.there d w index place lt l came same place (viewing.box_marks d w index place lt is) blank here b v s

    pub box_linked : blank ≡ false → ∥ HasValue d index place ∥₁ → Stands l.came m present × (0 < slice_index l.objects (m / 8))
    box_linked b shown = subst (λ k. Stands l.came k present × (0 < slice_index l.objects (k / 8))) (sym at)
        (blanks.linked d w index place lt l came same place (viewing.box_marks d w index place lt is) shown (box_there b))

    pub box_found : blank ≡ false → (o : ℕ) → o ≡ slice_index l.objects (m / 8) → (v : Value) → Shows d index place v → HaveMembersAt d own.first o v
    box_found b o e v s =
        let placed : o ≡ object_at d.links place = e ∙ ap (λ k. slice_index l.objects (k / 8)) at ∙ ap (λ (x : Linked). object_at x place) same in
        subst (λ k. HaveMembersAt d own.first k v) (sym placed) (places.box_shown d w index place lt is v (box_there b v s) s)

  -- the place that is read: the box's marker, or the message's first word
  module _ (l : Written) (came : l.came ≡ d.bytes) (same : noted l ≡ d.links) (boxed : Bool) (is : boxed ≡ true → IsOf Box own) (m : ℕ) (yes : boxed ≡ true → m ≡ place) (no : boxed ≡ false → m ≡ 0) where
    pub marker_aligned : ∥ HasValue d index place ∥₁ → m % 8 ≡ 0
    marker_aligned shown = go boxed is yes no
      where
        go : (b : Bool) → (b ≡ true → IsOf Box own) → (b ≡ true → m ≡ place) → (b ≡ false → m ≡ 0) → m % 8 ≡ 0
        go true of at zero = subst (λ k. k % 8 ≡ 0) (sym (at refl)) (blanks.aligned d w index place lt l came same place (viewing.box_marks d w index place lt (of refl)) shown)
        go false of at zero = subst (λ k. k % 8 ≡ 0) (sym (zero refl)) refl

    pub marker_within : 8 ≤ length d.bytes → place + own.size ≤ length d.bytes → m + 8 ≤ length l.came
    marker_within first room = go boxed is yes no
      where
        long : length l.came ≡ length d.bytes
        long = ap length came

        go : (b : Bool) → (b ≡ true → IsOf Box own) → (b ≡ true → m ≡ place) → (b ≡ false → m ≡ 0) → m + 8 ≤ length l.came
        go true of at zero = let wide = viewing.box_size d w index place lt (of refl) in let e = at refl in omega (arith, wide, e, long, room)
        go false of at zero = let e = zero refl in omega (arith, e, long, first)

  -- what is known where it has members, and where it has none
  module _ (boxed struct : Bool) (o : ℕ) (is_box : boxed ≡ true → IsOf Box own) (no_box : boxed ≡ false → IsOf Box own → ⊥) (is_struct : struct ≡ true → IsOf Struct own) (no_struct : struct ≡ false → IsOf Struct own → ⊥) where
    pub found : (i p : ℕ) → (not struct && (not boxed || (o == 0))) ≡ false → (boxed ≡ true → i ≡ own.first) → (boxed ≡ false → i ≡ index) → (boxed ≡ true → p ≡ o) → (boxed ≡ false → p ≡ place)
        → ((v : Value) → 0 < o → Shows d index place v → HaveMembersAt d own.first o v) → InBox i p ⊎ Itself i p
    found i p some i_box i_own p_box p_own there = go boxed struct is_box is_struct some i_box i_own p_box p_own
      where
        never : {A : Type 0} → true ≡ false → A
        never e = absurd (both e)
          where
            both : true ≡ false → ⊥
            both e = cc

        other : IsOf Box own → IsOf Struct own → ⊥
        other b s = differ (sym b ∙ s)
          where
            differ : Some Box ≡ Some Struct → ⊥
            differ e = cc

        go : (b s : Bool) → (b ≡ true → IsOf Box own) → (s ≡ true → IsOf Struct own) → (not s && (not b || (o == 0))) ≡ false
            → (b ≡ true → i ≡ own.first) → (b ≡ false → i ≡ index) → (b ≡ true → p ≡ o) → (b ≡ false → p ≡ place) → InBox i p ⊎ Itself i p
        go true true of_box of_struct enough a b x y = absurd (other (of_box refl) (of_struct refl))
        go true false of_box of_struct enough a b x y =
            let more : 0 < o = let e = eqb-false o 0 enough in omega (arith, e) in
            inl (of_box refl, a refl, λ v s. subst (λ k. HaveMembersAt d own.first k v) (sym (x refl)) (there v more s))
        go false true of_box of_struct enough a b x y = inr (of_struct refl, b refl, y refl)
        go false false of_box of_struct enough a b x y = never enough

    pub lacking : (not struct && (not boxed || (o == 0))) ≡ true → ((v : Value) → boxed ≡ true → o ≡ 0 → Shows d index place v → IsNoStruct v) → (v : Value) → Shows d index place v → IsNoStruct v
    lacking none absent v s = go boxed struct no_box no_struct none (λ e. absent v e)
      where
        never : {A : Type 0} → false ≡ true → A
        never e = absurd (viewing.unknown_none e)

        go : (b t : Bool) → (b ≡ false → IsOf Box own → ⊥) → (t ≡ false → IsOf Struct own → ⊥) → (not t && (not b || (o == 0))) ≡ true → (b ≡ true → o ≡ 0 → Shows d index place v → IsNoStruct v) → IsNoStruct v
        go c true other another lacks gone = never lacks
        go true false other another lacks gone = gone refl (eqb-true o 0 lacks) s
        go false false other another lacks gone = found_none (another refl) (other refl) v s
