-- Members that the layout does not know, as they came: their numbers, their bytes and their handles.
use Rattle.std.proofs.Common.{◌≡◌, ℕ, suc, ◌+◌, ◌-◌, ◌/◌, ◌%◌, replicate, slice_index, ◌<◌, ◌≤◌, Bool, true, false, List, [], ◌∷◌, length, get_or, refl, sym, ap, subst, ◌∙◌, arith, take, drop, add-one, drop-cons}
use Rattle.std.specs.Prelude.{Option, Some, None, ◌==◌, if◌then◌else◌, slice_range}
use Rattle.std.specs.Int.{w16, w32, to_le_bytes}
use Rattle.std.proofs.lemmas.Option.{slice_get_within, slice_get-get_or}
use Rattle.fidl_limits.specs.declared.limits.TheConstants.{MAX_MESSAGE_BYTES, MAX_MESSAGE_HANDLES}
use Rattle.fidl_wire.specs.declared.handle.HandleInfo.{HandleInfo}
use Rattle.fidl_wire.specs.Value.{Member, known, unknown}
use Rattle.fidl_wire.specs.Term.{Term}
use Rattle.fidl_wire.specs.Typed.{IsTypedMember}
use Rattle.fidl_wire.specs.Encoding.{envelope_end, enveloped}
use Rattle.fidl_wire.specs.Standing.{Stands, Carries}
use Rattle.fidl_wire.proofs.Stand.{stands_to, stands_front, stands_back, copies_are}
use Rattle.fidl_wire.specs.Field.{number_at}
use Rattle.fidl_table_format.specs.Terms.{declarations_of}
use Rattle.fidl_decode_model.specs.Model.{Shown}
use Rattle.fidl_decode_model.specs.Faults.{message_of}
use Rattle.fidl_decode_model.specs.Placed.{IsMemberPlaced, object_at, enclosed_at, first_record_at}
use Rattle.fidl_decode_model.specs.Readable.{AreUnlinked, IsMemberReadable}
use Rattle.fidl_decode_model.proofs.Numbers.{number_16, number_32, slice_is}
use Rattle.fidl_view.specs.Parts.{known_of, unknown_in}
use Rattle.fidl_view.specs.Members.{ShowMember, term_at}
use Rattle.fidl_view.proofs.Content.{stands_short, nonzero}

-- so many handles stand in a list from a place on
pub carries_room : (hs : List HandleInfo) (p : ℕ) (a : List HandleInfo) → Carries hs p a → length a ≤ length hs - p
carries_room hs p [] h = omega arith
carries_room hs p (x ∷ a) h = let lt = slice_get_within hs p x h.0 in let more = carries_room hs (p + 1) a h.1 in omega (arith, lt, more)

-- the bytes and the handles of an unknown member
abbrev pub raw_bytes_of : Member → List ℕ
raw_bytes_of (unknown inline bytes handles) = bytes
raw_bytes_of _ = []

abbrev pub raw_handles_of : Member → List HandleInfo
raw_handles_of (unknown inline bytes handles) = handles
raw_handles_of _ = []

some_handle : (a b : HandleInfo) → Some a ≡ Some b → a ≡ b
some_handle a b e = cc

-- handles that stand in a list are a slice of it
handles_slice : (hs : List HandleInfo) (p : ℕ) (a : List HandleInfo) → Carries hs p a → slice_range hs p (p + length a) ≡ a
handles_slice hs p a h = let len : p + length a - p ≡ length a = omega arith in ap (λ k. take k (drop p hs)) len ∙ front hs p a h
  where
    front : (hs : List HandleInfo) (p : ℕ) (a : List HandleInfo) → Carries hs p a → take (length a) (drop p hs) ≡ a
    front hs p [] h = refl
    front hs p (x ∷ a) h =
        let lt = slice_get_within hs p x h.0 in
        let is : get_or hs p x ≡ x = some_handle _ _ (sym (slice_get-get_or hs p x lt) ∙ h.0) in
        ap (λ (l : List HandleInfo). take (suc (length a)) l) (drop-cons hs p x lt)
        ∙ ap (λ y. y ∷ take (length a) (drop (suc p) hs)) is
        ∙ ap (λ n. x ∷ take (length a) (drop n hs)) (sym (add-one p))
        ∙ ap (λ l. x ∷ l) (front hs (p + 1) a h.1)

-- an envelope whose flags are no ones is neither a marker, nor is its second half that of a handle
pub no_ones : (m : List ℕ) (p from n : ℕ) → from ≤ p + 6 → p + 6 < from + n → get_or m (p + 6) 0 ≤ 1 → Stands m from (replicate n 255) → ⊥
no_ones m p from n a b few h = let ones = copies_are m 255 n from h (p + 6) a b in omega (arith, ones, few)

module _ (d : Shown) (index ordinal place : ℕ) where
  -- an unknown member has no value
  pub unknown_no_value : term_at d index ordinal ≡ None → (x : Member) → ShowMember d index ordinal place x → known_of x ≡ None
  unknown_no_value is x s = go x (subst (λ (t : Option Term). IsTypedMember (declarations_of d.table) false t x) is s.typed)
    where
      go : (x : Member) → IsTypedMember (declarations_of d.table) false None x → known_of x ≡ None
      go (unknown inline bytes handles) h = refl
      go _ h = absurd h

  -- a member of the layout is no unknown one
  pub known_no_unknown : (u : Term) → term_at d index ordinal ≡ Some u → (x : Member) → ShowMember d index ordinal place x → unknown_in (Some x) ≡ None
  known_no_unknown u is x s = go x (subst (λ (t : Option Term). IsTypedMember (declarations_of d.table) false t x) is s.typed)
    where
      go : (x : Member) → IsTypedMember (declarations_of d.table) false (Some u) x → unknown_in (Some x) ≡ None
      go (known v) h = refl
      go (unknown inline bytes handles) h = absurd h

  -- its numbers, its bytes and its handles, its links, and that no link stands over its bytes
  pub record Raw (x : Member) : Type 0 where
    pub inline : Bool
    pub bytes : List ℕ
    pub handles : List HandleInfo
    pub is : x ≡ unknown inline bytes handles
    pub flags : number_at w16 d.bytes (place + 6) ≡ (if inline then 1 else 0)
    pub handles_counted : number_at w16 d.bytes (place + 4) ≡ length handles
    pub four : inline ≡ true → length bytes ≡ 4
    pub counted : inline ≡ false → (number_at w32 d.bytes place ≡ length bytes) × (0 < length bytes)
    pub flag_byte : get_or d.bytes (place + 6) 0 ≤ 1
    pub aligned : place % 8 ≡ 0
    pub recorded : 0 < slice_index d.links.records ((place + 4) / 4)
    pub linked : inline ≡ false → 0 < object_at d.links place
    pub free : AreUnlinked d.links (enclosed_at d.links inline place) (enclosed_at d.links inline place + length bytes)
    pub stand : Stands d.bytes (enclosed_at d.links inline place) bytes
    pub carried : Carries d.handles (first_record_at d.links place) handles

  end_numbers : (flags : ℕ) (handles : List HandleInfo) → flags < 65536 → length handles < 65536 → Stands d.bytes (place + 4) (envelope_end flags handles)
      → (number_at w16 d.bytes (place + 6) ≡ flags) × (number_at w16 d.bytes (place + 4) ≡ length handles) × (get_or d.bytes (place + 6) 0 ≡ flags % 256)
  end_numbers flags handles few fewer end =
      let last = stands_to d.bytes (place + 4 + 2) (place + 6) (to_le_bytes w16 flags) (omega arith) (stands_back d.bytes (place + 4) (to_le_bytes w16 (length handles)) (to_le_bytes w16 flags) end) in
      (number_16 d.bytes (place + 6) flags few last, number_16 d.bytes (place + 4) (length handles) fewer (stands_front d.bytes (place + 4) (to_le_bytes w16 (length handles)) (to_le_bytes w16 flags) end), last.1)

  not_false : true ≡ false → ⊥
  not_false e = cc

  not_true : false ≡ true → ⊥
  not_true e = cc

  pub raw_there : length d.bytes ≤ MAX_MESSAGE_BYTES → length d.handles ≤ MAX_MESSAGE_HANDLES → term_at d index ordinal ≡ None → (x : Member) → ShowMember d index ordinal place x → Raw x
  raw_there short few is x s =
      go x (subst (λ (t : Option Term). IsTypedMember (declarations_of d.table) false t x) is s.typed) (subst (λ (t : Option Term). Stands d.bytes place (enveloped (declarations_of d.table) t x).inline) is s.stands)
      (subst (λ (t : Option Term). IsMemberPlaced (declarations_of d.table) (message_of d.bytes d.handles) d.links t place x) is s.placed)
      (subst (λ (t : Option Term). IsMemberReadable (declarations_of d.table) d.links t place x) is s.readable)
    where
      go : (x : Member) → IsTypedMember (declarations_of d.table) false None x → Stands d.bytes place (enveloped (declarations_of d.table) None x).inline → IsMemberPlaced (declarations_of d.table) (message_of d.bytes d.handles) d.links None place x
          → IsMemberReadable (declarations_of d.table) d.links None place x → Raw x
      go (unknown true bytes handles) h st p reads =
          let room = carries_room d.handles (first_record_at d.links place) handles p.1 in
          let four = h.2 in
          let end = stands_to d.bytes (place + length bytes) (place + 4) (envelope_end 1 handles) (omega (arith, four)) (stands_back d.bytes place bytes (envelope_end 1 handles) st) in
          let both = end_numbers 1 handles (omega arith) (omega (arith, room, few)) end in
          let flag = both.2 in
          record {
            inline = true;
            bytes = bytes;
            handles = handles;
            is = refl;
            flags = both.0;
            handles_counted = both.1;
            four = λ e. four;
            counted = λ e. absurd (not_false e);
            flag_byte = omega (arith, flag);
            aligned = reads.0.0;
            recorded = reads.0.1.1;
            linked = λ e. absurd (not_false e);
            free = reads.1;
            stand = p.0;
            carried = p.1;
          }
      go (unknown false bytes handles) h st p reads =
          let room = carries_room d.handles (first_record_at d.links place) handles p.1 in
          let fits = stands_short d.bytes (object_at d.links place) bytes p.0 in
          let end = stands_back d.bytes place (to_le_bytes w32 (length bytes)) (envelope_end 0 handles) st in
          let both = end_numbers 0 handles (omega arith) (omega (arith, room, few)) end in
          let count = number_32 d.bytes place (length bytes) (omega (arith, fits, short)) (stands_front d.bytes place (to_le_bytes w32 (length bytes)) (envelope_end 0 handles) st) in
          let flag = both.2 in
          record {
            inline = false;
            bytes = bytes;
            handles = handles;
            is = refl;
            flags = both.0;
            handles_counted = both.1;
            four = λ e. absurd (not_true e);
            counted = λ e. (count, let l = h.2 in l.0);
            flag_byte = omega (arith, flag);
            aligned = reads.0.1.0;
            recorded = reads.0.0.1;
            linked = λ e. reads.0.1.1;
            free = reads.1;
            stand = p.0;
            carried = p.1;
          }
      go _ h st p reads = absurd h

  -- no link stands over its bytes: four in the envelope, or those of its object, which is linked
  pub raw_inline_free : (x : Member) → Raw x → number_at w16 d.bytes (place + 6) ≡ 1 → AreUnlinked d.links place (place + 4)
  raw_inline_free x r one = go r.inline r.flags r.four r.free
    where
      go : (inline : Bool) → number_at w16 d.bytes (place + 6) ≡ (if inline then 1 else 0) → (inline ≡ true → length r.bytes ≡ 4)
          → AreUnlinked d.links (enclosed_at d.links inline place) (enclosed_at d.links inline place + length r.bytes) → AreUnlinked d.links place (place + 4)
      go true flags four free = subst (λ n. AreUnlinked d.links place (place + n)) (four refl) free
      go false flags four free = absurd (omega (arith, flags, one))

  pub raw_out_free : (x : Member) → Raw x → (number_at w16 d.bytes (place + 6) ≡ 1 → ⊥)
      → (0 < object_at d.links place) × AreUnlinked d.links (object_at d.links place) (object_at d.links place + number_at w32 d.bytes place)
  raw_out_free x r other = go r.inline r.flags r.counted r.linked r.free
    where
      go : (inline : Bool) → number_at w16 d.bytes (place + 6) ≡ (if inline then 1 else 0) → (inline ≡ false → (number_at w32 d.bytes place ≡ length r.bytes) × (0 < length r.bytes))
          → (inline ≡ false → 0 < object_at d.links place) → AreUnlinked d.links (enclosed_at d.links inline place) (enclosed_at d.links inline place + length r.bytes)
          → (0 < object_at d.links place) × AreUnlinked d.links (object_at d.links place) (object_at d.links place + number_at w32 d.bytes place)
      go true flags counted linked free = absurd (other flags)
      go false flags counted linked free = (linked refl, subst (λ n. AreUnlinked d.links (object_at d.links place) (object_at d.links place + n)) (sym (counted refl).0) free)

  -- its bytes and its handles lie within the message
  pub raw_inline : (x : Member) → Raw x → number_at w16 d.bytes (place + 6) ≡ 1 → slice_range d.bytes place (place + 4) ≡ raw_bytes_of x
  raw_inline x r one = go r.inline r.bytes r.is r.flags r.four r.stand
    where
      go : (inline : Bool) (bytes : List ℕ) → x ≡ unknown inline bytes r.handles → number_at w16 d.bytes (place + 6) ≡ (if inline then 1 else 0) → (inline ≡ true → length bytes ≡ 4) → Stands d.bytes (enclosed_at d.links inline place) bytes
          → slice_range d.bytes place (place + 4) ≡ raw_bytes_of x
      go true bytes is flags four st = slice_is d.bytes place 4 bytes (four refl) st ∙ ap (λ (y : Member). raw_bytes_of y) (sym is)
      go false bytes is flags four st = absurd (omega (arith, flags, one))

  pub raw_out : (x : Member) → Raw x → (number_at w16 d.bytes (place + 6) ≡ 1 → ⊥)
      → (object_at d.links place + number_at w32 d.bytes place ≤ length d.bytes)
      × (slice_range d.bytes (object_at d.links place) (object_at d.links place + number_at w32 d.bytes place) ≡ raw_bytes_of x)
  raw_out x r other = go r.inline r.bytes r.is r.flags r.counted r.stand
    where
      go : (inline : Bool) (bytes : List ℕ) → x ≡ unknown inline bytes r.handles → number_at w16 d.bytes (place + 6) ≡ (if inline then 1 else 0)
          → (inline ≡ false → (number_at w32 d.bytes place ≡ length bytes) × (0 < length bytes)) → Stands d.bytes (enclosed_at d.links inline place) bytes
          → (object_at d.links place + number_at w32 d.bytes place ≤ length d.bytes)
          × (slice_range d.bytes (object_at d.links place) (object_at d.links place + number_at w32 d.bytes place) ≡ raw_bytes_of x)
      go true bytes is flags counted st = absurd (other flags)
      go false bytes is flags counted st =
          let n = counted refl in
          let count = n.0 in
          let some = n.1 in
          let short = stands_short d.bytes (object_at d.links place) bytes st in (
            omega (arith, count, some, short),
            ap (λ k. slice_range d.bytes (object_at d.links place) (object_at d.links place + k)) count ∙ slice_is d.bytes (object_at d.links place) (length bytes) bytes refl st ∙ ap (λ (y : Member). raw_bytes_of y) (sym is),
          )

  pub raw_none : (x : Member) → Raw x → number_at w16 d.bytes (place + 4) ≡ 0 → [] ≡ raw_handles_of x
  raw_none x r none = go r.handles r.is r.handles_counted
    where
      go : (handles : List HandleInfo) → x ≡ unknown r.inline r.bytes handles → number_at w16 d.bytes (place + 4) ≡ length handles → [] ≡ raw_handles_of x
      go [] is e = ap (λ (y : Member). raw_handles_of y) (sym is)
      go (h ∷ handles) is e = absurd (omega (arith, e, none))

  pub raw_some : (x : Member) → Raw x → (number_at w16 d.bytes (place + 4) ≡ 0 → ⊥)
      → (first_record_at d.links place + number_at w16 d.bytes (place + 4) ≤ length d.handles)
      × (slice_range d.handles (first_record_at d.links place) (first_record_at d.links place + number_at w16 d.bytes (place + 4)) ≡ raw_handles_of x)
  raw_some x r some =
      let from = first_record_at d.links place in
      let room = carries_room d.handles from r.handles r.carried in
      let count = r.handles_counted in
      let more = nonzero (number_at w16 d.bytes (place + 4)) some in (
        omega (arith, room, count, more),
        ap (λ k. slice_range d.handles from (from + k)) count ∙ handles_slice d.handles from r.handles r.carried ∙ ap (λ (y : Member). raw_handles_of y) (sym r.is),
      )

  pub raw_flag : (x : Member) → Raw x → (bytes : List ℕ) (handles : List HandleInfo) → bytes ≡ raw_bytes_of x → handles ≡ raw_handles_of x → x ≡ unknown (number_at w16 d.bytes (place + 6) == 1) bytes handles
  raw_flag x r bytes handles a b =
      r.is ∙ (λ i. unknown (flag r.inline r.flags i) (sym (a ∙ ap (λ (y : Member). raw_bytes_of y) r.is) i) (sym (b ∙ ap (λ (y : Member). raw_handles_of y) r.is) i))
    where
      flag : (inline : Bool) → number_at w16 d.bytes (place + 6) ≡ (if inline then 1 else 0) → inline ≡ (number_at w16 d.bytes (place + 6) == 1)
      flag true e = sym (ap (λ n. n == 1) e)
      flag false e = sym (ap (λ n. n == 1) e)
