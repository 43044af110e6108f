-- Strings: which values of a string type stand at a place.
use Rattle.std.proofs.Common.{◌≡◌, ℕ, suc, ◌+◌, ◌-◌, ◌<◌, ◌≤◌, ◌^◌, List, [], ◌∷◌, length, get_or, refl, sym, ap, subst, ◌∙◌, arith, inl, inr, true, false}
use Rattle.std.specs.Prelude.{Bool, ◌⊎◌, IsTrue, IsUtf8, slice_range}
use Rattle.std.specs.Int.{next_multiple_of, w64, to_le_bytes}
use Rattle.fidl_limits.specs.declared.limits.TheConstants.{MAX_DEPTH}
use Rattle.fidl_wire.specs.Value.{Value, absent, text}
use Rattle.fidl_wire.specs.Term.{uint64}
use Rattle.fidl_wire.specs.Term as ty
use Rattle.fidl_wire.specs.Figure.{Declarations}
use Rattle.fidl_wire.specs.Typed.{IsTyped}
use Rattle.fidl_wire.specs.Encoding.{zeros, present, pad8, encoding_of}
use Rattle.fidl_wire.specs.Depth.{depth_of}
use Rattle.fidl_wire.specs.Standing.{Stands}
use Rattle.fidl_wire.proofs.Sizes.{le-next_multiple_of}
use Rattle.fidl_wire.proofs.Stand.{stands_front, stands_back, stands_both, copies_are}
use Rattle.fidl_decode_model.specs.declared.fault.DecodeFault.{DecodeFault}
use Rattle.fidl_decode_model.specs.declared.fault.DecodeFault.TheVariants.{Padding, BadMarker, AbsentRequired, BadCount, OverBound, NotUtf8, TooDeep, Truncated}
use Rattle.fidl_decode_model.specs.Work.{Work}
use Rattle.fidl_decode_model.specs.State.{Message, Position, linked, after, StandsAt, ValueAt}
use Rattle.fidl_decode_model.specs.Breaks.{IsPadding, count_at, BreaksCounted, BreaksText}
use Rattle.fidl_decode_model.specs.Machine.{Leads}
use Rattle.fidl_decode_model.proofs.After.{length-pad8}
use Rattle.fidl_decode_model.proofs.Numbers.{number_64, slice_is}
use Rattle.fidl_decode_model.proofs.Scalars.{bytes_at, bytes_stand, length-bytes_at, standing}

pub padding_excluded : (m : List ℕ) (from to n : ℕ) (fault : DecodeFault) → to ≤ from + n → Stands m from (zeros n) → IsPadding m from to fault → ⊥
padding_excluded m from to n (Padding at) le z p = p.3 (copies_are m 0 n from z at p.0 (omega (arith, p.1)))
padding_excluded m from to n fault le z p = absurd p

-- what stands in a message ends within it, where anything stands
within : (m : List ℕ) (p : ℕ) (a : List ℕ) → Stands m p a → p + length a ≤ length m ⊎ (length a ≡ 0)
within m p [] h = inr refl
within m p (x ∷ []) h = inl (let lt = h.0 in omega (arith, lt))
within m p (x ∷ y ∷ a) h = elim (within m (p + 1) (y ∷ a) h.2) [ inl le ↦ inl (omega (arith, le)) | inr e ↦ absurd (omega (arith, e)) ]

no_both : (m : List ℕ) (p : ℕ) → Stands m p (zeros 8) → Stands m p present → ⊥
no_both m p h k = let a = h.1 in let b = k.1 in omega (arith, a, b)

clash : true ≡ false → ⊥
clash e = cc

-- this text is the next object of a string at a place
pub record TextAt (m : Message) (held bound place : ℕ) (from to : Position) (bytes : List ℕ) : Type 0 where
  pub utf8 : IsUtf8 bytes
  pub short : length bytes ≤ bound
  pub shallow : suc held ≤ MAX_DEPTH
  pub count : Stands m.bytes place (to_le_bytes w64 (length bytes))
  pub marker : Stands m.bytes (place + 8) present
  pub stands : Stands m.bytes from.next (pad8 bytes)
  pub end : linked (place + 8) (length bytes) from ≡ to

module _ (ds : Declarations) (m : Message) (fits : length m.bytes < 2 ^ 32) (held : ℕ) (optional : Bool) (bound place : ℕ) (from : Position) where
  text_worth : (to : Position) (x : ValueAt ds m held (ty.string optional bound) place from to) → (Stands m.bytes place (zeros 16) × IsTrue optional × (from ≡ to) × (Work x.value ≡ 1)) ⊎ ((bytes : List ℕ) × TextAt m held bound place from to bytes × (Work x.value ≡ suc (length bytes)))
  text_worth to x = only x.value x.typed x.shallow x.stands x.end
    where
      only : (v : Value) → IsTyped ds (ty.string optional bound) v → depth_of ds (ty.string optional bound) v + held ≤ MAX_DEPTH → StandsAt m (encoding_of ds (ty.string optional bound) v) place from → to ≡ after ds (ty.string optional bound) v place from
          → (Stands m.bytes place (zeros 16) × IsTrue optional × (from ≡ to) × (Work v ≡ 1)) ⊎ ((bytes : List ℕ) × TextAt m held bound place from to bytes × (Work v ≡ suc (length bytes)))
      only absent h d s e = inl (s.inline, h, sym e, refl)
      only (text bytes) h d s e = inr (
        bytes,
        record {
          utf8 = h.0;
          short = h.1;
          shallow = omega (arith, d);
          count = stands_front m.bytes place (to_le_bytes w64 (length bytes)) present s.inline;
          marker = stands_back m.bytes place (to_le_bytes w64 (length bytes)) present s.inline;
          stands = stands_front m.bytes from.next (pad8 bytes) [] s.out;
          end = sym e;
        },
        refl,
      )
      only _ h d s e = absurd h

  pub text_item : (to : Position) → ValueAt ds m held (ty.string optional bound) place from to → (Stands m.bytes place (zeros 16) × IsTrue optional × (from ≡ to)) ⊎ ((bytes : List ℕ) × TextAt m held bound place from to bytes)
  text_item to x = elim (text_worth to x) [ inl y ↦ inl (y.0, y.1, y.2) | inr y ↦ inr (y.0, y.1) ]

  absent_front : Stands m.bytes place (zeros 16) → Stands m.bytes place (zeros 8)
  absent_front z = stands_front m.bytes place (zeros 8) (zeros 8) z

  absent_back : Stands m.bytes place (zeros 16) → Stands m.bytes (place + 8) (zeros 8)
  absent_back z = stands_back m.bytes place (zeros 8) (zeros 8) z

  no_count : Stands m.bytes place (zeros 8) → count_at m.bytes place ≡ 0
  no_count z = number_64 m.bytes place 0 (omega arith) z

  module _ (to : Position) (bytes : List ℕ) (t : TextAt m held bound place from to bytes) where
    fitting : next_multiple_of (length bytes) 8 ≤ length m.bytes - from.next
    fitting = elim (within m.bytes from.next (pad8 bytes) t.stands) [
      | inl le ↦ omega (arith, le, length-pad8 bytes)
      | inr e ↦ omega (arith, e, length-pad8 bytes)
    ]

    few : length bytes < 2 ^ 64
    few = omega (arith, fitting, le-next_multiple_of (length bytes) 8, fits)

    count_is : count_at m.bytes place ≡ length bytes
    count_is = number_64 m.bytes place (length bytes) few t.count

    text_stands : Stands m.bytes from.next bytes
    text_stands = stands_front m.bytes from.next bytes (zeros (next_multiple_of (length bytes) 8 - length bytes)) t.stands

    text_is : slice_range m.bytes from.next (from.next + count_at m.bytes place) ≡ bytes
    text_is = slice_is m.bytes from.next (count_at m.bytes place) bytes (sym count_is) text_stands

    zeros_behind : Stands m.bytes (from.next + length bytes) (zeros (next_multiple_of (length bytes) 8 - length bytes))
    zeros_behind = stands_back m.bytes from.next bytes (zeros (next_multiple_of (length bytes) 8 - length bytes)) t.stands

    end_is : linked (place + 8) (count_at m.bytes place) from ≡ to
    end_is = ap (λ n. linked (place + 8) n from) count_is ∙ t.end

  -- a text is worth its bytes and one more
  pub text_work : (to : Position) (x : ValueAt ds m held (ty.string optional bound) place from to) → Work x.value ≤ suc (count_at m.bytes place)
  text_work to x = elim (text_worth to x) [ inl y ↦ omega (arith, y.3) | inr y ↦ omega (arith, y.2, count_is to y.0 y.1) ]

  module _ (deep : held ≤ MAX_DEPTH) where
    pub absent_leads : IsTrue optional → Stands m.bytes (place + 8) (zeros 8) → place + 8 ≤ length m.bytes → ((i : ℕ) → get_or m.bytes i 0 < 256) → count_at m.bytes place ≡ 0 → Leads ds m held (ty.string optional bound) place from from
    absent_leads may z room small none to = (
      (λ x. elim (text_item to x) [ inl y ↦ y.2 | inr y ↦ absurd (no_both m.bytes (place + 8) z y.1.marker) ]),
      (λ same. subst (λ (s : Position). ValueAt ds m held (ty.string optional bound) place from s) same (record {
        value = absent;
        typed = may;
        shallow = omega arith;
        stands = record { inline = stands_both m.bytes place (zeros 8) (zeros 8) (subst (λ n. Stands m.bytes place (to_le_bytes w64 n)) none (standing uint64 m.bytes place room small).1) z; out = tt; carried = tt };
        end = refl;
      })),
    )

  item_text : (bytes : List ℕ) → TextAt m held bound place from (linked (place + 8) (length bytes) from) bytes → ValueAt ds m held (ty.string optional bound) place from (linked (place + 8) (length bytes) from)
  item_text bytes t = record {
    value = text bytes;
    typed = (t.utf8, t.short);
    shallow = (let d = t.shallow in omega (arith, d));
    stands = record {
      inline = stands_both m.bytes place (to_le_bytes w64 (length bytes)) present t.count t.marker;
      out = stands_both m.bytes from.next (pad8 bytes) [] t.stands tt;
      carried = tt;
    };
    end = refl;
  }

  pub text_leads : suc held ≤ MAX_DEPTH → Stands m.bytes (place + 8) present → place + 8 ≤ length m.bytes → ((i : ℕ) → get_or m.bytes i 0 < 256) → (n : ℕ) → count_at m.bytes place ≡ n → n ≤ bound → from.next + next_multiple_of n 8 ≤ length m.bytes → n ≤ next_multiple_of n 8
      → IsUtf8 (slice_range m.bytes from.next (from.next + n)) → Stands m.bytes (from.next + n) (zeros (next_multiple_of n 8 - n)) → Leads ds m held (ty.string optional bound) place from (linked (place + 8) n from)
  text_leads shallow ones room small n is le whole more utf8 z to = (
    (λ x. elim (text_item to x) [
      | inl y ↦ absurd (no_both m.bytes (place + 8) (absent_back y.0) ones)
      | inr y ↦ ap (λ k. linked (place + 8) k from) (sym is) ∙ end_is to y.0 y.1
    ]),
    (λ same. subst (λ (s : Position). ValueAt ds m held (ty.string optional bound) place from s) (ap (λ k. linked (place + 8) k from) long ∙ same) (item_text bytes there)),
  )
    where
      bytes : List ℕ
      bytes = slice_range m.bytes from.next (from.next + n)

      own : Stands m.bytes from.next (bytes_at m.bytes from.next n)
      own = bytes_stand m.bytes from.next n (omega (arith, whole, more))

      sliced : bytes ≡ bytes_at m.bytes from.next n
      sliced = slice_is m.bytes from.next n (bytes_at m.bytes from.next n) (length-bytes_at m.bytes from.next n) own

      long : length bytes ≡ n
      long = ap length sliced ∙ length-bytes_at m.bytes from.next n

      there : TextAt m held bound place from (linked (place + 8) (length bytes) from) bytes
      there = record {
        utf8 = utf8;
        short = omega (arith, long, le);
        shallow = shallow;
        count = subst (λ k. Stands m.bytes place (to_le_bytes w64 k)) (is ∙ sym long) (standing uint64 m.bytes place room small).1;
        marker = ones;
        stands = stands_both m.bytes from.next bytes (zeros (next_multiple_of (length bytes) 8 - length bytes)) (subst (λ (l : List ℕ). Stands m.bytes from.next l) (sym sliced) own)
            (subst (λ k. Stands m.bytes (from.next + k) (zeros (next_multiple_of k 8 - k))) (sym long) z);
        end = refl;
      }

  -- ---- refusals

  module _ (to : Position) (x : ValueAt ds m held (ty.string optional bound) place from to) where
    -- what is present is a text
    present_text : Stands m.bytes (place + 8) present → (bytes : List ℕ) × TextAt m held bound place from to bytes
    present_text ones = elim (text_item to x) [ inl y ↦ absurd (no_both m.bytes (place + 8) (absent_back y.0) ones) | inr y ↦ y ]

    counted_excluded : (fault : DecodeFault) → BreaksCounted m held optional bound (count_at m.bytes place) place from.next fault → ⊥
    counted_excluded (BadMarker at) b = elim (text_item to x) [ inl y ↦ b.1 (absent_back y.0) | inr y ↦ b.2 y.1.marker ]
    counted_excluded (AbsentRequired at) b = elim (text_item to x) [ inl y ↦ clash (sym y.1 ∙ b.1) | inr y ↦ no_both m.bytes (place + 8) b.2 y.1.marker ]
    counted_excluded (BadCount at) b = elim b.1 [
      | inl z ↦ elim (text_item to x) [ inl y ↦ z.1 (no_count (absent_front y.0)) | inr y ↦ no_both m.bytes (place + 8) z.0 y.1.marker ]
      | inr p ↦ let t = present_text p.0 in omega (arith, p.1, count_is to t.0 t.1, fitting to t.0 t.1, le-next_multiple_of (length t.0) 8)
    ]
    counted_excluded (OverBound at) b = let t = present_text b.1 in let le = t.1.short in omega (arith, b.2, le, count_is to t.0 t.1)
    counted_excluded (TooDeep at) b = let t = present_text b.1 in let le = t.1.shallow in omega (arith, le, b.2)
    counted_excluded (Truncated at) b =
        let t = present_text b.1 in
        let same = ap (λ n. next_multiple_of n 8) (count_is to t.0 t.1) in
        omega (arith, b.2, same, fitting to t.0 t.1)
    counted_excluded fault b = absurd b

    excluded : (fault : DecodeFault) → BreaksText m held optional bound place from.next fault → ⊥
    excluded (NotUtf8 at) b = let t = present_text b.1 in b.2 (subst (λ (l : List ℕ). IsUtf8 l) (sym (text_is to t.0 t.1)) t.1.utf8)
    excluded (Padding at) b =
        let t = present_text b.0 in
        let n = count_at m.bytes place in
        let z = subst (λ k. Stands m.bytes (from.next + k) (zeros (next_multiple_of k 8 - k))) (sym (count_is to t.0 t.1)) (zeros_behind to t.0 t.1) in
        padding_excluded m.bytes (from.next + n) (from.next + next_multiple_of n 8) (next_multiple_of n 8 - n) (Padding at) (omega arith) z b.1
    excluded fault b = counted_excluded fault b

  pub text_excluded : (to : Position) (fault : DecodeFault) → BreaksText m held optional bound place from.next fault → ValueAt ds m held (ty.string optional bound) place from to → ⊥
  text_excluded to fault b x = excluded to x fault b
