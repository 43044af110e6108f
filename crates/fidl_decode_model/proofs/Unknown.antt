-- Worked refusals of numbers that are no value of a strict enum, and of bits that are no member.
use Rattle.std.proofs.Common.{◌≡◌, ℕ, zero, suc, ℤ, pos, List, [], ◌∷◌, ◌<◌, refl, arith, inl, inr}
use Rattle.std.specs.Prelude.{Option, Some, None, codes, Contains, slice_index_or}
use Rattle.fidl_wire.specs.Term.{Term, no_fields, field, uint32}
use Rattle.fidl_wire.specs.Term as ty
use Rattle.fidl_wire.specs.Figure.{no_declarations}
use Rattle.fidl_wire.specs.Encoding.{zeros}
use Rattle.fidl_decode_model.specs.declared.fault.DecodeFault.TheVariants.{UnknownValue, UnknownBits}
use Rattle.fidl_decode_model.specs.State.{Message}
use Rattle.fidl_decode_model.specs.Breaks.{Part, BreaksField, in_field, in_parts, in_next}
use Rattle.fidl_decode_model.specs.Faults.{IsTold, message_of, start_of}
use Rattle.fidl_decode_model.proofs.Inverted.{of_field, of_object, of_parts, of_end}

-- a struct with one member of this type, and its message: four bytes, the first of which is the number
abbrev holder : List ℕ → Term → Term
holder name t = ty.struct (field name t no_fields)

abbrev only : Term → Part
only t = record { offset = 0; term = t }

abbrev with_number : ℕ → Message
with_number n = message_of (n ∷ zeros 7) []

abbrev choice : Option (List ℤ) → Term
choice values = ty.enum uint32 values

abbrev flags : Term
flags = ty.bits uint32 (Some 5)

no_third : Contains (pos 1 ∷ pos 2 ∷ []) (pos 3) → ⊥
no_third y = go y.0 y.1 y.2
  where
    go : (k : ℕ) → k < 2 → slice_index_or (pos 1 ∷ pos 2 ∷ []) k (pos 3) ≡ pos 3 → ⊥
    go zero lt e = cc
    go (suc zero) lt e = cc
    go (suc (suc k)) lt e = absurd (omega (arith, lt))

pub third_value : IsTold no_declarations (holder (codes "e") (choice (Some (pos 1 ∷ pos 2 ∷ [])))) (3 ∷ zeros 7) [] (UnknownValue 0)
third_value = (
  (omega arith, omega arith),
  inr (in_parts (holder (codes "e") (choice (Some (pos 1 ∷ pos 2 ∷ [])))) 0 (start_of 4) (UnknownValue 0) (only (choice (Some (pos 1 ∷ pos 2 ∷ []))) ∷ []) refl
      (in_next 4 0 0 (only (choice (Some (pos 1 ∷ pos 2 ∷ [])))) [] (start_of 4) (UnknownValue 0) tt
      (in_field (choice (Some (pos 1 ∷ pos 2 ∷ []))) 0 (start_of 4) (UnknownValue 0) (refl, no_third)))),
)

-- the refusal is of the member
of_choice : (values : Option (List ℤ)) (n : ℕ) → IsTold no_declarations (holder (codes "e") (choice values)) (n ∷ zeros 7) [] (UnknownValue 0) → BreaksField (with_number n) (choice values) 0 (UnknownValue 0)
of_choice values n h =
    let m = with_number n in
    elim h.1 [
      | inl p ↦ absurd p
      | inr b ↦ elim (of_parts no_declarations m 0 4 0 0 (only (choice values)) [] (start_of 4) (UnknownValue 0) (of_object no_declarations m 0 (holder (codes "e") (choice values)) 0 (start_of 4) (UnknownValue 0) (only (choice values) ∷ []) (λ x. x) (refl, refl) b)) [
        | inl p ↦ absurd p
        | inr c ↦ elim c [
          | inl x ↦ of_field no_declarations m 0 (choice values) 0 (start_of 4) (UnknownValue 0) (refl, refl, tt) x
          | inr l ↦ absurd (of_end no_declarations m 0 4 0 4 l.0 (UnknownValue 0) l.1)
        ]
      ]
    ]

of_flags : (n : ℕ) → IsTold no_declarations (holder (codes "b") flags) (n ∷ zeros 7) [] (UnknownBits 0) → BreaksField (with_number n) flags 0 (UnknownBits 0)
of_flags n h =
    let m = with_number n in
    elim h.1 [
      | inl p ↦ absurd p
      | inr b ↦ elim (of_parts no_declarations m 0 4 0 0 (only flags) [] (start_of 4) (UnknownBits 0) (of_object no_declarations m 0 (holder (codes "b") flags) 0 (start_of 4) (UnknownBits 0) (only flags ∷ []) (λ x. x) (refl, refl) b)) [
        | inl p ↦ absurd p
        | inr c ↦ elim c [
          | inl x ↦ of_field no_declarations m 0 flags 0 (start_of 4) (UnknownBits 0) (refl, refl, tt) x
          | inr l ↦ absurd (of_end no_declarations m 0 4 0 4 l.0 (UnknownBits 0) l.1)
        ]
      ]
    ]

pub second_value : IsTold no_declarations (holder (codes "e") (choice (Some (pos 1 ∷ pos 2 ∷ [])))) (2 ∷ zeros 7) [] (UnknownValue 0) → ⊥
second_value h = (of_choice (Some (pos 1 ∷ pos 2 ∷ [])) 2 h).1 (1, omega arith, refl)

pub any_value : IsTold no_declarations (holder (codes "e") (choice None)) (3 ∷ zeros 7) [] (UnknownValue 0) → ⊥
any_value h = of_choice None 3 h

pub second_bit : IsTold no_declarations (holder (codes "b") flags) (2 ∷ zeros 7) [] (UnknownBits 0)
second_bit = (
  (omega arith, omega arith),
  inr (in_parts (holder (codes "b") flags) 0 (start_of 4) (UnknownBits 0) (only flags ∷ []) refl
      (in_next 4 0 0 (only flags) [] (start_of 4) (UnknownBits 0) tt (in_field flags 0 (start_of 4) (UnknownBits 0) (refl, λ e. omega (arith, e))))),
)

pub members_alone : IsTold no_declarations (holder (codes "b") flags) (5 ∷ zeros 7) [] (UnknownBits 0) → ⊥
members_alone h = (of_flags 5 h).1 refl
