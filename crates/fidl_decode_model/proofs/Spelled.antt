-- Worked refusals of strings.
use Rattle.std.proofs.Common.{ℕ, List, [], ◌∷◌, ◌++◌, refl, arith, inl, inr, true, false}
use Rattle.std.specs.Prelude.{Bool, codes, replicate}
use Rattle.fidl_wire.specs.Term.{Term, no_fields, field}
use Rattle.fidl_wire.specs.Term as ty
use Rattle.fidl_wire.specs.Figure.{no_declarations}
use Rattle.fidl_wire.specs.Encoding.{zeros, present}
use Rattle.fidl_wire.specs.Standing.{Stands}
use Rattle.fidl_decode_model.specs.declared.fault.DecodeFault.{DecodeFault}
use Rattle.fidl_decode_model.specs.declared.fault.DecodeFault.TheVariants.{BadCount, BadMarker, OverBound}
use Rattle.fidl_decode_model.specs.Breaks.{Part, IsPadding, BreaksField, BreaksText, in_field, in_parts, in_next}
use Rattle.fidl_decode_model.specs.Faults.{IsTold, BreaksMessage, message_of, start_of}
use Rattle.fidl_decode_model.proofs.Inverted.{of_field, of_object, of_parts, of_end}

-- a struct with one string
abbrev holder : (optional : Bool) (bound : ℕ) → Term
holder optional bound = ty.struct (field (codes "value") (ty.string optional bound) no_fields)

abbrev only : (optional : Bool) (bound : ℕ) → Part
only optional bound = record { offset = 0; term = ty.string optional bound }

-- "abc" with its count and marker
abbrev three : List ℕ
three = 3 ∷ zeros 7 ++ replicate 8 255 ++ 97 ∷ 98 ∷ 99 ∷ zeros 5

module _ (optional : Bool) (bound : ℕ) (bytes : List ℕ) (fault : DecodeFault) where
  -- the struct breaks a rule where its string does
  broken : BreaksText (message_of bytes []) 0 optional bound 0 16 fault → BreaksMessage no_declarations (holder optional bound) (message_of bytes []) fault
  broken b = inr (in_parts (holder optional bound) 0 (start_of 16) fault (only optional bound ∷ []) refl
      (in_next 16 0 0 (only optional bound) [] (start_of 16) fault tt
      (in_field (ty.string optional bound) 0 (start_of 16) fault b)))

  -- and nowhere else, but for padding
  only_text : (BreaksField (message_of bytes []) (holder optional bound) 0 fault → ⊥) → (IsPadding bytes 16 16 fault → ⊥) →
      (IsPadding bytes 0 0 fault → ⊥) → BreaksMessage no_declarations (holder optional bound) (message_of bytes []) fault → BreaksText
      (message_of bytes []) 0 optional bound 0 16 fault
  only_text none behind before h =
      let m = message_of bytes [] in
      let t = ty.string optional bound in
      elim h [
        | inl p ↦ absurd (behind p)
        | inr b ↦ elim (of_parts no_declarations m 0 16 0 0 (only optional bound) [] (start_of 16) fault (of_object no_declarations m 0 (holder optional bound) 0 (start_of 16) fault (only optional bound ∷ []) none (refl, refl) b)) [
          | inl p ↦ absurd (before p)
          | inr c ↦ elim c [
            | inl x ↦ of_field no_declarations m 0 t 0 (start_of 16) fault (refl, refl, tt) x
            | inr l ↦ absurd (behind (of_end no_declarations m 0 16 0 16 l.0 fault l.1))
          ]
        ]
      ]

marked : Stands three 8 present
marked = (omega arith, refl, (omega arith, refl, (omega arith, refl, (omega arith, refl, (omega arith, refl, (omega arith, refl, (omega arith, refl, (omega arith, refl, tt))))))))

pub over_two : IsTold no_declarations (holder false 2) three [] (OverBound 0)
over_two = ((omega arith, omega arith), broken false 2 three (OverBound 0) (refl, marked, omega arith))

pub within_three : IsTold no_declarations (holder false 3) three [] (OverBound 0) → ⊥
within_three h = let b = only_text false 3 three (OverBound 0) (λ x. x) (λ x. x) (λ x. x) h.1 in omega (arith, b.2)

unmarked : Stands (1 ∷ zeros 15) 8 (zeros 8)
unmarked = (omega arith, refl, (omega arith, refl, (omega arith, refl, (omega arith, refl, (omega arith, refl, (omega arith, refl, (omega arith, refl, (omega arith, refl, tt))))))))

pub absent_counted : IsTold no_declarations (holder true 9) (1 ∷ zeros 15) [] (BadCount 0)
absent_counted = ((omega arith, omega arith), broken true 9 (1 ∷ zeros 15) (BadCount 0) (refl, inl (unmarked, λ e. omega (arith, e))))

pub marked_one : IsTold no_declarations (holder true 9) (zeros 8 ++ 1 ∷ zeros 7) [] (BadMarker 8)
marked_one = ((omega arith, omega arith), broken true 9 (zeros 8 ++ 1 ∷ zeros 7) (BadMarker 8) (refl, (λ z. let e = z.1 in omega (arith, e)), (λ z. let e = z.1 in omega (arith, e))))
