-- Worked refusals of handles.
use Rattle.std.proofs.Common.{◌≡◌, ℕ, List, [], ◌∷◌, ◌++◌, replicate, refl, subst, arith, inl, inr, true, false}
use Rattle.std.specs.Prelude.{Bool, Some, codes}
use Rattle.fidl_wire.specs.declared.handle.HandleInfo.{HandleInfo}
use Rattle.fidl_wire.specs.Term.{Term, no_fields, field}
use Rattle.fidl_wire.specs.Term as ty
use Rattle.fidl_wire.specs.Figure.{no_declarations}
use Rattle.fidl_wire.specs.Encoding.{zeros}
use Rattle.fidl_wire.specs.Standing.{Stands}
use Rattle.fidl_wire.specs.Typed.{IsAllowed}
use Rattle.fidl_decode_model.specs.declared.fault.DecodeFault.{DecodeFault}
use Rattle.fidl_decode_model.specs.declared.fault.DecodeFault.TheVariants.{BadMarker, AbsentRequired, HandleMissing, WrongHandle}
use Rattle.fidl_decode_model.specs.Breaks.{Part, IsPadding, BreaksField, BreaksHandle, in_field, in_parts, in_next}
use Rattle.fidl_decode_model.specs.Faults.{IsTold, BreaksMessage, message_of, start_of}
use Rattle.fidl_decode_model.proofs.Inverted.{of_field, of_object, of_parts, of_end}

-- a struct with one handle
abbrev holder : (optional : Bool) (subtype rights : ℕ) → Term
holder optional subtype rights = ty.struct (field (codes "h") (ty.handle optional subtype rights) no_fields)

abbrev only : (optional : Bool) (subtype rights : ℕ) → Part
only optional subtype rights = record { offset = 0; term = ty.handle optional subtype rights }

abbrev marked : List ℕ
marked = replicate 4 255 ++ zeros 4

abbrev record_of : (object_type rights : ℕ) → HandleInfo
record_of object_type rights = record { id = 1; object_type = object_type; rights = rights }

ones : Stands marked 0 (replicate 4 255)
ones = (omega arith, refl, (omega arith, refl, (omega arith, refl, (omega arith, refl, tt))))

module _ (optional : Bool) (subtype rights : ℕ) (bytes : List ℕ) (handles : List HandleInfo) (fault : DecodeFault) where
  -- the struct breaks a rule where its handle does
  broken : BreaksHandle (message_of bytes handles) optional subtype rights 0 0 fault → BreaksMessage no_declarations (holder optional subtype rights) (message_of bytes handles) fault
  broken b = inr (in_parts (holder optional subtype rights) 0 (start_of 4) fault (only optional subtype rights ∷ []) refl
      (in_next 4 0 0 (only optional subtype rights) [] (start_of 4) fault tt
      (in_field (ty.handle optional subtype rights) 0 (start_of 4) fault b)))

  -- and nowhere else, but for padding
  only_handle : (BreaksField (message_of bytes handles) (holder optional subtype rights) 0 fault → ⊥) → (IsPadding bytes 4 8 fault → ⊥) →
      (IsPadding bytes 0 0 fault → ⊥) → (IsPadding bytes 4 4 fault → ⊥) → BreaksMessage no_declarations (holder optional subtype rights)
      (message_of bytes handles) fault → BreaksHandle (message_of bytes handles) optional subtype rights 0 0 fault
  only_handle none behind before between h =
      let m = message_of bytes handles in
      let t = ty.handle optional subtype rights in
      elim h [
        | inl p ↦ absurd (behind p)
        | inr b ↦ elim (of_parts no_declarations m 0 4 0 0 (only optional subtype rights) [] (start_of 4) fault (of_object no_declarations m 0 (holder optional subtype rights) 0 (start_of 4) fault (only optional subtype rights ∷ []) none (refl, refl) b)) [
          | inl p ↦ absurd (before p)
          | inr c ↦ elim c [
            | inl x ↦ of_field no_declarations m 0 t 0 (start_of 4) fault (refl, refl, tt) x
            | inr l ↦ absurd (between (of_end no_declarations m 0 4 0 4 l.0 fault l.1))
          ]
        ]
      ]

pub no_record : IsTold no_declarations (holder false 3 0) marked [] (HandleMissing 0)
no_record = ((omega arith, omega arith), broken false 3 0 marked [] (HandleMissing 0) (refl, ones, omega arith))

pub one_record : IsTold no_declarations (holder false 3 0) marked (record_of 3 0 ∷ []) (HandleMissing 0) → ⊥
one_record h = let b = only_handle false 3 0 marked (record_of 3 0 ∷ []) (HandleMissing 0) (λ x. x) (λ x. x) (λ x. x) (λ x. x) h.1 in omega (arith, b.2)

no_type : IsAllowed 3 0 (record_of 4 0) → ⊥
no_type ok = elim ok.0 [ inl e ↦ omega (arith, e) | inr e ↦ omega (arith, e) ]

pub other_type : IsTold no_declarations (holder false 3 0) marked (record_of 4 0 ∷ []) (WrongHandle 0)
other_type = ((omega arith, omega arith), broken false 3 0 marked (record_of 4 0 ∷ []) (WrongHandle 0) (refl, ones, (record_of 4 0, refl, no_type)))

some_same : (a b : HandleInfo) → Some a ≡ Some b → a ≡ b
some_same a b e = cc

pub any_type : IsTold no_declarations (holder false 0 0) marked (record_of 4 0 ∷ []) (WrongHandle 0) → ⊥
any_type h =
    let b = only_handle false 0 0 marked (record_of 4 0 ∷ []) (WrongHandle 0) (λ x. x) (λ x. x) (λ x. x) (λ x. x) h.1 in
    b.2.2 (subst (λ (i : HandleInfo). IsAllowed 0 0 i) (some_same (record_of 4 0) b.2.0 b.2.1) (inr refl, inl refl))

nothing_there : Stands (zeros 8) 0 (zeros 4)
nothing_there = (omega arith, refl, (omega arith, refl, (omega arith, refl, (omega arith, refl, tt))))

pub absent_required : IsTold no_declarations (holder false 3 0) (zeros 8) [] (AbsentRequired 0)
absent_required = ((omega arith, omega arith), broken false 3 0 (zeros 8) [] (AbsentRequired 0) (refl, refl, nothing_there))

pub absent_optional : IsTold no_declarations (holder true 3 0) (zeros 8) [] (AbsentRequired 0) → ⊥
absent_optional h = let b = only_handle true 3 0 (zeros 8) [] (AbsentRequired 0) (λ x. x) (λ x. x) (λ x. x) (λ x. x) h.1 in clash (b.1)
  where
    clash : true ≡ false → ⊥
    clash e = cc

pub one_one : IsTold no_declarations (holder false 3 0) (1 ∷ zeros 7) [] (BadMarker 0)
one_one = ((omega arith, omega arith), broken false 3 0 (1 ∷ zeros 7) [] (BadMarker 0) (refl, (λ z. let e = z.1 in omega (arith, e)), (λ z. let e = z.1 in omega (arith, e))))
