-- Worked refusals of tables.
use Rattle.std.proofs.Common.{◌≡◌, ℕ, ◌*◌, ◌≤◌, List, [], ◌∷◌, ◌++◌, pos, true, refl, arith, inl, inr, length, length-append, ◌<◌}
use Rattle.std.specs.Prelude.{◌⊎◌, Some, None, codes, replicate}
use Rattle.fidl_wire.specs.declared.handle.HandleInfo.{HandleInfo}
use Rattle.fidl_wire.specs.Value.{bool, number, known}
use Rattle.fidl_wire.specs.Term.{Term, Rows, find, no_rows, row, uint8, uint64}
use Rattle.fidl_wire.specs.Term as ty
use Rattle.fidl_wire.specs.Figure.{no_declarations}
use Rattle.fidl_wire.specs.Encoding.{zeros, present}
use Rattle.fidl_wire.specs.Standing.{Stands}
use Rattle.fidl_decode_model.specs.declared.fault.DecodeFault.{DecodeFault}
use Rattle.fidl_decode_model.specs.declared.fault.DecodeFault.TheVariants.{AbsentRequired, BadMarker, BadCount, BadEnvelope, WrongCounts, HandleMissing, BadBool}
use Rattle.fidl_decode_model.specs.State.{Position, opened, linked, ValueAt}
use Rattle.fidl_decode_model.specs.Envelopes.{CanHold, Contained}
use Rattle.fidl_decode_model.specs.Breaks.{Part, element_parts, count_at, IsPadding, BreaksTable, IsRight, BreaksEnvelopes, in_field, in_parts, in_table, at_member, behind_none, behind_member, by_numbers, in_envelope, out_of_line, in_next, in_later}
use Rattle.fidl_decode_model.specs.Faults.{IsWithin, IsTold, BreaksMessage, message_of, start_of}
use Rattle.fidl_decode_model.proofs.Broken.{table_right, envelope_right, counts_within, broken_next, none_broken}
use Rattle.fidl_decode_model.proofs.Enclosed.{contained_some}
use Rattle.fidl_decode_model.proofs.Inverted.{of_field, of_parts, of_end, of_table, of_unknown, of_known}
use Rattle.fidl_decode_model.proofs.UnionFacts.{number_breaks}

-- so many envelopes are there, and these bytes behind the marker
abbrev with_envelopes : (n : ℕ) → List ℕ → List ℕ
with_envelopes n bytes = n ∷ zeros 7 ++ replicate 8 255 ++ bytes

ones : (n : ℕ) (bytes : List ℕ) → Stands (with_envelopes n bytes) 8 present
ones n bytes = (omega arith, refl, (omega arith, refl, (omega arith, refl, (omega arith, refl, (omega arith, refl, (omega arith, refl, (omega arith, refl, (omega arith, refl, tt))))))))

no_zeros : (n : ℕ) (bytes : List ℕ) → Stands (with_envelopes n bytes) 8 (zeros 8) → ⊥
no_zeros n bytes z = let e : 255 ≡ 0 = z.1 in omega (arith, e)

-- the state at the envelopes of a table
abbrev inside : (n : ℕ) → Position
inside n = linked 8 (8 * n) (start_of 16)

module _ (rows : Rows) (bytes : List ℕ) (handles : List HandleInfo) (fault : DecodeFault) where
  own_broken : BreaksTable (message_of bytes handles) 0 0 16 fault → BreaksMessage no_declarations (ty.table rows) (message_of bytes handles) fault
  own_broken b = inr (in_field (ty.table rows) 0 (start_of 16) fault b)

  envelopes_broken : Stands bytes 8 present → IsRight no_declarations (message_of bytes handles) 0 (ty.table rows) 0 (start_of 16)
      → BreaksEnvelopes no_declarations (message_of bytes handles) 1 rows 1 (count_at bytes 0) 16 (inside (count_at bytes 0)) fault → BreaksMessage no_declarations (ty.table rows) (message_of bytes handles) fault
  envelopes_broken there right b = inr (in_table rows 0 (start_of 16) fault there right b)

  -- and nowhere else, but for padding
  only_table : (IsPadding bytes 16 16 fault → ⊥) → BreaksMessage no_declarations (ty.table rows) (message_of bytes handles) fault
      → BreaksTable (message_of bytes handles) 0 0 16 fault ⊎ BreaksEnvelopes no_declarations (message_of bytes handles) 1 rows 1 (count_at bytes 0) 16 (inside (count_at bytes 0)) fault
  only_table none h = elim h [ inl p ↦ absurd (none p) | inr b ↦ of_table no_declarations (message_of bytes handles) 0 rows 0 (start_of 16) fault b ]

-- ---- absent tables

abbrev only_row : Rows
only_row = row 1 (codes "a") (ty.number uint8) no_rows

zeros_behind : Stands (zeros 16) 8 (zeros 8)
zeros_behind = (omega arith, refl, (omega arith, refl, (omega arith, refl, (omega arith, refl, (omega arith, refl, (omega arith, refl, (omega arith, refl, (omega arith, refl, tt))))))))

pub absent_table : IsTold no_declarations (ty.table only_row) (zeros 16) [] (AbsentRequired 0)
absent_table = ((omega arith, omega arith), own_broken only_row (zeros 16) [] (AbsentRequired 0) (refl, refl, zeros_behind))

pub present_table : IsTold no_declarations (ty.table only_row) (zeros 8 ++ replicate 8 255) [] (AbsentRequired 0) → ⊥
present_table h = elim (only_table only_row (zeros 8 ++ replicate 8 255) [] (AbsentRequired 0) (λ p. p) h.1) [
  | inl b ↦ no_zeros 0 [] b.2
  | inr b ↦ none_broken no_declarations (message_of (zeros 8 ++ replicate 8 255) []) 1 only_row 0 16 1 (inside 0) (AbsentRequired 0) (omega arith) b
]

pub marked_one : IsTold no_declarations (ty.table only_row) (zeros 8 ++ 1 ∷ zeros 7) [] (BadMarker 8)
marked_one = ((omega arith, omega arith), own_broken only_row (zeros 8 ++ 1 ∷ zeros 7) [] (BadMarker 8) (refl, (λ z. let e = z.1 in omega (arith, e)), (λ z. let e = z.1 in omega (arith, e))))

-- ---- counts

pub two_too_many : IsTold no_declarations (ty.table only_row) (with_envelopes 2 (zeros 8)) [] (BadCount 0)
two_too_many = ((omega arith, omega arith), own_broken only_row (with_envelopes 2 (zeros 8)) [] (BadCount 0) (refl, inr (ones 2 (zeros 8), omega arith)))

first_zeros : (n : ℕ) (rest : List ℕ) → Stands (with_envelopes n (zeros 8 ++ rest)) 16 (zeros 8)
first_zeros n rest = (omega arith, refl, (omega arith, refl, (omega arith, refl, (omega arith, refl, (omega arith, refl, (omega arith, refl, (omega arith, refl, (omega arith, refl, tt))))))))

-- behind an envelope of zeros the rest breaks a rule
behind_zeros : (rows : Rows) (n : ℕ) (rest : List ℕ) (fault : DecodeFault) → (let bytes = with_envelopes n (zeros 8 ++ rest) in
    IsWithin bytes [] → BreaksEnvelopes no_declarations (message_of bytes []) 1 rows 1 n 16 (inside n) fault → BreaksEnvelopes no_declarations (message_of bytes []) 1 rows 2 n 16 (inside n) fault)
behind_zeros rows n rest fault within b =
    let m = message_of (with_envelopes n (zeros 8 ++ rest)) [] in
    elim (broken_next no_declarations m 1 rows n 16 0 (inside n) fault b).1 [
      | inl z ↦ z.1
      | inr c ↦ elim c [
        | inl x ↦ absurd (x.0 (first_zeros n rest))
        | inr y ↦ absurd (contained_some no_declarations refl m within 1 (find rows 1) 16 (inside n) y.0 y.1 (first_zeros n rest))
      ]
    ]

pub one_fits : IsTold no_declarations (ty.table only_row) (with_envelopes 1 (zeros 8)) [] (BadCount 0) → ⊥
one_fits h = elim (only_table only_row (with_envelopes 1 (zeros 8)) [] (BadCount 0) (λ p. p) h.1) [
  | inl b ↦ elim b.1 [ inl z ↦ no_zeros 1 (zeros 8) z.0 | inr p ↦ omega (arith, p.1) ]
  | inr b ↦ none_broken no_declarations (message_of (with_envelopes 1 (zeros 8)) []) 1 only_row 1 16 2 (inside 1) (BadCount 0) (omega arith) (behind_zeros only_row 1 [] (BadCount 0) (omega arith, omega arith) b)
]

-- ---- two members

abbrev two_rows : Rows
two_rows = row 1 (codes "a") (ty.number uint8) (row 2 (codes "n") (ty.number uint64) no_rows)

abbrev seven : List ℕ
seven = 7 ∷ zeros 5 ++ 1 ∷ 0 ∷ []

abbrev five : List ℕ
five = 5 ∷ zeros 5 ++ 1 ∷ 0 ∷ []

two_right : (first : List ℕ) → length first ≡ 8 → IsRight no_declarations (message_of (with_envelopes 2 (first ++ seven)) []) 0 (ty.table two_rows) 0 (start_of 16)
two_right first long = table_right no_declarations refl (message_of (with_envelopes 2 (first ++ seven)) []) 0 two_rows 0 (start_of 16) (ones 2 (first ++ seven)) (omega arith) (omega arith) (omega (arith, length-append first seven, long))

no_place : CanHold no_declarations (with_envelopes 2 (zeros 8 ++ seven)) (Some (ty.number uint64)) 24 → ⊥
no_place h = elim h [ inl i ↦ (let e : 8 ≤ 4 = i.1 in omega (arith, e)) | inr o ↦ (let e : 1 ≡ 0 = o.0 in omega (arith, e)) ]

no_place_behind : CanHold no_declarations (with_envelopes 2 (five ++ seven)) (Some (ty.number uint64)) 24 → ⊥
no_place_behind h = elim h [ inl i ↦ (let e : 8 ≤ 4 = i.1 in omega (arith, e)) | inr o ↦ (let e : 1 ≡ 0 = o.0 in omega (arith, e)) ]

pub second_behind_zeros : IsTold no_declarations (ty.table two_rows) (with_envelopes 2 (zeros 8 ++ seven)) [] (BadEnvelope 24)
second_behind_zeros = (
  (omega arith, omega arith),
  envelopes_broken two_rows (with_envelopes 2 (zeros 8 ++ seven)) [] (BadEnvelope 24) (ones 2 (zeros 8 ++ seven)) (two_right (zeros 8) refl)
      (behind_none two_rows 1 2 16 (inside 2) (BadEnvelope 24) (omega arith) (first_zeros 2 seven)
      (at_member two_rows 2 2 16 (inside 2) (BadEnvelope 24) (omega arith) (λ z. let e : 7 ≡ 0 = z.1 in omega (arith, e)) (by_numbers (Some (ty.number uint64)) 24 (inside 2) (BadEnvelope 24) (refl, no_place)))),
)

five_there : Contained no_declarations (message_of (with_envelopes 2 (five ++ seven)) []) 1 (Some (ty.number uint8)) 16 (inside 2) (opened 16 (inside 2))
five_there = record {
  content = known (number (pos 5));
  typed = omega arith;
  shallow = omega arith;
  stands = record {
    inline = (omega arith, refl, (omega arith, refl, (omega arith, refl, (omega arith, refl, (omega arith, refl, (omega arith, refl, (omega arith, refl, (omega arith, refl, tt))))))));
    out = tt;
    carried = tt;
  };
  end = refl;
}

pub second_behind_member : IsTold no_declarations (ty.table two_rows) (with_envelopes 2 (five ++ seven)) [] (BadEnvelope 24)
second_behind_member =
    let s = opened 16 (inside 2) in (
      (omega arith, omega arith),
      envelopes_broken two_rows (with_envelopes 2 (five ++ seven)) [] (BadEnvelope 24) (ones 2 (five ++ seven)) (two_right five refl)
          (behind_member two_rows 1 2 16 (inside 2) s (BadEnvelope 24) (omega arith) five_there
          (at_member two_rows 2 2 16 s (BadEnvelope 24) (omega arith) (λ z. let e : 7 ≡ 0 = z.1 in omega (arith, e)) (by_numbers (Some (ty.number uint64)) 24 s (BadEnvelope 24) (refl, no_place_behind)))),
    )

other_place : BadEnvelope 16 ≡ WrongCounts 24 → ⊥
other_place e = cc

pub zeros_right : IsTold no_declarations (ty.table two_rows) (with_envelopes 2 (zeros 8 ++ seven)) [] (BadEnvelope 16) → ⊥
zeros_right h =
    let m = message_of (with_envelopes 2 (zeros 8 ++ seven)) [] in
    elim (only_table two_rows m.bytes [] (BadEnvelope 16) (λ p. p) h.1) [
      | inl b ↦ b
      | inr b ↦ elim (broken_next no_declarations m 1 two_rows 2 16 1 (inside 2) (BadEnvelope 16) (behind_zeros two_rows 2 seven (BadEnvelope 16) (omega arith, omega arith) b)).1 [
        | inl z ↦ none_broken no_declarations m 1 two_rows 2 16 3 (inside 2) (BadEnvelope 16) (omega arith) z.1
        | inr c ↦ elim c [
          | inl x ↦ elim (number_breaks m uint64 1 24 (inside 2) (BadEnvelope 16) (λ a b p. p) x.1) [ inl e ↦ omega (arith, e.0) | inr w ↦ other_place w.0 ]
          | inr y ↦ none_broken no_declarations m 1 two_rows 2 16 3 y.0 (BadEnvelope 16) (omega arith) y.2
        ]
      ]
    ]

-- ---- unknown members

abbrev second_row : Rows
second_row = row 2 (codes "a") (ty.number uint8) no_rows

-- an envelope with so many bytes out of line and a handle, and eight bytes
abbrev with_handle : (n : ℕ) → List ℕ
with_handle n = with_envelopes 1 (n ∷ zeros 3 ++ 1 ∷ zeros 3 ++ zeros 8)

handle_right : (n : ℕ) (handles : List HandleInfo) → IsRight no_declarations (message_of (with_handle n) handles) 0 (ty.table second_row) 0 (start_of 16)
handle_right n handles = table_right no_declarations refl (message_of (with_handle n) handles) 0 second_row 0 (start_of 16) (ones 1 (n ∷ zeros 3 ++ 1 ∷ zeros 3 ++ zeros 8)) (omega arith) (omega arith) (omega arith)

no_part : CanHold no_declarations (with_handle 4) None 16 → ⊥
no_part h = elim h [ inl i ↦ (let e : 0 ≡ 1 = i.0 in omega (arith, e)) | inr o ↦ (let e : 4 ≡ 0 = o.1.1 in omega (arith, e)) ]

pub four_bytes : IsTold no_declarations (ty.table second_row) (with_handle 4) [] (BadEnvelope 16)
four_bytes = (
  (omega arith, omega arith),
  envelopes_broken second_row (with_handle 4) [] (BadEnvelope 16) (ones 1 (4 ∷ zeros 3 ++ 1 ∷ zeros 3 ++ zeros 8)) (handle_right 4 [])
      (at_member second_row 1 1 16 (inside 1) (BadEnvelope 16) (omega arith) (λ z. let e : 4 ≡ 0 = z.1 in omega (arith, e)) (by_numbers None 16 (inside 1) (BadEnvelope 16) (refl, no_part))),
)

pub no_record : IsTold no_declarations (ty.table second_row) (with_handle 8) [] (HandleMissing 16)
no_record = (
  (omega arith, omega arith),
  envelopes_broken second_row (with_handle 8) [] (HandleMissing 16) (ones 1 (8 ∷ zeros 3 ++ 1 ∷ zeros 3 ++ zeros 8)) (handle_right 8 [])
      (at_member second_row 1 1 16 (inside 1) (HandleMissing 16) (omega arith) (λ z. let e : 8 ≡ 0 = z.1 in omega (arith, e)) (by_numbers None 16 (inside 1) (HandleMissing 16) (refl, omega arith))),
)

abbrev nine : HandleInfo
nine = record { id = 9; object_type = 3; rights = 1 }

pub one_record : IsTold no_declarations (ty.table second_row) (with_handle 8) (nine ∷ []) (HandleMissing 16) → ⊥
one_record h =
    let m = message_of (with_handle 8) (nine ∷ []) in
    elim (only_table second_row m.bytes m.handles (HandleMissing 16) (λ p. p) h.1) [
      | inl b ↦ b
      | inr b ↦ elim (broken_next no_declarations m 1 second_row 1 16 0 (inside 1) (HandleMissing 16) b).1 [
        | inl z ↦ none_broken no_declarations m 1 second_row 1 16 2 (inside 1) (HandleMissing 16) (omega arith) z.1
        | inr c ↦ elim c [
          | inl x ↦ let e = of_unknown no_declarations m 1 16 (inside 1) (HandleMissing 16) x.1 in omega (arith, e.1)
          | inr y ↦ none_broken no_declarations m 1 second_row 1 16 2 y.0 (HandleMissing 16) (omega arith) y.2
        ]
      ]
    ]

-- ---- the content of an envelope

abbrev bool_row : Rows
bool_row = row 1 (codes "b") ty.bool no_rows

abbrev with_bool : (n : ℕ) → List ℕ
with_bool n = with_envelopes 1 (n ∷ zeros 5 ++ 1 ∷ 0 ∷ [])

abbrev part : (offset : ℕ) → Term → Part
part offset t = record { offset = offset; term = t }

pub two_in_envelope : IsTold no_declarations (ty.table bool_row) (with_bool 2) [] (BadBool 16)
two_in_envelope =
    let m = message_of (with_bool 2) [] in
    let right = table_right no_declarations refl m 0 bool_row 0 (start_of 16) (ones 1 (2 ∷ zeros 5 ++ 1 ∷ 0 ∷ [])) (omega arith) (omega arith) (omega arith) in
    let s = opened 16 (inside 1) in (
      (omega arith, omega arith),
      envelopes_broken bool_row (with_bool 2) [] (BadBool 16) (ones 1 (2 ∷ zeros 5 ++ 1 ∷ 0 ∷ [])) right
          (at_member bool_row 1 1 16 (inside 1) (BadBool 16) (omega arith) (λ z. let e : 2 ≡ 0 = z.1 in omega (arith, e))
          (in_envelope ty.bool 16 (inside 1) (BadBool 16) (inl (refl, omega arith)) (omega arith)
          (in_next 4 16 0 (part 0 ty.bool) [] s (BadBool 16) tt (in_field ty.bool 16 s (BadBool 16) (refl, omega arith))))),
    )

pub one_in_envelope : IsTold no_declarations (ty.table bool_row) (with_bool 1) [] (BadBool 16) → ⊥
one_in_envelope h =
    let m = message_of (with_bool 1) [] in
    elim (only_table bool_row m.bytes [] (BadBool 16) (λ p. p) h.1) [
      | inl b ↦ b
      | inr b ↦ elim (broken_next no_declarations m 1 bool_row 1 16 0 (inside 1) (BadBool 16) b).1 [
        | inl z ↦ none_broken no_declarations m 1 bool_row 1 16 2 (inside 1) (BadBool 16) (omega arith) z.1
        | inr c ↦ elim c [
          | inl x ↦ elim (of_known no_declarations m 1 ty.bool 16 (inside 1) (BadBool 16) x.1) [
            | inl e ↦ e
            | inr d ↦ elim d [
              | inl y ↦ elim (of_parts no_declarations m 1 4 16 0 (part 0 ty.bool) [] (opened 16 (inside 1)) (BadBool 16) y.1) [
                | inl p ↦ p
                | inr q ↦ elim q [
                  | inl n ↦ let e = of_field no_declarations m 1 ty.bool 16 (opened 16 (inside 1)) (BadBool 16) (refl, refl, tt) n in omega (arith, e.1)
                  | inr l ↦ of_end no_declarations m 1 4 16 1 l.0 (BadBool 16) l.1
                ]
              ]
              | inr e ↦ elim e [ inl z ↦ (let lt : 4 < 1 = z.0 in omega (arith, lt)) | inr w ↦ no_counts w.0 ]
            ]
          ]
          | inr y ↦ none_broken no_declarations m 1 bool_row 1 16 2 y.0 (BadBool 16) (omega arith) y.2
        ]
      ]
    ]
  where
    no_counts : BadBool 16 ≡ WrongCounts 16 → ⊥
    no_counts e = cc

abbrev bools : Term
bools = ty.array ty.bool 8

abbrev bools_row : Rows
bools_row = row 1 (codes "v") bools no_rows

abbrev eight : List ℕ
eight = 8 ∷ zeros 7 ++ 1 ∷ 2 ∷ zeros 6

pub two_out_of_line : IsTold no_declarations (ty.table bools_row) (with_envelopes 1 eight) [] (BadBool 25)
two_out_of_line =
    let m = message_of (with_envelopes 1 eight) [] in
    let right = table_right no_declarations refl m 0 bools_row 0 (start_of 16) (ones 1 eight) (omega arith) (omega arith) (omega arith) in
    let can : CanHold no_declarations m.bytes (Some bools) 16 = inr (refl, (omega arith, refl), omega arith) in
    let s = linked 16 8 (opened 16 (inside 1)) in
    let there : ValueAt no_declarations m 2 ty.bool 24 s s = record { value = bool true; typed = tt; shallow = omega arith; stands = record { inline = (omega arith, refl, tt); out = tt; carried = tt }; end = refl } in
    let fault = BadBool 25 in (
      (omega arith, omega arith),
      envelopes_broken bools_row m.bytes [] fault (ones 1 eight) right
          (at_member bools_row 1 1 16 (inside 1) fault (omega arith) (λ z. let e : 8 ≡ 0 = z.1 in omega (arith, e))
          (out_of_line bools 16 (inside 1) fault can (omega arith) (envelope_right no_declarations m 1 bools 16 (inside 1) can (omega arith) (omega arith) (counts_within m.bytes 16 (omega arith) (omega arith)))
          (in_next 8 24 0 (part 0 bools) [] s fault tt
          (in_parts bools 24 s fault (element_parts no_declarations ty.bool 8 0) refl
          (in_later 8 24 0 (part 0 ty.bool) (element_parts no_declarations ty.bool 7 1) s s fault tt there
          (in_next 8 24 1 (part 1 ty.bool) (element_parts no_declarations ty.bool 6 2) s fault tt (in_field ty.bool 25 s fault (refl, omega arith)))))))),
    )
