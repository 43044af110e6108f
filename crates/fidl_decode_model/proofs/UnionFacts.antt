-- Worked refusals of unions.
use Rattle.std.proofs.Common.{◌≡◌, ◌≢◌, ℕ, ◌+◌, ◌-◌, ◌<◌, List, [], ◌∷◌, ◌++◌, pos, refl, sym, ap, arith, inl, inr, true, false}
use Rattle.std.specs.Prelude.{Bool, ◌⊎◌, Some, None, codes, IsTrue}
use Rattle.fidl_wire.specs.declared.handle.HandleInfo.{HandleInfo}
use Rattle.fidl_wire.specs.Value.{Value, bool, number}
use Rattle.fidl_wire.specs.Term.{Term, Rows, find, no_rows, row, uint8, uint32, uint64}
use Rattle.fidl_wire.specs.Term as ty
use Rattle.fidl_wire.specs.Figure.{no_declarations}
use Rattle.fidl_wire.specs.Typed.{IsTyped}
use Rattle.fidl_wire.specs.Encoding.{zeros, encoding_of}
use Rattle.fidl_wire.specs.Standing.{Stands}
use Rattle.fidl_decode_model.specs.declared.fault.DecodeFault.{DecodeFault}
use Rattle.fidl_decode_model.specs.declared.fault.DecodeFault.TheVariants.{Padding, AbsentRequired, BadEnvelope, WrongCounts, UnknownOrdinal, Truncated, HandleMissing}
use Rattle.fidl_decode_model.specs.State.{Message, Position, opened, linked, after, ValueAt}
use Rattle.fidl_decode_model.specs.Envelopes.{CanHold, BreaksEnvelope, Miscounts}
use Rattle.fidl_decode_model.specs.Breaks.{Part, ordinal_at, IsPadding, BreaksUnion, BreaksMember, BreaksParts, in_field, in_union, by_numbers, in_envelope, by_counts, in_later, in_end}
use Rattle.fidl_decode_model.specs.Faults.{IsTold, BreaksMessage, message_of, start_of}
use Rattle.fidl_decode_model.proofs.Broken.{union_right, counts_within}
use Rattle.fidl_decode_model.proofs.Inverted.{of_field, of_parts, of_end, of_union, of_unknown, of_known}

clash : true ≡ false → ⊥
clash e = cc

abbrev only_row : ty.Kind → Rows
only_row kind = row 1 (codes "n") (ty.number kind) no_rows

abbrev part : Term → Part
part t = record { offset = 0; term = t }

module _ (optional strict : Bool) (rows : Rows) (bytes : List ℕ) (handles : List HandleInfo) (fault : DecodeFault) where
  abbrev Told : Type 0
  Told = BreaksMessage no_declarations (ty.union optional strict rows) (message_of bytes handles) fault

  own_broken : BreaksUnion (message_of bytes handles) optional strict rows 0 fault → Told
  own_broken b = inr (in_field (ty.union optional strict rows) 0 (start_of 16) fault b)

  member_broken : (ordinal_at bytes 0 ≢ 0) → (IsTrue strict → find rows (ordinal_at bytes 0) ≡ None → ⊥) → BreaksMember no_declarations (message_of bytes handles) 0 (find rows (ordinal_at bytes 0)) 8 (start_of 16) fault → Told
  member_broken some known b = inr (in_union optional strict rows 0 (start_of 16) fault some (union_right no_declarations (message_of bytes handles) 0 optional strict rows 0 (start_of 16) some known) b)

  -- and nowhere else, but for padding
  only_union : (IsPadding bytes 16 16 fault → ⊥) → Told → BreaksUnion (message_of bytes handles) optional strict rows 0 fault
      ⊎ ((ordinal_at bytes 0 ≢ 0) × BreaksMember no_declarations (message_of bytes handles) 0 (find rows (ordinal_at bytes 0)) 8 (start_of 16) fault)
  only_union none h = elim h [ inl p ↦ absurd (none p) | inr b ↦ of_union no_declarations (message_of bytes handles) 0 optional strict rows 0 (start_of 16) fault b ]

-- a number breaks a rule only in the padding behind it
number_holds : (m : Message) (kind : ty.Kind) (held size base : ℕ) (from : Position) (fault : DecodeFault) → ((a b : ℕ) → IsPadding m.bytes a b fault → ⊥) → BreaksParts no_declarations m held size base 0 (part (ty.number kind) ∷ []) from fault → ⊥
number_holds m kind held size base from fault no_gap b = elim (of_parts no_declarations m held size base 0 (part (ty.number kind)) [] from fault b) [
  | inl p ↦ no_gap _ _ p
  | inr d ↦ elim d [
    | inl x ↦ of_field no_declarations m held (ty.number kind) (base + 0) from fault (refl, refl, tt) x
    | inr l ↦ no_gap _ _ (of_end no_declarations m held size base _ l.0 fault l.1)
  ]
]

-- a number in an envelope breaks one by its envelope's numbers, or by what that counts
pub number_breaks : (m : Message) (kind : ty.Kind) (held envelope : ℕ) (from : Position) (fault : DecodeFault) → ((a b : ℕ) → IsPadding m.bytes a b fault → ⊥) → BreaksMember no_declarations m held (Some (ty.number kind)) envelope from fault
    → BreaksEnvelope no_declarations m held (Some (ty.number kind)) envelope from.next from.handle fault ⊎ ((fault ≡ WrongCounts envelope) × Miscounts no_declarations m held (ty.number kind) envelope from)
number_breaks m kind held envelope from fault no_gap b = elim (of_known no_declarations m held (ty.number kind) envelope from fault b) [
  | inl x ↦ inl x
  | inr c ↦ elim c [
    | inl y ↦ absurd (number_holds m kind held _ _ _ fault no_gap y.1)
    | inr d ↦ elim d [
      | inl z ↦ absurd (number_holds m kind _ _ _ _ fault no_gap z.1)
      | inr w ↦ inr w
    ]
  ]
]

-- a number leads nowhere
number_end : (m : Message) (kind : ty.Kind) (held place : ℕ) (from to : Position) → ValueAt no_declarations m held (ty.number kind) place from to → to ≡ from
number_end m kind held place from to x = only x.value x.typed x.end
  where
    only : (v : Value) → IsTyped no_declarations (ty.number kind) v → to ≡ after no_declarations (ty.number kind) v place from → to ≡ from
    only (number z) h e = e
    only _ h e = absurd h

-- ---- absent unions

zeros_behind : Stands (zeros 16) 8 (zeros 8)
zeros_behind = (omega arith, refl, (omega arith, refl, (omega arith, refl, (omega arith, refl, (omega arith, refl, (omega arith, refl, (omega arith, refl, (omega arith, refl, tt))))))))

pub absent_required : IsTold no_declarations (ty.union false false (only_row uint32)) (zeros 16) [] (AbsentRequired 0)
absent_required = ((omega arith, omega arith), own_broken false false (only_row uint32) (zeros 16) [] (AbsentRequired 0) (refl, refl, refl, zeros_behind))

pub absent_optional : IsTold no_declarations (ty.union true false (only_row uint32)) (zeros 16) [] (AbsentRequired 0) → ⊥
absent_optional h = elim (only_union true false (only_row uint32) (zeros 16) [] (AbsentRequired 0) (λ p. p) h.1) [ inl b ↦ clash b.1 | inr c ↦ c.0 refl ]

abbrev alone : List ℕ
alone = zeros 8 ++ 5 ∷ zeros 5 ++ 1 ∷ 0 ∷ []

not_alone : Stands alone 8 (zeros 8) → ⊥
not_alone z = let e : 5 ≡ 0 = z.1 in omega (arith, e)

pub alone_broken : (optional : Bool) → IsTold no_declarations (ty.union optional false (only_row uint32)) alone [] (BadEnvelope 8)
alone_broken optional = ((omega arith, omega arith), own_broken optional false (only_row uint32) alone [] (BadEnvelope 8) (refl, refl, not_alone))

pub alone_present : IsTold no_declarations (ty.union false false (only_row uint32)) alone [] (AbsentRequired 0) → ⊥
alone_present h = elim (only_union false false (only_row uint32) alone [] (AbsentRequired 0) (λ p. p) h.1) [ inl b ↦ not_alone b.3 | inr c ↦ c.0 refl ]

pub zeros_right : IsTold no_declarations (ty.union true false (only_row uint32)) (zeros 16) [] (BadEnvelope 8) → ⊥
zeros_right h = elim (only_union true false (only_row uint32) (zeros 16) [] (BadEnvelope 8) (λ p. p) h.1) [ inl b ↦ b.2 zeros_behind | inr c ↦ c.0 refl ]

-- ---- ordinals

abbrev with_seven : (ordinal handles : ℕ) → List ℕ
with_seven ordinal handles = ordinal ∷ zeros 7 ++ 7 ∷ zeros 3 ++ handles ∷ 0 ∷ 1 ∷ 0 ∷ []

pub strict_unknown : IsTold no_declarations (ty.union false true (only_row uint32)) (with_seven 2 0) [] (UnknownOrdinal 0)
strict_unknown = ((omega arith, omega arith), own_broken false true (only_row uint32) (with_seven 2 0) [] (UnknownOrdinal 0) (refl, refl, (λ e. omega (arith, e)), refl))

pub flexible_unknown : IsTold no_declarations (ty.union false false (only_row uint32)) (with_seven 2 0) [] (UnknownOrdinal 0) → ⊥
flexible_unknown h = elim (only_union false false (only_row uint32) (with_seven 2 0) [] (UnknownOrdinal 0) (λ p. p) h.1) [
  | inl b ↦ clash (sym b.1)
  | inr c ↦ of_unknown no_declarations (message_of (with_seven 2 0) []) 0 8 (start_of 16) (UnknownOrdinal 0) c.1
]

some_row : Some (ty.number uint32) ≡ None → ⊥
some_row e = cc

other_fault : UnknownOrdinal 0 ≡ WrongCounts 8 → ⊥
other_fault e = cc

pub strict_known : IsTold no_declarations (ty.union false true (only_row uint32)) (with_seven 1 0) [] (UnknownOrdinal 0) → ⊥
strict_known h = elim (only_union false true (only_row uint32) (with_seven 1 0) [] (UnknownOrdinal 0) (λ p. p) h.1) [
  | inl b ↦ some_row b.3
  | inr c ↦ elim (number_breaks (message_of (with_seven 1 0) []) uint32 0 8 (start_of 16) (UnknownOrdinal 0) (λ a b x. x) c.1) [ inl e ↦ e | inr w ↦ other_fault w.0 ]
]

-- ---- the numbers of an envelope

one_some : let n : ℕ = 1 in n ≢ 0
one_some e = omega (arith, e)

abbrev out_of_line : List ℕ
out_of_line = 1 ∷ zeros 7 ++ 8 ∷ zeros 7 ++ 7 ∷ zeros 7

no_place : CanHold no_declarations out_of_line (Some (ty.number uint32)) 8 → ⊥
no_place h = elim h [ inl i ↦ (let e : 0 ≡ 1 = i.0 in omega (arith, e)) | inr o ↦ (let e : 4 < 4 = o.2 in omega (arith, e)) ]

pub out_broken : IsTold no_declarations (ty.union false false (only_row uint32)) out_of_line [] (BadEnvelope 8)
out_broken = ((omega arith, omega arith), member_broken false false (only_row uint32) out_of_line [] (BadEnvelope 8) one_some (λ f e. clash (sym f)) (by_numbers (Some (ty.number uint32)) 8 (start_of 16) (BadEnvelope 8) (refl, no_place)))

no_member : CanHold no_declarations (1 ∷ zeros 15) (Some (ty.number uint32)) 8 → ⊥
no_member h = elim h [ inl i ↦ (let e : 0 ≡ 1 = i.0 in omega (arith, e)) | inr o ↦ (let e : 4 < 4 = o.2 in omega (arith, e)) ]

pub none_broken : IsTold no_declarations (ty.union false false (only_row uint32)) (1 ∷ zeros 15) [] (BadEnvelope 8)
none_broken = ((omega arith, omega arith), member_broken false false (only_row uint32) (1 ∷ zeros 15) [] (BadEnvelope 8) one_some (λ f e. clash (sym f)) (by_numbers (Some (ty.number uint32)) 8 (start_of 16) (BadEnvelope 8) (refl, no_member)))

other_number : BadEnvelope 8 ≡ WrongCounts 8 → ⊥
other_number e = cc

pub inline_right : IsTold no_declarations (ty.union false false (only_row uint32)) (with_seven 1 0) [] (BadEnvelope 8) → ⊥
inline_right h = elim (only_union false false (only_row uint32) (with_seven 1 0) [] (BadEnvelope 8) (λ p. p) h.1) [
  | inl b ↦ one_some b.1
  | inr c ↦ elim (number_breaks (message_of (with_seven 1 0) []) uint32 0 8 (start_of 16) (BadEnvelope 8) (λ a b x. x) c.1) [ inl e ↦ e.1 (inl (refl, omega arith)) | inr w ↦ other_number w.0 ]
]

-- ---- counts

number_there : (handles : ℕ) → ValueAt no_declarations (message_of (with_seven 1 handles) []) 0 (ty.number uint32) 8 (opened 8 (start_of 16)) (opened 8 (start_of 16))
number_there handles =
    record { value = number (pos 7); typed = omega arith; shallow = omega arith; stands = record { inline = (omega arith, refl, (omega arith, refl, (omega arith, refl, (omega arith, refl, tt)))); out = tt; carried = tt }; end = refl }

pub handle_counted : IsTold no_declarations (ty.union false false (only_row uint32)) (with_seven 1 1) [] (WrongCounts 8)
handle_counted = (
  (omega arith, omega arith),
  member_broken false false (only_row uint32) (with_seven 1 1) [] (WrongCounts 8) one_some (λ f e. clash (sym f)) (by_counts (ty.number uint32) 8 (start_of 16) (opened 8 (start_of 16), number_there 1, inl (λ e. omega (arith, e)))),
)

pub no_handle_counted : IsTold no_declarations (ty.union false false (only_row uint32)) (with_seven 1 0) [] (WrongCounts 8) → ⊥
no_handle_counted h =
    let m = message_of (with_seven 1 0) [] in
    elim (only_union false false (only_row uint32) m.bytes [] (WrongCounts 8) (λ p. p) h.1) [
      | inl b ↦ b
      | inr c ↦ elim (number_breaks m uint32 0 8 (start_of 16) (WrongCounts 8) (λ a b x. x) c.1) [
        | inl e ↦ counts_within m.bytes 8 (omega arith) (omega arith) e.1
        | inr w ↦ elim w.1.2 [
          | inl d ↦ d (ap (λ (s : Position). s.handle - 0) (sym (number_end m uint32 0 8 (opened 8 (start_of 16)) w.1.0 w.1.1)))
          | inr d ↦ clash d.0
        ]
      ]
    ]

abbrev with_bytes : (count : ℕ) → List ℕ
with_bytes n = 1 ∷ zeros 7 ++ n ∷ zeros 7 ++ 7 ∷ zeros 15

abbrev behind : Position
behind = linked 8 8 (opened 8 (start_of 16))

seven_there : (n : ℕ) → ValueAt no_declarations (message_of (with_bytes n) []) 1 (ty.number uint64) 16 behind behind
seven_there n = record {
  value = number (pos 7);
  typed = omega arith;
  shallow = omega arith;
  stands = record {
    inline = (omega arith, refl, (omega arith, refl, (omega arith, refl, (omega arith, refl, (omega arith, refl, (omega arith, refl, (omega arith, refl, (omega arith, refl, tt))))))));
    out = tt;
    carried = tt;
  };
  end = refl;
}

pub sixteen_counted : IsTold no_declarations (ty.union false false (only_row uint64)) (with_bytes 16) [] (WrongCounts 8)
sixteen_counted = (
  (omega arith, omega arith),
  member_broken false false (only_row uint64) (with_bytes 16) [] (WrongCounts 8) one_some (λ f e. clash (sym f)) (by_counts (ty.number uint64) 8 (start_of 16) (behind, seven_there 16, inr (refl, λ e. omega (arith, e)))),
)

pub eight_counted : IsTold no_declarations (ty.union false false (only_row uint64)) (with_bytes 8) [] (WrongCounts 8) → ⊥
eight_counted h =
    let m = message_of (with_bytes 8) [] in
    elim (only_union false false (only_row uint64) m.bytes [] (WrongCounts 8) (λ p. p) h.1) [
      | inl b ↦ b
      | inr c ↦ elim (number_breaks m uint64 0 8 (start_of 16) (WrongCounts 8) (λ a b x. x) c.1) [
        | inl e ↦ counts_within m.bytes 8 (omega arith) (omega arith) e.1
        | inr w ↦ elim w.1.2 [
          | inl d ↦ d (ap (λ (s : Position). s.handle - 0) (sym (number_end m uint64 1 16 behind w.1.0 w.1.1)))
          | inr d ↦ d.1 (ap (λ (s : Position). s.next - 16) (sym (number_end m uint64 1 16 behind w.1.0 w.1.1)))
        ]
      ]
    ]

-- ---- counts that no message can have

abbrev bool_row : Rows
bool_row = row 1 (codes "b") ty.bool no_rows

abbrev with_two : (handles : ℕ) → List ℕ
with_two handles = 1 ∷ zeros 7 ++ 2 ∷ zeros 3 ++ handles ∷ 0 ∷ 1 ∷ 0 ∷ []

pub over_handles : IsTold no_declarations (ty.union false false bool_row) (with_two 65) [] (WrongCounts 8)
over_handles = (
  (omega arith, omega arith),
  member_broken false false bool_row (with_two 65) [] (WrongCounts 8) one_some (λ f e. clash (sym f)) (by_numbers (Some ty.bool) 8 (start_of 16) (WrongCounts 8) (refl, inl (omega arith))),
)

two_no_bool : (from to : Position) → ValueAt no_declarations (message_of (with_two 64) []) 0 ty.bool 8 from to → ⊥
two_no_bool from to x = only x.value x.typed x.stands.inline
  where
    only : (v : Value) → IsTyped no_declarations ty.bool v → Stands (with_two 64) 8 (encoding_of no_declarations ty.bool v).inline → ⊥
    only (bool true) h s = let e : 2 ≡ 1 = s.1 in omega (arith, e)
    only (bool false) h s = let e : 2 ≡ 0 = s.1 in omega (arith, e)
    only _ h s = absurd h

pub most_handles : IsTold no_declarations (ty.union false false bool_row) (with_two 64) [] (WrongCounts 8) → ⊥
most_handles h =
    let m = message_of (with_two 64) [] in
    elim (only_union false false bool_row m.bytes [] (WrongCounts 8) (λ p. p) h.1) [
      | inl b ↦ b
      | inr c ↦ elim (of_known no_declarations m 0 ty.bool 8 (start_of 16) (WrongCounts 8) c.1) [
        | inl e ↦ counts_within m.bytes 8 (omega arith) (omega arith) e.1
        | inr d ↦ elim d [
          | inl y ↦ elim (of_parts no_declarations m 0 4 8 0 (part ty.bool) [] (opened 8 (start_of 16)) (WrongCounts 8) y.1) [
            | inl p ↦ p
            | inr q ↦ elim q [
              | inl n ↦ of_field no_declarations m 0 ty.bool 8 (opened 8 (start_of 16)) (WrongCounts 8) (refl, refl, tt) n
              | inr l ↦ of_end no_declarations m 0 4 8 1 l.0 (WrongCounts 8) l.1
            ]
          ]
          | inr e ↦ elim e [ inl z ↦ (let lt : 4 < 1 = z.0 in omega (arith, lt)) | inr w ↦ two_no_bool (opened 8 (start_of 16)) w.1.0 w.1.1 ]
        ]
      ]
    ]

-- ---- unknown members

abbrev record_of : HandleInfo
record_of = record { id = 1; object_type = 3; rights = 0 }

nine_some : let n : ℕ = 9 in n ≢ 0
nine_some e = omega (arith, e)

pub no_record : IsTold no_declarations (ty.union false false (only_row uint32)) (with_seven 9 1) [] (HandleMissing 8)
no_record = (
  (omega arith, omega arith),
  member_broken false false (only_row uint32) (with_seven 9 1) [] (HandleMissing 8) nine_some (λ f e. clash (sym f)) (by_numbers None 8 (start_of 16) (HandleMissing 8) (refl, omega arith)),
)

pub one_record : IsTold no_declarations (ty.union false false (only_row uint32)) (with_seven 9 1) (record_of ∷ []) (HandleMissing 8) → ⊥
one_record h = elim (only_union false false (only_row uint32) (with_seven 9 1) (record_of ∷ []) (HandleMissing 8) (λ p. p) h.1) [
  | inl b ↦ b
  | inr c ↦ let b = of_unknown no_declarations (message_of (with_seven 9 1) (record_of ∷ [])) 0 8 (start_of 16) (HandleMissing 8) c.1 in omega (arith, b.1)
]

pub unknown_cut : IsTold no_declarations (ty.union false false (only_row uint32)) (9 ∷ zeros 7 ++ 8 ∷ zeros 7) [] (Truncated 16)
unknown_cut = (
  (omega arith, omega arith),
  inr (member_broken false false (only_row uint32) (9 ∷ zeros 7 ++ 8 ∷ zeros 7) [] (Truncated 16) nine_some (λ f e. clash (sym f)) (by_numbers None 8 (start_of 16) (Truncated 16) (refl, refl, omega arith))),
)

pub unknown_whole : IsTold no_declarations (ty.union false false (only_row uint32)) (9 ∷ zeros 7 ++ 8 ∷ zeros 15) [] (Truncated 16) → ⊥
unknown_whole h = elim h.1 [
  | inl p ↦ omega (arith, p.0)
  | inr t ↦ elim (only_union false false (only_row uint32) (9 ∷ zeros 7 ++ 8 ∷ zeros 15) [] (Truncated 16) (λ p. p) t) [
    | inl b ↦ b
    | inr c ↦ let b = of_unknown no_declarations (message_of (9 ∷ zeros 7 ++ 8 ∷ zeros 15) []) 0 8 (start_of 16) (Truncated 16) c.1 in omega (arith, b.2)
  ]
]

-- ---- padding in an envelope

abbrev five : List ℕ
five = 1 ∷ zeros 7 ++ 5 ∷ 0 ∷ 3 ∷ 3 ∷ 0 ∷ 0 ∷ 1 ∷ 0 ∷ []

five_there : ValueAt no_declarations (message_of five []) 0 (ty.number uint8) 8 (opened 8 (start_of 16)) (opened 8 (start_of 16))
five_there = record { value = number (pos 5); typed = omega arith; shallow = omega arith; stands = record { inline = (omega arith, refl, tt); out = tt; carried = tt }; end = refl }

pub first_padding : IsTold no_declarations (ty.union false false (only_row uint8)) five [] (Padding 10)
first_padding =
    let s = opened 8 (start_of 16) in (
      (omega arith, omega arith),
      member_broken false false (only_row uint8) five [] (Padding 10) one_some (λ f e. clash (sym f))
          (in_envelope (ty.number uint8) 8 (start_of 16) (Padding 10) (inl (refl, omega arith)) (omega arith)
          (in_later 4 8 0 (part (ty.number uint8)) [] s s (Padding 10) tt five_there (in_end 4 8 1 s (Padding 10) (omega arith, omega arith, (omega arith, refl, tt), λ e. omega (arith, e))))),
    )

-- Padding is true of no other byte
only_there : (at : ℕ) → (IsPadding five 16 16 (Padding at) → ⊥) → (IsPadding five 8 8 (Padding at) → ⊥) → (IsPadding five 9 12 (Padding at) → ⊥) → IsTold no_declarations (ty.union false false (only_row uint8)) five [] (Padding at) → ⊥
only_there at none before between h =
    let m = message_of five [] in
    let s = opened 8 (start_of 16) in
    elim (only_union false false (only_row uint8) five [] (Padding at) none h.1) [
      | inl b ↦ b
      | inr c ↦ elim (of_known no_declarations m 0 (ty.number uint8) 8 (start_of 16) (Padding at) c.1) [
        | inl x ↦ x
        | inr d ↦ elim d [
          | inl y ↦ elim (of_parts no_declarations m 0 4 8 0 (part (ty.number uint8)) [] s (Padding at) y.1) [
            | inl p ↦ before p
            | inr q ↦ elim q [
              | inl n ↦ of_field no_declarations m 0 (ty.number uint8) 8 s (Padding at) (refl, refl, tt) n
              | inr l ↦ between (of_end no_declarations m 0 4 8 1 l.0 (Padding at) l.1)
            ]
          ]
          | inr e ↦ elim e [
            | inl z ↦ (let lt : 4 < 1 = z.0 in omega (arith, lt))
            | inr w ↦ no_padding at w.0
          ]
        ]
      ]
    ]
  where
    no_padding : (at : ℕ) → Padding at ≡ WrongCounts 8 → ⊥
    no_padding at e = cc

pub second_padding : IsTold no_declarations (ty.union false false (only_row uint8)) five [] (Padding 11) → ⊥
second_padding = only_there 11 (λ p. omega (arith, p.0)) (λ p. omega (arith, p.1)) (λ p. let e : 3 ≡ 0 = p.2.2.1 in omega (arith, e))

pub zero_padding : IsTold no_declarations (ty.union false false (only_row uint8)) five [] (Padding 9) → ⊥
zero_padding = only_there 9 (λ p. omega (arith, p.0)) (λ p. omega (arith, p.1)) (λ p. p.3 refl)
