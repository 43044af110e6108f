-- What a message that breaks a rule says of its parts, and worked refusals.
use Rattle.std.proofs.Common.{◌≡◌, ◌≢◌, ℕ, ◌+◌, ◌*◌, ◌<◌, ◌≤◌, List, [], ◌∷◌, refl, sym, subst, ◌∙◌, arith, inl, inr, true, pos}
use Rattle.std.specs.Prelude.{◌⊎◌, Bool, Some, None, codes}
use Rattle.std.specs.Int.{next_multiple_of}
use Rattle.fidl_wire.specs.Value.{bool, number}
use Rattle.fidl_wire.specs.Term.{Term, Rows, find, no_fields, field, uint8, uint32, resolve}
use Rattle.fidl_wire.specs.Term as ty
use Rattle.fidl_wire.specs.Figure.{Declarations, no_declarations, size_of}
use Rattle.fidl_wire.specs.Encoding.{zeros}
use Rattle.fidl_decode_model.specs.declared.fault.DecodeFault.{DecodeFault}
use Rattle.fidl_decode_model.specs.declared.fault.DecodeFault.TheVariants.{Padding, BadBool, WrongCounts}
use Rattle.fidl_decode_model.specs.State.{Message, Position, opened, linked, ValueAt}
use Rattle.fidl_decode_model.specs.Breaks.{Part, parts_of, Object, object_of, count_at, ordinal_at, IsPadding, BreaksTable, BreaksUnion, BreaksRule, Breaks, BreaksParts, BreaksEnvelopes, BreaksMember}
use Rattle.fidl_decode_model.specs.Breaks.{in_field, in_parts, in_object, in_table, in_union, by_numbers, in_envelope, out_of_line, by_counts, in_gap, in_next, in_later, in_end}
use Rattle.fidl_decode_model.specs.Envelopes.{BreaksEnvelope, Miscounts}
use Rattle.fidl_decode_model.specs.Faults.{IsTold, message_of, start_of}

no_part : (ps : List Part) → None ≡ Some ps → ⊥
no_part ps e = cc

no_object : (o : Object) → None ≡ Some o → ⊥
no_object o e = cc

only_object : (o p : Object) → Some o ≡ Some p → o ≡ p
only_object o p e = cc

only_parts : (ps qs : List Part) → Some ps ≡ Some qs → ps ≡ qs
only_parts ps qs e = cc

-- neither a table nor a union
abbrev pub HasNoEnvelope : Term → Type 0
HasNoEnvelope (ty.table rows) = ⊥
HasNoEnvelope (ty.union optional strict rows) = ⊥
HasNoEnvelope t = Unit {0}

module _ (ds : Declarations) (m : Message) (held : ℕ) where
  -- a field breaks its own rule
  pub of_field : (t : Term) (place : ℕ) (from : Position) (fault : DecodeFault) → (parts_of ds t ≡ None) × (object_of ds m.bytes t place ≡ None) × HasNoEnvelope t → Breaks ds m held t place from fault → BreaksRule ds m held t place from.next from.handle fault
  of_field t place from fault none (in_field t' place' from' fault' b) = b
  of_field t place from fault none (in_parts t' place' from' fault' ps is b) = absurd (no_part ps (sym none.0 ∙ is))
  of_field t place from fault none (in_object t' place' from' fault' o is ones right b) = absurd (no_object o (sym none.1 ∙ is))
  of_field t place from fault none (in_table rows place' from' fault' ones right b) = absurd none.2
  of_field t place from fault none (in_union optional strict rows place' from' fault' some right b) = absurd none.2

  -- an object with parts breaks a rule in one of them, or in a gap
  pub of_object : (t : Term) (place : ℕ) (from : Position) (fault : DecodeFault) (ps : List Part) →
      (BreaksRule ds m held t place from.next from.handle fault → ⊥) → (parts_of ds t ≡ Some ps) × (object_of ds m.bytes t place ≡ None) → Breaks ds m
      held t place from fault → BreaksParts ds m held (size_of ds t) place 0 ps from fault
  of_object t place from fault ps none is (in_field t' place' from' fault' b) = absurd (none b)
  of_object t place from fault ps none is (in_parts t' place' from' fault' qs has b) = subst (λ (l : List Part). BreaksParts ds m held (size_of ds t) place 0 l from fault) (only_parts qs ps (sym has ∙ is.0)) b
  of_object t place from fault ps none is (in_object t' place' from' fault' o has ones right b) = absurd (no_object o (sym is.1 ∙ has))
  of_object t place from fault ps none is (in_table rows place' from' fault' ones right b) = absurd (no_part ps is.0)
  of_object t place from fault ps none is (in_union optional strict rows place' from' fault' some right b) = absurd (no_part ps is.0)

  -- what points to an object breaks its own rule, or the object does
  pub of_pointed : (t : Term) (place : ℕ) (from : Position) (fault : DecodeFault) (o : Object) → (parts_of ds t ≡ None) × (object_of ds m.bytes t place ≡ Some o) → Breaks ds m held t place from fault
      → BreaksRule ds m held t place from.next from.handle fault ⊎ BreaksParts ds m (held + 1) (next_multiple_of o.size 8) from.next 0 o.parts (linked o.marker o.size from) fault
  of_pointed t place from fault o is (in_field t' place' from' fault' b) = inl b
  of_pointed t place from fault o is (in_parts t' place' from' fault' ps has b) = absurd (no_part ps (sym is.0 ∙ has))
  of_pointed t place from fault o is (in_object t' place' from' fault' p has ones right b) =
      inr (subst (λ (o : Object). BreaksParts ds m (held + 1) (next_multiple_of o.size 8) from.next 0 o.parts (linked o.marker o.size from) fault) (only_object p o (sym has ∙ is.1)) b)
  of_pointed t place from fault o is (in_table rows place' from' fault' ones right b) = absurd (no_object o is.1)
  of_pointed t place from fault o is (in_union optional strict rows place' from' fault' some right b) = absurd (no_object o is.1)

  -- a table breaks its own rule, or its envelopes do
  pub of_table : (rows : Rows) (place : ℕ) (from : Position) (fault : DecodeFault) → Breaks ds m held (ty.table rows) place from fault
      → BreaksTable m held place from.next fault ⊎ BreaksEnvelopes ds m (held + 1) rows 1 (count_at m.bytes place) from.next (linked (place + 8) (8 * count_at m.bytes place) from) fault
  of_table rows place from fault (in_field t' place' from' fault' b) = inl b
  of_table rows place from fault (in_parts t' place' from' fault' ps has b) = absurd (no_part ps has)
  of_table rows place from fault (in_object t' place' from' fault' o has ones right b) = absurd (no_object o has)
  of_table rows place from fault (in_table rows' place' from' fault' ones right b) = inr b

  -- a union breaks its own rule, or its member does
  pub of_union : (optional strict : Bool) (rows : Rows) (place : ℕ) (from : Position) (fault : DecodeFault) → Breaks ds m held (ty.union optional strict rows) place from fault
      → BreaksUnion m optional strict rows place fault ⊎ ((ordinal_at m.bytes place ≢ 0) × BreaksMember ds m held (find rows (ordinal_at m.bytes place)) (place + 8) from fault)
  of_union optional strict rows place from fault (in_field t' place' from' fault' b) = inl b
  of_union optional strict rows place from fault (in_parts t' place' from' fault' ps has b) = absurd (no_part ps has)
  of_union optional strict rows place from fault (in_object t' place' from' fault' o has ones right b) = absurd (no_object o has)
  of_union optional strict rows place from fault (in_union optional' strict' rows' place' from' fault' some right b) = inr (some, b)

  -- an unknown member breaks a rule by its envelope's numbers
  pub of_unknown : (envelope : ℕ) (from : Position) (fault : DecodeFault) → BreaksMember ds m held None envelope from fault → BreaksEnvelope ds m held None envelope from.next from.handle fault
  of_unknown envelope from fault (by_numbers t' envelope' from' fault' b) = b

  -- a known one does, or in its content, or by what its envelope counts
  abbrev pub Known : Term → (envelope : ℕ) → Position → DecodeFault → Type 0
  Known t envelope from fault = BreaksEnvelope ds m held (Some t) envelope from.next from.handle fault
      ⊎ (((size_of ds t ≤ 4) × BreaksParts ds m held 4 envelope 0 (record { offset = 0; term = t } ∷ []) (opened envelope from) fault)
      ⊎ (((4 < size_of ds t) × BreaksParts ds m (held + 1) (next_multiple_of (size_of ds t) 8) from.next 0 (record { offset = 0; term = t } ∷ []) (linked envelope (size_of ds t) (opened envelope from)) fault)
      ⊎ ((fault ≡ WrongCounts envelope) × Miscounts ds m held t envelope from)))

  pub of_known : (t : Term) (envelope : ℕ) (from : Position) (fault : DecodeFault) → BreaksMember ds m held (Some t) envelope from fault → Known t envelope from fault
  of_known t envelope from fault (by_numbers t' envelope' from' fault' b) = inl b
  of_known t envelope from fault (in_envelope u envelope' from' fault' can le b) = inr (inl (le, b))
  of_known t envelope from fault (out_of_line u envelope' from' fault' can gt right b) = inr (inr (inl (gt, b)))
  of_known t envelope from fault (by_counts u envelope' from' wrong) = inr (inr (inr (refl, wrong)))

  pub of_parts : (size base done : ℕ) (p : Part) (ps : List Part) (from : Position) (fault : DecodeFault) → BreaksParts ds m held size base done (p ∷ ps) from fault
      → IsPadding m.bytes (base + done) (base + p.offset) fault ⊎ (Breaks ds m held (resolve ds.terms p.term) (base + p.offset) from fault ⊎ ((mid : Position) × BreaksParts ds m held size base (p.offset + size_of ds p.term) ps mid fault))
  of_parts size base done p ps from fault (in_gap size' base' done' p' ps' from' fault' b) = inl b
  of_parts size base done p ps from fault (in_next size' base' done' p' ps' from' fault' z b) = inr (inl b)
  of_parts size base done p ps from fault (in_later size' base' done' p' ps' from' mid fault' z i b) = inr (inr (mid, b))

  pub of_end : (size base done : ℕ) (from : Position) (fault : DecodeFault) → BreaksParts ds m held size base done [] from fault → IsPadding m.bytes (base + done) (base + size) fault
  of_end size base done from fault (in_end size' base' done' from' fault' b) = b

-- ---- struct {a uint8; b uint32;}

abbrev two_bad : Message
two_bad = message_of (1 ∷ 0 ∷ 1 ∷ 1 ∷ 2 ∷ 0 ∷ 0 ∷ 0 ∷ []) []

abbrev pair : Term
pair = ty.struct (field (codes "a") (ty.number uint8) (field (codes "b") (ty.number uint32) no_fields))

abbrev part_a : Part
part_a = record { offset = 0; term = ty.number uint8 }

abbrev part_b : Part
part_b = record { offset = 4; term = ty.number uint32 }

number_a : (from : Position) → ValueAt no_declarations two_bad 0 (ty.number uint8) 0 from from
number_a from = record { value = number (pos 1); typed = omega arith; shallow = omega arith; stands = record { inline = (omega arith, refl, tt); out = tt; carried = tt }; end = refl }

pub first_bad : IsTold no_declarations pair two_bad.bytes two_bad.handles (Padding 2)
first_bad = (
  (omega arith, omega arith),
  inr (in_parts pair 0 (start_of 8) (Padding 2) (part_a ∷ part_b ∷ []) refl
      (in_later 8 0 0 part_a (part_b ∷ []) (start_of 8) (start_of 8) (Padding 2) tt (number_a (start_of 8))
      (in_gap 8 0 1 part_b [] (start_of 8) (Padding 2) (omega arith, omega arith, (omega arith, refl, tt), λ e. omega (arith, e))))),
)

-- Padding is true of no other byte
only_there : (at : ℕ) → (IsPadding two_bad.bytes 8 8 (Padding at) → ⊥) → (IsPadding two_bad.bytes 0 0 (Padding at) → ⊥) → (IsPadding two_bad.bytes 1 4 (Padding at) → ⊥) → IsTold no_declarations pair two_bad.bytes two_bad.handles (Padding at) → ⊥
only_there at behind before between h = elim h.1 [
  | inl p ↦ behind p
  | inr b ↦ elim (of_parts no_declarations two_bad 0 8 0 0 part_a (part_b ∷ []) (start_of 8) (Padding at) (of_object no_declarations two_bad 0 pair 0 (start_of 8) (Padding at) (part_a ∷ part_b ∷ []) (λ x. x) (refl, refl) b)) [
    | inl p ↦ before p
    | inr c ↦ elim c [
      | inl n ↦ of_field no_declarations two_bad 0 (ty.number uint8) 0 (start_of 8) (Padding at) (refl, refl, tt) n
      | inr l ↦ elim (of_parts no_declarations two_bad 0 8 0 1 part_b [] l.0 (Padding at) l.1) [
        | inl p ↦ between p
        | inr d ↦ elim d [
          | inl n ↦ of_field no_declarations two_bad 0 (ty.number uint32) 4 l.0 (Padding at) (refl, refl, tt) n
          | inr e ↦ behind (of_end no_declarations two_bad 0 8 0 8 e.0 (Padding at) e.1)
        ]
      ]
    ]
  ]
]

pub second_bad : IsTold no_declarations pair two_bad.bytes two_bad.handles (Padding 3) → ⊥
second_bad = only_there 3 (λ p. omega (arith, p.0)) (λ p. omega (arith, p.1)) (λ p. let e : 1 ≡ 0 = p.2.2.1 in omega (arith, e))

pub member_bad : IsTold no_declarations pair two_bad.bytes two_bad.handles (Padding 4) → ⊥
member_bad = only_there 4 (λ p. omega (arith, p.0)) (λ p. omega (arith, p.1)) (λ p. omega (arith, p.1))

-- ---- struct {v array<bool, 2>;}, and of uint8

abbrev ones : Message
ones = message_of (1 ∷ 2 ∷ zeros 6) []

abbrev first_of_type : Term → Part
first_of_type t = record { offset = 0; term = t }

abbrev second_of_type : Term → Part
second_of_type t = record { offset = 1; term = t }

abbrev array_of : Term → Part
array_of t = record { offset = 0; term = ty.array t 2 }

true_there : (from : Position) → ValueAt no_declarations ones 0 ty.bool 0 from from
true_there from = record { value = bool true; typed = tt; shallow = omega arith; stands = record { inline = (omega arith, refl, tt); out = tt; carried = tt }; end = refl }

pub bad_element : IsTold no_declarations (ty.struct (field (codes "v") (ty.array ty.bool 2) no_fields)) ones.bytes ones.handles (BadBool 1)
bad_element = (
  (omega arith, omega arith),
  inr (in_parts (ty.struct (field (codes "v") (ty.array ty.bool 2) no_fields)) 0 (start_of 2) (BadBool 1) (array_of ty.bool ∷ []) refl
      (in_next 2 0 0 (array_of ty.bool) [] (start_of 2) (BadBool 1) tt
      (in_parts (ty.array ty.bool 2) 0 (start_of 2) (BadBool 1) (first_of_type ty.bool ∷ second_of_type ty.bool ∷ []) refl
      (in_later 2 0 0 (first_of_type ty.bool) (second_of_type ty.bool ∷ []) (start_of 2) (start_of 2) (BadBool 1) tt (true_there (start_of 2))
      (in_next 2 0 1 (second_of_type ty.bool) [] (start_of 2) (BadBool 1) tt (in_field ty.bool 1 (start_of 2) (BadBool 1) (refl, omega arith))))))),
)

no_bool : (place : ℕ) (from : Position) → Breaks no_declarations ones 0 (ty.number uint8) place from (BadBool 1) → ⊥
no_bool place from b = of_field no_declarations ones 0 (ty.number uint8) place from (BadBool 1) (refl, refl, tt) b

no_element : (from : Position) → Breaks no_declarations ones 0 (ty.array (ty.number uint8) 2) 0 from (BadBool 1) → ⊥
no_element from b = elim (of_parts no_declarations ones 0 2 0 0 (first_of_type (ty.number uint8)) (second_of_type (ty.number uint8) ∷ []) from (BadBool 1)
    (of_object no_declarations ones 0 (ty.array (ty.number uint8) 2) 0 from (BadBool 1) (first_of_type (ty.number uint8) ∷ second_of_type (ty.number uint8) ∷ []) (λ x. x) (refl, refl) b)) [
      | inl p ↦ p
      | inr c ↦ elim c [
        | inl n ↦ no_bool 0 from n
        | inr l ↦ elim (of_parts no_declarations ones 0 2 0 1 (second_of_type (ty.number uint8)) [] l.0 (BadBool 1) l.1) [
          | inl p ↦ p
          | inr d ↦ elim d [
            | inl n ↦ no_bool 1 l.0 n
            | inr e ↦ of_end no_declarations ones 0 2 0 2 e.0 (BadBool 1) e.1
          ]
        ]
      ]
    ]

pub number_no_bool : IsTold no_declarations (ty.struct (field (codes "v") (ty.array (ty.number uint8) 2) no_fields)) ones.bytes ones.handles (BadBool 1) → ⊥
number_no_bool h = elim h.1 [
  | inl p ↦ p
  | inr b ↦ elim (of_parts no_declarations ones 0 2 0 0 (array_of (ty.number uint8)) [] (start_of 2) (BadBool 1)
      (of_object no_declarations ones 0 (ty.struct (field (codes "v") (ty.array (ty.number uint8) 2) no_fields)) 0 (start_of 2) (BadBool 1) (array_of (ty.number uint8) ∷ []) (λ x. x) (refl, refl) b)) [
        | inl p ↦ p
        | inr c ↦ elim c [
          | inl n ↦ no_element (start_of 2) n
          | inr l ↦ of_end no_declarations ones 0 2 0 2 l.0 (BadBool 1) l.1
        ]
      ]
]
