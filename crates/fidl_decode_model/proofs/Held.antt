-- Worked refusals of boxes and vectors, and of what they hold.
use Rattle.std.proofs.Common.{◌≡◌, ℕ, zero, suc, ◌+◌, ◌*◌, ◌<◌, ◌≤◌, List, [], ◌∷◌, ◌++◌, get_or, replicate, refl, sym, subst, arith, inl, inr, true, false}
use Rattle.std.specs.Prelude.{codes}
use Rattle.std.proofs.Math.ListN.{length-replicate}
use Rattle.fidl_wire.specs.Value.{bool}
use Rattle.fidl_wire.specs.Term.{Term, no_fields, field, uint8, uint32}
use Rattle.fidl_wire.specs.Term as ty
use Rattle.fidl_wire.specs.Figure.{Declarations, figure, size_of, no_declarations}
use Rattle.fidl_wire.specs.Encoding.{zeros, present}
use Rattle.fidl_wire.specs.Standing.{Stands}
use Rattle.fidl_wire.proofs.Stand.{copies_stand}
use Rattle.fidl_decode_model.specs.declared.fault.DecodeFault.{DecodeFault}
use Rattle.fidl_decode_model.specs.declared.fault.DecodeFault.TheVariants.{Padding, BadBool, BadCount, OverBound, TooDeep, Truncated}
use Rattle.fidl_decode_model.specs.State.{Message, Position, linked, ValueAt}
use Rattle.fidl_decode_model.specs.Breaks.{Part, Object, element_parts, IsPadding, BreaksField, Breaks, BreaksParts, in_field, in_parts, in_object, in_next, in_later, in_end}
use Rattle.fidl_decode_model.specs.Faults.{IsTold, BreaksMessage, message_of, start_of}
use Rattle.fidl_decode_model.proofs.Inverted.{of_field, of_object, of_pointed, of_parts, of_end}
use Rattle.fidl_decode_model.proofs.Boxed.{box_right}
use Rattle.fidl_decode_model.proofs.Listed.{vector_right}

abbrev part : (offset : ℕ) → Term → Part
part offset t = record { offset = offset; term = t }

-- ---- struct {b box<P>;}

abbrev boxing : Term → Term
boxing t = ty.struct (field (codes "b") (ty.box t) no_fields)

module _ (t : Term) (bytes : List ℕ) (fault : DecodeFault) where
  -- the struct breaks a rule where its box does
  box_broken : Breaks no_declarations (message_of bytes []) 0 (ty.box t) 0 (start_of 8) fault → BreaksMessage no_declarations (boxing t) (message_of bytes []) fault
  box_broken b = inr (in_parts (boxing t) 0 (start_of 8) fault (part 0 (ty.box t) ∷ []) refl (in_next 8 0 0 (part 0 (ty.box t)) [] (start_of 8) fault tt b))

  -- and nowhere else, but for padding
  only_box : (BreaksField (message_of bytes []) (boxing t) 0 fault → ⊥) → (IsPadding bytes 8 8 fault → ⊥) → (IsPadding bytes 0 0 fault → ⊥) → BreaksMessage no_declarations (boxing t) (message_of bytes []) fault → Breaks no_declarations (message_of bytes []) 0 (ty.box t) 0 (start_of 8) fault
  only_box none behind before h =
      let m = message_of bytes [] in
      elim h [
        | inl p ↦ absurd (behind p)
        | inr b ↦ elim (of_parts no_declarations m 0 8 0 0 (part 0 (ty.box t)) [] (start_of 8) fault (of_object no_declarations m 0 (boxing t) 0 (start_of 8) fault (part 0 (ty.box t) ∷ []) none (refl, refl) b)) [
          | inl p ↦ absurd (before p)
          | inr c ↦ elim c [
            | inl x ↦ x
            | inr l ↦ absurd (behind (of_end no_declarations m 0 8 0 8 l.0 fault l.1))
          ]
        ]
      ]

-- its content, with one member
abbrev numbered : Term
numbered = ty.struct (field (codes "v") (ty.number uint32) no_fields)

abbrev truthful : Term
truthful = ty.struct (field (codes "v") ty.bool no_fields)

abbrev behind_box : (size : ℕ) → Position
behind_box size = linked 0 size (start_of 8)

ones_at : (rest : List ℕ) → Stands (replicate 8 255 ++ rest) 0 present
ones_at rest = (omega arith, refl, (omega arith, refl, (omega arith, refl, (omega arith, refl, (omega arith, refl, (omega arith, refl, (omega arith, refl, (omega arith, refl, tt))))))))

pub box_cut : IsTold no_declarations (boxing numbered) (replicate 8 255 ++ zeros 4) [] (Truncated 8)
box_cut = ((omega arith, omega arith), inr (box_broken numbered (replicate 8 255 ++ zeros 4) (Truncated 8) (in_field (ty.box numbered) 0 (start_of 8) (Truncated 8) (refl, ones_at (zeros 4), omega arith))))

pub box_padded : IsTold no_declarations (boxing numbered) (replicate 8 255 ++ zeros 8) [] (Truncated 8) → ⊥
box_padded h =
    let m = message_of (replicate 8 255 ++ zeros 8) [] in
    let o : Object = record { marker = 0; size = 4; parts = part 0 (ty.number uint32) ∷ [] } in
    elim h.1 [
      | inl p ↦ omega (arith, p.0)
      | inr b ↦ elim (of_pointed no_declarations m 0 (ty.box numbered) 0 (start_of 8) (Truncated 8) o (refl, refl) (only_box numbered m.bytes (Truncated 8) (λ x. x) (λ x. x) (λ x. x) b)) [
        | inl r ↦ omega (arith, r.2)
        | inr c ↦ elim (of_parts no_declarations m 1 8 8 0 (part 0 (ty.number uint32)) [] (behind_box 4) (Truncated 8) c) [
          | inl p ↦ p
          | inr d ↦ elim d [
            | inl n ↦ of_field no_declarations m 1 (ty.number uint32) 8 (behind_box 4) (Truncated 8) (refl, refl, tt) n
            | inr l ↦ of_end no_declarations m 1 8 8 4 l.0 (Truncated 8) l.1
          ]
        ]
      ]
    ]

-- a bool of this number stands in the box
abbrev with_bool : (n : ℕ) → List ℕ
with_bool n = replicate 8 255 ++ n ∷ zeros 7

abbrev bool_object : Object
bool_object = record { marker = 0; size = 1; parts = part 0 ty.bool ∷ [] }

pub box_two : IsTold no_declarations (boxing truthful) (with_bool 2) [] (BadBool 8)
box_two =
    let m = message_of (with_bool 2) [] in
    let right = box_right no_declarations refl m 0 truthful 0 (start_of 8) (ones_at (2 ∷ zeros 7)) (omega arith) (omega arith) in (
      (omega arith, omega arith),
      box_broken truthful (with_bool 2) (BadBool 8) (in_object (ty.box truthful) 0 (start_of 8) (BadBool 8) bool_object refl (ones_at (2 ∷ zeros 7)) right
          (in_next 8 8 0 (part 0 ty.bool) [] (behind_box 1) (BadBool 8) tt (in_field ty.bool 8 (behind_box 1) (BadBool 8) (refl, omega arith)))),
    )

pub box_one : IsTold no_declarations (boxing truthful) (with_bool 1) [] (BadBool 8) → ⊥
box_one h =
    let m = message_of (with_bool 1) [] in
    elim (of_pointed no_declarations m 0 (ty.box truthful) 0 (start_of 8) (BadBool 8) bool_object (refl, refl) (only_box truthful m.bytes (BadBool 8) (λ x. x) (λ x. x) (λ x. x) h.1)) [
      | inl r ↦ r
      | inr c ↦ elim (of_parts no_declarations m 1 8 8 0 (part 0 ty.bool) [] (behind_box 1) (BadBool 8) c) [
        | inl p ↦ p
        | inr d ↦ elim d [
          | inl n ↦ let b = of_field no_declarations m 1 ty.bool 8 (behind_box 1) (BadBool 8) (refl, refl, tt) n in omega (arith, b.1)
          | inr l ↦ of_end no_declarations m 1 8 8 1 l.0 (BadBool 8) l.1
        ]
      ]
    ]

abbrev unpadded : List ℕ
unpadded = replicate 8 255 ++ 1 ∷ 0 ∷ 3 ∷ zeros 5

pub box_behind : IsTold no_declarations (boxing truthful) unpadded [] (Padding 10)
box_behind =
    let m = message_of unpadded [] in
    let right = box_right no_declarations refl m 0 truthful 0 (start_of 8) (ones_at (1 ∷ 0 ∷ 3 ∷ zeros 5)) (omega arith) (omega arith) in
    let there : ValueAt no_declarations m 1 ty.bool 8 (behind_box 1) (behind_box 1) = record { value = bool true; typed = tt; shallow = omega arith; stands = record { inline = (omega arith, refl, tt); out = tt; carried = tt }; end = refl } in (
      (omega arith, omega arith),
      box_broken truthful unpadded (Padding 10) (in_object (ty.box truthful) 0 (start_of 8) (Padding 10) bool_object refl (ones_at (1 ∷ 0 ∷ 3 ∷ zeros 5)) right
          (in_later 8 8 0 (part 0 ty.bool) [] (behind_box 1) (behind_box 1) (Padding 10) tt there
          (in_end 8 8 1 (behind_box 1) (Padding 10) (omega arith, omega arith, (omega arith, refl, tt), λ e. omega (arith, e))))),
    )

-- ---- S = struct {next box<S>;}

abbrev link : Term
link = ty.struct (field (codes "next") (ty.box (ty.named 0)) no_fields)

abbrev links : Declarations
links = record { terms = link ∷ []; figures = figure 8 8 1 ∷ [] }

abbrev chain : Message
chain = message_of (replicate 264 255) []

all_ones : (n k : ℕ) → k < n → let x : ℕ = 255 in get_or (replicate n x) k 0 ≡ x
all_ones zero k lt = absurd (omega (arith, lt))
all_ones (suc n) zero lt = refl
all_ones (suc n) (suc k) lt = all_ones n k (omega (arith, lt))

ones_in : (place : ℕ) → place + 8 ≤ 264 → Stands chain.bytes place present
ones_in place le = copies_stand chain.bytes 255 8 place (omega (arith, le, length-replicate {A = ℕ} 264 255)) (λ k from to. all_ones 264 k (omega (arith, to, le)))

-- the box at this depth, with so many more behind it
too_deep : (more held : ℕ) (from : Position) → held + more ≡ 32 → from.next ≡ 8 * held + 8 → Breaks links chain held link (8 * held) from (TooDeep 256)
too_deep zero held from is next =
    let last : 8 * held ≡ 256 = omega (arith, is) in
    in_parts link (8 * held) from (TooDeep 256) (part 0 (ty.box (ty.named 0)) ∷ []) refl
    (in_next 8 (8 * held) 0 (part 0 (ty.box (ty.named 0))) [] from (TooDeep 256) tt
    (in_field (ty.box (ty.named 0)) (8 * held + 0) from (TooDeep 256) (omega (arith, last), ones_in (8 * held + 0) (omega (arith, last)), omega (arith, is))))
too_deep (suc more) held from is next =
    let here : 8 * held + 0 ≡ 8 * held = omega arith in
    let there : from.next ≡ 8 * (held + 1) = omega (arith, next) in
    let ones = ones_in (8 * held + 0) (omega (arith, is)) in
    let len = length-replicate {A = ℕ} 264 255 in
    let right = box_right links refl chain held (ty.named 0) (8 * held + 0) from ones (omega (arith, is)) (omega (arith, next, is, len)) in
    let o : Object = record { marker = 8 * held + 0; size = 8; parts = part 0 (ty.box (ty.named 0)) ∷ [] } in
    let below = too_deep more (held + 1) (linked (8 * held + 0) 8 from) (omega (arith, is)) (omega (arith, next)) in
    in_parts link (8 * held) from (TooDeep 256) (part 0 (ty.box (ty.named 0)) ∷ []) refl
    (in_next 8 (8 * held) 0 (part 0 (ty.box (ty.named 0))) [] from (TooDeep 256) tt
    (in_object (ty.box (ty.named 0)) (8 * held + 0) from (TooDeep 256) o refl ones right
    (subst (λ n. BreaksParts links chain (held + 1) 8 n 0 (part 0 (ty.box (ty.named 0)) ∷ []) (linked (8 * held + 0) 8 from) (TooDeep 256)) (sym there)
    (of_object links chain (held + 1) link (8 * (held + 1)) (linked (8 * held + 0) 8 from) (TooDeep 256) (part 0 (ty.box (ty.named 0)) ∷ []) (λ x. x) (refl, refl) below))))

pub box_too_deep : IsTold links (ty.named 0) (replicate 264 255) [] (TooDeep 256)
box_too_deep = ((omega arith, omega arith), inr (too_deep 32 0 (start_of 8) refl refl))

-- ---- struct {v vector<T>:N;}

abbrev listing : (bound : ℕ) → Term → Term
listing bound t = ty.struct (field (codes "v") (ty.vector false bound t) no_fields)

module _ (bound : ℕ) (t : Term) (bytes : List ℕ) (fault : DecodeFault) where
  -- the struct breaks a rule where its vector does
  vector_broken : Breaks no_declarations (message_of bytes []) 0 (ty.vector false bound t) 0 (start_of 16) fault → BreaksMessage no_declarations (listing bound t) (message_of bytes []) fault
  vector_broken b = inr (in_parts (listing bound t) 0 (start_of 16) fault (part 0 (ty.vector false bound t) ∷ []) refl (in_next 16 0 0 (part 0 (ty.vector false bound t)) [] (start_of 16) fault tt b))

  -- and nowhere else, but for padding
  only_vector : (BreaksField (message_of bytes []) (listing bound t) 0 fault → ⊥) → (IsPadding bytes 16 16 fault → ⊥) →
      (IsPadding bytes 0 0 fault → ⊥) → BreaksMessage no_declarations (listing bound t) (message_of bytes []) fault → Breaks no_declarations
      (message_of bytes []) 0 (ty.vector false bound t) 0 (start_of 16) fault
  only_vector none behind before h =
      let m = message_of bytes [] in
      let v = part 0 (ty.vector false bound t) in
      elim h [
        | inl p ↦ absurd (behind p)
        | inr b ↦ elim (of_parts no_declarations m 0 16 0 0 v [] (start_of 16) fault (of_object no_declarations m 0 (listing bound t) 0 (start_of 16) fault (v ∷ []) none (refl, refl) b)) [
          | inl p ↦ absurd (before p)
          | inr c ↦ elim c [
            | inl x ↦ x
            | inr l ↦ absurd (behind (of_end no_declarations m 0 16 0 16 l.0 fault l.1))
          ]
        ]
      ]

-- a count and a marker, and these bytes
abbrev counting : (n : ℕ) → List ℕ → List ℕ
counting n bytes = n ∷ zeros 7 ++ replicate 8 255 ++ bytes

ones_behind : (n : ℕ) (bytes : List ℕ) → Stands (counting n bytes) 8 present
ones_behind n bytes = (omega arith, refl, (omega arith, refl, (omega arith, refl, (omega arith, refl, (omega arith, refl, (omega arith, refl, (omega arith, refl, (omega arith, refl, tt))))))))

zeros_else : (n : ℕ) (bytes : List ℕ) → Stands (counting n bytes) 8 (zeros 8) → ⊥
zeros_else n bytes z = let e : 255 ≡ 0 = z.1 in omega (arith, e)

abbrev three : List ℕ
three = 1 ∷ 2 ∷ 3 ∷ zeros 5

pub vector_over : IsTold no_declarations (listing 2 (ty.number uint8)) (counting 3 three) [] (OverBound 0)
vector_over = ((omega arith, omega arith), vector_broken 2 (ty.number uint8) (counting 3 three) (OverBound 0) (in_field (ty.vector false 2 (ty.number uint8)) 0 (start_of 16) (OverBound 0) (refl, ones_behind 3 three, omega arith)))

-- of the elements of a vector that is right by itself, this one
abbrev held_at : (size : ℕ) → Position
held_at size = linked 8 size (start_of 16)

abbrev three_numbers : Object
three_numbers = record { marker = 8; size = 3; parts = part 0 (ty.number uint8) ∷ part 1 (ty.number uint8) ∷ part 2 (ty.number uint8) ∷ [] }

-- an object of numbers breaks a rule only in its padding
numbers_hold : (m : Message) (kind : ty.Kind) (each size base n done : ℕ) (from : Position) (fault : DecodeFault) → ((a b : ℕ) → IsPadding m.bytes a b fault → ⊥)
    → BreaksParts no_declarations m 1 size base done (element_parts no_declarations (ty.number kind) n each) from fault → ⊥
numbers_hold m kind each size base zero done from fault no_gap b = no_gap _ _ (of_end no_declarations m 1 size base done from fault b)
numbers_hold m kind each size base (suc n) done from fault no_gap b =
    elim (of_parts no_declarations m 1 size base done (part each (ty.number kind)) (element_parts no_declarations (ty.number kind) n (each + size_of no_declarations (ty.number kind))) from fault b) [
      | inl p ↦ no_gap _ _ p
      | inr d ↦ elim d [
        | inl x ↦ of_field no_declarations m 1 (ty.number kind) (base + each) from fault (refl, refl, tt) x
        | inr l ↦ numbers_hold m kind (each + size_of no_declarations (ty.number kind)) size base n (each + size_of no_declarations (ty.number kind)) l.0 fault no_gap l.1
      ]
    ]

pub vector_within : IsTold no_declarations (listing 3 (ty.number uint8)) (counting 3 three) [] (OverBound 0) → ⊥
vector_within h =
    let m = message_of (counting 3 three) [] in
    elim (of_pointed no_declarations m 0 (ty.vector false 3 (ty.number uint8)) 0 (start_of 16) (OverBound 0) three_numbers (refl, refl) (only_vector 3 (ty.number uint8) m.bytes (OverBound 0) (λ x. x) (λ x. x) (λ x. x) h.1)) [
      | inl r ↦ omega (arith, r.2)
      | inr c ↦ numbers_hold m uint8 0 8 16 3 0 (held_at 3) (OverBound 0) (λ a b x. x) c
    ]

pub three_too_many : IsTold no_declarations (listing 9 (ty.number uint32)) (counting 3 (zeros 8)) [] (BadCount 0)
three_too_many = (
  (omega arith, omega arith),
  vector_broken 9 (ty.number uint32) (counting 3 (zeros 8)) (BadCount 0)
      (in_field (ty.vector false 9 (ty.number uint32)) 0 (start_of 16) (BadCount 0) (refl, inr (ones_behind 3 (zeros 8), omega arith))),
)

abbrev two_numbers : Object
two_numbers = record { marker = 8; size = 8; parts = part 0 (ty.number uint32) ∷ part 4 (ty.number uint32) ∷ [] }

pub two_fit : IsTold no_declarations (listing 9 (ty.number uint32)) (counting 2 (zeros 8)) [] (BadCount 0) → ⊥
two_fit h =
    let m = message_of (counting 2 (zeros 8)) [] in
    elim (of_pointed no_declarations m 0 (ty.vector false 9 (ty.number uint32)) 0 (start_of 16) (BadCount 0) two_numbers (refl, refl) (only_vector 9 (ty.number uint32) m.bytes (BadCount 0) (λ x. x) (λ x. x) (λ x. x) h.1)) [
      | inl r ↦ elim r.1 [ inl z ↦ zeros_else 2 (zeros 8) z.0 | inr p ↦ omega (arith, p.1) ]
      | inr c ↦ numbers_hold m uint32 0 8 16 2 0 (held_at 8) (BadCount 0) (λ a b x. x) c
    ]

abbrev two_bools : Object
two_bools = record { marker = 8; size = 2; parts = part 0 ty.bool ∷ part 1 ty.bool ∷ [] }

abbrev bools : List ℕ
bools = counting 2 (1 ∷ 2 ∷ zeros 6)

pub second_element : IsTold no_declarations (listing 9 ty.bool) bools [] (BadBool 17)
second_element =
    let m = message_of bools [] in
    let right = vector_right no_declarations refl m 0 false 9 (omega arith) ty.bool 0 (start_of 16) (ones_behind 2 (1 ∷ 2 ∷ zeros 6)) (omega arith) (omega arith) (omega arith) in
    let there : ValueAt no_declarations m 1 ty.bool 16 (held_at 2) (held_at 2) = record { value = bool true; typed = tt; shallow = omega arith; stands = record { inline = (omega arith, refl, tt); out = tt; carried = tt }; end = refl } in (
      (omega arith, omega arith),
      vector_broken 9 ty.bool bools (BadBool 17) (in_object (ty.vector false 9 ty.bool) 0 (start_of 16) (BadBool 17) two_bools refl (ones_behind 2 (1 ∷ 2 ∷ zeros 6)) right
          (in_later 8 16 0 (part 0 ty.bool) (part 1 ty.bool ∷ []) (held_at 2) (held_at 2) (BadBool 17) tt there
          (in_next 8 16 1 (part 1 ty.bool) [] (held_at 2) (BadBool 17) tt (in_field ty.bool 17 (held_at 2) (BadBool 17) (refl, omega arith))))),
    )

pub first_element : IsTold no_declarations (listing 9 ty.bool) bools [] (BadBool 16) → ⊥
first_element h =
    let m = message_of bools [] in
    elim (of_pointed no_declarations m 0 (ty.vector false 9 ty.bool) 0 (start_of 16) (BadBool 16) two_bools (refl, refl) (only_vector 9 ty.bool m.bytes (BadBool 16) (λ x. x) (λ x. x) (λ x. x) h.1)) [
      | inl r ↦ r
      | inr c ↦ elim (of_parts no_declarations m 1 8 16 0 (part 0 ty.bool) (part 1 ty.bool ∷ []) (held_at 2) (BadBool 16) c) [
        | inl p ↦ p
        | inr d ↦ elim d [
          | inl n ↦ let b = of_field no_declarations m 1 ty.bool 16 (held_at 2) (BadBool 16) (refl, refl, tt) n in omega (arith, b.1)
          | inr l ↦ elim (of_parts no_declarations m 1 8 16 1 (part 1 ty.bool) [] l.0 (BadBool 16) l.1) [
            | inl p ↦ p
            | inr e ↦ elim e [
              | inl n ↦ let b = of_field no_declarations m 1 ty.bool 17 l.0 (BadBool 16) (refl, refl, tt) n in omega (arith, b.0)
              | inr z ↦ of_end no_declarations m 1 8 16 2 z.0 (BadBool 16) z.1
            ]
          ]
        ]
      ]
    ]
