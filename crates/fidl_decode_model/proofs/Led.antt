-- Worked links: a text, a handle and members where the links lead, and not where they lead elsewhere.
use Rattle.std.proofs.Common.{◌≡◌, ℕ, List, [], ◌∷◌, ◌++◌, true, false, pos, refl, ap, arith}
use Rattle.std.specs.Prelude.{Some, codes, replicate}
use Rattle.fidl_wire.specs.declared.handle.HandleInfo.{HandleInfo}
use Rattle.fidl_wire.specs.Value.{Value, number, text, handle, fields, table, union, none, value, known, unknown, member, empty}
use Rattle.fidl_wire.specs.Term.{Term, no_fields, field, no_rows, row, uint64}
use Rattle.fidl_wire.specs.Term as ty
use Rattle.fidl_wire.specs.Figure.{no_declarations}
use Rattle.fidl_wire.specs.Encoding.{zeros}
use Rattle.fidl_wire.specs.Standing.{Stands}
use Rattle.fidl_wire.proofs.Stand.{stands_front, stands_from_rest}
use Rattle.fidl_decode_model.specs.Faults.{message_of}
use Rattle.fidl_decode_model.specs.Links.{Linked}
use Rattle.fidl_decode_model.specs.Placed.{Placed}

-- ---- a text

abbrev texts : Term
texts = ty.struct (field (codes "value") (ty.string false 3) no_fields)

abbrev three : List ℕ
three = 3 ∷ zeros 7 ++ replicate 8 255 ++ 97 ∷ 98 ∷ 99 ∷ zeros 5

abbrev abc : Value
abc = text (97 ∷ 98 ∷ 99 ∷ [])

abbrev leads_to : ℕ → Linked
leads_to n = record { objects = 0 ∷ n ∷ []; records = [] }

marked : Stands three 0 (3 ∷ zeros 7 ++ replicate 8 255)
marked = stands_front three 0 (3 ∷ zeros 7 ++ replicate 8 255) (97 ∷ 98 ∷ 99 ∷ zeros 5) (stands_from_rest three 0 three refl)

pub text_there : Placed no_declarations (message_of three []) (leads_to 16) texts 0 (fields (value abc none))
text_there = (marked, ((marked, stands_front three 16 (97 ∷ 98 ∷ 99 ∷ []) (zeros 5) (stands_from_rest three 16 (97 ∷ 98 ∷ 99 ∷ zeros 5) refl)), tt))

pub text_elsewhere : Placed no_declarations (message_of three []) (leads_to 8) texts 0 (fields (value abc none)) → ⊥
text_elsewhere h = let e : 255 ≡ 97 = h.1.0.1.1 in omega (arith, e)

-- ---- a handle

abbrev one : HandleInfo
one = record { id = 1; object_type = 3; rights = 0 }

abbrev two : HandleInfo
two = record { id = 2; object_type = 3; rights = 0 }

abbrev holder : Term
holder = ty.struct (field (codes "h") (ty.handle false 0 0) no_fields)

abbrev ones : List ℕ
ones = replicate 4 255 ++ zeros 4

abbrev second : Linked
second = record { objects = []; records = 2 ∷ [] }

same_record : Some two ≡ Some one → ⊥
same_record e = let i : two ≡ one = cc in let n : 2 ≡ 1 = ap (λ (x : HandleInfo). x.id) i in omega (arith, n)

pub second_there : Placed no_declarations (message_of ones (one ∷ two ∷ [])) second holder 0 (fields (value (handle two) none))
second_there = let there = stands_from_rest ones 0 ones refl in
    (stands_front ones 0 (replicate 4 255) (zeros 4) there, ((stands_front ones 0 (replicate 4 255) (zeros 4) there, refl), tt))

pub first_not : Placed no_declarations (message_of ones (one ∷ two ∷ [])) second holder 0 (fields (value (handle one) none)) → ⊥
first_not h = same_record h.1.0.1

-- ---- a member out of line

abbrev numbers : Term
numbers = ty.table (row 1 (codes "n") (ty.number uint64) no_rows)

abbrev seven : List ℕ
seven = 1 ∷ zeros 7 ++ replicate 8 255 ++ 8 ∷ zeros 7 ++ 7 ∷ zeros 7

abbrev points_to : ℕ → Linked
points_to n = record { objects = 0 ∷ 16 ∷ n ∷ []; records = [] }

pub member_there : Placed no_declarations (message_of seven []) (points_to 24) numbers 0 (table 1 (member 1 (known (number (pos 7))) empty))
member_there = (
  stands_front seven 0 (1 ∷ zeros 7 ++ replicate 8 255) (8 ∷ zeros 7 ++ 7 ∷ zeros 7) (stands_from_rest seven 0 seven refl),
  stands_front seven 16 (8 ∷ zeros 7) (7 ∷ zeros 7) (stands_from_rest seven 16 (8 ∷ zeros 7 ++ 7 ∷ zeros 7) refl),
  (stands_from_rest seven 24 (7 ∷ zeros 7) refl, tt),
)

pub member_elsewhere : Placed no_declarations (message_of seven []) (points_to 16) numbers 0 (table 1 (member 1 (known (number (pos 7))) empty)) → ⊥
member_elsewhere h = let e : 8 ≡ 7 = h.2.0.1 in omega (arith, e)

-- ---- the handles of an unknown member

abbrev others : Term
others = ty.union false false no_rows

abbrev ninth : List ℕ
ninth = 9 ∷ zeros 7 ++ 1 ∷ 2 ∷ 3 ∷ 4 ∷ 1 ∷ 0 ∷ 1 ∷ 0 ∷ []

abbrev from_second : Linked
from_second = record { objects = []; records = 0 ∷ 0 ∷ 0 ∷ 2 ∷ [] }

pub own_handle : Placed no_declarations (message_of ninth (one ∷ two ∷ [])) from_second others 0 (union 9 (unknown true (1 ∷ 2 ∷ 3 ∷ 4 ∷ []) (two ∷ [])))
own_handle = (
  stands_from_rest ninth 0 ninth refl,
  (stands_front ninth 8 (1 ∷ 2 ∷ 3 ∷ 4 ∷ []) (1 ∷ 0 ∷ 1 ∷ 0 ∷ []) (stands_from_rest ninth 8 (1 ∷ 2 ∷ 3 ∷ 4 ∷ 1 ∷ 0 ∷ 1 ∷ 0 ∷ []) refl), (refl, tt)),
)

pub other_handle : Placed no_declarations (message_of ninth (one ∷ two ∷ [])) from_second others 0 (union 9 (unknown true (1 ∷ 2 ∷ 3 ∷ 4 ∷ []) (one ∷ []))) → ⊥
other_handle h = same_record h.1.1.0
