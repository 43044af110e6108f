-- The elements of an array or a vector, one by one (docs/views.md, "Elements").
use Rattle.std.specs.Prelude.{ℕ, zero, suc, ◌+◌, List, [], ◌∷◌}
use Rattle.fidl_wire.specs.Value.{Values, none, value}
use Rattle.fidl_decode_model.specs.Model.{Shown}
use Rattle.fidl_view.specs.Shows.{Shows}

-- what a view is seen as: a decoded message, the entry of a part's type, and the part's place in
-- the message
pub record Part : Type 0 where
  pub message : Shown
  pub index : ℕ
  pub place : ℕ

-- these three as one
abbrev pub part : Shown → (index place : ℕ) → Part
part d index place = record { message = d; index = index; place = place }

-- parts of one entry, each of this size, one behind the other from a place on
abbrev pub parts_from : Shown → (index size place count : ℕ) → List Part
parts_from d index size place zero = []
parts_from d index size place (suc n) = part d index place
    ∷ parts_from d index size (place + size) n

-- as many parts as values, each of which shows its value
abbrev pub ShowEach : List Part → Values → Type 0
ShowEach [] none = Unit {0}
ShowEach (p ∷ ps) none = ⊥
ShowEach [] (value v vs) = ⊥
ShowEach (p ∷ ps) (value v vs) = Shows p.message p.index p.place v × ShowEach ps vs

-- each part shows some value
abbrev pub HaveValues : List Part → Type 0
HaveValues ps = (vs : Values) × ShowEach ps vs
