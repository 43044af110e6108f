-- The words by which types are told apart, as the code has them.
use Rattle.std.specs.Prelude.{ℕ, Bool, true, false, List, [], ◌∷◌}
use Rattle.fidl_wire.specs.Term.{Term, Kind}
use Rattle.fidl_wire.specs.Term as ty

abbrev pub flag : Bool → ℕ
flag true = 1
flag false = 0

abbrev pub rank : Kind → ℕ
rank ty.int8 = 0
rank ty.int16 = 1
rank ty.int32 = 2
rank ty.int64 = 3
rank ty.uint8 = 4
rank ty.uint16 = 5
rank ty.uint32 = 6
rank ty.uint64 = 7

-- a number for its kind, and its parts; what it holds comes last
abbrev pub words : Term → List ℕ
words ty.bool = 0 ∷ []
words (ty.number kind) = 1 ∷ rank kind ∷ []
words (ty.handle optional subtype rights) = 2 ∷ flag optional ∷ subtype ∷ rights ∷ []
words (ty.string optional bound) = 3 ∷ flag optional ∷ bound ∷ []
words (ty.vector optional bound t) = 4 ∷ flag optional ∷ bound ∷ words t
words (ty.array t n) = 5 ∷ n ∷ words t
words (ty.box t) = 6 ∷ words t
words (ty.named i) = 7 ∷ i ∷ []
words _ = []
