-- What can be absent, by its kind.
use Rattle.std.proofs.Common.{◌≡◌, List, ℕ, refl, subst}
use Rattle.fidl_wire.specs.Figure.{Declarations}
use Rattle.fidl_wire.specs.Term.{Term}
use Rattle.fidl_wire.specs.Term as ty
use Rattle.fidl_wire.specs.Value.{Value, absent}
use Rattle.fidl_table_format.specs.declared.record.Entry.{Entry}
use Rattle.fidl_table_format.specs.declared.record.Header.{Header}
use Rattle.fidl_table_format.specs.declared.kind.EntryKind.{EntryKind}
use Rattle.fidl_table_format.specs.declared.kind.EntryKind.TheVariants.{Bool as Boolean, Vector, Array, Box, Struct, Table, Union}
use Rattle.fidl_table_format.specs.Terms.{term_as}
use Rattle.fidl_spelling.specs.Words.{Words}
use Rattle.fidl_spelling.specs.Spells.{Absence, Spelled}
use Rattle.fidl_reading.specs.Reads.{StandsNot, IsLeaf}

-- what is absent is spelled so
pub absent_spelled : (ds : Declarations) (t : Term) (ws r : Words) → Absence t ws r → Spelled ds t absent ws r
absent_spelled ds ty.bool ws r p = p
absent_spelled ds _ ws r p = p

pub spelled_absent : (ds : Declarations) (t : Term) (ws r : Words) → Spelled ds t absent ws r → Absence t ws r
spelled_absent ds ty.bool ws r p = p
spelled_absent ds _ ws r p = p

-- what is spelled is not absent, where no absence is
pub no_absent : (ds : Declarations) (k : EntryKind) (b : List ℕ) (h : Header) (e : Entry) (ws : Words) → StandsNot (Absence (term_as k b h e)) ws → (v : Value) (r : Words) → Spelled ds (term_as k b h e) v ws r → v ≡ absent → ⊥
no_absent ds k b h e ws none v r p same = none r (spelled_absent ds (term_as k b h e) ws r (subst (λ u. Spelled ds (term_as k b h e) u ws r) same p))

-- a kind that is none of those that hold values
pub other_leaf : (k : EntryKind) → (k ≡ Array → ⊥) → (k ≡ Vector → ⊥) → (k ≡ Struct → ⊥) → (k ≡ Box → ⊥) → (k ≡ Table → ⊥) → (k ≡ Union → ⊥) → IsLeaf k
other_leaf Array a v s b t u = a refl
other_leaf Vector a v s b t u = v refl
other_leaf Struct a v s b t u = s refl
other_leaf Box a v s b t u = b refl
other_leaf Table a v s b t u = t refl
other_leaf Union a v s b t u = u refl
other_leaf Boolean a v s b t u = tt
other_leaf _ a v s b t u = tt
