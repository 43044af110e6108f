use Rattle.std.proofs.Common.{rules, ◌≡◌, ℕ, zero, suc, ◌≤◌, [], ◌∷◌, refl, arith, sym, subst, codes}
use Rattle.fidl_wire.specs.Value.{Value, absent, fields, none, value}
use Rattle.fidl_wire.specs.Term.{no_fields, field}
use Rattle.fidl_wire.specs.Term as ty
use Rattle.fidl_wire.specs.Figure.{Declarations, IsSound, figure}
use Rattle.fidl_wire.specs.Typed.{Typed}
use Rattle.fidl_wire.specs.Depth.{Depth}
use Rattle.fidl_wire.proofs.Unique.{unique}
use Rattle.fidl_wire.proofs.refused.thirty_three_boxes.Goals as goal

abbrev node : Declarations
node = record { terms = ty.struct (field (codes "next") (ty.box (ty.named 0)) no_fields) ∷ []; figures = figure 8 8 1 ∷ [] }

-- n present boxes
abbrev chain : ℕ → Value
chain zero = fields (value absent none)
chain (suc n) = fields (value (chain n) none)

is_sound : IsSound node
is_sound = record { laid_out = refl; bounded = search rules }

-- the one value that has these bytes is too deep
pub returns : goal.returns
returns c = λ e.
    let typed : Typed node (ty.named 0) (chain 33) = search rules in
    let same : chain 33 ≡ e.0 = unique node is_sound (ty.named 0) tt (chain 33) e.0 typed e.1.typed (omega arith) (omega arith) (sym e.1.message) in
    let deep : Depth node (ty.named 0) e.0 ≤ 32 = e.1.shallow in
    let too_deep : Depth node (ty.named 0) (chain 33) ≤ 32 = subst (λ v. Depth node (ty.named 0) v ≤ 32) (sym same) deep in
    omega arith
