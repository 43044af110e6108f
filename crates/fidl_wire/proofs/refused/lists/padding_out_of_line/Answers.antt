use Rattle.std.proofs.Common.{[], ◌∷◌, ◌++◌, get_or, ap, arith, false}
use Rattle.fidl_wire.specs.Value.{Value, absent, text}
use Rattle.fidl_wire.specs.Term as ty
use Rattle.fidl_wire.specs.Figure.{no_declarations}
use Rattle.fidl_wire.specs.Encoding.{zeros, present}
use Rattle.fidl_wire.specs.Message.{Encodes}
use Rattle.fidl_wire.proofs.refused.lists.padding_out_of_line.Goals as goal

none : (v : Value) → Encodes no_declarations (ty.string false 2) v (1 ∷ zeros 7 ++ present ++ 97 ∷ 1 ∷ zeros 6) [] → ⊥
none (text []) e = absurd (omega (arith, ap (λ m. get_or m.0 0 0) e.message))
none (text (a ∷ [])) e = absurd (omega (arith, ap (λ m. get_or m.0 17 0) e.message))
none (text (a ∷ b ∷ [])) e = absurd (omega (arith, ap (λ m. get_or m.0 0 0) e.message))
none (text (a ∷ b ∷ c ∷ bytes)) e = absurd (omega (arith, e.typed.1))
none absent e = absurd (omega (arith, ap (λ m. get_or m.0 0 0) e.message))
none _ e = absurd e.typed

pub returns-clause-string : goal.returns-clause-string
returns-clause-string c = λ e. none e.0 e.1
