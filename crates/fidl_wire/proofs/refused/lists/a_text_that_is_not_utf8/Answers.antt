use Rattle.std.proofs.Common.{◌≡◌, [], ◌∷◌, ◌++◌, get_or, ap, arith, subst, IsUtf8, false}
use Rattle.std.proofs.lemmas.Bool.{false≢true}
use Rattle.std.proofs.lemmas.Str.{is_utf8-from_IsUtf8}
use Rattle.std.specs.Str.{is_utf8, chars}
use lib.Utf8.{encode}
use Rattle.fidl_wire.specs.Value.{Value, absent, text}
use Rattle.fidl_wire.specs.Term as ty
use Rattle.fidl_wire.specs.Figure.{no_declarations}
use Rattle.fidl_wire.specs.Encoding.{zeros, present}
use Rattle.fidl_wire.specs.Message.{Encodes}
use Rattle.fidl_wire.proofs.refused.lists.a_text_that_is_not_utf8.Goals as goal

none : (v : Value) → Encodes no_declarations (ty.string false 2) v (2 ∷ zeros 7 ++ present ++ 0xc0 ∷ 0x80 ∷ zeros 6) [] → ⊥
unfolding is_utf8 chars encode
none (text []) e = absurd (omega (arith, ap (λ m. get_or m.0 0 0) e.message))
none (text (a ∷ [])) e = absurd (omega (arith, ap (λ m. get_or m.0 0 0) e.message))
none (text (a ∷ b ∷ [])) e =
    let first : a ≡ 0xc0 = ap (λ m. get_or m.0 16 0) e.message in
    let second : b ≡ 0x80 = ap (λ m. get_or m.0 17 0) e.message in
    let typed : IsUtf8 (0xc0 ∷ 0x80 ∷ []) = subst (λ b. IsUtf8 (0xc0 ∷ b ∷ [])) second (subst (λ a. IsUtf8 (a ∷ b ∷ [])) first e.typed.0) in
    absurd (false≢true (is_utf8-from_IsUtf8 (0xc0 ∷ 0x80 ∷ []) typed))
none (text (a ∷ b ∷ c ∷ bytes)) e = absurd (omega (arith, e.typed.1))
none absent e = absurd (omega (arith, ap (λ m. get_or m.0 0 0) e.message))
none _ e = absurd e.typed

pub returns : goal.returns
returns c = λ e. none e.0 e.1
