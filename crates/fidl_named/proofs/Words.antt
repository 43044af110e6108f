-- The names of the language itself: which are there, and that they differ.
use Rattle.std.proofs.Common.{◌≡◌, ℕ, ◌<◌, List, [], ◌∷◌, Option, Some, lit<, get_or, refl, ap, sym, ◌∙◌}
use Rattle.std.specs.Map.{lookup}
use Rattle.fidl_named.specs.declared.meaning.Predeclared.{Predeclared}
use Rattle.fidl_named.specs.declared.meaning.Predeclared.TheVariants as name
use Rattle.fidl_named.specs.Meanings.{predeclared_text}
use Rattle.fidl_named.specs.Imports.{same}

abbrev pub all_predeclared : List Predeclared
all_predeclared = name.Bool ∷ name.Int8 ∷ name.Int16 ∷ name.Int32 ∷ name.Int64 ∷ name.Uint8 ∷ name.Uint16 ∷ name.Uint32 ∷ name.Uint64 ∷ name.Float32 ∷ name.Float64 ∷ name.String ∷ name.Vector ∷ name.Array ∷ name.Box ∷ name.ClientEnd ∷ name.ServerEnd ∷ name.Byte ∷ name.Bytes ∷ name.Max ∷ []

-- where none of them has a text, no name of the language has it
pub no_predeclared : (text : List ℕ) → ((k : ℕ) → k < 20 → predeclared_text (get_or all_predeclared k name.Bool) ≡ text → ⊥) → (p : Predeclared) → predeclared_text p ≡ text → ⊥
no_predeclared text none name.Bool = none 0 (lit< tt)
no_predeclared text none name.Int8 = none 1 (lit< tt)
no_predeclared text none name.Int16 = none 2 (lit< tt)
no_predeclared text none name.Int32 = none 3 (lit< tt)
no_predeclared text none name.Int64 = none 4 (lit< tt)
no_predeclared text none name.Uint8 = none 5 (lit< tt)
no_predeclared text none name.Uint16 = none 6 (lit< tt)
no_predeclared text none name.Uint32 = none 7 (lit< tt)
no_predeclared text none name.Uint64 = none 8 (lit< tt)
no_predeclared text none name.Float32 = none 9 (lit< tt)
no_predeclared text none name.Float64 = none 10 (lit< tt)
no_predeclared text none name.String = none 11 (lit< tt)
no_predeclared text none name.Vector = none 12 (lit< tt)
no_predeclared text none name.Array = none 13 (lit< tt)
no_predeclared text none name.Box = none 14 (lit< tt)
no_predeclared text none name.ClientEnd = none 15 (lit< tt)
no_predeclared text none name.ServerEnd = none 16 (lit< tt)
no_predeclared text none name.Byte = none 17 (lit< tt)
no_predeclared text none name.Bytes = none 18 (lit< tt)
no_predeclared text none name.Max = none 19 (lit< tt)

abbrev with_text : Predeclared → List ℕ × Predeclared
with_text p = (predeclared_text p, p)

-- the name that has a text
abbrev of_text : List ℕ → Option Predeclared
of_text text = lookup (same text) (with_text name.Bool ∷ with_text name.Int8 ∷ with_text name.Int16 ∷ with_text name.Int32 ∷ with_text name.Int64 ∷ with_text name.Uint8 ∷ with_text name.Uint16 ∷ with_text name.Uint32 ∷ with_text name.Uint64 ∷ with_text name.Float32 ∷ with_text name.Float64 ∷ with_text name.String ∷ with_text name.Vector ∷ with_text name.Array ∷ with_text name.Box ∷ with_text name.ClientEnd ∷ with_text name.ServerEnd ∷ with_text name.Byte ∷ with_text name.Bytes ∷ with_text name.Max ∷ [])

text_back : (p : Predeclared) → of_text (predeclared_text p) ≡ Some p
text_back name.Bool = refl
text_back name.Int8 = refl
text_back name.Int16 = refl
text_back name.Int32 = refl
text_back name.Int64 = refl
text_back name.Uint8 = refl
text_back name.Uint16 = refl
text_back name.Uint32 = refl
text_back name.Uint64 = refl
text_back name.Float32 = refl
text_back name.Float64 = refl
text_back name.String = refl
text_back name.Vector = refl
text_back name.Array = refl
text_back name.Box = refl
text_back name.ClientEnd = refl
text_back name.ServerEnd = refl
text_back name.Byte = refl
text_back name.Bytes = refl
text_back name.Max = refl

pub one_predeclared : (p q : Predeclared) → predeclared_text p ≡ predeclared_text q → p ≡ q
one_predeclared p q is =
    let it : Some p ≡ Some q = sym (text_back p) ∙ ap of_text is ∙ text_back q in
    cc
