-- The text of a number that a view answers.
use Rattle.std.proofs.Common.{◌≡◌, ℕ, ◌<◌, List, ap, subst}
use Rattle.std.specs.Prelude.{Option, Some, None, Result, ℤ, IsSome, decimal}
use Rattle.std.specs.Fmt.{signed_decimal}
use Rattle.fidl_wire.specs.Value.{Value}
use Rattle.fidl_wire.specs.Term.{Term, resolve}
use Rattle.fidl_wire.specs.Term as ty
use Rattle.fidl_wire.specs.Figure.{Declarations}
use Rattle.fidl_wire.specs.Typed.{IsTyped}
use Rattle.fidl_wire.specs.Text.{text_of}
use Rattle.fidl_table_format.specs.Section.{header_of}
use Rattle.fidl_table_format.specs.Terms.{declarations_of}
use Rattle.fidl_table_format.specs.WellFormed.{WellFormed}
use Rattle.fidl_view.specs.Parts.{numbers_of, unsigned_of, signed_of}
use Rattle.fidl_streams.specs.Written.{Taken, Writes}
use Rattle.fidl_view.proofs.Numbered.{unsigned_is, signed_is}

module _ (b : List ℕ) (w : WellFormed b) (i : ℕ) (lt : i < (header_of b).entries) where
  abbrev own : Term
  own = resolve (declarations_of b).terms (ty.named i)

  module _ (ds : Declarations) (t : Term) (is : IsSome (numbers_of t)) (v : Value) (h : IsTyped ds t v) (typed : IsTyped (declarations_of b) own v) where
    pub unsigned_text : (u : Option ℕ) (n : ℕ) → u ≡ unsigned_of own v → u ≡ Some n → {T E : Type 0} (old new : Taken) (r : Result T E) → Writes old new (decimal n) r → Writes old new (text_of ds t v) r
    unsigned_text u n eu some old new r written =
        subst (λ (l : List ℕ). Writes old new l r) (ap (λ (x : Value). text_of ds t x) (unsigned_is b w i lt ds t is v h typed u n eu some)) written

    pub signed_text : (u : Option ℕ) (s : Option ℤ) (y : ℤ) → u ≡ unsigned_of own v → u ≡ None → s ≡ signed_of own v → s ≡ Some y
        → {T E : Type 0} (old new : Taken) (r : Result T E) → Writes old new (signed_decimal y) r → Writes old new (text_of ds t v) r
    signed_text u s y eu none es some old new r written =
        subst (λ (l : List ℕ). Writes old new l r) (ap (λ (x : Value). text_of ds t x) (signed_is b w i lt ds t is v h typed u s y eu none es some)) written
