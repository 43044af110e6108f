-- Whether a layout begins at a place.
use Rattle.std.proofs.Common.{◌≡◌, ℕ, Bool, true, false, ◌⊎◌, inl, inr, ◌↔◌, Option, None, Some, IsFalse, slice_get, refl, sym, subst, ◌∙◌}
use Rattle.std.proofs.lemmas.Bool.{false≢true}
use Rattle.fidl_span.specs.declared.words.Word.{Word}
use Rattle.fidl_span.specs.declared.words.WordKind.TheVariants as kind
use Rattle.fidl_tree.specs.Leaf.{none_of, Meets, text_at}
use Rattle.fidl_parse.specs.declared.parser.Parser.{Parser}
use Rattle.fidl_parse.specs.Choices.{layout_words, IsLayoutWordAt}
use Rattle.fidl_parse.specs.Reading.{IsKindAt}

abbrev Begins : Parser → ℕ → Type 0
Begins p at = IsKindAt p at kind.At ⊎ IsLayoutWordAt p at

same_word : (o : Option Word) (v w : Word) → o ≡ Some v → o ≡ Some w → v ≡ w
same_word o v w e f = cc

pub layout_word : (p : Parser) (at : ℕ) (w : Word) (b r : Bool) → b ≡ false → (IsKindAt p at kind.At → b ≡ true) → slice_get p.words.now at ≡ Some w → w.kind ≡ kind.Identifier
    → (IsFalse r ↔ Meets (none_of layout_words) (text_at p.src.now w.span)) → (r ≡ true → Begins p at) × (Begins p at → r ≡ true)
layout_word p at w b true f a g k h = (λ e. inr (w, g, k, λ m. false≢true (sym (h.1 m))), λ e. refl)
layout_word p at w b false f a g k h = (λ e. absurd (false≢true e), back) where
  back : Begins p at → false ≡ true
  back (inl i) = sym f ∙ a i
  back (inr l) = absurd (l.3 (subst (λ v. Meets (none_of layout_words) (text_at p.src.now v.span)) (same_word (slice_get p.words.now at) w l.0 g l.1) (h.0 refl)))

pub other_word : (p : Parser) (at : ℕ) (w : Word) (b r : Bool) → b ≡ false → (IsKindAt p at kind.At → b ≡ true) → slice_get p.words.now at ≡ Some w → (w.kind ≡ kind.Identifier → ⊥)
    → r ≡ false → (r ≡ true → Begins p at) × (Begins p at → r ≡ true)
other_word p at w b r f a g n e = (λ t. absurd (false≢true (sym e ∙ t)), back) where
  back : Begins p at → r ≡ true
  back (inl i) = absurd (false≢true (sym f ∙ a i))
  back (inr l) = absurd (n (subst (λ v. v.kind ≡ kind.Identifier) (same_word (slice_get p.words.now at) l.0 w l.1 g) l.2))

pub no_word : (p : Parser) (at : ℕ) (b : Bool) → b ≡ false → (IsKindAt p at kind.At → b ≡ true) → slice_get p.words.now at ≡ None
    → (false ≡ true → Begins p at) × (Begins p at → false ≡ true)
no_word p at b f a g = (λ t. absurd (false≢true t), back) where
  none : (o : Option Word) (v : Word) → o ≡ None → o ≡ Some v → ⊥
  none o v e h = cc

  back : Begins p at → false ≡ true
  back (inl i) = sym f ∙ a i
  back (inr l) = absurd (none (slice_get p.words.now at) l.0 g l.1)
