-- What a thing that is the only one of its kind, or none, says of others.
use Rattle.std.proofs.Common.{◌≡◌, Option, Some, None, refl, subst}
use Rattle.fidl_named.specs.Meanings.{IsJust}

module _ {X : Type 0} (P : X → Type 0) where
  -- it is there
  pub the_just : (o : Option X) → IsJust P o → (x : X) → o ≡ Some x → P x
  the_just o h x is = (subst (IsJust P) is h).0

  -- it is the only one
  pub just_one : (o : Option X) → IsJust P o → (x : X) → o ≡ Some x → (y : X) → P y → y ≡ x
  just_one o h x is = (subst (IsJust P) is h).1

  -- there is none
  pub no_just : (o : Option X) → IsJust P o → ((x : X) → o ≡ Some x → ⊥) → (y : X) → P y → ⊥
  no_just None h none = h
  no_just (Some x) h none = absurd (none x refl)
