-- Handles: which values of a handle type stand at a place.
use Rattle.std.proofs.Common.{◌≡◌, ℕ, ◌≤◌, List, replicate, refl, sym, subst, arith, inl, inr}
use Rattle.std.specs.Prelude.{Bool, ◌⊎◌, Some, None, IsTrue, slice_get}
use Rattle.fidl_limits.specs.declared.limits.TheConstants.{MAX_DEPTH}
use Rattle.fidl_wire.specs.declared.handle.HandleInfo.{HandleInfo}
use Rattle.fidl_wire.specs.Value.{Value, absent, handle}
use Rattle.fidl_wire.specs.Term as ty
use Rattle.fidl_wire.specs.Figure.{Declarations}
use Rattle.fidl_wire.specs.Typed.{IsTyped, IsHandle, IsAllowed}
use Rattle.fidl_wire.specs.Encoding.{zeros, encoding_of}
use Rattle.fidl_wire.specs.Standing.{Stands}
use Rattle.fidl_decode_model.specs.State.{Message, Position, taken, after, StandsAt, ValueAt}
use Rattle.fidl_decode_model.specs.Machine.{Leads}

pub none_some : (a : HandleInfo) → None ≡ Some a → ⊥
none_some a e = cc

some_same : (a b : HandleInfo) → Some a ≡ Some b → a ≡ b
some_same a b e = cc

-- no place has both zeros and ones
pub no_both : (m : List ℕ) (p : ℕ) → Stands m p (zeros 4) → Stands m p (replicate 4 255) → ⊥
no_both m p h k = let a = h.1 in let b = k.1 in omega (arith, a, b)

module _ (ds : Declarations) (m : Message) (held : ℕ) (optional : Bool) (subtype rights place : ℕ) (from : Position) where
  -- an absent handle leads nowhere, a present one has the next record, which is allowed
  pub handle_item : (to : Position) → ValueAt ds m held (ty.handle optional subtype rights) place from to
      → (Stands m.bytes place (zeros 4) × IsTrue optional × (from ≡ to)) ⊎ (Stands m.bytes place (replicate 4 255) × ((h : HandleInfo) × (slice_get m.handles from.handle ≡ Some h) × IsAllowed subtype rights h × (taken place from ≡ to)))
  handle_item to x = only x.value x.typed x.stands x.end
    where
      only : (v : Value) → IsTyped ds (ty.handle optional subtype rights) v → StandsAt m (encoding_of ds (ty.handle optional subtype rights) v) place from → to ≡ after ds (ty.handle optional subtype rights) v place from
          → (Stands m.bytes place (zeros 4) × IsTrue optional × (from ≡ to)) ⊎ (Stands m.bytes place (replicate 4 255) × ((h : HandleInfo) × (slice_get m.handles from.handle ≡ Some h) × IsAllowed subtype rights h × (taken place from ≡ to)))
      only absent h s e = inl (s.inline, h, sym e)
      only (handle i) h s e = inr (s.inline, (i, s.carried.0, h.1, sym e))
      only _ h s e = absurd h

  pub item_absent : held ≤ MAX_DEPTH → IsTrue optional → Stands m.bytes place (zeros 4) → ValueAt ds m held (ty.handle optional subtype rights) place from from
  item_absent deep may z = record { value = absent; typed = may; shallow = omega arith; stands = record { inline = z; out = tt; carried = tt }; end = refl }

  pub item_handle : held ≤ MAX_DEPTH → Stands m.bytes place (replicate 4 255) → (h : HandleInfo) → slice_get m.handles from.handle ≡ Some h → IsHandle h → IsAllowed subtype rights h → ValueAt ds m held (ty.handle optional subtype rights) place from (taken place from)
  item_handle deep ones h is small allowed = record { value = handle h; typed = (small, allowed); shallow = omega arith; stands = record { inline = ones; out = tt; carried = (is, tt) }; end = refl }

  pub absent_leads : held ≤ MAX_DEPTH → IsTrue optional → Stands m.bytes place (zeros 4) → Leads ds m held (ty.handle optional subtype rights) place from from
  absent_leads deep may z to = (
    (λ x. elim (handle_item to x) [ inl y ↦ y.2 | inr y ↦ absurd (no_both m.bytes place z y.0) ]),
    (λ same. subst (λ (s : Position). ValueAt ds m held (ty.handle optional subtype rights) place from s) same (item_absent deep may z)),
  )

  pub handle_leads : held ≤ MAX_DEPTH → Stands m.bytes place (replicate 4 255) → (h : HandleInfo) → slice_get m.handles from.handle ≡ Some h → IsHandle h → IsAllowed subtype rights h → Leads ds m held (ty.handle optional subtype rights) place from (taken place from)
  handle_leads deep ones h is small allowed to = (
    (λ x. elim (handle_item to x) [ inl y ↦ absurd (no_both m.bytes place y.0 ones) | inr y ↦ y.1.3 ]),
    (λ same. subst (λ (s : Position). ValueAt ds m held (ty.handle optional subtype rights) place from s) same (item_handle deep ones h is small allowed)),
  )
