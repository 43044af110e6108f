-- What is found of one, put into a table at its number.
use Rattle.std.proofs.Common.{◌≡◌, ◌⊎◌, ◌<◌, ℕ, List, Option, Some, None, length, get_or, inl, inr, refl, ap, sym, subst, ◌∙◌, arith}
use Rattle.std.specs.Prelude.{slice_get, IfSome, IsSome}
use Rattle.std.specs.Global.{Vec}
use Rattle.std.proofs.Math.ListN.{length-set}
use Rattle.std.proofs.lemmas.List.{get_or-set_same, get_or-set_other}
use Rattle.std.proofs.lemmas.Option.{slice_get_within, same_Some}
use Rattle.fidl_tree.specs.declared.file.File.{File}
use Rattle.fidl_tree.specs.declared.declaration.AliasDeclaration.{AliasDeclaration}
use Rattle.fidl_named.specs.declared.place.DeclarationId.{DeclarationId}
use Rattle.fidl_named.specs.declared.meaning.Meaning.{Meaning}
use Rattle.fidl_named.specs.declared.meaning.Meaning.TheVariants as meaning
use Rattle.fidl_named.specs.Aliases.{IsAliasAt}
use Rattle.fidl_cycles.proofs.Trails.{same_or_not}
use Rattle.fidl_consts.specs.declared.consts.Consts.{Consts}
use Rattle.fidl_consts.specs.declared.consts.Entry.{Entry}
use Rattle.fidl_consts.specs.declared.consts.Limits.{Limits}
use Rattle.fidl_const.specs.declared.order.Found.{Found}
use Rattle.fidl_consts.specs.PlainValues.{seen}
use Rattle.fidl_consts.specs.Dependencies.{IsKnownNode}
use Rattle.fidl_consts.specs.Values.{Offers}
use Rattle.fidl_consts.specs.Strings.{IsConstraintOf}
use Rattle.fidl_consts.specs.Tables.{number_of, AreLimits, AreTrue, IsDone, value_at, limits_at}
use Rattle.fidl_const.specs.Columns.{Extends, HasRoom, IsFound, with_values, with_limits}
use Rattle.fidl_const.proofs.AliasLimits.{known_alias}

some_there : {X : Type 0} (o : Option X) → (o ≡ None → ⊥) → IsSome o
some_there None never = absurd (never refl)
some_there (Some x) never = refl

if_some : {X : Type 0} (P : X → Type 0) (o : Option X) (x : X) → o ≡ Some x → IfSome o P → P x
if_some P o x is h = subst (λ p. IfSome p P) is h

module _ (fs : List File) (nodes : List Meaning) (one : Meaning) (node : IsKnownNode fs one) (found : Found) (is_found : IsFound fs one found) (old new : Consts) (room : HasRoom fs nodes old) (starts : new.starts ≡ old.starts)
    (values : new.values.items ≡ with_values old.values.items (number_of old.starts.items one) found) (limits : new.limits.items ≡ with_limits old.limits.items (number_of old.starts.items one) found) where
  same_number : (m : Meaning) → number_of new.starts.items m ≡ number_of old.starts.items m
  same_number m = ap (λ (s : Vec (Vec ℕ)). number_of s.items m) starts

  pub one_within : number_of old.starts.items one < length nodes
  one_within = slice_get_within nodes (number_of old.starts.items one) one (room.numbered.numbered one node)

  -- numbers of different nodes differ
  one_or_other : (m : Meaning) → IsKnownNode fs m → (m ≡ one) ⊎ (number_of old.starts.items m ≡ number_of old.starts.items one → ⊥)
  one_or_other m known = either (same_or_not (number_of old.starts.items m) (number_of old.starts.items one))
    where
      either : (number_of old.starts.items m ≡ number_of old.starts.items one) ⊎ (number_of old.starts.items m ≡ number_of old.starts.items one → ⊥)
          → (m ≡ one) ⊎ (number_of old.starts.items m ≡ number_of old.starts.items one → ⊥)
      either (inl e) = inl (same_Some m one (sym (room.numbered.numbered m known) ∙ ap (slice_get nodes) e ∙ room.numbered.numbered one node))
      either (inr other) = inr other

  value_of_one : value_at new (number_of new.starts.items one) ≡ found.value
  value_of_one =
      let within = one_within in
      let long = room.values in
      let lt : number_of old.starts.items one < length old.values.items = omega (arith, within, long) in
      ap (value_at new) (same_number one)
      ∙ ap (λ (l : List (Option Entry)). get_or l (number_of old.starts.items one) None) values
      ∙ get_or-set_same old.values.items (number_of old.starts.items one) found.value None lt

  value_of_other : (m : Meaning) → (number_of old.starts.items m ≡ number_of old.starts.items one → ⊥) → value_at new (number_of new.starts.items m) ≡ value_at old (number_of old.starts.items m)
  value_of_other m other =
      ap (value_at new) (same_number m)
      ∙ ap (λ (l : List (Option Entry)). get_or l (number_of old.starts.items m) None) values
      ∙ get_or-set_other old.values.items (number_of old.starts.items one) (number_of old.starts.items m) found.value None other

  limits_of_one : limits_at new (number_of new.starts.items one) ≡ found.limits
  limits_of_one =
      let within = one_within in
      let long = room.limits in
      let lt : number_of old.starts.items one < length old.limits.items = omega (arith, within, long) in
      ap (limits_at new) (same_number one)
      ∙ ap (λ (l : List (Option Limits)). get_or l (number_of old.starts.items one) None) limits
      ∙ get_or-set_same old.limits.items (number_of old.starts.items one) found.limits None lt

  limits_of_other : (m : Meaning) → (number_of old.starts.items m ≡ number_of old.starts.items one → ⊥) → limits_at new (number_of new.starts.items m) ≡ limits_at old (number_of old.starts.items m)
  limits_of_other m other =
      ap (limits_at new) (same_number m)
      ∙ ap (λ (l : List (Option Limits)). get_or l (number_of old.starts.items m) None) limits
      ∙ get_or-set_other old.limits.items (number_of old.starts.items one) (number_of old.starts.items m) found.limits None other

  pub true_with : AreTrue fs old → AreTrue fs new
  true_with h = record {
    values = λ m e known is. entry m e known is (one_or_other m known);
    limits = λ p f a l at is. limit p f a l at is (one_or_other (meaning.Declared p) (known_alias fs p f a at));
  }
    where
      entry : (m : Meaning) (e : Entry) → IsKnownNode fs m → value_at new (number_of new.starts.items m) ≡ Some e → (m ≡ one) ⊎ (number_of old.starts.items m ≡ number_of old.starts.items one → ⊥) → Offers fs m e.own (seen e.value)
      entry m e known is (inl same) =
          let here : found.value ≡ Some e = sym value_of_one ∙ ap (λ (x : Meaning). value_at new (number_of new.starts.items x)) (sym same) ∙ is in
          subst (λ (x : Meaning). Offers fs x e.own (seen e.value)) (sym same) (if_some (λ (x : Entry). Offers fs one x.own (seen x.value)) found.value e here is_found.value)
      entry m e known is (inr other) = h.values m e known (sym (value_of_other m other) ∙ is)

      limit : (p : DeclarationId) (f : File) (a : AliasDeclaration) (l : Limits) → IsAliasAt fs p f a → limits_at new (number_of new.starts.items (meaning.Declared p)) ≡ Some l
          → (meaning.Declared p ≡ one) ⊎ (number_of old.starts.items (meaning.Declared p) ≡ number_of old.starts.items one → ⊥) → AreLimits fs (IsConstraintOf fs p.file f a.constructor) l
      limit p f a l at is (inl same) =
          let here : found.limits ≡ Some l = sym limits_of_one ∙ ap (λ (x : Meaning). limits_at new (number_of new.starts.items x)) (sym same) ∙ is in
          if_some (AreLimits fs (IsConstraintOf fs p.file f a.constructor)) found.limits l here (is_found.limits p f a (sym same) at)
      limit p f a l at is (inr other) = h.limits p f a l at (sym (limits_of_other (meaning.Declared p) other) ∙ is)

  pub one_done : IsDone fs new one
  one_done = record {
    value = λ has. subst IsSome (sym value_of_one) (some_there found.value (λ none. is_found.no_value none has));
    limits = λ p f a is at string. subst IsSome (sym limits_of_one) (some_there found.limits (λ none. is_found.no_limits none p f a is at string));
  }

  pub extends : Extends fs old new
  extends = record {
    starts = starts;
    values = ap length values ∙ length-set old.values.items (number_of old.starts.items one) found.value;
    limits = ap length limits ∙ length-set old.limits.items (number_of old.starts.items one) found.limits;
    kept = λ m known done. kept m done (one_or_other m known);
  }
    where
      kept : (m : Meaning) → IsDone fs old m → (m ≡ one) ⊎ (number_of old.starts.items m ≡ number_of old.starts.items one → ⊥) → IsDone fs new m
      kept m done (inl same) = subst (IsDone fs new) (sym same) one_done
      kept m done (inr other) = record {
        value = λ has. subst IsSome (sym (value_of_other m other)) (done.value has);
        limits = λ p f a is at string. subst IsSome (sym (limits_of_other m other)) (done.limits p f a is at string);
      }
