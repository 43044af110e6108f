-- The only reading of a name, from those of its parts.
use Rattle.std.proofs.Common.{◌≡◌, ℕ, List, Option, Some, None, Result, Ok, Err, ap, sym, subst, ◌∙◌, inl, inr, refl}
use Rattle.std.specs.Prelude.{IfOk}
use Rattle.fidl_tree.specs.declared.file.File.{File}
use Rattle.fidl_named.specs.declared.meaning.Wanted.{Wanted}
use Rattle.fidl_named.specs.declared.meaning.Predeclared.{Predeclared}
use Rattle.fidl_named.specs.declared.meaning.Meaning.{Meaning}
use Rattle.fidl_named.specs.declared.meaning.Meaning.TheVariants as meaning
use Rattle.fidl_named.specs.Names.{AreDistinct}
use Rattle.fidl_named.specs.NameMaps.{names_of}
use Rattle.fidl_named.specs.Imports.{IsEntry}
use Rattle.fidl_named.specs.Meanings.{predeclared_text, predeclared_kind, IsOwn, IsMember, IsSimple, IsImported, IsImportedMember, IsJust}
use Rattle.fidl_named.proofs.FullNames.{one_entry}
use Rattle.fidl_named.proofs.Words.{one_predeclared}

-- what holds of the same things has the same only one
pub just_iff : {X : Type 0} (P Q : X → Type 0) → ((x : X) → P x → Q x) → ((x : X) → Q x → P x) → (o : Option X) → IsJust P o → IsJust Q o
just_iff P Q to from None h = λ x q. h x (from x q)
just_iff P Q to from (Some x) h = (to x h.0, λ y q. h.1 y (from y q))

pub ok_iff : {X E : Type 0} (P Q : X → Type 0) → ((x : X) → P x → Q x) → ((x : X) → Q x → P x) → (r : Result (Option X) E) → IfOk r (IsJust P) → IfOk r (IsJust Q)
ok_iff P Q to from (Ok o) h = just_iff P Q to from o h
ok_iff P Q to from (Err e) h = h

module _ (fs : List File) (visible_names : List (List ℕ × List ℕ)) (distinct : AreDistinct (names_of visible_names)) (front library : List ℕ) (seen : IsEntry visible_names front library) where
  pub just_imported : {E : Type 0} (kind : Wanted) (n : List ℕ) (r : Result (Option Meaning) E) → IfOk r (IsJust (IsOwn fs library kind n)) → IfOk r (IsJust (IsImported fs visible_names kind front n))
  just_imported kind n = ok_iff (IsOwn fs library kind n) (IsImported fs visible_names kind front n)
      (λ m h. record { library = library; seen = seen; own = h })
      (λ m h. subst (λ (l : List ℕ). IsOwn fs l kind n m) (one_entry visible_names front h.library library distinct h.seen seen) h.own)

  pub just_imported_member : {E : Type 0} (t n : List ℕ) (r : Result (Option Meaning) E) → IfOk r (IsJust (IsMember fs library t n)) → IfOk r (IsJust (IsImportedMember fs visible_names front t n))
  just_imported_member t n = ok_iff (IsMember fs library t n) (IsImportedMember fs visible_names front t n)
      (λ m h. record { library = library; seen = seen; member = h })
      (λ m h. subst (λ (l : List ℕ). IsMember fs l t n m) (one_entry visible_names front h.library library distinct h.seen seen) h.member)

module _ (fs : List File) (library : List ℕ) (kind : Wanted) (n : List ℕ) where
  pub simple_own : (m : Meaning) → IsJust (IsOwn fs library kind n) (Some m) → IsJust (IsSimple fs library kind n) (Some m)
  simple_own m h = (inl h.0, only)
    where
      only : (y : Meaning) → IsSimple fs library kind n y → y ≡ m
      only y (inl k) = h.1 y k
      only y (inr k) = absurd (k.no_own m h.0)

  pub simple_word : (p : Predeclared) → IsJust (IsOwn fs library kind n) None → predeclared_text p ≡ n → predeclared_kind p ≡ kind → IsJust (IsSimple fs library kind n) (Some (meaning.Predeclared p))
  simple_word p none text is = (inr (record { predeclared = p; name_is = text; kind_is = is; no_own = none; means = refl }), only)
    where
      only : (y : Meaning) → IsSimple fs library kind n y → y ≡ meaning.Predeclared p
      only y (inl k) = absurd (none y k)
      only y (inr k) = k.means ∙ ap meaning.Predeclared (one_predeclared k.predeclared p (k.name_is ∙ sym text))

  pub simple_other : (p : Predeclared) → IsJust (IsOwn fs library kind n) None → predeclared_text p ≡ n → (predeclared_kind p ≡ kind → ⊥) → IsJust (IsSimple fs library kind n) None
  simple_other p none text other y (inl k) = none y k
  simple_other p none text other y (inr k) = other (ap predeclared_kind (sym (one_predeclared k.predeclared p (k.name_is ∙ sym text))) ∙ k.kind_is)

  pub simple_none : IsJust (IsOwn fs library kind n) None → ((p : Predeclared) → predeclared_text p ≡ n → ⊥) → IsJust (IsSimple fs library kind n) None
  simple_none none no_word y (inl k) = none y k
  simple_none none no_word y (inr k) = no_word k.predeclared k.name_is
