-- Limits of strings' lengths.
use Rattle.std.proofs.Common.{◌≡◌, ◌⊎◌, ℕ, ◌≤◌, List, [], ◌∷◌, ◌++◌, Option, Some, None, true, false, min, refl, sym, subst, inl, inr, arith, true≢false}
use Rattle.std.specs.Prelude.{IsSomeAnd, IfSome, IsNone, pos}
use Rattle.std.proofs.lemmas.Bool.Decides.{leb_tells}
use Rattle.std.proofs.lemmas.List.Elements.{Contains-append_left, Contains-append_right, Contains-append_cases}
use Rattle.fidl_tree.specs.declared.file.File.{File}
use Rattle.fidl_tree.specs.Syntax.{Value}
use Rattle.fidl_named.specs.Constraints.{is_optional}
use Rattle.fidl_consts.specs.declared.consts.Limits.{Limits}
use Rattle.fidl_consts.specs.declared.const_type.NumberKind.TheVariants.{Uint32}
use Rattle.fidl_consts.specs.declared.const_type.ConstType.TheVariants as ty
use Rattle.fidl_consts.specs.PlainValues.{PlainValue, a_number, Fits}
use Rattle.fidl_consts.specs.Values.{ValueIs}
use Rattle.fidl_consts.specs.Strings.{Allows}
use Rattle.fidl_consts.specs.Tables.{AreLimits, IsBoundAmong, HasWord}
use Rattle.fidl_const.specs.Columns.{IsOwnConstraint, IsBound, lesser}
use Rattle.fidl_consts.proofs.Among.{among_none, among_first, among_cases}

module _ (files : List File) where
  fewer : (h : File) (v : Value) (n m : ℕ) → m ≤ n → Allows files h v n → Allows files h v m
  fewer h v n m less allows =
      let within = allows.within in
      record { bound = allows.bound; no_word = allows.no_word; is = allows.is; within = omega arith }

  one_allows : (h : File) (v : Value) (a b : Option ℕ) → IsSomeAnd a (Allows files h v) → IsSomeAnd (lesser a b) (Allows files h v)
  one_allows h v None b allows = absurd allows
  one_allows h v (Some n) None allows = allows
  one_allows h v (Some n) (Some m) allows = fewer h v n (min n m) (omega arith) allows

  other_allows : (h : File) (v : Value) (a b : Option ℕ) → IsSomeAnd b (Allows files h v) → IsSomeAnd (lesser a b) (Allows files h v)
  other_allows h v None b allows = allows
  other_allows h v (Some n) None allows = absurd allows
  other_allows h v (Some n) (Some m) allows = fewer h v m (min n m) (omega arith) allows

  -- where there are no constraints there is no limit
  pub no_limits : (C : ℕ → File → Value → Type 0) → ((n : ℕ) (h : File) (v : Value) → C n h v → ⊥) → AreLimits files C (record { greatest = None; optional = false })
  no_limits C none = record { plain = λ _ n h v k. absurd (none n h v k); reached = tt; word = λ h. absurd (true≢false (sym h)) }

  module _ (C E : ℕ → File → Value → Type 0) (to : (n : ℕ) (h : File) (v : Value) → C n h v → E n h v) where
    bound_more : (n : ℕ) → IsBoundAmong files C n → IsBoundAmong files E n
    bound_more n h = record { of_number = h.of_number; file = h.file; value = h.value; among = to h.of_number h.file h.value h.among; is = h.is }

    reached_more : (o : Option ℕ) → IfSome o (IsBoundAmong files C) → IfSome o (IsBoundAmong files E)
    reached_more None h = tt
    reached_more (Some n) h = bound_more n h

    word_more : HasWord C → HasWord E
    word_more h = record { of_number = h.of_number; file = h.file; value = h.value; among = to h.of_number h.file h.value h.among; word = h.word }

    -- the limits of the same constraints are the same
    pub same_limits : (l : Limits) → ((n : ℕ) (h : File) (v : Value) → E n h v → C n h v) → AreLimits files C l → AreLimits files E l
    same_limits l from h = record {
      plain = λ no_word n g v k. h.plain no_word n g v (from n g v k);
      reached = reached_more l.greatest h.reached;
      word = λ is. word_more (h.word is);
    }

  module _ (C D E : ℕ → File → Value → Type 0) (from_one : (n : ℕ) (h : File) (v : Value) → C n h v → E n h v) (from_other : (n : ℕ) (h : File) (v : Value) → D n h v → E n h v) where
    min_cases : (n m : ℕ) → (min n m ≡ n) ⊎ (min n m ≡ m)
    min_cases n m = elim (leb_tells n m) [
      | inl h ↦ let less = h.1 in inl (omega arith)
      | inr h ↦ let less = h.1 in inr (omega arith)
    ]

    lesser_reached : (n m : ℕ) → IsBoundAmong files C n → IsBoundAmong files D m → (min n m ≡ n) ⊎ (min n m ≡ m) → IsBoundAmong files E (min n m)
    lesser_reached n m h k (inl is) = subst (IsBoundAmong files E) (sym is) (bound_more C E from_one n h)
    lesser_reached n m h k (inr is) = subst (IsBoundAmong files E) (sym is) (bound_more D E from_other m k)

    both_reached : (a b : Option ℕ) → IfSome a (IsBoundAmong files C) → IfSome b (IsBoundAmong files D) → IfSome (lesser a b) (IsBoundAmong files E)
    both_reached None b h k = reached_more D E from_other b k
    both_reached (Some n) None h k = bound_more C E from_one n h
    both_reached (Some n) (Some m) h k = lesser_reached n m h k (min_cases n m)

    -- the lesser of the limits of two kinds of constraints is the limit of both
    pub both_limits : (a b l : Limits) → ((n : ℕ) (h : File) (v : Value) → E n h v → C n h v ⊎ D n h v) → l.greatest ≡ lesser a.greatest b.greatest
        → (l.optional ≡ false → (a.optional ≡ false) × (b.optional ≡ false)) → (l.optional ≡ true → (a.optional ≡ true) ⊎ (b.optional ≡ true))
        → AreLimits files C a → AreLimits files D b → AreLimits files E l
    both_limits a b l cases greatest no_word word h k = record {
      plain = λ off n g v x. subst (λ (o : Option ℕ). IsSomeAnd o (Allows files g v)) (sym greatest) (elim (cases n g v x) [
        | inl y ↦ one_allows g v a.greatest b.greatest (h.plain (no_word off).0 n g v y)
        | inr y ↦ other_allows g v a.greatest b.greatest (k.plain (no_word off).1 n g v y)
      ]);
      reached = subst (λ (o : Option ℕ). IfSome o (IsBoundAmong files E)) (sym greatest) (both_reached a.greatest b.greatest h.reached k.reached);
      word = λ on. elim (word on) [ inl is ↦ word_more C E from_one (h.word is) | inr is ↦ word_more D E from_other (k.word is) ];
    }

  module _ (number : ℕ) (f : File) where
    own_more : (values more : List Value) (n : ℕ) (h : File) (v : Value) → IsOwnConstraint number f values n h v → IsOwnConstraint number f (values ++ more) n h v
    own_more values more n h v own = record { same_number = own.same_number; same_file = own.same_file; among = Contains-append_left values more v own.among }

    own_last : (values more : List Value) (n : ℕ) (h : File) (v : Value) → IsOwnConstraint number f more n h v → IsOwnConstraint number f (values ++ more) n h v
    own_last values more n h v own = record { same_number = own.same_number; same_file = own.same_file; among = Contains-append_right values more v own.among }

    own_cases : (values more : List Value) (n : ℕ) (h : File) (v : Value) → IsOwnConstraint number f (values ++ more) n h v → IsOwnConstraint number f values n h v ⊎ IsOwnConstraint number f more n h v
    own_cases values more n h v own = elim (Contains-append_cases values more v own.among) [
      | inl k ↦ inl (record { same_number = own.same_number; same_file = own.same_file; among = k })
      | inr k ↦ inr (record { same_number = own.same_number; same_file = own.same_file; among = k })
    ]

    its_own : (v : Value) → IsOwnConstraint number f (v ∷ []) number f v
    its_own v = record { same_number = refl; same_file = refl; among = among_first v [] }

    -- the word alone
    pub word_limits : (v : Value) → is_optional f v ≡ true → AreLimits files (IsOwnConstraint number f (v ∷ [])) (record { greatest = None; optional = true })
    word_limits v word = record {
      plain = λ off n h w k. absurd (true≢false off);
      reached = tt;
      word = λ _. record { of_number = number; file = f; value = v; among = its_own v; word = word };
    }

    -- a bound alone
    bound_allows : (v w : Value) (h : File) (n m : ℕ) → is_optional f v ≡ false → ValueIs files f (ty.Number Uint32) v (a_number (pos m)) → IsOwnConstraint number f (v ∷ []) n h w → Allows files h w m
    bound_allows v w h n m no_word is own = elim (among_cases v w [] own.among) [
      | inl same ↦ subst (λ (x : Value). Allows files h x m) same (subst (λ (g : File). Allows files g v m) (sym own.same_file) (record { bound = m; no_word = no_word; is = is; within = omega arith }))
      | inr none ↦ absurd (among_none w none)
    ]

    pub bound_limits : (v : Value) (k : PlainValue) (o : Option ℕ) → is_optional f v ≡ false → ValueIs files f (ty.Number Uint32) v k → Fits (ty.Number Uint32) k → IfSome o (IsBound k) → (IsNone o → Fits (ty.Number Uint32) k → ⊥)
        → AreLimits files (IsOwnConstraint number f (v ∷ [])) (record { greatest = o; optional = false })
    bound_limits v k None no_word is fits bound none = absurd (none refl fits)
    bound_limits v k (Some m) no_word is fits bound none =
        let its = subst (ValueIs files f (ty.Number Uint32) v) bound is in
        record {
          plain = λ _ n h w own. bound_allows v w h n m no_word its own;
          reached = record { of_number = number; file = f; value = v; among = its_own v; is = its };
          word = λ on. absurd (true≢false (sym on));
        }

    -- one constraint more
    pub more_limits : (values : List Value) (v : Value) (a b l : Limits) → l.greatest ≡ lesser a.greatest b.greatest → (l.optional ≡ false → (a.optional ≡ false) × (b.optional ≡ false))
        → (l.optional ≡ true → (a.optional ≡ true) ⊎ (b.optional ≡ true)) → AreLimits files (IsOwnConstraint number f values) a → AreLimits files (IsOwnConstraint number f (v ∷ [])) b
        → AreLimits files (IsOwnConstraint number f (values ++ v ∷ [])) l
    more_limits values v a b l = both_limits _ _ _ (own_more values (v ∷ [])) (own_last values (v ∷ [])) a b l (own_cases values (v ∷ []))

-- a limit and none are that limit
pub lesser_none : (o : Option ℕ) → o ≡ lesser o None
lesser_none None = refl
lesser_none (Some n) = refl
