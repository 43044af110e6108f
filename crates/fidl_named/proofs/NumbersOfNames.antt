-- The numbers of names that a map gives, and lists that match item by item.
use Rattle.std.proofs.Common.{◌≡◌, ℕ, zero, suc, Bool, List, [], ◌∷◌, ◌++◌, Option, Some, None, inl, inr, refl, if◌then◌else◌, ap, sym, subst, ◌∙◌, length, slice_get, true, false, take, get_or, map, ◌+◌, ◌<◌, ◌≤◌, arith}
use Rattle.std.specs.Prelude.{option_map, ◌↔◌}
use Rattle.std.specs.Global.{Vec}
use Rattle.std.specs.Map.{lookup}
use Rattle.std.specs.List.{AllByRecursion}
use Rattle.std.proofs.lemmas.Bool.{cases_Bool}
use Rattle.std.proofs.lemmas.List.{take_more, length-take-le}
use Rattle.std.proofs.Math.ListN.{get_or-map, length-map}
use Rattle.fidl_named.specs.Names.{IsOneOf}
use Rattle.fidl_named.specs.NameMaps.{seen, names_of}
use Rattle.fidl_named.specs.Imports.{same, IsEntry}
use Rattle.fidl_named.specs.Constraints.{number_in}
use Rattle.fidl_named.specs.MemberNumbers.{AreNumbers, Match}
use Rattle.fidl_named.proofs.Taken.{same_is}
use Rattle.fidl_cycles.proofs.Lists.{take_item}
use Rattle.fidl_named.proofs.Taken.{same_text, found_entry, no_entry}
use Rattle.fidl_named.proofs.FullNames.{entry_both, entry_front, entry_back, entry_among}

suc_of : (o : Option ℕ) (j : ℕ) → option_map suc o ≡ Some j → (k : ℕ) × (o ≡ Some k)
suc_of None j h = absurd (cc)
suc_of (Some k) j h = (k, refl)

step_of : (o : Option ℕ) (j : ℕ) → option_map suc o ≡ Some j → (k : ℕ) × (o ≡ Some k) × (suc k ≡ j)
step_of None j h = absurd (cc)
step_of (Some k) j h = let it : suc k ≡ j = cc in (k, refl, it)

none_of : (o : Option ℕ) → option_map suc o ≡ None → o ≡ None
none_of None h = refl
none_of (Some k) h = absurd (cc)

not_none : (o : Option ℕ) (j : ℕ) → o ≡ Some j → o ≡ None → ⊥
not_none None j h k = absurd (cc)
not_none (Some i) j h k = absurd (cc)

-- the number of a name in a list with one more
module _ (n : List ℕ) where
  abbrev stepped : Option ℕ → Bool → Option ℕ
  stepped o b = if b then Some 0 else option_map suc o

  number_kept : (xs : List (List ℕ)) (y : List ℕ) (j : ℕ) → number_in xs n ≡ Some j → number_in (xs ++ y ∷ []) n ≡ Some j
  number_kept [] y j h = absurd (cc)
  number_kept (x ∷ xs) y j h = elim (cases_Bool (same x n)) [
    | inl it ↦ ap (stepped (number_in (xs ++ y ∷ []) n)) it ∙ sym (ap (stepped (number_in xs n)) it) ∙ h
    | inr off ↦
        let before : option_map suc (number_in xs n) ≡ Some j = sym (ap (stepped (number_in xs n)) off) ∙ h in
        let rest = suc_of (number_in xs n) j before in
        ap (stepped (number_in (xs ++ y ∷ []) n)) off ∙ ap (option_map suc) (number_kept xs y rest.0 rest.1 ∙ sym rest.1) ∙ before
  ]

  number_new : (xs : List (List ℕ)) (y : List ℕ) → number_in xs n ≡ None → number_in (xs ++ y ∷ []) n ≡ (if same y n then Some (length xs) else None)
  number_new [] y h = refl
  number_new (x ∷ xs) y h = elim (cases_Bool (same x n)) [
    | inl it ↦ absurd (not_none (number_in (x ∷ xs) n) 0 (ap (stepped (number_in xs n)) it) h)
    | inr off ↦
        let before = none_of (number_in xs n) (sym (ap (stepped (number_in xs n)) off) ∙ h) in
        ap (stepped (number_in (xs ++ y ∷ []) n)) off ∙ ap (option_map suc) (number_new xs y before) ∙ moved (same y n)
  ]
    where
      moved : (b : Bool) → option_map suc (if b then Some (length xs) else None) ≡ (if b then Some (suc (length xs)) else None)
      moved true = refl
      moved false = refl

  number_other : (xs : List (List ℕ)) (y : List ℕ) → same y n ≡ false → number_in (xs ++ y ∷ []) n ≡ number_in xs n
  number_other xs y off = by_cases (number_in xs n) refl
    where
      by_cases : (o : Option ℕ) → number_in xs n ≡ o → number_in (xs ++ y ∷ []) n ≡ number_in xs n
      by_cases (Some j) is = number_kept xs y j is ∙ sym is
      by_cases None is = number_new xs y is ∙ ap (λ b. if b then Some (length xs) else None) off ∙ sym is

  -- a name stands at its number
  pub number_stands : (xs : List (List ℕ)) (i : ℕ) → number_in xs n ≡ Some i → slice_get xs i ≡ Some n
  number_stands [] i h = absurd (cc)
  number_stands (x ∷ xs) i h = elim (cases_Bool (same x n)) [
    | inl it ↦
        let first : Some 0 ≡ Some i = sym (ap (stepped (number_in xs n)) it) ∙ h in
        let number : 0 ≡ i = cc in
        subst (λ k. slice_get (x ∷ xs) k ≡ Some n) number (ap (λ y. Some y) ((same_is x n).0 it))
    | inr off ↦
        let rest = step_of (number_in xs n) i (sym (ap (stepped (number_in xs n)) off) ∙ h) in
        subst (λ k. slice_get (x ∷ xs) k ≡ Some n) rest.2 (number_stands xs rest.0 rest.1)
  ]

  -- a name with no number stands nowhere
  pub number_nowhere : (xs : List (List ℕ)) → number_in xs n ≡ None → (i : ℕ) → slice_get xs i ≡ Some n → ⊥
  number_nowhere [] h i k = absurd (cc)
  number_nowhere (x ∷ xs) h zero k =
      let is : x ≡ n = cc in
      not_none (number_in (x ∷ xs) n) 0 (ap (stepped (number_in xs n)) ((same_is x n).1 is)) h
  number_nowhere (x ∷ xs) h (suc i) k = elim (cases_Bool (same x n)) [
    | inl it ↦ not_none (number_in (x ∷ xs) n) 0 (ap (stepped (number_in xs n)) it) h
    | inr off ↦ number_nowhere xs (none_of (number_in xs n) (sym (ap (stepped (number_in xs n)) off) ∙ h)) i k
  ]

among_entry : {X : Type 0} (es : List (List ℕ × X)) (n : List ℕ) → IsOneOf (names_of es) n → (x : X) × IsEntry es n x
among_entry [] n h = absurd h
among_entry (e ∷ es) n (inl h) = (e.1, inl (h, refl))
among_entry (e ∷ es) n (inr h) = let rest = among_entry es n h in (rest.0, inr rest.1)

-- the numbers of names with one more, which the entries have already
pub numbers_there : (names : List (List ℕ)) (es : List (List ℕ × ℕ)) (y : List ℕ) → IsOneOf (names_of es) y → AreNumbers names es → AreNumbers (names ++ y ∷ []) es
numbers_there names es y there h = λ n i. subst (λ o. IsEntry es n i ↔ (o ≡ Some i)) (sym (unchanged n)) (h n i)
  where
    entry : (x : ℕ) × IsEntry es y x
    entry = among_entry es y there

    known : number_in names y ≡ Some entry.0
    known = (h y entry.0).0 entry.1

    unchanged : (n : List ℕ) → number_in (names ++ y ∷ []) n ≡ number_in names n
    unchanged n = elim (cases_Bool (same y n)) [
      | inl it ↦ let is : number_in names n ≡ Some entry.0 = subst (λ z. number_in names z ≡ Some entry.0) ((same_is y n).0 it) known in number_kept n names y entry.0 is ∙ sym is
      | inr off ↦ number_other n names y off
    ]

-- the same where they get a new entry
pub numbers_more : (names : List (List ℕ)) (es : List (List ℕ × ℕ)) (y : List ℕ) → (IsOneOf (names_of es) y → ⊥) → AreNumbers names es → AreNumbers (names ++ y ∷ []) (es ++ (y, length names) ∷ [])
numbers_more names es y fresh h = λ n i. (to n i, from n i)
  where
    unknown : number_in names y ≡ None
    unknown = by_cases (number_in names y) refl
      where
        by_cases : (o : Option ℕ) → number_in names y ≡ o → o ≡ None
        by_cases None is = refl
        by_cases (Some j) is = absurd (fresh (entry_among es y j ((h y j).1 is)))

    last : number_in (names ++ y ∷ []) y ≡ Some (length names)
    last = number_new y names y unknown ∙ ap (λ b. if b then Some (length names) else None) ((same_is y y).1 refl)

    to : (n : List ℕ) (i : ℕ) → IsEntry (es ++ (y, length names) ∷ []) n i → number_in (names ++ y ∷ []) n ≡ Some i
    to n i e = elim (entry_both es ((y, length names) ∷ []) n i e) [
      | inl k ↦ number_kept n names y i ((h n i).0 k)
      | inr k ↦ elim k [
        | inl is ↦ subst (λ z. number_in (names ++ y ∷ []) z ≡ Some i) is.0 (last ∙ ap (λ j. Some j) is.1)
        | inr none ↦ absurd none
      ]
    ]

    from : (n : List ℕ) (i : ℕ) → number_in (names ++ y ∷ []) n ≡ Some i → IsEntry (es ++ (y, length names) ∷ []) n i
    from n i is = elim (cases_Bool (same y n)) [
      | inl it ↦
          let named : y ≡ n = (same_is y n).0 it in
          let both : Some (length names) ≡ Some i = sym last ∙ ap (number_in (names ++ y ∷ [])) named ∙ is in
          let number : length names ≡ i = cc in
          entry_back es ((y, length names) ∷ []) n i (inl (named, number))
      | inr off ↦ entry_front es ((y, length names) ∷ []) n i ((h n i).1 (sym (number_other n names y off) ∙ is))
    ]

-- what a look-up finds
pub numbers_find : (es : List (Vec ℕ × ℕ)) (names : List (List ℕ)) (n : List ℕ) → AreNumbers names (seen es) → lookup (same_text n) es ≡ number_in names n
numbers_find es names n h = by_cases (lookup (same_text n) es) refl
  where
    absent : lookup (same_text n) es ≡ None → (o : Option ℕ) → number_in names n ≡ o → o ≡ None
    absent none None is = refl
    absent none (Some j) is = absurd (no_entry es n j none ((h n j).1 is))

    by_cases : (o : Option ℕ) → lookup (same_text n) es ≡ o → lookup (same_text n) es ≡ number_in names n
    by_cases (Some i) is = is ∙ sym ((h n i).0 (found_entry es n i is))
    by_cases None is = is ∙ sym (absent is (number_in names n) refl)

-- the numbers of the items so far, with one more
pub numbers_step : {X : Type 0} (text : X → List ℕ) (ms : List X) (i : ℕ) (m : X) → i < length ms → m ≡ get_or ms i m → (name : List ℕ) → name ≡ text m → (old new : List (List ℕ × ℕ))
    → ((names : List (List ℕ)) → length names ≡ i → AreNumbers names old → AreNumbers (names ++ name ∷ []) new) → AreNumbers (take i (map text ms)) old → AreNumbers (take (i + 1) (map text ms)) new
numbers_step text ms i m lt is name named old new more h =
    let texts = map text ms in
    let within : i < length texts = omega (arith, length-map ms text) in
    let shorter : i ≤ length texts = omega (arith, within) in
    let item : name ≡ get_or texts i (text m) = named ∙ ap text is ∙ sym (get_or-map text ms i m) in
    let longer : take i texts ++ name ∷ [] ≡ take (i + 1) texts = ap (λ n. take i texts ++ n ∷ []) item ∙ sym (take_more texts i (text m) within) in
    subst (λ l. AreNumbers l new) longer (more (take i texts) (length-take-le i texts shorter) h)

-- lists that match
module _ {X Y : Type 0} (R : X → Y → Type 0) where
  pub match_more : (xs : List X) (ys : List Y) (x : X) (y : Y) → Match R xs ys → R x y → Match R (xs ++ x ∷ []) (ys ++ y ∷ [])
  match_more [] [] x y h r = (r, tt)
  match_more [] (b ∷ ys) x y h r = absurd h
  match_more (a ∷ xs) [] x y h r = absurd h
  match_more (a ∷ xs) (b ∷ ys) x y h r = (h.0, match_more xs ys x y h.1 r)

  pub match_length : (xs : List X) (ys : List Y) → Match R xs ys → length xs ≡ length ys
  match_length [] [] h = refl
  match_length [] (b ∷ ys) h = absurd h
  match_length (a ∷ xs) [] h = absurd h
  match_length (a ∷ xs) (b ∷ ys) h = ap suc (match_length xs ys h.1)

  pub match_at : (xs : List X) (ys : List Y) (i : ℕ) (x : X) (y : Y) → Match R xs ys → slice_get xs i ≡ Some x → slice_get ys i ≡ Some y → R x y
  match_at [] ys i x y h e k = absurd (cc)
  match_at (a ∷ xs) [] i x y h e k = absurd h
  match_at (a ∷ xs) (b ∷ ys) zero x y h e k =
      let one : a ≡ x = cc in
      let other : b ≡ y = cc in
      subst (λ u. R u y) one (subst (R a) other h.0)
  match_at (a ∷ xs) (b ∷ ys) (suc i) x y h e k = match_at xs ys i x y h.1 e k

  -- those so far, with one more
  pub match_step : (xs : List X) (i : ℕ) (x : X) → i < length xs → x ≡ get_or xs i x → (ys new : List Y) (y : Y) → new ≡ ys ++ y ∷ [] → Match R (take i xs) ys → R x y → Match R (take (i + 1) xs) new
  match_step xs i x lt is ys new y more h r = subst (λ l. Match R l new) (sym (take_item xs i x lt is)) (subst (Match R (take i xs ++ x ∷ [])) (sym more) (match_more (take i xs) ys x y h r))

pub all_more : {X : Type 0} (P : X → Type 0) (xs : List X) (x : X) → AllByRecursion P xs → P x → AllByRecursion P (xs ++ x ∷ [])
all_more P [] x h p = (p, tt)
all_more P (y ∷ ys) x h p = (h.0, all_more P ys x h.1 p)
