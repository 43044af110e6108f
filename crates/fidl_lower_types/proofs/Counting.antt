-- The numbers of elements, as the code finds them.
use Rattle.std.proofs.Common.{◌≡◌, ◌<◌, ◌≤◌, ◌^◌, ℕ, Bool, true, List, [], Option, Some, None, length, refl, sym, subst, ◌∙◌, arith}
use Rattle.std.specs.Prelude.{pos, slice_get, IfSome, IsNone}
use Rattle.std.proofs.lemmas.Int.{ints}
use Rattle.std.proofs.lemmas.Option.{same_Some}
use Rattle.fidl_span.specs.declared.words.Span.{Span}
use Rattle.fidl_tree.specs.Leaf.{text_at}
use Rattle.fidl_tree.specs.Syntax as plain
use Rattle.fidl_tree.specs.Syntax.{named_type, no_arguments, Argument, number_argument, type_argument}
use Rattle.fidl_tree.specs.Views.{path_view}
use Rattle.fidl_tree.specs.declared.path.Path.{Path}
use Rattle.fidl_tree.specs.declared.file.File.{File}
use Rattle.fidl_named.specs.declared.place.Place.{Place}
use Rattle.fidl_named.specs.declared.meaning.Wanted.TheVariants as wanted
use Rattle.fidl_named.specs.declared.meaning.Meaning.{Meaning}
use Rattle.fidl_named.specs.Meanings.{components, Means, IsJust}
use Rattle.fidl_named.specs.Paths.{texts}
use Rattle.fidl_named.specs.Paths.{path_place}
use Rattle.fidl_named.specs.Scopes.{OfFile}
use Rattle.fidl_named.proofs.AliasFacts.{components_seen}
use Rattle.fidl_named.proofs.PathViews.{means_seen}
use Rattle.fidl_consts.specs.declared.fault.ConstFault.TheVariants.{WrongKind}
use Rattle.fidl_consts.specs.declared.const_type.ConstType.{ConstType}
use Rattle.fidl_consts.specs.declared.const_type.NumberKind.TheVariants.{Uint32}
use Rattle.fidl_consts.specs.declared.const_type.ConstType.TheVariants as ty
use Rattle.fidl_consts.specs.declared.const_type.BitsOrEnum.{BitsOrEnum}
use Rattle.fidl_consts.specs.declared.consts.Entry.{Entry}
use Rattle.fidl_consts.specs.Literals.{number_of}
use Rattle.fidl_consts.specs.PlainValues.{PlainValue, a_number, seen, Fits, InRange, Suits}
use Rattle.fidl_consts.specs.Values.{HasValue, Gives, Offers, NameGives, is_member, offered}
use Rattle.fidl_consts.specs.Refusals.{NameFails, Misfits}
use Rattle.fidl_consts.specs.Tables.{HasEntry}
use Rattle.fidl_consts.proofs.OneValue.{one_offered}
use Rattle.fidl_consts.proofs.NoValue.{no_name}
use Rattle.fidl_constraints.specs.Gives.{InFile}
use Rattle.fidl_constraints.proofs.Amounts.{in_file}
use Rattle.fidl_lower_types.specs.Counts.{CountIs}

-- bits and enums stand for a number where a member is given
pub values_suit : (m : Bool) (own t : ConstType) (v : BitsOrEnum) → own ≡ ty.Values v → t ≡ ty.Number Uint32 → Suits m own t → m ≡ true
values_suit m _ _ v is number (Suits.same t) = absurd (cc)
values_suit m _ _ v is number (Suits.numbers one other) = absurd (cc)
values_suit m _ _ v is number (Suits.member values kind on) = on

high : (n : ℕ) → n < 2 ^ 32 → InRange Uint32 (pos n)
high n h = (omega (arith, ints), omega (arith, ints))

low : (n : ℕ) → InRange Uint32 (pos n) → n < 2 ^ 32
low n h = omega (arith, ints)

module _ (files : List File) where
  pub given_offers : (m : Meaning) (t : ConstType) (k : PlainValue) → Gives files m t k → (own : ConstType) × Offers files m own k × Fits t k
  given_offers _ _ _ (offered m own t k h suits fits) = (own, h, fits)

  module _ (number : ℕ) (p : Path) where
    abbrev Named : ℕ → File → Type 0
    Named n f = NameGives files f (path_view p) (ty.Number Uint32) (a_number (pos n))

    abbrev IsMeant : Option Meaning → File → Type 0
    IsMeant o f = IsJust (Means files f wanted.Value (texts f.src.now (path_view p))) o

    pub value_meant : (o : Option Meaning) → OfFile files number (λ f. IsJust (Means files f wanted.Value (components f.src.now p)) o) → OfFile files number (IsMeant o)
    value_meant None h = λ f at m k. h f at m (subst (λ n. Means files f wanted.Value n m) (sym (components_seen f.src.now p)) k)
    value_meant (Some m) h = λ f at. (means_seen files f wanted.Value p m (h f at).0, λ n k. (h f at).1 n (subst (λ c. Means files f wanted.Value c n) (sym (components_seen f.src.now p)) k))

    pub name_unmeant : OfFile files number (IsMeant None) → (n : ℕ) → InFile files number (Named n) → ⊥
    name_unmeant none n x = none x.file x.at x.is.meaning x.is.means

    abbrev place : Place
    place = record { file = number; span = path_place (path_view p) }

    module _ (m : Meaning) (just : OfFile files number (IsMeant (Some m))) where
      pub name_valueless : (HasValue files m → ⊥) → (n : ℕ) → InFile files number (Named n) → ⊥
      name_valueless none n x =
          let fails : NameFails files x.file number (ty.Number Uint32) (path_view p) (WrongKind place) = NameFails.nothing (λ k means has. none (subst (HasValue files) ((just x.file x.at).1 k means) has)) refl in
          no_name files x.file number (ty.Number Uint32) (path_view p) (WrongKind place) x.is.meaning (a_number (pos n)) fails x.is.means x.is.gives

      module _ (e : Entry) (has : HasEntry files m e) where
        pub name_unsuited : (Suits (is_member m) e.own (ty.Number Uint32) → ⊥) → (n : ℕ) → InFile files number (Named n) → ⊥
        name_unsuited not n x =
            let fails : NameFails files x.file number (ty.Number Uint32) (path_view p) (WrongKind place) = NameFails.misfit m (just x.file x.at).0 (Misfits.kind e.own (seen e.value) has not) in
            no_name files x.file number (ty.Number Uint32) (path_view p) (WrongKind place) x.is.meaning (a_number (pos n)) fails x.is.means x.is.gives

        pub name_found : number < length files → Suits (is_member m) e.own (ty.Number Uint32) → (o : Option ℕ) → IfSome o (λ n. (n < 2 ^ 32) × (seen e.value ≡ a_number (pos n))) → IfSome o (λ n. InFile files number (Named n))
        name_found lt suits None is = tt
        name_found lt suits (Some n) is =
            let offers : Offers files m e.own (a_number (pos n)) = subst (Offers files m e.own) is.1 has in
            in_file files number (Named n) lt (λ f at. record { meaning = m; means = (just f at).0; gives = offered m e.own (ty.Number Uint32) (a_number (pos n)) offers suits (high n is.0) })

        pub name_none : (o : Option ℕ) → (IsNone o → (n : ℕ) → n < 2 ^ 32 → seen e.value ≡ a_number (pos n) → ⊥) → IsNone o → (n : ℕ) → InFile files number (Named n) → ⊥
        name_none o none empty n x =
            let same : x.is.meaning ≡ m = (just x.file x.at).1 x.is.meaning x.is.means in
            let gives : Gives files m (ty.Number Uint32) (a_number (pos n)) = subst (λ (y : Meaning). Gives files y (ty.Number Uint32) (a_number (pos n))) same x.is.gives in
            let its = given_offers m (ty.Number Uint32) (a_number (pos n)) gives in
            none empty n (low n its.2) (one_offered files m e.own its.0 (seen e.value) (a_number (pos n)) has its.1).1

    pub one_named : (n m : ℕ) → InFile files number (Named n) → InFile files number (Named m) → n ≡ m
    one_named n m x y =
        let file : y.file ≡ x.file = same_Some y.file x.file (sym y.at ∙ x.at) in
        let its : Named m x.file = subst (Named m) file y.is in
        let same : its.meaning ≡ x.is.meaning = x.is.means.1 its.meaning its.means.0 in
        let gives : Gives files x.is.meaning (ty.Number Uint32) (a_number (pos m)) = subst (λ (k : Meaning). Gives files k (ty.Number Uint32) (a_number (pos m))) same its.gives in
        let one = given_offers x.is.meaning (ty.Number Uint32) (a_number (pos n)) x.is.gives in
        let other = given_offers x.is.meaning (ty.Number Uint32) (a_number (pos m)) gives in
        let both : a_number (pos n) ≡ a_number (pos m) = (one_offered files x.is.meaning one.0 other.0 (a_number (pos n)) (a_number (pos m)) one.1 other.1).1 in
        cc

    -- a name as a number of elements
    abbrev bare : Argument
    bare = type_argument (named_type (path_view p) no_arguments [])

    pub name_counts : (n : ℕ) → InFile files number (Named n) → 1 ≤ n → InFile files number (λ f. CountIs files f bare n)
    name_counts n x one = record { file = x.file; at = x.at; is = CountIs.of_name (path_view p) n x.is one }

    named_of : (f : File) (a : Argument) (n : ℕ) → a ≡ bare → CountIs files f a n → Named n f × (1 ≤ n)
    named_of f _ _ is (CountIs.of_word s n e one least) = absurd (cc)
    named_of f _ _ is (CountIs.of_name path n h one) =
        let same : path ≡ path_view p = cc in
        (subst (λ (q : plain.Path). NameGives files f q (ty.Number Uint32) (a_number (pos n))) same h, one)

    pub name_counted : (n : ℕ) → InFile files number (λ f. CountIs files f bare n) → InFile files number (Named n) × (1 ≤ n)
    name_counted n x = let h = named_of x.file bare n refl x.is in (record { file = x.file; at = x.at; is = h.0 }, h.1)

  module _ (number : ℕ) (a : Argument) where
    -- a number word as a number of elements
    pub word_counts : (s : Span) (f : File) (o : Option ℕ) → a ≡ number_argument s → slice_get files number ≡ Some f → IfSome o (λ n. (n ≡ number_of (text_at f.src.now s)) × ((1 ≤ n) × (n < 2 ^ 32)))
        → IfSome o (λ n. InFile files number (λ f. CountIs files f a n))
    word_counts s f None is at h = tt
    word_counts s f (Some n) is at h = record { file = f; at = at; is = subst (λ (x : Argument). CountIs files f x n) (sym is) (CountIs.of_word s n h.0 h.1.0 h.1.1) }

    word_of : (f : File) (b : Argument) (n : ℕ) (s : Span) → b ≡ number_argument s → CountIs files f b n → (n ≡ number_of (text_at f.src.now s)) × (1 ≤ n) × (n < 2 ^ 32)
    word_of f _ _ s is (CountIs.of_word r n e one least) =
        let same : r ≡ s = cc in
        (subst (λ (x : Span). n ≡ number_of (text_at f.src.now x)) same e, one, least)
    word_of f _ _ s is (CountIs.of_name path n h one) = absurd (cc)

    pub no_word : (s : Span) (f : File) (o : Option ℕ) → a ≡ number_argument s → slice_get files number ≡ Some f
        → (IsNone o → 1 ≤ number_of (text_at f.src.now s) → number_of (text_at f.src.now s) < 2 ^ 32 → ⊥) → IsNone o → (n : ℕ) → InFile files number (λ f. CountIs files f a n) → ⊥
    no_word s f o is at none empty n x =
        let same : x.file ≡ f = same_Some x.file f (sym x.at ∙ at) in
        let h = word_of f a n s is (subst (λ (g : File). CountIs files g a n) same x.is) in
        none empty (subst (λ k. 1 ≤ k) h.0 h.1) (subst (λ k. k < 2 ^ 32) h.0 h.2)

    neither_of : (f : File) (b : Argument) (n : ℕ) → ((s : Span) → b ≡ number_argument s → ⊥) → ((q : plain.Path) → b ≡ type_argument (named_type q no_arguments []) → ⊥) → CountIs files f b n → ⊥
    neither_of f _ _ word name (CountIs.of_word s n e one least) = word s refl
    neither_of f _ _ word name (CountIs.of_name path n h one) = name path refl

    pub no_count : ((s : Span) → a ≡ number_argument s → ⊥) → ((q : plain.Path) → a ≡ type_argument (named_type q no_arguments []) → ⊥) → (n : ℕ) → InFile files number (λ f. CountIs files f a n) → ⊥
    no_count word name n x = neither_of x.file a n word name x.is
