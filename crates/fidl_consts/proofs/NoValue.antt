-- What is refused has no value.
use Rattle.std.proofs.Common.{◌≡◌, ℕ, List, [], ◌∷◌, true, sym, subst, ◌∙◌, inl, inr}
use Rattle.std.specs.List.{Contains}
use Rattle.std.proofs.lemmas.Option.{same_Some}
use Rattle.fidl_tree.specs.declared.file.File.{File}
use Rattle.fidl_tree.specs.Syntax.{Path, Operand, Value}
use Rattle.fidl_named.specs.declared.place.Place.{Place}
use Rattle.fidl_named.specs.declared.place.DeclarationId.{DeclarationId}
use Rattle.fidl_named.specs.declared.meaning.Wanted.{Wanted}
use Rattle.fidl_named.specs.declared.meaning.Wanted.TheVariants as wanted
use Rattle.fidl_named.specs.declared.meaning.Meaning.{Meaning}
use Rattle.fidl_named.specs.declared.meaning.Meaning.TheVariants as meaning
use Rattle.fidl_named.specs.Meanings.{Means, IsReading, IsDeclarationOf, IsMemberOf}
use Rattle.fidl_named.specs.Paths.{texts}
use Rattle.fidl_consts.specs.declared.fault.ConstFault.{ConstFault}
use Rattle.fidl_consts.specs.declared.const_type.ConstType.{ConstType}
use Rattle.fidl_consts.specs.PlainValues.{PlainValue, Fits, Suits, is_literal_of, joined}
use Rattle.fidl_consts.specs.Values.{first_operand, later_operands, HasValue, is_member, ValueIs, OrOperandsAre, OperandIs, Gives, Offers, alone, several, none, one_more, literal_fits, group, named, offered}
use Rattle.fidl_consts.specs.Refusals.{Misfits, NameFails, ValueFails, OperandFails}
use Rattle.fidl_consts.proofs.Among.{among_none, among_cases}
use Rattle.fidl_consts.proofs.OneValue.{no_group_of, no_name_of, no_both_of, all_of_none, one_all, one_operand, one_offered}

module _ (files : List File) where
  -- no name means a member of a property by itself
  no_declaration : (f : File) (kind : Wanted) (front : List (List ℕ)) (n : List ℕ) (p : DeclarationId) (i j : ℕ) → IsDeclarationOf files f kind front n (meaning.PropertyMember p i j) → ⊥
  no_declaration f kind [] n p i j (inl own) = let bad : meaning.PropertyMember p i j ≡ meaning.Declared own.id = own.means in absurd (cc)
  no_declaration f kind [] n p i j (inr h) = let bad : meaning.PropertyMember p i j ≡ meaning.Predeclared h.predeclared = h.means in absurd (cc)
  no_declaration f kind (c ∷ cs) n p i j h = let bad : meaning.PropertyMember p i j ≡ meaning.Declared h.own.id = h.own.means in absurd (cc)

  no_member : (f : File) (front : List (List ℕ)) (t n : List ℕ) (p : DeclarationId) (i j : ℕ) → IsMemberOf files f front t n (meaning.PropertyMember p i j) → ⊥
  no_member f [] t n p i j h = let bad : meaning.PropertyMember p i j ≡ meaning.Member h.id h.number = h.means in absurd (cc)
  no_member f (c ∷ cs) t n p i j h = let bad : meaning.PropertyMember p i j ≡ meaning.Member h.member.id h.member.number = h.member.means in absurd (cc)

  no_reading : (f : File) (kind : Wanted) (name : List (List ℕ)) (p : DeclarationId) (i j : ℕ) → IsReading files f kind name (meaning.PropertyMember p i j) → ⊥
  no_reading f kind name p i j (IsReading.declaration front n is h) = no_declaration f kind front n p i j h
  no_reading f kind name p i j (IsReading.member before n is of_value h) = no_member f h.front h.type_name n p i j h.member

  -- what a name means has a value where it offers one
  offers_value : (f : File) (name : List (List ℕ)) (m : Meaning) (own : ConstType) (k : PlainValue) → IsReading files f wanted.Value name m → Offers files m own k → HasValue files m
  offers_value f name _ _ _ reading Offers.maximum = HasValue.maximum
  offers_value f name _ own k reading (Offers.constant p g c _ _ at type is) = HasValue.constant p g c at
  offers_value f name _ _ k reading (Offers.member p g l kind i m _ at of_kind there is) = HasValue.member p g l i m at there
  offers_value f name _ _ k reading (Offers.property_member p n g l kind i m _ at of_kind there is) = absurd (no_reading f wanted.Value name p n i reading)

  -- a value fits its type
  gives_fits : (m : Meaning) (t : ConstType) (k : PlainValue) → Gives files m t k → Fits t k
  gives_fits _ _ _ (offered m own t k h suits fits) = fits

  mutual
    value_fits : (f : File) (t : ConstType) (v : Value) (k : PlainValue) → ValueIs files f t v k → Fits t k
    value_fits _ _ _ _ (alone f t v k no_more h) = operand_fits f t (first_operand v) k h
    value_fits _ _ _ _ (several f t v first k joins h os fits) = fits

    operand_fits : (f : File) (t : ConstType) (e : Operand) (k : PlainValue) → OperandIs files f t e k → Fits t k
    operand_fits _ _ _ _ (literal_fits f t e k is of_type fits) = fits
    operand_fits _ _ _ _ (group f t e v k is h) = value_fits f t v k h
    operand_fits _ _ _ _ (named f t e path m k is means h) = gives_fits m t k h

  -- each operand that is joined has a value
  or_operand_operand : (f : File) (t : ConstType) (before : PlainValue) (os : List Operand) (all : PlainValue) (o : Operand) → OrOperandsAre files f t before os all → Contains os o → (k : PlainValue) × OperandIs files f t o k
  or_operand_operand _ _ _ _ _ o (none f t k) among = absurd (among_none o among)
  or_operand_operand _ _ _ _ all o (one_more f t before next _ p os h rest) among = elim (among_cases p o os among) [
    | inl is ↦ (next, subst (λ (x : Operand). OperandIs files f t x next) is h)
    | inr later ↦ or_operand_operand f t (joined before next) os all o rest later
  ]

  -- a name that is refused gives no value
  pub no_misfit : (m : Meaning) (t : ConstType) (place : Place) (fault : ConstFault) (k : PlainValue) → Misfits files m t place fault → Gives files m t k → ⊥
  no_misfit m t place _ k (Misfits.kind own l offers unsuited) (offered _ other _ _ h suits fits) =
      let types = (one_offered files m own other l k offers h).0 in
      unsuited (subst (λ s. Suits (is_member m) s t) (sym types) suits)
  no_misfit m t place _ k (Misfits.range own l offers suited outside) (offered _ other _ _ h suits fits) =
      let values = (one_offered files m own other l k offers h).1 in
      outside (subst (λ x. Fits t x) (sym values) fits)

  pub no_name : (f : File) (number : ℕ) (t : ConstType) (path : Path) (fault : ConstFault) (m : Meaning) (k : PlainValue) → NameFails files f number t path fault → Means files f wanted.Value (texts f.src.now path) m → Gives files m t k → ⊥
  no_name f number t path fault m k (NameFails.nothing no_value fault_is_true) means (offered _ own _ _ h suits fits) = no_value m means (offers_value f (texts f.src.now path) m own k means.0 h)
  no_name f number t path fault m k (NameFails.misfit n also misfits) means gives =
      let same : m ≡ n = also.1 m means.0 in
      no_misfit n t _ fault k misfits (subst (λ x. Gives files x t k) same gives)

  mutual
    -- neither does an expression or an operand
    pub no_value : (f : File) (number : ℕ) (t : ConstType) (fault : ConstFault) (v : Value) (k : PlainValue) → ValueFails files f number t fault v → ValueIs files f t v k → ⊥
    no_value f number t fault _ k (ValueFails.not_bits v o among no_joins fault_is_true) (alone _ _ _ _ no_more i) = among_none o (subst (λ os. Contains os o) no_more among)
    no_value f number t fault _ k (ValueFails.not_bits v o among no_joins fault_is_true) (several _ _ _ first _ joins i os fits) = no_joins joins
    no_value f number t fault _ k (ValueFails.too_great v first all h os outside fault_is_true) (alone _ _ _ _ no_more i) =
        let whole : all ≡ first = all_of_none files f t first all (subst (λ xs. OrOperandsAre files f t first xs all) no_more os) in
        let same : first ≡ k = one_operand files f t (first_operand v) first k h i in
        outside (subst (λ x. Fits t x) (sym (whole ∙ same)) (operand_fits f t (first_operand v) k i))
    no_value f number t fault _ k (ValueFails.too_great v first all h os outside fault_is_true) (several _ _ _ other _ joins i ps fits) =
        let same : other ≡ first = sym (one_operand files f t (first_operand v) first other h i) in
        let whole : all ≡ k = one_all files f t first (later_operands v) all k os (subst (λ x. OrOperandsAre files f t x (later_operands v) k) same ps) in
        outside (subst (λ x. Fits t x) (sym whole) fits)
    no_value f number t fault _ k (ValueFails.first v fails) (alone _ _ _ _ no_more i) = no_operand f number t fault (first_operand v) k fails i
    no_value f number t fault _ k (ValueFails.first v fails) (several _ _ _ first _ joins i os fits) = no_operand f number t fault (first_operand v) first fails i
    no_value f number t fault _ k (ValueFails.or_operand v o among fails) (alone _ _ _ _ no_more i) = among_none o (subst (λ os. Contains os o) no_more among)
    no_value f number t fault _ k (ValueFails.or_operand v o among fails) (several _ _ _ first _ joins i os fits) =
        let one = or_operand_operand f t first (later_operands v) k o os among in
        no_operand f number t fault o one.0 fails one.1

    no_operand : (f : File) (number : ℕ) (t : ConstType) (fault : ConstFault) (e : Operand) (k : PlainValue) → OperandFails files f number t fault e → OperandIs files f t e k → ⊥
    no_operand f number t fault _ k (OperandFails.literal_kind e l is other fault_is_true) (literal_fits _ _ _ _ also of_type fits) =
        other (subst (λ x. is_literal_of t x ≡ true) (sym (same_Some l k (sym is ∙ also))) of_type)
    no_operand f number t fault _ k (OperandFails.literal_kind e l is other fault_is_true) (group _ _ _ v _ also i) = no_group_of f e l v is also
    no_operand f number t fault _ k (OperandFails.literal_kind e l is other fault_is_true) (named _ _ _ path m _ also means i) = no_name_of f e l path is also
    no_operand f number t fault _ k (OperandFails.literal_range e l is of_type outside fault_is_true) (literal_fits _ _ _ _ also too fits) =
        outside (subst (λ x. Fits t x) (sym (same_Some l k (sym is ∙ also))) fits)
    no_operand f number t fault _ k (OperandFails.literal_range e l is of_type outside fault_is_true) (group _ _ _ v _ also i) = no_group_of f e l v is also
    no_operand f number t fault _ k (OperandFails.literal_range e l is of_type outside fault_is_true) (named _ _ _ path m _ also means i) = no_name_of f e l path is also
    no_operand f number t fault _ k (OperandFails.group e v is fails) (literal_fits _ _ _ _ also too fits) = no_group_of f e k v also is
    no_operand f number t fault _ k (OperandFails.group e v is fails) (group _ _ _ w _ also i) =
        let same : w ≡ v = same_Some w v (sym also ∙ is) in
        no_value f number t fault v k fails (subst (λ x. ValueIs files f t x k) same i)
    no_operand f number t fault _ k (OperandFails.group e v is fails) (named _ _ _ path m _ also means i) = no_both_of e v path is also
    no_operand f number t fault _ k (OperandFails.named e path is fails) (literal_fits _ _ _ _ also too fits) = no_name_of f e k path also is
    no_operand f number t fault _ k (OperandFails.named e path is fails) (group _ _ _ v _ also i) = no_both_of e v path also is
    no_operand f number t fault _ k (OperandFails.named e path is fails) (named _ _ _ other m _ also means i) =
        let same : other ≡ path = same_Some other path (sym also ∙ is) in
        no_name f number t path fault m k fails (subst (λ p. Means files f wanted.Value (texts f.src.now p) m) same means) i
