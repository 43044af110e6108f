-- The numbers of constraints, as the code finds them.
use Rattle.std.proofs.Common.{◌≡◌, ◌<◌, ◌^◌, ℕ, List, Option, Some, None, length, subst, inl, inr, arith}
use Rattle.std.specs.Prelude.{pos, IfSome, IsNone}
use Rattle.std.proofs.lemmas.Int.{ints}
use Rattle.std.proofs.lemmas.Option.{same_Some, none-some}
use Rattle.fidl_tree.specs.declared.file.File.{File}
use Rattle.fidl_tree.specs.Syntax.{Value, Operand}
use Rattle.fidl_named.specs.declared.place.DeclarationId.{DeclarationId}
use Rattle.fidl_named.specs.declared.meaning.Meaning.{Meaning}
use Rattle.fidl_named.specs.declared.meaning.Meaning.TheVariants as meaning
use Rattle.fidl_named.specs.Scopes.{OfFile}
use Rattle.fidl_consts.specs.declared.fault.ConstFault.{ConstFault}
use Rattle.fidl_consts.specs.declared.fault.ConstFault.TheVariants.{Memory}
use Rattle.fidl_consts.specs.declared.const_type.ConstType.{ConstType}
use Rattle.fidl_consts.specs.declared.const_type.NumberKind.TheVariants.{Uint32}
use Rattle.fidl_consts.specs.declared.const_type.ConstType.TheVariants as ty
use Rattle.fidl_consts.specs.declared.const_value.ConstValue.{ConstValue}
use Rattle.fidl_consts.specs.PlainValues.{PlainValue, a_number, seen, Fits, InRange}
use Rattle.fidl_consts.specs.Values.{ValueIs, OperandIs, Gives, first_operand, alone, several, literal_fits, group, named, offered}
use Rattle.fidl_consts.specs.Refusals.{ValueFails}
use Rattle.fidl_consts.specs.Constraints.{ItemIs, HandleValueIs, HandleValueFails, IsForNoProperty}
use Rattle.fidl_consts.specs.Tables.{IsMemoryOr}
use Rattle.fidl_consts.proofs.OneValue.{one_value}
use Rattle.fidl_consts.proofs.NoValue.{no_value}
use Rattle.fidl_consts.proofs.NoItem.{no_item, one_wants}
use Rattle.fidl_constraints.specs.Behind.{handle_head}
use Rattle.fidl_constraints.proofs.Naming.{there}
use Rattle.fidl_constraints.specs.Gives.{InFile, IsOfProperty}
use Rattle.fidl_constraints.proofs.OneHandle.{one_handle}

-- a bound has 32 bits
low : (n : ℕ) → InRange Uint32 (pos n) → n < 2 ^ 32
low n h = omega (arith, ints)

module _ (files : List File) where
  gives_fits : (m : Meaning) (t : ConstType) (k : PlainValue) → Gives files m t k → Fits t k
  gives_fits _ _ _ (offered m own t k h suits fits) = fits

  mutual
    value_fits : (f : File) (t : ConstType) (v : Value) (k : PlainValue) → ValueIs files f t v k → Fits t k
    value_fits _ _ _ _ (alone f t v k no_more h) = operand_fits f t (first_operand v) k h
    value_fits _ _ _ _ (several f t v first k joins h os fits) = fits

    operand_fits : (f : File) (t : ConstType) (e : Operand) (k : PlainValue) → OperandIs files f t e k → Fits t k
    operand_fits _ _ _ _ (literal_fits f t e k is of_type fits) = fits
    operand_fits _ _ _ _ (group f t e v k is h) = value_fits f t v k h
    operand_fits _ _ _ _ (named f t e path m k is means h) = gives_fits m t k h

  no_handle : (f : File) (n : ℕ) (end : Meaning) (rank : ℕ) (v : Value) (fault : ConstFault) (k : PlainValue) → HandleValueFails files f n end rank v fault → HandleValueIs files f end rank v k → ⊥
  no_handle f n end rank v fault k (HandleValueFails.value t wants fails) h =
      let same : h.own ≡ t = same_Some h.own t (one_wants files end rank (Some h.own) (Some t) h.wants wants) in
      no_item files f n end rank t v fault k fails (subst (λ (x : ConstType). ItemIs files f end rank x v k) same h.is)
  no_handle f n end rank v fault k (HandleValueFails.no_type wants is) h = none-some h.own (one_wants files end rank None (Some h.own) wants h.wants)

  module _ (number : ℕ) where
    pub in_file : (P : File → Type 0) → number < length files → OfFile files number P → InFile files number P
    in_file P lt h = let f = there files number lt in record { file = f.0; at = f.1; is = h f.0 f.1 }

    module _ (v : Value) where
      abbrev BoundIs : PlainValue → File → Type 0
      BoundIs k f = ValueIs files f (ty.Number Uint32) v k

      pub bound_found : (k : ConstValue) (o : Option ℕ) → number < length files → OfFile files number (λ f. ValueIs files f (ty.Number Uint32) v (seen k)) → IfSome o (λ n. (n < 2 ^ 32) × (seen k ≡ a_number (pos n)))
          → IfSome o (λ n. InFile files number (λ f. ValueIs files f (ty.Number Uint32) v (a_number (pos n))))
      bound_found k None lt h is = tt
      bound_found k (Some n) lt h is = in_file (BoundIs (a_number (pos n))) lt (λ f at. subst (λ x. BoundIs x f) is.1 (h f at))

      pub bound_none : (k : ConstValue) (o : Option ℕ) → OfFile files number (λ f. ValueIs files f (ty.Number Uint32) v (seen k)) → (IsNone o → (n : ℕ) → n < 2 ^ 32 → seen k ≡ a_number (pos n) → ⊥)
          → IsNone o → (n : ℕ) → InFile files number (λ f. ValueIs files f (ty.Number Uint32) v (a_number (pos n))) → ⊥
      bound_none k o h none empty n x =
          none empty n (low n (value_fits x.file (ty.Number Uint32) v (a_number (pos n)) x.is)) (one_value files x.file (ty.Number Uint32) v (seen k) (a_number (pos n)) (h x.file x.at) x.is)

      pub bound_refused : (fault : ConstFault) → IsMemoryOr (λ fault. OfFile files number (λ f. ValueFails files f number (ty.Number Uint32) fault v)) fault → (fault ≡ Memory → ⊥)
          → (n : ℕ) → InFile files number (λ f. ValueIs files f (ty.Number Uint32) v (a_number (pos n))) → ⊥
      bound_refused fault (inl is) other n x = other is
      bound_refused fault (inr h) other n x = no_value files x.file number (ty.Number Uint32) fault v (a_number (pos n)) (h x.file x.at) x.is

      module _ (p : DeclarationId) (rank : ℕ) where
        abbrev OfProperty : ℕ → File → Type 0
        OfProperty n f = IsOfProperty files (handle_head p) rank v n f

        pub property_found : (k : ConstValue) (o : Option ℕ) → number < length files → OfFile files number (λ f. HandleValueIs files f (meaning.Declared p) rank v (seen k)) → IfSome o (λ n. (n < 2 ^ 32) × (seen k ≡ a_number (pos n)))
            → IfSome o (λ n. InFile files number (IsOfProperty files (handle_head p) rank v n))
        property_found k None lt h is = tt
        property_found k (Some n) lt h is = in_file (OfProperty n) lt (λ f at. (subst (HandleValueIs files f (meaning.Declared p) rank v) is.1 (h f at), is.0))

        pub property_none : (k : ConstValue) (o : Option ℕ) → OfFile files number (λ f. HandleValueIs files f (meaning.Declared p) rank v (seen k)) → (IsNone o → (n : ℕ) → n < 2 ^ 32 → seen k ≡ a_number (pos n) → ⊥)
            → IsNone o → (n : ℕ) → InFile files number (IsOfProperty files (handle_head p) rank v n) → ⊥
        property_none k o h none empty n x = none empty n x.is.1 (one_handle files x.file (meaning.Declared p) rank v (seen k) (a_number (pos n)) (h x.file x.at) x.is.0)

        pub no_property : IsForNoProperty files (meaning.Declared p) rank → (n : ℕ) → InFile files number (IsOfProperty files (handle_head p) rank v n) → ⊥
        no_property none n x = let w = x.is.0.wants in none w.id w.file w.number w.property w.is_for

        pub property_refused : (fault : ConstFault) → IsMemoryOr (λ fault. OfFile files number (λ f. HandleValueFails files f number (meaning.Declared p) rank v fault)) fault → (fault ≡ Memory → ⊥)
            → (n : ℕ) → InFile files number (IsOfProperty files (handle_head p) rank v n) → ⊥
        property_refused fault (inl is) other n x = other is
        property_refused fault (inr h) other n x = no_handle x.file number (meaning.Declared p) rank v fault (a_number (pos n)) (h x.file x.at) x.is.0
