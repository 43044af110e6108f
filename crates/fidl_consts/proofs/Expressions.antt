-- The values of expressions, from those of their parts.
use Rattle.std.proofs.Common.{◌≡◌, ℕ, zero, ◌+◌, ◌<◌, ◌≤◌, List, [], ◌∷◌, length, drop, get_or, Some, Result, true, refl, sym, subst, ap, ◌∙◌, inl, inr, arith}
use Rattle.std.specs.Prelude.{IfOk, IfErr}
use Rattle.std.specs.List.{Contains}
use Rattle.std.proofs.lemmas.List.{drop_all, drop_more}
use Rattle.std.proofs.lemmas.Result.{IfOk-weaker, IfErr-weaker}
use Rattle.fidl_tree.specs.declared.file.File.{File}
use Rattle.fidl_tree.specs.Syntax.{Path, Operand, Value}
use Rattle.fidl_named.specs.declared.place.Place.{Place}
use Rattle.fidl_consts.specs.declared.fault.ConstFault.{ConstFault}
use Rattle.fidl_consts.specs.declared.fault.ConstFault.TheVariants.{OutOfRange, WrongKind}
use Rattle.fidl_consts.specs.declared.const_type.ConstType.{ConstType}
use Rattle.fidl_consts.specs.declared.const_value.ConstValue.{ConstValue}
use Rattle.fidl_consts.specs.PlainValues.{PlainValue, Fits, is_literal_of, joined, seen}
use Rattle.fidl_consts.specs.Values.{literal, name_in, inside, ValueIs, OrOperandsAre, OperandIs, NameGives}
use Rattle.fidl_consts.specs.Refusals.{LiteralFails, NameFails, ValueFails, OperandFails, at, operand_span}
use Rattle.fidl_consts.specs.Tables.{IsMemoryOr}

-- a refusal that says one thing says another that follows from it
pub reports_weaker : (P Q : ConstFault → Type 0) → ((fault : ConstFault) → P fault → Q fault) → (fault : ConstFault) → IsMemoryOr P fault → IsMemoryOr Q fault
reports_weaker P Q so fault (inl is) = inl is
reports_weaker P Q so fault (inr h) = inr (so fault h)

-- a list that isn't empty has an element
pub some_element : {X : Type 0} (xs : List X) → 0 < length xs → (x : X) × Contains xs x
some_element [] h = absurd (omega arith)
some_element (x ∷ xs) h = (x, (zero, omega arith, refl))

pub no_element : {X : Type 0} (xs : List X) → length xs ≡ 0 → xs ≡ []
no_element [] h = refl
no_element (x ∷ xs) h = absurd (omega arith)

module _ (files : List File) (f : File) (t : ConstType) where
  pub literal_ok : (e : Operand) (k : PlainValue) (r : Result ConstValue ConstFault) → literal f e ≡ Some k
      → IfOk r (λ v. (seen v ≡ k) × ((is_literal_of t (seen v) ≡ true) × Fits t (seen v))) → IfOk r (λ v. OperandIs files f t e (seen v))
  literal_ok e k r is = IfOk-weaker r _ _ (λ v h. OperandIs.literal_fits f t e (seen v) (is ∙ ap Some (sym h.0)) h.1.0 h.1.1)

  pub name_ok : (e : Operand) (path : Path) (r : Result ConstValue ConstFault) → name_in e ≡ Some path → IfOk r (λ v. NameGives files f path t (seen v)) → IfOk r (λ v. OperandIs files f t e (seen v))
  name_ok e path r is = IfOk-weaker r _ _ (λ v h. OperandIs.named f t e path h.meaning (seen v) is h.means h.gives)

  pub group_ok : (e : Operand) (value : Value) (r : Result ConstValue ConstFault) → inside e ≡ Some value → IfOk r (λ v. ValueIs files f t value (seen v)) → IfOk r (λ v. OperandIs files f t e (seen v))
  group_ok e value r is = IfOk-weaker r _ _ (λ v h. OperandIs.group f t e value (seen v) is h)

  -- what a value is joined to by the operands from a place on
  pub joined_more : (os : List Operand) (i : ℕ) (o : Operand) (before next with_next all : PlainValue) → i < length os → o ≡ get_or os i o → OperandIs files f t o next → with_next ≡ joined before next
      → OrOperandsAre files f t with_next (drop (i + 1) os) all → OrOperandsAre files f t before (drop i os) all
  joined_more os i o before next with_next all within is of_operand joins rest =
      let whole : drop i os ≡ o ∷ drop (i + 1) os = drop_more os i o within ∙ ap (λ x. x ∷ drop (i + 1) os) (sym is) in
      subst (λ l. OrOperandsAre files f t before l all) (sym whole)
      (OrOperandsAre.one_more f t before next all o (drop (i + 1) os) of_operand (subst (λ k. OrOperandsAre files f t k (drop (i + 1) os) all) joins rest))

  pub joined_all : (os : List Operand) (i : ℕ) (all : PlainValue) → length os ≤ i → OrOperandsAre files f t all (drop i os) all
  joined_all os i all past = subst (λ l. OrOperandsAre files f t all l all) (sym (drop_all i os past)) (OrOperandsAre.none f t all)

  module _ (number : ℕ) where
    pub literal_reported : (e : Operand) (k : PlainValue) (place : Place) (r : Result ConstValue ConstFault) → literal f e ≡ Some k → place ≡ at number (operand_span e)
        → IfErr r (LiteralFails t k place) → IfErr r (IsMemoryOr (λ fault. OperandFails files f number t fault e))
    literal_reported e k place r is stands = IfErr-weaker r _ _ (λ fault h. inr (of_literal fault h))
      where
        of_literal : (fault : ConstFault) → LiteralFails t k place fault → OperandFails files f number t fault e
        of_literal _ (LiteralFails.kind other) = OperandFails.literal_kind e k is other (ap WrongKind stands)
        of_literal _ (LiteralFails.range of_type outside) = OperandFails.literal_range e k is of_type outside (ap OutOfRange stands)

    pub name_reported : (e : Operand) (path : Path) (r : Result ConstValue ConstFault) → name_in e ≡ Some path → IfErr r (IsMemoryOr (NameFails files f number t path))
        → IfErr r (IsMemoryOr (λ fault. OperandFails files f number t fault e))
    name_reported e path r is = IfErr-weaker r _ _ (reports_weaker _ _ (λ fault h. OperandFails.named e path is h))

    pub group_reported : (e : Operand) (value : Value) (r : Result ConstValue ConstFault) → inside e ≡ Some value → IfErr r (IsMemoryOr (λ fault. ValueFails files f number t fault value))
        → IfErr r (IsMemoryOr (λ fault. OperandFails files f number t fault e))
    group_reported e value r is = IfErr-weaker r _ _ (reports_weaker _ _ (λ fault h. OperandFails.group e value is h))
