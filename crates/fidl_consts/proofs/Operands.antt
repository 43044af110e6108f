-- What a value of the tree represents, by its parts.
use Rattle.std.proofs.Common.{rules, ◌≡◌, ◌++◌, ◌-◌, List, [], ◌∷◌, Some, length, map, refl, ap, sym, subst, ◌∙◌, inl, inr, arith}
use Rattle.std.specs.Prelude.{option_map, slice_get}
use Rattle.std.specs.List.{Contains}
use Rattle.std.proofs.Math.ListN.{length-map}
use Rattle.std.proofs.lemmas.Option.{slice_get-map}
use Rattle.std.proofs.lemmas.List.Elements.{Contains-append_left, Contains-append_right}
use Rattle.fidl_tree.specs.Syntax.{Path, Operand, bitwise_or, operands_of}
use Rattle.fidl_tree.specs.Views.{value_view, or_operand_view, operand_view}
use Rattle.fidl_tree.specs.declared.value.Value as value
use Rattle.fidl_tree.specs.declared.value.Value.{Value, out-Value}
use Rattle.fidl_tree.specs.declared.value.OrOperand as or_operand
use Rattle.fidl_tree.specs.declared.value.OrOperand.{OrOperand, out-OrOperand}
use Rattle.fidl_named.specs.Places.{value_paths, operands_paths, operand_paths}
use Rattle.fidl_consts.specs.Values.{first_operand, operands_in, later_operands}
use Rattle.fidl_consts.proofs.Among.{among_none, among_cases}

-- a list of operands and back
operands_back : (es : List Operand) → operands_in (operands_of es) ≡ es
operands_back [] = refl
operands_back (e ∷ es) = ap (λ l. e ∷ l) (operands_back es)

pub or_operand_is : (o : OrOperand) → or_operand_view o ≡ operand_view (out-OrOperand o).operand
or_operand_is o = search (rules, or_operand.the_lemmas)

module _ (v : Value) where
  value_is : value_view v ≡ bitwise_or (operand_view (out-Value v).first) (operands_of (map or_operand_view (out-Value v).rest.items))
  value_is = search (rules, value.the_lemmas)

  pub first_is : first_operand (value_view v) ≡ operand_view (out-Value v).first
  first_is = ap first_operand value_is

  pub later_is : later_operands (value_view v) ≡ map or_operand_view (out-Value v).rest.items
  later_is = ap later_operands value_is ∙ operands_back (map or_operand_view (out-Value v).rest.items)

  pub paths_are : value_paths (value_view v) ≡ operand_paths (operand_view (out-Value v).first) ++ operands_paths (operands_of (map or_operand_view (out-Value v).rest.items))
  paths_are = ap value_paths value_is

  -- the last or_operand is the last of the operands after the first
  pub last_is : (o : OrOperand) → slice_get (out-Value v).rest.items (length (out-Value v).rest.items - 1) ≡ Some o
      → slice_get (later_operands (value_view v)) (length (later_operands (value_view v)) - 1) ≡ Some (or_operand_view o)
  last_is o at =
      let os = (out-Value v).rest.items in
      let long : length (map or_operand_view os) - 1 ≡ length os - 1 = omega (arith, length-map os or_operand_view) in
      ap (λ (es : List Operand). slice_get es (length es - 1)) later_is ∙ ap (slice_get (map or_operand_view os)) long ∙ slice_get-map or_operand_view os (length os - 1) ∙ ap (option_map or_operand_view) at

-- the paths in an operand are among those in all operands
pub among_operands : (es : List Operand) (e : Operand) (path : Path) → Contains es e → Contains (operand_paths e) path → Contains (operands_paths (operands_of es)) path
among_operands [] e path h k = absurd (among_none e h)
among_operands (t ∷ es) e path h k = elim (among_cases t e es h) [
  | inl is ↦ Contains-append_left (operand_paths t) (operands_paths (operands_of es)) path (subst (λ (x : Operand). Contains (operand_paths x) path) (sym is) k)
  | inr rest ↦ Contains-append_right (operand_paths t) (operands_paths (operands_of es)) path (among_operands es e path rest k)
]
