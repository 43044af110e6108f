-- The place of a value begins with its first operand and ends with its last.
use Rattle.std.proofs.Common.{◌≡◌, ◌++◌, ◌-◌, ◌∷◌, [], List, Option, Some, None, length, refl, ap, ◌∙◌, arith}
use Rattle.std.specs.Prelude.{slice_get}
use Rattle.std.proofs.lemmas.List.{length_push}
use Rattle.fidl_span.specs.declared.words.Span.{Span}
use Rattle.fidl_tree.specs.Syntax.{Operand}
use Rattle.fidl_consts.specs.Values.{first_operand, later_operands}
use Rattle.fidl_consts.specs.Refusals.{operand_span, to_end}
use Rattle.fidl_const.proofs.laws.values_end_with_their_last_operand.Goals as goal

at_end : {X : Type 0} (xs : List X) (x : X) → slice_get (xs ++ x ∷ []) (length xs) ≡ Some x
at_end [] x = refl
at_end (y ∷ ys) x = at_end ys x

last_of : {X : Type 0} (xs : List X) (x : X) → slice_get (xs ++ x ∷ []) (length (xs ++ x ∷ []) - 1) ≡ Some x
last_of xs x =
    let long = length_push xs x in
    let place : length (xs ++ x ∷ []) - 1 ≡ length xs = omega (arith, long) in
    ap (slice_get (xs ++ x ∷ [])) place ∙ at_end xs x

from_first : (s : Span) (o : Option Operand) → (to_end s o).from ≡ s.from
from_first s None = refl
from_first s (Some o) = refl

pub returns-clause-alone : goal.returns-clause-alone
returns-clause-alone c = λ v alone. ap (λ (os : List Operand). to_end (operand_span (first_operand v)) (slice_get os (length os - 1))) alone

pub returns-clause-from : goal.returns-clause-from
returns-clause-from c = λ v. from_first (operand_span (first_operand v)) (slice_get (later_operands v) (length (later_operands v) - 1))

pub returns-clause-to : goal.returns-clause-to
returns-clause-to c = λ v before last is.
    ap (λ (os : List Operand). (to_end (operand_span (first_operand v)) (slice_get os (length os - 1))).to) is
    ∙ ap (λ (o : Option Operand). (to_end (operand_span (first_operand v)) o).to) (last_of before last)
