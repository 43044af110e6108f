use Rattle.std.proofs.Common.{◌≡◌, ℤ, ◌<ℤ◌, pos, neg_ℤ, List, [], ◌∷◌, Some, length, refl, sym, ap, subst, arith}
use Rattle.std.specs.Prelude.{◌≢◌}
use Rattle.std.specs.Ordering.{int_eq}
use Rattle.std.specs.Int.Signed.{<ℤ_irrefl}
use Rattle.std.specs.List.{AllPairs}
use Rattle.std.specs.List.Sorted.{IsPermutation}
use Rattle.std.proofs.lemmas.Int.{ints}
use Rattle.std.proofs.lemmas.Bool.Decides.{Decides-int_eq}
use Rattle.std.proofs.lemmas.List.Sorted.{IsPermutation-refl, IsPermutation-middle, IsPermutation-sym, length_permutation}
use Rattle.fidl_consts.specs.declared.const_type.NumberKind.TheVariants as number
use Rattle.fidl_wire.specs.Term as ty
use Rattle.fidl_lower_layouts.proofs.One.{one_list}
use Rattle.fidl_lower_layouts.proofs.Rising.{pairs_weaker, two_pairs}
use Rattle.fidl_lower_layouts.proofs.Sorting.{differ_moved}
use Rattle.fidl_lower_layouts.proofs.worked_members.numbers_of_enums.Goals as goal

rising_pair : AllPairs (λ (y z : ℤ). y <ℤ z) (pos 1 ∷ pos 2 ∷ [])
rising_pair = two_pairs (λ (y z : ℤ). y <ℤ z) (pos 1) (pos 2) (omega (arith, ints))

turned : (y z : ℤ) → IsPermutation (y ∷ z ∷ []) (z ∷ y ∷ [])
turned y z = IsPermutation-sym (z ∷ y ∷ []) (y ∷ z ∷ []) (IsPermutation-middle (z ∷ []) y [])

pub returns-clause-rising : goal.returns-clause-rising
returns-clause-rising c = λ files f ms h. record { written = pos 1 ∷ pos 2 ∷ []; are = h; numbers = pos 1 ∷ pos 2 ∷ []; same = IsPermutation-refl (pos 1 ∷ pos 2 ∷ []); rise = rising_pair; is = refl }

pub returns-clause-falling : goal.returns-clause-falling
returns-clause-falling c = λ files f ms h. record { written = pos 2 ∷ pos 1 ∷ []; are = h; numbers = pos 1 ∷ pos 2 ∷ []; same = turned (pos 2) (pos 1); rise = rising_pair; is = refl }

pub returns-clause-negative : goal.returns-clause-negative
returns-clause-negative c = λ files f ms h. record { written = pos 1 ∷ neg_ℤ (pos 2) ∷ []; are = h; numbers = neg_ℤ (pos 2) ∷ pos 1 ∷ []; same = turned (pos 1) (neg_ℤ (pos 2)); rise = two_pairs (λ (y z : ℤ). y <ℤ z) (neg_ℤ (pos 2)) (pos 1) (omega (arith, ints)); is = refl }

-- the numbers of an enum
same_numbers : (zs ws : List ℤ) → ty.enum ty.int8 (Some zs) ≡ ty.enum ty.int8 (Some ws) → zs ≡ ws
same_numbers zs ws e = cc

pub returns-clause-as_written : goal.returns-clause-as_written
returns-clause-as_written c = λ files f ms h.
    let same = same_numbers (pos 2 ∷ pos 1 ∷ []) h.numbers h.is in
    let rise = subst (AllPairs (λ (y z : ℤ). y <ℤ z)) (sym same) h.rise in
    let less : pos 2 <ℤ pos 1 = rise 0 1 (pos 0) (omega arith) (omega arith) in
    omega (arith, ints, less)

pub returns-clause-twice : goal.returns-clause-twice
returns-clause-twice c = λ files f ms t h k.
    let twice : List ℤ = pos 1 ∷ pos 1 ∷ [] in
    let moved : IsPermutation twice k.numbers = subst (λ (zs : List ℤ). IsPermutation zs k.numbers) (one_list files f number.Int8 ms k.written twice k.are h) k.same in
    let differ = differ_moved int_eq Decides-int_eq twice k.numbers moved (pairs_weaker (λ (y z : ℤ). y <ℤ z) (λ y z. y ≢ z) (λ y z less e. <ℤ_irrefl (subst (λ (x : ℤ). x <ℤ z) e less)) k.numbers k.rise) in
    differ 0 1 (pos 0) (omega arith) (omega arith) refl

nothing_moved : {X : Type 0} (xs ys : List X) (y : X) → xs ≡ [] → IsPermutation xs ys → ys ≡ y ∷ [] → ⊥
nothing_moved xs ys y none moved is = let long = length_permutation xs ys moved in let one = ap (λ l. length l) is in let zero = ap (λ l. length l) none in omega (arith, long, one, zero)

pub returns-clause-empty : goal.returns-clause-empty
returns-clause-empty c = λ files f z h. nothing_moved h.written h.numbers z (one_list files f number.Int8 [] h.written [] h.are tt) h.same (sym (same_numbers (z ∷ []) h.numbers h.is))
