use Rattle.std.proofs.Common.{◌≡◌, ℕ, zero, suc, ◌%◌, ◌-◌, max, [], ◌∷◌, ◌++◌, length, replicate, refl, ap, arith, ◌∙◌, pos, append-nil}
use Rattle.std.proofs.Math.ListN.{length-replicate}
use Rattle.std.specs.Int.{next_multiple_of}
use Rattle.fidl_wire.specs.Value.{Values, number, values_of, count}
use Rattle.fidl_wire.specs.Term.{Term, uint8}
use Rattle.fidl_wire.specs.Term as ty
use Rattle.fidl_wire.specs.Figure.{no_declarations}
use Rattle.fidl_wire.specs.Typed.{AllTyped}
use Rattle.fidl_wire.specs.Encoding.{elements, inline_only, pad8, zeros}
use Rattle.fidl_wire.specs.Depth.{elements_depth}
use Rattle.fidl_wire.proofs.worked.limits.arrays_of_up_to_16777216_bytes.Goals as goal

-- n numbers 0
abbrev of_zeros : ℕ → Values
of_zeros n = values_of (replicate n (number (pos 0)))

count_zeros : (n : ℕ) → count (of_zeros n) ≡ n
count_zeros zero = refl
count_zeros (suc n) = ap suc (count_zeros n)

typed_zeros : (n : ℕ) → AllTyped no_declarations (ty.number uint8) (of_zeros n)
typed_zeros zero = tt
typed_zeros (suc n) = (omega arith, typed_zeros n)

encoded_zeros : (n : ℕ) → elements no_declarations (ty.number uint8) (of_zeros n) ≡ inline_only (zeros n)
encoded_zeros zero = refl
encoded_zeros (suc n) = λ i. record { inline = 0 ∷ (encoded_zeros n i).inline; out = (encoded_zeros n i).out; handles = (encoded_zeros n i).handles }

shallow_zeros : (n : ℕ) → elements_depth no_declarations (ty.number uint8) (of_zeros n) ≡ 0
shallow_zeros zero = refl
shallow_zeros (suc n) = ap (max 0) (shallow_zeros n)

length_zeros : (n : ℕ) → length (zeros n) ≡ n
length_zeros n = length-replicate n 0

-- whole eights need no padding
padded_zeros : (n : ℕ) → n % 8 ≡ 0 → pad8 (zeros n) ≡ zeros n
padded_zeros n h =
    let none : next_multiple_of (length (zeros n)) 8 - length (zeros n) ≡ 0 = rw (length_zeros n) (omega arith) in
    ap (λ k. zeros n ++ zeros k) none ∙ append-nil (zeros n)

pub returns : goal.returns
returns c = λ n whole few. record {
  typed = (count_zeros n, typed_zeros n);
  shallow = rw (shallow_zeros n) (omega arith);
  message = (λ i. (pad8 (encoded_zeros n i).inline ++ (encoded_zeros n i).out, (encoded_zeros n i).handles)) ∙ (λ i. (append-nil (padded_zeros n whole i) i, []));
  short = rw (length_zeros n) few;
  few = omega arith;
}
