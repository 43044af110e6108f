-- Numbers from 2^64 on, with a minus or without, are in no type's range.
use Rattle.std.proofs.Common.{ℕ, ◌≤◌, ◌^◌, Bool, true, false, arith}
use Rattle.std.proofs.lemmas.Int.{ints}
use Rattle.fidl_consts.specs.declared.const_type.NumberKind.{NumberKind}
use Rattle.fidl_consts.specs.declared.const_type.NumberKind.TheVariants.{Int8, Int16, Int32, Int64, Uint8, Uint16, Uint32, Uint64}
use Rattle.fidl_consts.specs.PlainValues.{InRange}
use Rattle.fidl_consts.specs.Values.{signed_if}

pub too_great_for_all : (kind : NumberKind) (minus : Bool) (n : ℕ) → 2 ^ 64 ≤ n → InRange kind (signed_if minus n) → ⊥
too_great_for_all Int8 false n h fits = omega (arith, ints)
too_great_for_all Int16 false n h fits = omega (arith, ints)
too_great_for_all Int32 false n h fits = omega (arith, ints)
too_great_for_all Int64 false n h fits = omega (arith, ints)
too_great_for_all Uint8 false n h fits = omega (arith, ints)
too_great_for_all Uint16 false n h fits = omega (arith, ints)
too_great_for_all Uint32 false n h fits = omega (arith, ints)
too_great_for_all Uint64 false n h fits = omega (arith, ints)
too_great_for_all Int8 true n h fits = omega (arith, ints)
too_great_for_all Int16 true n h fits = omega (arith, ints)
too_great_for_all Int32 true n h fits = omega (arith, ints)
too_great_for_all Int64 true n h fits = omega (arith, ints)
too_great_for_all Uint8 true n h fits = omega (arith, ints)
too_great_for_all Uint16 true n h fits = omega (arith, ints)
too_great_for_all Uint32 true n h fits = omega (arith, ints)
too_great_for_all Uint64 true n h fits = omega (arith, ints)
