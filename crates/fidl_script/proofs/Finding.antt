-- The place of a byte among bytes.
use Rattle.std.proofs.Common.{◌≢◌, ◌<◌, ◌+◌, ℕ, zero, suc, List, [], ◌∷◌, length, take, arith, add-one}
use Rattle.std.specs.Prelude.{slice_index}
use Rattle.fidl_script.specs.Phrases.{HasNo}

-- bytes without another byte, and one more
pub no_more : (byte : ℕ) (bytes : List ℕ) (place : ℕ) → place < length bytes → HasNo byte (take place bytes) → slice_index bytes place ≢ byte → HasNo byte (take (place + 1) bytes)
no_more byte bytes place within before other = go bytes place within before other
  where
    step : (bs : List ℕ) (n : ℕ) → n < length bs → HasNo byte (take n bs) → slice_index bs n ≢ byte → HasNo byte (take (suc n) bs)
    step [] n within before other = absurd (omega (arith, within))
    step (b ∷ bs) zero within before other = (other, tt)
    step (b ∷ bs) (suc n) within before other = (before.0, step bs n (omega (arith, within)) before.1 other)

    go : (bs : List ℕ) (n : ℕ) → n < length bs → HasNo byte (take n bs) → slice_index bs n ≢ byte → HasNo byte (take (n + 1) bs)
    go bs n within before other = rw add-one (step bs n within before other)
