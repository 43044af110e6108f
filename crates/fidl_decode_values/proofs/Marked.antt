-- Markers of eight bytes, read as one number.
use Rattle.std.proofs.Common.{◌≡◌, ℕ, ◌+◌, ◌-◌, ◌<◌, ◌≤◌, ◌^◌, List, length, get_or, replicate, subst, arith}
use Rattle.std.specs.Int.{w64, to_le_bytes}
use Rattle.fidl_wire.specs.Term.{uint64}
use Rattle.fidl_wire.specs.Encoding.{zeros}
use Rattle.fidl_wire.specs.Standing.{Stands}
use Rattle.fidl_wire.specs.Field.{number_at}
use Rattle.fidl_decode_model.proofs.Numbers.{number_64}
use Rattle.fidl_decode_model.proofs.Scalars.{standing}

module _ (m : List ℕ) (p : ℕ) where
  pub zeros_read : Stands m p (zeros 8) → number_at w64 m p ≡ 0
  zeros_read z = number_64 m p 0 (omega arith) z

  pub ones_read : Stands m p (replicate 8 255) → number_at w64 m p ≡ 2 ^ 64 - 1
  ones_read z = number_64 m p (2 ^ 64 - 1) (omega arith) z

  module _ (room : p + 8 ≤ length m) (small : (i : ℕ) → get_or m i 0 < 256) where
    stands_read : (n : ℕ) → number_at w64 m p ≡ n → Stands m p (to_le_bytes w64 n)
    stands_read n e = subst (λ k. Stands m p (to_le_bytes w64 k)) e (standing uint64 m p room small).1

    pub zeros_stand : number_at w64 m p ≡ 0 → Stands m p (zeros 8)
    zeros_stand e = stands_read 0 e

    pub ones_stand : number_at w64 m p ≡ 2 ^ 64 - 1 → Stands m p (replicate 8 255)
    ones_stand e = stands_read (2 ^ 64 - 1) e
