-- The bytes that follow the last occurrence of a byte, and those before the first.
use Rattle.std.proofs.Common.{◌≡◌, ℕ, ◌-◌, ◌≤◌, ◌<◌, ◌==◌, not, true, false, length, get_or, take, drop, List, sym, ap, ◌∙◌, arith}
use Rattle.std.specs.List.{after_last, before_first}
use Rattle.std.proofs.lemmas.List.{take_all, length-drop}
use Rattle.std.proofs.lemmas.List.Sums.{suffix_len_is, prefix_len_is}

-- no byte from here on is the one that is looked for
pub record IsPassed (byte : ℕ) (bytes : List ℕ) (from : ℕ) : Type 0 where
  pub within : from ≤ length bytes
  pub passed : (k : ℕ) → from ≤ k → k < length bytes → not (get_or bytes k 0 == byte) ≡ true

-- no byte before here is
pub record IsBefore (byte : ℕ) (bytes : List ℕ) (to : ℕ) : Type 0 where
  pub within : to ≤ length bytes
  pub passed : (k : ℕ) → k < to → not (get_or bytes k 0 == byte) ≡ true

pub behind_is : (byte : ℕ) (bytes : List ℕ) (from : ℕ) → IsPassed byte bytes from → (0 < from → not (get_or bytes (from - 1) 0 == byte) ≡ false)
    → take (length bytes - from) (drop from bytes) ≡ after_last (λ b. b == byte) bytes
behind_is byte bytes from p stop =
    let within = p.within in
    let count = suffix_len_is (λ b. not (b == byte)) bytes from 0 within p.passed stop in
    take_all (length bytes - from) (drop from bytes) (let long = length-drop from bytes in omega (arith, long)) ∙ ap (λ n. drop n bytes) (omega (arith, count, within))

pub front_is : (byte : ℕ) (bytes : List ℕ) (to : ℕ) → IsBefore byte bytes to → (to < length bytes → not (get_or bytes to 0 == byte) ≡ false)
    → take to bytes ≡ before_first (λ b. b == byte) bytes
front_is byte bytes to p stop =
    ap (λ n. take n bytes) (sym (prefix_len_is (λ b. not (b == byte)) bytes to 0 p.within p.passed stop))
