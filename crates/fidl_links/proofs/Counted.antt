-- What an envelope counts, by the word that came.
use Rattle.std.proofs.Common.{◌≡◌, ℕ, ◌+◌, ◌/◌, ◌%◌, ◌^◌, ◌<◌, ◌≤◌, List, length, get_or, slice_index, refl, sym, ◌∙◌, arith}
use Rattle.std.specs.Int.{w16, w64}
use Rattle.fidl_wire.specs.Envelope.{bytes_below, handles_below, flags_at}
use Rattle.fidl_wire.specs.Field.{number_at}
use Rattle.fidl_links.specs.Links.{Written, came_at}
use Rattle.fidl_links.specs.Marks.{Marks}
use Rattle.fidl_links.specs.Words.{words_of}
use Rattle.fidl_links.proofs.ByPlace.{envelope_word}
use Rattle.fidl_links.proofs.Numbers.{byte_of, small_32, word_at}
use Rattle.fidl_links.proofs.Seen.{Seen, as_long, came_is, came_small}

small_16 : (m : List ℕ) (p : ℕ) → ((k : ℕ) → p ≤ k → k < p + 2 → get_or m k 0 < 256) → number_at w16 m p < 2 ^ 16
small_16 m p o =
    let b0 = byte_of m p (p + 2) 0 (p + 0) (omega arith) refl in
    let b1 = byte_of m p (p + 2) 1 (p + 1) (omega arith) refl in
    let o0 = o (p + 0) (omega arith) (omega arith) in
    let o1 = o (p + 1) (omega arith) (omega arith) in
    omega (arith, b0, b1, o0, o1)

module _ (b : List ℕ) (m : Marks) (s : Written) (v : Seen b m s) (p : ℕ) (aligned : p % 8 ≡ 0) (room : p + 8 ≤ length s.came) where
  pub word_within : p / 8 < words_of b
  word_within = omega (arith, aligned, room, as_long b m s v)

  module _ (n : ℕ) (came : n ≡ came_at b m (p / 8)) where
    small : (k : ℕ) → p ≤ k → k < p + 8 → slice_index s.came k < 256
    small k from to = came_small b m s v k (omega (arith, to, room, aligned, as_long b m s v))

    number : n ≡ number_at w64 s.came p
    number = came ∙ sym (came_is b m s v (p / 8) word_within) ∙ sym (word_at s.came p aligned)

    bytes_small : bytes_below s.came p < 2 ^ 32
    bytes_small = small_32 s.came p (λ k from to. small k from (omega (arith, to)))

    handles_small : handles_below s.came p < 2 ^ 16
    handles_small = small_16 s.came (p + 4) (λ k from to. small k (omega (arith, from)) (omega (arith, to)))

    pub bytes_counted : n % 2 ^ 32 ≡ bytes_below s.came p
    bytes_counted = omega (arith, number, envelope_word s.came p, bytes_small, handles_small)

    pub handles_counted : n / 2 ^ 32 % 2 ^ 16 ≡ handles_below s.came p
    handles_counted = omega (arith, number, envelope_word s.came p, bytes_small, handles_small)

    pub flags_came : n / 2 ^ 48 ≡ flags_at s.came p
    flags_came = omega (arith, number, envelope_word s.came p, bytes_small, handles_small)
