-- Places where no link stands, and what messages say that have the same bytes there.
use Rattle.std.proofs.Common.{◌≡◌, ℕ, ◌+◌, ◌/◌, ◌%◌, ◌<◌, ◌≤◌, ◌⊎◌, inl, inr, List, [], ◌∷◌, length, slice_index, slice_range, replicate, sym, ap, ◌∙◌, arith}
use Rattle.std.proofs.Math.ListN.{length-replicate}
use Rattle.fidl_wire.specs.declared.marker.Presence.{Presence}
use Rattle.fidl_wire.specs.declared.marker.Presence.TheVariants.{Absent, Present, Neither}
use Rattle.fidl_wire.specs.Marker.{Says}
use Rattle.fidl_wire.specs.Standing.{Stands}
use Rattle.fidl_links.specs.Links.{Written, IsFree, AreFree, IsFreeWord}
use Rattle.fidl_links.proofs.Parts.{part_alike}

-- a place in a word lies in its first half, or in its second
pub side : (k : ℕ) → (k % 8 < 4) ⊎ (4 ≤ k % 8)
side k = grind arith

pub free_in : (m : Written) (p : ℕ) → p % 8 ≡ 0 → IsFreeWord m p → AreFree m p (p + 8)
free_in m p aligned free k from to =
    let word : p / 8 ≡ k / 8 = omega (arith, aligned, from, to) in (
      ap (λ i. slice_index m.objects i) (sym word) ∙ free.0.0,
      elim (side k) [
        | inl x ↦ let cell : k / 4 ≡ p / 4 = omega (arith, aligned, from, to, x) in ap (λ i. slice_index m.records i) cell ∙ free.0.1
        | inr x ↦ let cell : k / 4 ≡ (p + 4) / 4 = omega (arith, aligned, from, to, x) in ap (λ i. slice_index m.records i) cell ∙ free.1.1
      ],
    )

pub agreed_part : (m : Written) (raw : List ℕ) → length raw ≡ length m.came → ((k : ℕ) → k < length m.came → IsFree m k → slice_index raw k ≡ slice_index m.came k)
    → (p q : ℕ) → q ≤ length m.came → AreFree m p q → slice_range raw p q ≡ slice_range m.came p q
agreed_part m raw same agree p q room free = part_alike raw m.came p q same room (λ k from to. agree k (omega (arith, to, room)) (free k from to))

-- what stands in one of two messages that have the same bytes there stands in the other
agreed_bytes : (a b : List ℕ) (p : ℕ) → length a ≡ length b → (bytes : List ℕ) → ((k : ℕ) → p ≤ k → k < p + length bytes → slice_index a k ≡ slice_index b k) → Stands a p bytes → Stands b p bytes
agreed_bytes a b p same [] each s = s
agreed_bytes a b p same (x ∷ xs) each s = (
  omega (arith, same, s.0),
  sym (each p (omega arith) (omega arith)) ∙ s.1,
  agreed_bytes a b (p + 1) same xs (λ k from to. each k (omega (arith, from)) (omega (arith, to))) s.2,
)

agreed_copies : (a b : List ℕ) (p n x : ℕ) → length a ≡ length b → ((k : ℕ) → p ≤ k → k < p + n → slice_index a k ≡ slice_index b k) → Stands a p (replicate n x) → Stands b p (replicate n x)
agreed_copies a b p n x same each = agreed_bytes a b p same (replicate n x) (λ k from to. each k from (omega (arith, to, length-replicate n x)))

-- and a marker says the same
pub agreed_marker : (a b : List ℕ) (p n : ℕ) → length a ≡ length b → ((k : ℕ) → p ≤ k → k < p + n → slice_index a k ≡ slice_index b k) → (r : Presence) → Says a p n r → Says b p n r
agreed_marker a b p n same each Absent says = agreed_copies a b p n 0 same each says
agreed_marker a b p n same each Present says = agreed_copies a b p n 255 same each says
agreed_marker a b p n same each Neither says =
    let back : (x : ℕ) → Stands b p (replicate n x) → Stands a p (replicate n x) = λ x. agreed_copies b a p n x (sym same) (λ k from to. sym (each k from to)) in (
      λ zeros. says.0 (back 0 zeros),
      λ ones. says.1 (back 255 ones),
    )
