-- What stands in lists that are paired, or that are in another order.
use Rattle.std.proofs.Common.{◌≡◌, ◌<◌, ℕ, zero, suc, List, [], ◌∷◌, Some, length, refl, subst, arith}
use Rattle.std.specs.Prelude.{slice_get}
use Rattle.std.specs.List.{AllZip}
use Rattle.std.specs.List.Sorted.{IsPermutation}
use Rattle.std.proofs.lemmas.List.Sorted.{Contains-permutation, IsPermutation-sym}
use Rattle.std.proofs.lemmas.Option.{none-some}
use Rattle.fidl_tree.specs.declared.file.File.{File}
use Rattle.fidl_table_build.specs.declared.listing.ProtocolEntry.{ProtocolEntry}
use Rattle.fidl_protocol.specs.declared.method.Protocol.{Protocol}
use Rattle.fidl_protocol.proofs.Lists.{zip_left, zip_right}
use Rattle.fidl_layout.specs.Roots.{AreRoots}
use Rattle.fidl_table.specs.Listed.{IsProtocolEntry, AreListed}

-- each place of a list has something
pub at_within : {X : Type 0} (xs : List X) (k : ℕ) → k < length xs → (x : X) × (slice_get xs k ≡ Some x)
at_within [] k lt = absurd (omega (arith, lt))
at_within (x ∷ xs) zero lt = (x, refl)
at_within (x ∷ xs) (suc k) lt = at_within xs k (omega (arith, lt))

-- what stands in one place of paired lists is paired
pub zip_at : {A B : Type 0} (R : A → B → Type 0) (xs : List A) (ys : List B) (k : ℕ) (x : A) → AllZip R xs ys → slice_get xs k ≡ Some x → (y : B) × (slice_get ys k ≡ Some y) × R x y
zip_at R [] ys k x h at = absurd (none-some x at)
zip_at R (w ∷ ws) [] k x h at = absurd h
zip_at R (w ∷ ws) (z ∷ zs) zero x h at = let same : w ≡ x = cc in (z, refl, subst (λ v. R v z) same h.0)
zip_at R (w ∷ ws) (z ∷ zs) (suc k) x h at = zip_at R ws zs k x h.1 at

-- roots in another order
pub roots_moved : (files : List File) (xs ys : List ℕ) → IsPermutation xs ys → AreRoots files xs → AreRoots files ys
roots_moved files xs ys moved h = record {
  sound = λ i c. h.sound i (Contains-permutation ys xs i (IsPermutation-sym xs ys moved) c);
  complete = λ i r. Contains-permutation xs ys i moved (h.complete i r);
}

-- paired protocols, in another order
pub listed : (files : List File) (ps : List Protocol) (es ns : List ProtocolEntry) → AllZip (IsProtocolEntry files) ps es → IsPermutation es ns → AreListed files ps ns
listed files ps es ns zip moved = record {
  sound = λ e c. zip_right (IsProtocolEntry files) ps es e zip (Contains-permutation ns es e (IsPermutation-sym es ns moved) c);
  complete = λ p c.
      let r = zip_left (IsProtocolEntry files) ps es p zip c in
      (r.0, Contains-permutation es ns r.0 moved r.1, r.2);
}
