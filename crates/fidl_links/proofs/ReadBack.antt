-- Links that are read back.
use Rattle.std.proofs.Common.{◌≡◌, ℕ, ◌+◌, ◌-◌, ◌*◌, ◌/◌, ◌%◌, ◌^◌, ◌<◌, List, slice_index, sym, ap, subst, ◌∙◌}
use Rattle.fidl_links.specs.Marks.{Marks, handle_bit}
use Rattle.fidl_links.specs.Words.{word, words_of}
use Rattle.fidl_links.specs.Links.{Written}
use Rattle.fidl_links.proofs.Seen.{Seen, inside_words, came_is, object_is, low_is, high_is}
use Rattle.fidl_links.proofs.Steps.{marker_read, low_read, high_read, first_read, object_read}

-- what is read of a message that is seen as s
module _ (b : List ℕ) (m : Marks) (s : Written) (v : Seen b m s) (i : ℕ) (within : i < words_of s.came) where
  inside_b : i < words_of b
  inside_b = inside_words b m s v i within

  pub reads_marker : word s.came i ≡ 2 ^ 64 - 1 → 0 < slice_index s.objects i → word b i ≡ slice_index s.objects i
  reads_marker present some =
      let is = object_is b m s v i inside_b in
      sym (is ∙ marker_read _ _ _ _ (word b i) (v.sound i inside_b).1 (sym (came_is b m s v i inside_b) ∙ present) (subst (λ n. 0 < n) is some))

  pub reads_low : 0 < slice_index s.records (2 * i) → word b i % 2 ^ 32 ≡ slice_index s.records (2 * i)
  reads_low some =
      let is = low_is b m s v i inside_b in
      sym (is ∙ low_read _ _ _ (word b i) (subst (λ n. 0 < n) is some))

  pub reads_high : word s.came i / 2 ^ 32 ≡ 2 ^ 32 - 1 → 0 < slice_index s.records (2 * i + 1) → word b i / 2 ^ 32 ≡ slice_index s.records (2 * i + 1)
  reads_high ones some =
      let is = high_is b m s v i inside_b in
      sym (is ∙ high_read _ _ _ _ (word b i) (ap (λ n. n / 2 ^ 32) (sym (came_is b m s v i inside_b)) ∙ ones) (subst (λ n. 0 < n) is some))

  pub reads_first : (word s.came i / 2 ^ 32 ≡ 2 ^ 32 - 1 → ⊥) → 0 < slice_index s.records (2 * i + 1) → word b i / 2 ^ 55 % 2 ^ 7 + 1 ≡ slice_index s.records (2 * i + 1)
  reads_first other some =
      let is = high_is b m s v i inside_b in
      sym (is ∙ first_read _ _ (handle_bit m (2 * i)) _ (word b i) (λ x. other (ap (λ n. n / 2 ^ 32) (came_is b m s v i inside_b) ∙ x)) (subst (λ n. 0 < n) is some))

  pub reads_object : (word s.came i ≡ 2 ^ 64 - 1 → ⊥) → 0 < slice_index s.objects i → word b i % 2 ^ 24 * 8 ≡ slice_index s.objects i
  reads_object other some =
      let is = object_is b m s v i inside_b in
      sym (is ∙ object_read _ _ (handle_bit m (2 * i)) (handle_bit m (2 * i + 1)) (word b i) (λ x. other (came_is b m s v i inside_b ∙ x)) (subst (λ n. 0 < n) is some))
