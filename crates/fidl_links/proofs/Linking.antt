-- A link that is written into a word: what is seen then.
use Rattle.std.proofs.Common.{◌≡◌, ◌≢◌, ℕ, ◌+◌, ◌-◌, ◌*◌, ◌/◌, ◌%◌, ◌^◌, ◌<◌, ◌≤◌, ◌⊎◌, inl, inr, List, slice_index, slice_set, sym, ap, subst, ◌∙◌, arith}
use Rattle.std.proofs.lemmas.Bool.{cases_eq}
use Rattle.fidl_links.specs.Marks.{Marks, marker_bit, envelope_bit, handle_bit}
use Rattle.fidl_links.specs.Words.{word, words_of, Put}
use Rattle.fidl_links.specs.Coding.{came_word, object_cell, low_cell, high_cell, IsSound, out_of_line, inline, with_low, with_high}
use Rattle.fidl_links.specs.Links.{Written, record_of, written}
use Rattle.fidl_links.specs.Links.{IsSoundAt, AreSound}
use Rattle.fidl_links.proofs.Seen.{Seen, low_of, high_of, inside_words, came_is, object_is, low_is, high_is}
use Rattle.fidl_links.proofs.Came.{Elsewhere, came_same, objects_same, objects_set, records_same, records_set, five, four, three}
use Rattle.fidl_links.proofs.Steps.{link_marker, link_low, link_high, link_outside, link_inside}

-- a half is the lower or the upper one of its word
halves : (j i : ℕ) → j / 2 ≡ i → (j ≡ 2 * i) ⊎ (j ≡ 2 * i + 1)
halves j i h = elim (cases_eq (j % 2) 0) [ inl e ↦ inl (omega (arith, h, e)) | inr n ↦ inr (omega (arith, h, odd n)) ]
  where
    odd : (j % 2 ≡ 0 → ⊥) → j % 2 ≡ 1
    odd n = grind (arith, n)

-- what is seen after a link was written
pub record Linkage (c : List ℕ) (r : Marks) (s : Written) (objects records : List ℕ) : Type 0 where
  pub came : (written c r).came ≡ s.came
  pub objects_are : (written c r).objects ≡ objects
  pub records_are : (written c r).records ≡ records
  pub sound : AreSound c r

-- soundness, where one word changes
sound_all : (b c : List ℕ) (m r : Marks) (i : ℕ) → Elsewhere b c m r i → AreSound b m → IsSoundAt c r i → AreSound c r
sound_all b c m r i e sound here j lt =
    let same : words_of c ≡ words_of b = ap (λ n. n / 8) e.len in
    let below : j < words_of b = omega (arith, lt, same) in
    elim (cases_eq j i) [
      | inl x ↦ subst (λ n. IsSoundAt c r n) (sym x) here
      | inr ne ↦
          let w = e.words j ne below in (
            omega (arith, w, (sound j below).0),
            subst (λ n. IsSound n (envelope_bit r j) (handle_bit r (2 * j)) (handle_bit r (2 * j + 1)) (word c j)) (sym (e.markers j ne))
                (subst (λ n. IsSound (marker_bit m j) n (handle_bit r (2 * j)) (handle_bit r (2 * j + 1)) (word c j)) (sym (e.envelopes j ne))
                (subst (λ n. IsSound (marker_bit m j) (envelope_bit m j) n (handle_bit r (2 * j + 1)) (word c j)) (sym (e.handles (2 * j) (λ x. ne (omega (arith, x)))))
                (subst (λ n. IsSound (marker_bit m j) (envelope_bit m j) (handle_bit m (2 * j)) n (word c j)) (sym (e.handles (2 * j + 1) (λ x. ne (omega (arith, x)))))
                (subst (λ n. IsSound (marker_bit m j) (envelope_bit m j) (handle_bit m (2 * j)) (handle_bit m (2 * j + 1)) n) (sym w) (sound j below).1)))),
          )
    ]

sound_as : {m e h k w p q f g x : ℕ} → m ≡ p → e ≡ q → h ≡ f → k ≡ g → w ≡ x → IsSound p q f g x → IsSound m e h k w
sound_as {m = m} {e = e} {h = h} {k = k} {w = w} {p = p} {q = q} {f = f} {g = g} {x = x} a b c d t s =
    subst (λ n. IsSound n e h k w) (sym a) (subst (λ n. IsSound p n h k w) (sym b) (subst (λ n. IsSound p q n k w) (sym c) (subst (λ n. IsSound p q f n w) (sym d) (subst (λ n. IsSound p q f g n) (sym t) s))))

module _ (b c : List ℕ) (m r : Marks) (i x : ℕ) (s : Written) (v : Seen b m s) (within : i < words_of s.came) (put : Put b c i x) (fits : x < 2 ^ 64) where
  inside : i < words_of b
  inside = inside_words b m s v i within

  object_free : slice_index s.objects i ≡ 0 → object_cell (marker_bit m i) (envelope_bit m i) (word b i) ≡ 0
  object_free z = sym (object_is b m s v i inside) ∙ z

  low_free : slice_index s.records (2 * i) ≡ 0 → low_cell (marker_bit m i) (envelope_bit m i) (handle_bit m (2 * i)) (word b i) ≡ 0
  low_free z = sym (low_is b m s v i inside) ∙ z

  high_free : slice_index s.records (2 * i + 1) ≡ 0 → high_cell (marker_bit m i) (envelope_bit m i) (handle_bit m (2 * i + 1)) (word b i) ≡ 0
  high_free z = sym (high_is b m s v i inside) ∙ z

  -- a marker's link
  module _ (here : marker_bit r i ≡ 1) (elsewhere : (j : ℕ) → j ≢ i → marker_bit r j ≡ marker_bit m j) (envelopes : ((j : ℕ) → envelope_bit r j ≡ envelope_bit m j)) (handles : ((j : ℕ) → handle_bit r j ≡ handle_bit m j)) where
    marked : Elsewhere b c m r i
    marked = record {
      len = put.len;
      words = λ j ne lt. put.words j ne (omega (arith, lt));
      markers = elsewhere;
      envelopes = λ j ne. envelopes j;
      handles = λ j ne. handles j;
      tail = λ k le. put.tail k (omega (arith, le, inside));
    }

    pub marker_linked : 0 < x → x ≤ 2 ^ 24 → word s.came i ≡ 2 ^ 64 - 1 → slice_index s.objects i ≡ 0 → slice_index s.records (2 * i) ≡ 0 → slice_index s.records (2 * i + 1) ≡ 0 → Linkage c r s (slice_set s.objects i x) s.records
    marker_linked some few present z low high =
        let h = handle_bit m (2 * i) in
        let k = handle_bit m (2 * i + 1) in
        let e = envelope_bit m i in
        let w = word b i in
        let step = link_marker (marker_bit m i) e h k w x (v.sound i inside).1 (object_free z) (low_free low) (high_free high) (sym (came_is b m s v i inside) ∙ present) some few in
        let same_e = envelopes i in
        let same_h = handles (2 * i) in
        let same_k = handles (2 * i + 1) in
        record {
          came = came_same b c m r i marked inside (five came_word here same_e same_h same_k put.number ∙ step.came) ∙ ap (λ (s : Written). s.came) v.is;
          objects_are = objects_set b c m r i marked inside x (three object_cell here same_e put.number ∙ step.object) ∙ ap (λ (s : Written). slice_set s.objects i x) v.is;
          records_are = records_same b c m r i marked inside (λ j half. elim (halves j i half) [
            | inl q ↦ subst (λ n. record_of c r n ≡ record_of b m n) (sym q) (low_of c r i ∙ four low_cell here same_e same_h put.number ∙ step.lower ∙ sym (low_of b m i))
            | inr q ↦ subst (λ n. record_of c r n ≡ record_of b m n) (sym q) (high_of c r i ∙ four high_cell here same_e same_k put.number ∙ step.upper ∙ sym (high_of b m i))
          ]) ∙ ap (λ (s : Written). s.records) v.is;
          sound = sound_all b c m r i marked v.sound (omega (arith, put.number, fits), sound_as here same_e same_h same_k put.number step.sound);
        }

  -- a handle's link, in the lower half
  module _ (here : handle_bit r (2 * i) ≡ 1) (elsewhere : (j : ℕ) → j ≢ 2 * i → handle_bit r j ≡ handle_bit m j) (markers : ((j : ℕ) → marker_bit r j ≡ marker_bit m j)) (envelopes : ((j : ℕ) → envelope_bit r j ≡ envelope_bit m j)) where
    lower_marked : Elsewhere b c m r i
    lower_marked = record {
      len = put.len;
      words = λ j ne lt. put.words j ne (omega (arith, lt));
      markers = λ j ne. markers j;
      envelopes = λ j ne. envelopes j;
      handles = λ j ne. elsewhere j (λ q. ne (omega (arith, q)));
      tail = λ k le. put.tail k (omega (arith, le, inside));
    }

    pub lower_linked : (q : ℕ) → x ≡ with_low (word b i) q → 0 < q → q < 2 ^ 32 → word s.came i % 2 ^ 32 ≡ 2 ^ 32 - 1 → slice_index s.objects i ≡ 0 → slice_index s.records (2 * i) ≡ 0 → Linkage c r s s.objects (slice_set s.records (2 * i) q)
    lower_linked q is some small ones z low =
        let h = handle_bit m (2 * i) in
        let k = handle_bit m (2 * i + 1) in
        let e = envelope_bit m i in
        let w = word b i in
        let step = link_low (marker_bit m i) e h k w q (v.sound i inside).1 (object_free z) (low_free low) (ap (λ n. n % 2 ^ 32) (sym (came_is b m s v i inside)) ∙ ones) (v.sound i inside).0 some small in
        let number = put.number ∙ is in
        let same_m = markers i in
        let same_e = envelopes i in
        let same_k = elsewhere (2 * i + 1) (λ q. absurd (omega (arith, q))) in
        record {
          came = came_same b c m r i lower_marked inside (five came_word same_m same_e here same_k number ∙ step.came) ∙ ap (λ (s : Written). s.came) v.is;
          objects_are = objects_same b c m r i lower_marked inside (three object_cell same_m same_e number ∙ step.object) ∙ ap (λ (s : Written). s.objects) v.is;
          records_are = records_set b c m r i lower_marked inside (2 * i) q (omega arith) (low_of c r i ∙ four low_cell same_m same_e here number ∙ step.here) (λ j half ne. elim (halves j i half) [
            | inl y ↦ absurd (ne y)
            | inr y ↦ subst (λ n. record_of c r n ≡ record_of b m n) (sym y) (high_of c r i ∙ four high_cell same_m same_e same_k number ∙ step.other ∙ sym (high_of b m i))
          ]) ∙ ap (λ (s : Written). slice_set s.records (2 * i) q) v.is;
          sound = sound_all b c m r i lower_marked v.sound (omega (arith, put.number, fits), sound_as same_m same_e here same_k number step.sound);
        }

  -- and in the upper one
  module _ (here : handle_bit r (2 * i + 1) ≡ 1) (elsewhere : (j : ℕ) → j ≢ 2 * i + 1 → handle_bit r j ≡ handle_bit m j) (markers : ((j : ℕ) → marker_bit r j ≡ marker_bit m j)) (envelopes : ((j : ℕ) → envelope_bit r j ≡ envelope_bit m j)) where
    upper_marked : Elsewhere b c m r i
    upper_marked = record {
      len = put.len;
      words = λ j ne lt. put.words j ne (omega (arith, lt));
      markers = λ j ne. markers j;
      envelopes = λ j ne. envelopes j;
      handles = λ j ne. elsewhere j (λ q. ne (omega (arith, q)));
      tail = λ k le. put.tail k (omega (arith, le, inside));
    }

    pub upper_linked : (q : ℕ) → x ≡ with_high (word b i) q → 0 < q → q < 2 ^ 32 → word s.came i / 2 ^ 32 ≡ 2 ^ 32 - 1 → slice_index s.objects i ≡ 0 → slice_index s.records (2 * i + 1) ≡ 0 → Linkage c r s s.objects (slice_set s.records (2 * i + 1) q)
    upper_linked q is some small ones z high =
        let h = handle_bit m (2 * i) in
        let k = handle_bit m (2 * i + 1) in
        let e = envelope_bit m i in
        let w = word b i in
        let step = link_high (marker_bit m i) e h k w q (v.sound i inside).1 (object_free z) (high_free high) (ap (λ n. n / 2 ^ 32) (sym (came_is b m s v i inside)) ∙ ones) (v.sound i inside).0 some small in
        let number = put.number ∙ is in
        let same_m = markers i in
        let same_e = envelopes i in
        let same_h = elsewhere (2 * i) (λ q. absurd (omega (arith, q))) in
        record {
          came = came_same b c m r i upper_marked inside (five came_word same_m same_e same_h here number ∙ step.came) ∙ ap (λ (s : Written). s.came) v.is;
          objects_are = objects_same b c m r i upper_marked inside (three object_cell same_m same_e number ∙ step.object) ∙ ap (λ (s : Written). s.objects) v.is;
          records_are = records_set b c m r i upper_marked inside (2 * i + 1) q (omega arith) (high_of c r i ∙ four high_cell same_m same_e here number ∙ step.here) (λ j half ne. elim (halves j i half) [
            | inl y ↦ subst (λ n. record_of c r n ≡ record_of b m n) (sym y) (low_of c r i ∙ four low_cell same_m same_e same_h number ∙ step.other ∙ sym (low_of b m i))
            | inr y ↦ absurd (ne y)
          ]) ∙ ap (λ (s : Written). slice_set s.records (2 * i + 1) q) v.is;
          sound = sound_all b c m r i upper_marked v.sound (omega (arith, put.number, fits), sound_as same_m same_e same_h here number step.sound);
        }

  -- an envelope's link
  module _ (here : envelope_bit r i ≡ 1) (elsewhere : (j : ℕ) → j ≢ i → envelope_bit r j ≡ envelope_bit m j) (markers : ((j : ℕ) → marker_bit r j ≡ marker_bit m j)) (handles_same : ((j : ℕ) → handle_bit r j ≡ handle_bit m j)) where
    enveloped : Elsewhere b c m r i
    enveloped = record {
      len = put.len;
      words = λ j ne lt. put.words j ne (omega (arith, lt));
      markers = λ j ne. markers j;
      envelopes = elsewhere;
      handles = λ j ne. handles_same j;
      tail = λ k le. put.tail k (omega (arith, le, inside));
    }

    pub outside_linked : (object counted handles first : ℕ) → x ≡ out_of_line object counted handles first → object % 8 ≡ 0 → 0 < object → object ≤ 2 ^ 24 → counted % 8 ≡ 0 → counted ≤ 2 ^ 24 → handles < 2 ^ 7 → first < 2 ^ 7
        → word s.came i ≡ counted + handles * 2 ^ 32 → slice_index s.objects i ≡ 0 → slice_index s.records (2 * i) ≡ 0 → slice_index s.records (2 * i + 1) ≡ 0
        → Linkage c r s (slice_set s.objects i object) (slice_set s.records (2 * i + 1) (first + 1))
    outside_linked object counted handles first is o some few n long t f counts z low high =
        let h = handle_bit m (2 * i) in
        let k = handle_bit m (2 * i + 1) in
        let e = envelope_bit m i in
        let w = word b i in
        let step = link_outside object counted handles first o some few n long t f (marker_bit m i) e h k w (v.sound i inside).1 (object_free z) (low_free low) (high_free high) (sym (came_is b m s v i inside) ∙ counts) in
        let number = put.number ∙ is in
        let same_m = markers i in
        let same_h = handles_same (2 * i) in
        let same_k = handles_same (2 * i + 1) in
        record {
          came = came_same b c m r i enveloped inside (five came_word same_m here same_h same_k number ∙ step.came) ∙ ap (λ (s : Written). s.came) v.is;
          objects_are = objects_set b c m r i enveloped inside object (three object_cell same_m here number ∙ step.object) ∙ ap (λ (s : Written). slice_set s.objects i object) v.is;
          records_are = records_set b c m r i enveloped inside (2 * i + 1) (first + 1) (omega arith) (high_of c r i ∙ four high_cell same_m here same_k number ∙ step.upper) (λ j half ne. elim (halves j i half) [
            | inl y ↦ subst (λ n. record_of c r n ≡ record_of b m n) (sym y) (low_of c r i ∙ four low_cell same_m here same_h number ∙ step.lower ∙ sym (low_of b m i))
            | inr y ↦ absurd (ne y)
          ]) ∙ ap (λ (s : Written). slice_set s.records (2 * i + 1) (first + 1)) v.is;
          sound = sound_all b c m r i enveloped v.sound (omega (arith, put.number, fits), sound_as same_m here same_h same_k number step.sound);
        }

    pub inside_linked : (handles first : ℕ) → x ≡ inline (word b i) handles first → handles < 2 ^ 7 → first < 2 ^ 7
        → word s.came i / 2 ^ 32 ≡ handles + 2 ^ 16 → slice_index s.objects i ≡ 0 → slice_index s.records (2 * i) ≡ 0 → slice_index s.records (2 * i + 1) ≡ 0
        → Linkage c r s s.objects (slice_set s.records (2 * i + 1) (first + 1))
    inside_linked handles first is t f counts z low high =
        let h = handle_bit m (2 * i) in
        let k = handle_bit m (2 * i + 1) in
        let e = envelope_bit m i in
        let w = word b i in
        let step = link_inside handles first t f (marker_bit m i) e h k w (v.sound i inside).1 (object_free z) (low_free low) (high_free high) (ap (λ n. n / 2 ^ 32) (sym (came_is b m s v i inside)) ∙ counts) (v.sound i inside).0 in
        let number = put.number ∙ is in
        let same_m = markers i in
        let same_h = handles_same (2 * i) in
        let same_k = handles_same (2 * i + 1) in
        record {
          came = came_same b c m r i enveloped inside (five came_word same_m here same_h same_k number ∙ step.came) ∙ ap (λ (s : Written). s.came) v.is;
          objects_are = objects_same b c m r i enveloped inside (three object_cell same_m here number ∙ step.object) ∙ ap (λ (s : Written). s.objects) v.is;
          records_are = records_set b c m r i enveloped inside (2 * i + 1) (first + 1) (omega arith) (high_of c r i ∙ four high_cell same_m here same_k number ∙ step.upper) (λ j half ne. elim (halves j i half) [
            | inl y ↦ subst (λ n. record_of c r n ≡ record_of b m n) (sym y) (low_of c r i ∙ four low_cell same_m here same_h number ∙ step.lower ∙ sym (low_of b m i))
            | inr y ↦ absurd (ne y)
          ]) ∙ ap (λ (s : Written). slice_set s.records (2 * i + 1) (first + 1)) v.is;
          sound = sound_all b c m r i enveloped v.sound (omega (arith, put.number, fits), sound_as same_m here same_h same_k number step.sound);
        }
