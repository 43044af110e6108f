-- Gaps: two in a row are one, and a place has one gap up to where no gap begins.
use Rattle.std.proofs.Common.{◌≡◌, ℕ, ◌+◌, ◌≤◌, ◌<◌, ◌==◌, ◌&&◌, not, nat_eq, true, false, List, [], ◌∷◌, ◌++◌, length, drop, get_or, slice_range, IsTrue, IsFalse, sym, refl, subst, ap, ◌∙◌, inl, inr, arith}
use Rattle.std.proofs.lemmas.Bool.{both_ways, eqb-false, eqb-true, eq-eqb, true≢false, and_parts, and_from, not-true, not-false, false_from_ne_true}
use Rattle.std.specs.List.{list_all, starts_with}
use Rattle.fidl_span.specs.Bytes.{is_blank, begins, IsRun, EndsLine}
use Rattle.fidl_span.specs.Gaps.{IsGap, IsComment, IsLine, BeginsNoGap}
use Rattle.fidl_span.specs.Words.{IsGapBetween}
use Rattle.fidl_span.proofs.Slices.{cut, join, one_byte, part_found, slice_range-nil}

blank_not_slash : (b : ℕ) → IsTrue (is_blank b) → b ≡ 47 → ⊥
unfolding is_blank
blank_not_slash b blank e = let P : ℕ → Type 0 = λ x. IsTrue (is_blank x) in true≢false (sym (subst P e blank))

line_feed_is_blank : (b : ℕ) → b ≡ 10 → IsTrue (is_blank b)
unfolding is_blank
line_feed_is_blank b e = let P : ℕ → Type 0 = λ x. IsTrue (is_blank x) in subst P (sym e) refl

-- where a gap has a byte, a gap begins
gap_begins : (c : ℕ) (h r q : List ℕ) → IsGap (c ∷ h) r → BeginsNoGap q → q ≡ c ∷ (h ++ r) → ⊥
gap_begins c h r q (inl (blank, gap)) stops e = both_ways (is_blank c) (subst BeginsNoGap e stops).0 blank
gap_begins c [] r q (inr (slash, comment)) stops e = absurd comment
gap_begins c (d ∷ h) r q (inr (slash, (second, line))) stops e = eqb-false d 47 ((subst BeginsNoGap e stops).1 slash) second

-- where a line ends with a line feed, a gap begins
line_feed_begins : (q rest : List ℕ) (c : ℕ) → EndsLine q → BeginsNoGap q → q ≡ c ∷ rest → ⊥
line_feed_begins q rest c ends stops e =
    both_ways (is_blank c) (subst BeginsNoGap e stops).0 (line_feed_is_blank c (subst EndsLine e ends))

mutual
  pub gaps_agree : (g h q r : List ℕ) → IsGap g q → BeginsNoGap q → IsGap h r → BeginsNoGap r → g ++ q ≡ h ++ r → q ≡ r
  gaps_agree [] [] q r hg sq hh sr e = e
  gaps_agree [] (c ∷ h) q r hg sq hh sr e = absurd (gap_begins c h r q hh sq e)
  gaps_agree (b ∷ g) [] q r hg sq hh sr e = absurd (gap_begins b g q r hg sr (sym e))
  gaps_agree (b ∷ g) (c ∷ h) q r (inl (x, hg)) sq (inl (y, hh)) sr e = let t : g ++ q ≡ h ++ r = cc in gaps_agree g h q r hg sq hh sr t
  gaps_agree (b ∷ g) (c ∷ h) q r (inl (x, hg)) sq (inr (y, hh)) sr e = let t : b ≡ 47 = cc in absurd (blank_not_slash b x t)
  gaps_agree (b ∷ g) (c ∷ h) q r (inr (x, hg)) sq (inl (y, hh)) sr e = let t : c ≡ 47 = cc in absurd (blank_not_slash c y t)
  gaps_agree (b ∷ g) (c ∷ h) q r (inr (x, hg)) sq (inr (y, hh)) sr e = let t : g ++ q ≡ h ++ r = cc in comments_agree g h q r hg sq hh sr t

  comments_agree : (g h q r : List ℕ) → IsComment g q → BeginsNoGap q → IsComment h r → BeginsNoGap r → g ++ q ≡ h ++ r → q ≡ r
  comments_agree [] h q r hg sq hh sr e = absurd hg
  comments_agree (b ∷ g) [] q r hg sq hh sr e = absurd hh
  comments_agree (b ∷ g) (c ∷ h) q r hg sq hh sr e = let t : g ++ q ≡ h ++ r = cc in lines_agree g h q r hg.1 sq hh.1 sr t

  lines_agree : (g h q r : List ℕ) → IsLine g q → BeginsNoGap q → IsLine h r → BeginsNoGap r → g ++ q ≡ h ++ r → q ≡ r
  lines_agree [] [] q r hg sq hh sr e = e
  lines_agree [] (c ∷ h) q r hg sq hh sr e = absurd (line_feed_begins q (h ++ r) c hg sq e)
  lines_agree (b ∷ g) [] q r hg sq hh sr e = absurd (line_feed_begins r (g ++ q) b hh sr (sym e))
  lines_agree (b ∷ g) (c ∷ h) q r (inl (x, hg)) sq (inl (y, hh)) sr e = let t : g ++ q ≡ h ++ r = cc in lines_agree g h q r hg sq hh sr t
  lines_agree (b ∷ g) (c ∷ h) q r (inl (x, hg)) sq (inr (y, hh)) sr e = let t : b ≡ 10 = cc in absurd (x t)
  lines_agree (b ∷ g) (c ∷ h) q r (inr (x, hg)) sq (inl (y, hh)) sr e = let t : c ≡ 10 = cc in absurd (y t)
  lines_agree (b ∷ g) (c ∷ h) q r (inr (x, hg)) sq (inr (y, hh)) sr e = let t : g ++ q ≡ h ++ r = cc in gaps_agree g h q r hg sq hh sr t

-- a line that ends here goes on as a gap does
line_from_gap : (h r : List ℕ) → EndsLine (h ++ r) → IsGap h r → IsLine h r
line_from_gap [] r ends gap = ends
line_from_gap (c ∷ h) r ends (inl (x, gap)) = inr (ends, gap)
line_from_gap (c ∷ h) r ends (inr (x, comment)) = absurd (blank_not_slash c (line_feed_is_blank c ends) x)

mutual
  pub IsGap-append : (g h r : List ℕ) → IsGap g (h ++ r) → IsGap h r → IsGap (g ++ h) r
  IsGap-append [] h r hg hh = hh
  IsGap-append (c ∷ g) h r (inl (x, hg)) hh = inl (x, IsGap-append g h r hg hh)
  IsGap-append (c ∷ g) h r (inr (x, hg)) hh = inr (x, IsComment-append g h r hg hh)

  IsComment-append : (g h r : List ℕ) → IsComment g (h ++ r) → IsGap h r → IsComment (g ++ h) r
  IsComment-append [] h r hg hh = absurd hg
  IsComment-append (c ∷ g) h r hg hh = (hg.0, IsLine-append g h r hg.1 hh)

  IsLine-append : (g h r : List ℕ) → IsLine g (h ++ r) → IsGap h r → IsLine (g ++ h) r
  IsLine-append [] h r hg hh = line_from_gap h r hg hh
  IsLine-append (c ∷ g) h r (inl (x, hg)) hh = inl (x, IsLine-append g h r hg hh)
  IsLine-append (c ∷ g) h r (inr (x, hg)) hh = inr (x, IsGap-append g h r hg hh)

-- two gaps in a row
pub gap_join : (src : List ℕ) (a b c : ℕ) → IsGapBetween src a b → IsGapBetween src b c → IsGapBetween src a c
gap_join src a b c g h =
    let P : List ℕ → Type 0 = λ r. IsGap (slice_range src a b) r in
    let Q : List ℕ → Type 0 = λ t. IsGap t (drop c src) in
    record {
      ordered = omega (arith, g.ordered, h.ordered);
      within = h.within;
      gap = subst Q (join src a b c g.ordered h.ordered) (IsGap-append _ _ _ (subst P (cut src b c h.ordered) g.gap) h.gap);
    }

-- no gap at all
pub gap_none : (src : List ℕ) (a : ℕ) → a ≤ length src → IsGapBetween src a a
gap_none src a within =
    let Q : List ℕ → Type 0 = λ t. IsGap t (drop a src) in
    record { ordered = omega arith; within = within; gap = subst Q (sym (slice_range-nil src a)) tt }

-- the gaps from one place up to where no gap begins end at one place
pub gap_ends_agree : (src : List ℕ) (a b c : ℕ) → IsGapBetween src a b → BeginsNoGap (drop b src) → IsGapBetween src a c → BeginsNoGap (drop c src) → drop b src ≡ drop c src
gap_ends_agree src a b c g sb h sc =
    gaps_agree (slice_range src a b) (slice_range src a c) (drop b src) (drop c src) g.gap sb h.gap sc
    (sym (cut src a b g.ordered) ∙ cut src a c h.ordered)

-- a blank alone
pub gap_of_blank : (src : List ℕ) (a : ℕ) → a < length src → IsTrue (is_blank (get_or src a 0)) → IsGapBetween src a (a + 1)
gap_of_blank src a within blank =
    let Q : List ℕ → Type 0 = λ t. IsGap t (drop (a + 1) src) in
    record {
      ordered = omega arith;
      within = omega arith;
      gap = subst Q (sym (one_byte src a within)) (inl (blank, tt));
    }

-- a line with no line feed in it
line_of_run : (text rest : List ℕ) → IsTrue (list_all (λ b. not (b == 10)) text) → IsFalse (begins (λ b. not (b == 10)) rest) → IsLine text rest
line_of_run [] [] h stops = tt
line_of_run [] (b ∷ rest) h stops = eqb-true b 10 (not-false (b == 10) stops)
line_of_run (b ∷ text) rest h stops =
    let parts = and_parts (not (b == 10)) (list_all (λ c. not (c == 10)) text) h in
    inl (eqb-false b 10 (not-true (b == 10) parts.0), line_of_run text rest parts.1 stops)

-- where two slashes stand
pub slashes_stand : (xs : List ℕ) → IsTrue (starts_with nat_eq xs (47 ∷ 47 ∷ [])) → (rest : List ℕ) × (xs ≡ 47 ∷ 47 ∷ rest)
slashes_stand [] h = absurd (true≢false (sym h))
slashes_stand (b ∷ []) h =
    let parts = and_parts (47 == b) false h in
    absurd (true≢false (sym parts.1))
slashes_stand (b ∷ c ∷ rest) h =
    let parts = and_parts (47 == b) ((47 == c) && true) h in
    let first = eqb-true 47 b parts.0 in
    let second = eqb-true 47 c (and_parts (47 == c) true parts.1).0 in
    (rest, cc)

-- where they don't stand, and no blank does, no gap begins
pub no_slashes : (xs : List ℕ) → IsFalse (starts_with nat_eq xs (47 ∷ 47 ∷ [])) → IsFalse (begins is_blank xs) → BeginsNoGap xs
no_slashes [] h no_blank = tt
no_slashes (b ∷ []) h no_blank = (no_blank, λ e. refl)
no_slashes (b ∷ c ∷ rest) h no_blank = (
  no_blank,
  λ e. false_from_ne_true (c == 47) (λ second.
      both_ways (starts_with nat_eq (b ∷ c ∷ rest) (47 ∷ 47 ∷ [])) h
      (and_from (47 == b) ((47 == c) && true) (eq-eqb 47 b (sym e)) (and_from (47 == c) true (eq-eqb 47 c (sym (eqb-true c 47 second))) refl))),
)

-- a comment alone
pub gap_of_comment : (src : List ℕ) (a to : ℕ) → a ≤ length src → IsTrue (starts_with nat_eq (drop a src) (47 ∷ 47 ∷ [])) → a + 2 ≤ to → to ≤ length src → IsRun (λ b. not (b == 10)) (slice_range src (a + 2) to) (drop to src) → IsGapBetween src a to
gap_of_comment src a to within slashes ordered ends run =
    let found = slashes_stand (drop a src) slashes in
    let marks : slice_range src a (a + 2) ≡ 47 ∷ 47 ∷ [] = part_found src (47 ∷ 47 ∷ []) found.0 a (a + 2) found.1 refl in
    let whole : 47 ∷ 47 ∷ slice_range src (a + 2) to ≡ slice_range src a to = ap (λ l. l ++ slice_range src (a + 2) to) (sym marks) ∙ join src a (a + 2) to (omega arith) ordered in
    let Q : List ℕ → Type 0 = λ t. IsGap t (drop to src) in
    record {
      ordered = omega arith;
      within = ends;
      gap = subst Q whole (inr (refl, (refl, line_of_run (slice_range src (a + 2) to) (drop to src) run.passes run.stops)));
    }
