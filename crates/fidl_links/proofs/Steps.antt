-- What a link that is written into a free word, or half, changes.
use Rattle.std.proofs.Common.{◌≡◌, ℕ, zero, suc, ◌+◌, ◌-◌, ◌*◌, ◌/◌, ◌%◌, ◌^◌, ◌<◌, ◌≤◌, ◌⊎◌, inl, inr, refl, sym, ap, subst, ◌∙◌, arith}
use Rattle.fidl_links.specs.Coding.{inside_of, first_of, place_of, low, high, envelope_came, came_word, envelope_object, object_cell, low_handle, high_handle, envelope_low, low_cell, high_cell, IsMarked, EnvelopeSound, IsSound, out_of_line, inline, with_low, with_high}
use Rattle.fidl_links.proofs.Codes as code

-- a free word has no bit set
pub record IsFree (m e h k : ℕ) : Type 0 where
  pub marker : m ≡ 0
  pub envelope : e ≡ 0
  pub lower : h ≡ 0
  pub upper : k ≡ 0

low_free : (h w : ℕ) → IsMarked h (w % 2 ^ 32) → low_handle h w ≡ 0 → h ≡ 0
low_free zero w s c = refl
low_free (suc h) w s c = absurd (omega (arith, s, c))

high_free : (h w : ℕ) → IsMarked h (w / 2 ^ 32) → high_handle h w ≡ 0 → h ≡ 0
high_free zero w s c = refl
high_free (suc h) w s c = absurd (omega (arith, s, c))

pub is_free : (m e h k w : ℕ) → IsSound m e h k w → object_cell m e w ≡ 0 → low_cell m e h w ≡ 0 → high_cell m e k w ≡ 0 → IsFree m e h k
is_free (suc m) e h k w s o a b = absurd (omega (arith, s.0, o))
is_free zero (suc e) h k w s o a b = absurd (omega (arith, b))
is_free zero zero h k w s o a b = record { marker = refl; envelope = refl; lower = low_free h w s.0 a; upper = high_free k w s.1 b }

-- a half is free where no marker's link and no envelope's is in its way
pub low_is_free : (m e h k w : ℕ) → IsSound m e h k w → object_cell m e w ≡ 0 → low_cell m e h w ≡ 0 → (m ≡ 0) × (h ≡ 0) × ((e ≡ 0) ⊎ ((0 < e) × (0 < w / 2 ^ 63)))
low_is_free (suc m) e h k w s o a = absurd (omega (arith, s.0, o))
low_is_free zero (suc e) h k w s o a = go (w / 2 ^ 63) refl s o a
  where
    go : (t : ℕ) → w / 2 ^ 63 ≡ t → EnvelopeSound t h w → envelope_object t w ≡ 0 → envelope_low t h w ≡ 0 → (zero ≡ 0) × (h ≡ 0) × ((suc e ≡ 0) ⊎ ((0 < suc e) × (0 < w / 2 ^ 63)))
    go zero is s o a = absurd (omega (arith, s, o))
    go (suc t) is s o a = (refl, low_free h w s a, inr (omega arith, omega (arith, is)))
low_is_free zero zero h k w s o a = (refl, low_free h w s.0 a, inl refl)

pub high_is_free : (m e h k w : ℕ) → IsSound m e h k w → object_cell m e w ≡ 0 → high_cell m e k w ≡ 0 → (m ≡ 0) × (e ≡ 0) × (k ≡ 0)
high_is_free (suc m) e h k w s o a = absurd (omega (arith, s.0, o))
high_is_free zero (suc e) h k w s o a = absurd (omega (arith, a))
high_is_free zero zero h k w s o a = (refl, refl, high_free k w s.1 a)

-- a handle's link in the lower half
pub record Lower (m e h k w x : ℕ) : Type 0 where
  pub came : came_word m e 1 k (with_low w x) ≡ came_word m e h k w
  pub object : object_cell m e (with_low w x) ≡ object_cell m e w
  pub here : low_cell m e 1 (with_low w x) ≡ x
  pub other : high_cell m e k (with_low w x) ≡ high_cell m e k w
  pub sound : IsSound m e 1 k (with_low w x)

pub link_low : (m e h k w x : ℕ) → IsSound m e h k w → object_cell m e w ≡ 0 → low_cell m e h w ≡ 0 → came_word m e h k w % 2 ^ 32 ≡ 2 ^ 32 - 1 → w < 2 ^ 64 → 0 < x → x < 2 ^ 32 → Lower m e h k w x
link_low (suc m) e h k w x s o a c fits some small = absurd (omega (arith, s.0, o))
link_low zero (suc e) h k w x s o a c fits some small = go (w / 2 ^ 63) refl s o a c
  where
    go : (t : ℕ) → w / 2 ^ 63 ≡ t → EnvelopeSound t h w → envelope_object t w ≡ 0 → envelope_low t h w ≡ 0 → envelope_came t h w % 2 ^ 32 ≡ 2 ^ 32 - 1 → Lower zero (suc e) h k w x
    go zero is s o a c = absurd (omega (arith, s, o))
    go (suc t) is s o a c =
        let top : with_low w x / 2 ^ 63 ≡ suc t = code.low_top w x small ∙ is in
        let free = low_free h w s a in
        let ones : w % 2 ^ 32 ≡ 2 ^ 32 - 1 = lower_came h free c in
        record {
          came = ap (λ n. envelope_came n 1 (with_low w x)) top ∙ ap (λ n. 2 ^ 32 - 1 + n) (code.low_inside w x small) ∙ sym (ap (λ n. envelope_came n h w) is ∙ ap (λ n. low n w + inside_of w) free ∙ ap (λ n. n + inside_of w) ones);
          object = ap (λ n. envelope_object n (with_low w x)) top ∙ sym (ap (λ n. envelope_object n w) is);
          here = ap (λ n. envelope_low n 1 (with_low w x)) top ∙ code.low_low w x small;
          other = ap (λ n. n + 1) (code.low_first w x small);
          sound = subst (λ (n : ℕ). EnvelopeSound n 1 (with_low w x)) (sym top) (omega (arith, code.low_low w x small, some));
        }
      where
        lower_came : (h : ℕ) → h ≡ 0 → (low h w + inside_of w) % 2 ^ 32 ≡ 2 ^ 32 - 1 → w % 2 ^ 32 ≡ 2 ^ 32 - 1
        lower_came zero z c = omega (arith, c)
        lower_came (suc h) z c = absurd (omega (arith, z))
link_low zero zero h k w x s o a c fits some small =
    let free = low_free h w s.0 a in
    record {
      came = ap (λ n. 2 ^ 32 - 1 + n * 2 ^ 32) (upper k) ∙ sym (lower h free c);
      object = refl;
      here = code.low_low w x small;
      other = other k;
      sound = (omega (arith, code.low_low w x small, some), subst (λ (n : ℕ). IsMarked k n) (sym (code.low_high w x small)) s.1);
    }
  where
    upper : (k : ℕ) → high k (with_low w x) ≡ high k w
    upper zero = code.low_high w x small
    upper (suc k) = refl

    lower : (h : ℕ) → h ≡ 0 → (low h w + high k w * 2 ^ 32) % 2 ^ 32 ≡ 2 ^ 32 - 1 → low h w + high k w * 2 ^ 32 ≡ 2 ^ 32 - 1 + high k w * 2 ^ 32
    lower zero z c = omega (arith, c)
    lower (suc h) z c = refl

    other : (k : ℕ) → high_handle k (with_low w x) ≡ high_handle k w
    other zero = refl
    other (suc k) = code.low_high w x small

-- and in the upper half
pub record Upper (m e h k w x : ℕ) : Type 0 where
  pub came : came_word m e h 1 (with_high w x) ≡ came_word m e h k w
  pub object : object_cell m e (with_high w x) ≡ object_cell m e w
  pub here : high_cell m e 1 (with_high w x) ≡ x
  pub other : low_cell m e h (with_high w x) ≡ low_cell m e h w
  pub sound : IsSound m e h 1 (with_high w x)

pub link_high : (m e h k w x : ℕ) → IsSound m e h k w → object_cell m e w ≡ 0 → high_cell m e k w ≡ 0 → came_word m e h k w / 2 ^ 32 ≡ 2 ^ 32 - 1 → w < 2 ^ 64 → 0 < x → x < 2 ^ 32 → Upper m e h k w x
link_high (suc m) e h k w x s o a c fits some small = absurd (omega (arith, s.0, o))
link_high zero (suc e) h k w x s o a c fits some small = absurd (omega (arith, a))
link_high zero zero h k w x s o a c fits some small =
    let free = high_free k w s.1 a in
    record {
      came = ap (λ n. n + (2 ^ 32 - 1) * 2 ^ 32) (lower h) ∙ sym (upper k free c);
      object = refl;
      here = code.high_high w x small;
      other = other h;
      sound = (subst (λ (n : ℕ). IsMarked h n) (sym (code.high_low w x small)) s.0, omega (arith, code.high_high w x small, some));
    }
  where
    lower : (h : ℕ) → low h (with_high w x) ≡ low h w
    lower zero = code.high_low w x small
    lower (suc h) = refl

    below : (h : ℕ) → low h w < 2 ^ 32
    below zero = omega arith
    below (suc h) = omega arith

    upper : (k : ℕ) → k ≡ 0 → (low h w + high k w * 2 ^ 32) / 2 ^ 32 ≡ 2 ^ 32 - 1 → low h w + high k w * 2 ^ 32 ≡ low h w + (2 ^ 32 - 1) * 2 ^ 32
    upper zero z c = omega (arith, c, below h)
    upper (suc k) z c = refl

    other : (h : ℕ) → low_handle h (with_high w x) ≡ low_handle h w
    other zero = refl
    other (suc h) = code.high_low w x small

-- a marker's link in a free word
pub record Marker (m e h k w x : ℕ) : Type 0 where
  pub came : came_word 1 e h k x ≡ came_word m e h k w
  pub object : object_cell 1 e x ≡ x
  pub lower : low_cell 1 e h x ≡ low_cell m e h w
  pub upper : high_cell 1 e k x ≡ high_cell m e k w
  pub sound : IsSound 1 e h k x

pub link_marker : (m e h k w x : ℕ) → IsSound m e h k w → object_cell m e w ≡ 0 → low_cell m e h w ≡ 0 → high_cell m e k w ≡ 0 → came_word m e h k w ≡ 2 ^ 64 - 1 → 0 < x → x ≤ 2 ^ 24 → Marker m e h k w x
link_marker m e h k w x s o a b c some few = record { came = sym c; object = refl; lower = sym a; upper = sym b; sound = (some, few) }

-- an envelope's link in a free word, out of line
pub record Outside (m e h k w x place first : ℕ) : Type 0 where
  pub came : came_word m 1 h k x ≡ came_word m e h k w
  pub object : object_cell m 1 x ≡ place
  pub lower : low_cell m 1 h x ≡ low_cell m e h w
  pub upper : high_cell m 1 k x ≡ first + 1
  pub sound : IsSound m 1 h k x

module _ (object counted handles first : ℕ) (o : object % 8 ≡ 0) (some : 0 < object) (few : object ≤ 2 ^ 24) (n : counted % 8 ≡ 0) (long : counted ≤ 2 ^ 24) (t : handles < 2 ^ 7) (f : first < 2 ^ 7) where
  abbrev x : ℕ
  x = out_of_line object counted handles first

  outside : (m e h k w : ℕ) → IsFree m e h k → low_cell m e h w ≡ 0 → came_word m e h k w ≡ counted + handles * 2 ^ 32 → Outside m e h k w x object first
  outside zero e h k w free a c =
      let top = code.out_top object counted handles first o few n long t f in
      record {
        came = ap (λ q. envelope_came q h x) top ∙ code.out_counts object counted handles first o few n long t f ∙ sym c;
        object = ap (λ q. envelope_object q x) top ∙ code.out_place object counted handles first o few n long t f;
        lower = ap (λ q. envelope_low q h x) top ∙ sym a;
        upper = ap (λ q. q + 1) (code.out_first object counted handles first o few n long t f);
        sound = subst (λ (q : ℕ). EnvelopeSound q h x) (sym top) (omega (arith, code.out_place object counted handles first o few n long t f, some));
      }
  outside (suc m) e h k w free a c = absurd (omega (arith, free.marker))

  pub link_outside : (m e h k w : ℕ) → IsSound m e h k w → object_cell m e w ≡ 0 → low_cell m e h w ≡ 0 → high_cell m e k w ≡ 0 → came_word m e h k w ≡ counted + handles * 2 ^ 32 → Outside m e h k w x object first
  link_outside m e h k w s p a b c = outside m e h k w (is_free m e h k w s p a b) a c

-- an inline envelope's link in a free word
pub record Inside (m e h k w x first : ℕ) : Type 0 where
  pub came : came_word m 1 h k x ≡ came_word m e h k w
  pub object : object_cell m 1 x ≡ object_cell m e w
  pub lower : low_cell m 1 h x ≡ low_cell m e h w
  pub upper : high_cell m 1 k x ≡ first + 1
  pub sound : IsSound m 1 h k x

module _ (handles first : ℕ) (t : handles < 2 ^ 7) (f : first < 2 ^ 7) where
  inside : (m e h k w : ℕ) → IsFree m e h k → came_word m e h k w / 2 ^ 32 ≡ handles + 2 ^ 16 → w < 2 ^ 64 → Inside m e h k w (inline w handles first) first
  inside zero zero zero zero w free c fits =
      let x = inline w handles first in
      let top = code.ins_top w handles first t f in
      record {
        came = ap (λ q. envelope_came q 0 x) top ∙ omega (arith, code.ins_low w handles first t f, code.ins_inside w handles first t f, c);
        object = ap (λ q. envelope_object q x) top;
        lower = ap (λ q. envelope_low q 0 x) top;
        upper = ap (λ q. q + 1) (code.ins_first w handles first t f);
        sound = subst (λ (q : ℕ). EnvelopeSound q 0 x) (sym top) tt;
      }
  inside (suc m) e h k w free c fits = absurd (omega (arith, free.marker))
  inside zero (suc e) h k w free c fits = absurd (omega (arith, free.envelope))
  inside zero zero (suc h) k w free c fits = absurd (omega (arith, free.lower))
  inside zero zero zero (suc k) w free c fits = absurd (omega (arith, free.upper))

  pub link_inside : (m e h k w : ℕ) → IsSound m e h k w → object_cell m e w ≡ 0 → low_cell m e h w ≡ 0 → high_cell m e k w ≡ 0 → came_word m e h k w / 2 ^ 32 ≡ handles + 2 ^ 16 → w < 2 ^ 64 → Inside m e h k w (inline w handles first) first
  link_inside m e h k w s p a b c fits = inside m e h k w (is_free m e h k w s p a b) c fits

-- the word that came has 64 bits, and in a free word it stands
pub came_fits : (m e h k w : ℕ) → w < 2 ^ 64 → came_word m e h k w < 2 ^ 64
came_fits (suc m) e h k w fits = omega arith
came_fits zero (suc e) h k w fits = go (w / 2 ^ 63)
  where
    go : (t : ℕ) → envelope_came t h w < 2 ^ 64
    go zero = omega arith
    go (suc t) = half h
      where
        half : (h : ℕ) → low h w + inside_of w < 2 ^ 64
        half zero = omega arith
        half (suc h) = omega arith
came_fits zero zero zero zero w fits = omega (arith, fits)
came_fits zero zero zero (suc k) w fits = omega arith
came_fits zero zero (suc h) zero w fits = omega (arith, fits)
came_fits zero zero (suc h) (suc k) w fits = omega arith

pub free_came : (m e h k w : ℕ) → IsFree m e h k → came_word m e h k w ≡ w
free_came zero zero zero zero w free = omega arith
free_came (suc m) e h k w free = absurd (omega (arith, free.marker))
free_came zero (suc e) h k w free = absurd (omega (arith, free.envelope))
free_came zero zero (suc h) k w free = absurd (omega (arith, free.lower))
free_came zero zero zero (suc k) w free = absurd (omega (arith, free.upper))

-- ---- links are read back

-- that of a present marker
pub marker_read : (m e h k w : ℕ) → IsSound m e h k w → came_word m e h k w ≡ 2 ^ 64 - 1 → 0 < object_cell m e w → object_cell m e w ≡ w
marker_read (suc m) e h k w s c o = refl
marker_read zero (suc e) h k w s c o = absurd (go (w / 2 ^ 63) c)
  where
    go : (t : ℕ) → envelope_came t h w ≡ 2 ^ 64 - 1 → ⊥
    go zero c = omega (arith, c)
    go (suc t) c = half h c
      where
        half : (h : ℕ) → low h w + inside_of w ≡ 2 ^ 64 - 1 → ⊥
        half zero c = omega (arith, c)
        half (suc h) c = omega (arith, c)
marker_read zero zero h k w s c o = absurd (omega (arith, o))

-- a marker is linked to a place within the message
pub marker_few : (m e h k w : ℕ) → IsSound m e h k w → came_word m e h k w ≡ 2 ^ 64 - 1 → 0 < object_cell m e w → w ≤ 2 ^ 24
marker_few (suc m) e h k w s c o = s.1
marker_few zero (suc e) h k w s c o = absurd (go (w / 2 ^ 63) c)
  where
    go : (t : ℕ) → envelope_came t h w ≡ 2 ^ 64 - 1 → ⊥
    go zero c = omega (arith, c)
    go (suc t) c = half h c
      where
        half : (h : ℕ) → low h w + inside_of w ≡ 2 ^ 64 - 1 → ⊥
        half zero c = omega (arith, c)
        half (suc h) c = omega (arith, c)
marker_few zero zero h k w s c o = absurd (omega (arith, o))

-- that of a handle
pub low_read : (m e h w : ℕ) → 0 < low_cell m e h w → low_cell m e h w ≡ w % 2 ^ 32
low_read (suc m) e h w o = absurd (omega (arith, o))
low_read zero (suc e) h w o = go (w / 2 ^ 63) h o
  where
    go : (t h : ℕ) → 0 < envelope_low t h w → envelope_low t h w ≡ w % 2 ^ 32
    go zero h o = absurd (omega (arith, o))
    go (suc t) zero o = absurd (omega (arith, o))
    go (suc t) (suc h) o = refl
low_read zero zero zero w o = absurd (omega (arith, o))
low_read zero zero (suc h) w o = refl

pub high_read : (m e h k w : ℕ) → came_word m e h k w / 2 ^ 32 ≡ 2 ^ 32 - 1 → 0 < high_cell m e k w → high_cell m e k w ≡ w / 2 ^ 32
high_read (suc m) e h k w c o = absurd (omega (arith, o))
high_read zero (suc e) h k w c o = absurd (go (w / 2 ^ 63) c)
  where
    go : (t : ℕ) → envelope_came t h w / 2 ^ 32 ≡ 2 ^ 32 - 1 → ⊥
    go zero c = omega (arith, c)
    go (suc t) c = half h c
      where
        half : (h : ℕ) → (low h w + inside_of w) / 2 ^ 32 ≡ 2 ^ 32 - 1 → ⊥
        half zero c = omega (arith, c)
        half (suc h) c = omega (arith, c)
high_read zero zero h zero w c o = absurd (omega (arith, o))
high_read zero zero h (suc k) w c o = refl

-- those of an envelope
pub first_read : (m e h k w : ℕ) → (came_word m e h k w / 2 ^ 32 ≡ 2 ^ 32 - 1 → ⊥) → 0 < high_cell m e k w → high_cell m e k w ≡ first_of w + 1
first_read (suc m) e h k w c o = absurd (omega (arith, o))
first_read zero (suc e) h k w c o = refl
first_read zero zero h zero w c o = absurd (omega (arith, o))
first_read zero zero h (suc k) w c o = absurd (c (ones h))
  where
    ones : (h : ℕ) → (low h w + (2 ^ 32 - 1) * 2 ^ 32) / 2 ^ 32 ≡ 2 ^ 32 - 1
    ones zero = omega arith
    ones (suc h) = omega arith

pub object_read : (m e h k w : ℕ) → (came_word m e h k w ≡ 2 ^ 64 - 1 → ⊥) → 0 < object_cell m e w → object_cell m e w ≡ place_of w
object_read (suc m) e h k w c o = absurd (c refl)
object_read zero (suc e) h k w c o = go (w / 2 ^ 63) o
  where
    go : (t : ℕ) → 0 < envelope_object t w → envelope_object t w ≡ place_of w
    go zero o = refl
    go (suc t) o = absurd (omega (arith, o))
object_read zero zero h k w c o = absurd (omega (arith, o))
