-- Encodings that are added part by part.
use Rattle.std.proofs.Common.{◌≡◌, ℕ, ◌+◌, ◌-◌, ◌≤◌, List, [], ◌∷◌, ◌++◌, length, refl, sym, ap, ◌∙◌, arith}
use Rattle.std.proofs.lemmas.List.{append_assoc, length-append, replicate-append-replicate, length-replicate}
use Rattle.std.specs.Int.{next_multiple_of}
use Rattle.fidl_wire.specs.declared.handle.HandleInfo.{HandleInfo}
use Rattle.fidl_wire.specs.Encoding.{Encoding, zeros, object, inline_only, joined, pointing}
use Rattle.fidl_encode.specs.Writing.{Written, Adds, IsOver}

pub append-nil : {A : Type 0} → (a : List A) → a ++ [] ≡ a
append-nil [] = refl
append-nil (x ∷ a) = ap (λ b. x ∷ b) (append-nil a)

-- zeros for two parts are zeros for the first and zeros for the second
zeros_both : (a b back : List ℕ) → zeros (length (a ++ b)) ++ back ≡ zeros (length a) ++ (zeros (length b) ++ back)
zeros_both a b back =
    ap (λ n. zeros n ++ back) (length-append a b)
    ∙ ap (λ z. z ++ back) (sym (replicate-append-replicate {A = ℕ} (length a) (length b) 0))
    ∙ append_assoc (zeros (length a)) (zeros (length b)) back

-- the zeros that are kept are themselves the encoding of zeros
pub adds_zeros : (w : Written) (at n : ℕ) → Adds w w at (inline_only (zeros n))
adds_zeros w at n = record {
  bytes = λ front back f e.
      e ∙ ap (λ k. front ++ (zeros k ++ back)) (length-replicate {A = ℕ} n 0) ∙ ap (λ b. front ++ (zeros n ++ b)) (sym (append-nil back));
  longer = omega arith;
  handles = sym (append-nil w.handles);
}

-- two parts, the second behind the first
pub adds_joined : (a b c : Written) (at : ℕ) (x y : Encoding) → Adds a b at x → Adds b c (at + length x.inline) y → Adds a c at (joined x y)
adds_joined a b c at x y h k = record {
  bytes = λ front back f e.
      let first : a.bytes ≡ front ++ (zeros (length x.inline) ++ (zeros (length y.inline) ++ back)) = e ∙ ap (λ r. front ++ r) (zeros_both x.inline y.inline back) in
      let done : b.bytes ≡ front ++ (x.inline ++ ((zeros (length y.inline) ++ back) ++ x.out)) = h.bytes front (zeros (length y.inline) ++ back) f first in
      let moved : front ++ (x.inline ++ ((zeros (length y.inline) ++ back) ++ x.out)) ≡ (front ++ x.inline) ++ (zeros (length y.inline) ++ (back ++ x.out)) =
      ap (λ r. front ++ (x.inline ++ r)) (append_assoc (zeros (length y.inline)) back x.out) ∙ sym (append_assoc front x.inline (zeros (length y.inline) ++ (back ++ x.out))) in
      let second : c.bytes ≡ (front ++ x.inline) ++ (y.inline ++ ((back ++ x.out) ++ y.out)) = k.bytes (front ++ x.inline) (back ++ x.out) (length-append front x.inline ∙ ap (λ n. n + length x.inline) f) (done ∙ moved) in
      second
      ∙ append_assoc front x.inline (y.inline ++ ((back ++ x.out) ++ y.out))
      ∙ ap (λ r. front ++ r) (sym (append_assoc x.inline y.inline ((back ++ x.out) ++ y.out)))
      ∙ ap (λ r. front ++ ((x.inline ++ y.inline) ++ r)) (append_assoc back x.out y.out);
  longer = let s = length-append x.out y.out in let p = h.longer in let q = k.longer in omega (arith, s, p, q);
  handles = k.handles ∙ ap (λ r. r ++ y.handles) h.handles ∙ append_assoc a.handles x.handles y.handles;
}

pub adds_inline : (a b : Written) (at : ℕ) (bytes : List ℕ) (handles : List HandleInfo)
    → IsOver a.bytes b.bytes at bytes → length b.bytes ≡ length a.bytes → b.handles ≡ a.handles ++ handles
    → Adds a b at (record { inline = bytes; out = []; handles = handles })
adds_inline a b at bytes handles over same beside = record {
  bytes = λ front back f e. over front back f e ∙ ap (λ r. front ++ (bytes ++ r)) (sym (append-nil back));
  longer = omega (arith, same);
  handles = beside;
}

-- an object: room is made for it behind all bytes, its content is added there, and what points to it is
-- written over the zeros that were kept for that
pub adds_pointing : (a b c d : Written) (at : ℕ) (bytes : List ℕ) (e : Encoding)
    → b.bytes ≡ a.bytes ++ zeros (next_multiple_of (length e.inline) 8) → b.handles ≡ a.handles
    → Adds b c (length a.bytes) e
    → IsOver c.bytes d.bytes at bytes → length d.bytes ≡ length c.bytes → d.handles ≡ c.handles
    → Adds a d at (pointing bytes e)
adds_pointing a b c d at bytes e room kept content over same beside = record {
  bytes = λ front back f h. over front (back ++ object e) f
      (written ∙ ap (λ r. r ++ object e) h ∙ append_assoc front (zeros (length bytes) ++ back) (object e) ∙ ap (λ r. front ++ r) (append_assoc (zeros (length bytes)) back (object e)));
  longer = same ∙ ap length written ∙ length-append a.bytes (object e);
  handles = beside ∙ content.handles ∙ ap (λ r. r ++ e.handles) kept;
}
  where
    up : ℕ
    up = next_multiple_of (length e.inline) 8 - length e.inline

    fits : length e.inline + up ≡ next_multiple_of (length e.inline) 8
    fits = omega arith

    split : b.bytes ≡ a.bytes ++ (zeros (length e.inline) ++ zeros up)
    split = room ∙ ap (λ n. a.bytes ++ zeros n) (sym fits) ∙ ap (λ z. a.bytes ++ z) (sym (replicate-append-replicate {A = ℕ} (length e.inline) up 0))

    written : c.bytes ≡ a.bytes ++ object e
    written = content.bytes a.bytes (zeros up) refl split ∙ ap (λ r. a.bytes ++ r) (sym (append_assoc e.inline (zeros up) e.out))

-- bytes that are written in two parts
pub over_both : (a b c : List ℕ) (at : ℕ) (x y : List ℕ) → IsOver a b at x → IsOver b c (at + length x) y → IsOver a c at (x ++ y)
over_both a b c at x y h k front back f e =
    k (front ++ x) back (length-append front x ∙ ap (λ n. n + length x) f)
    (h front (zeros (length y) ++ back) f (e ∙ ap (λ r. front ++ r) (zeros_both x y back)) ∙ sym (append_assoc front x (zeros (length y) ++ back)))
    ∙ append_assoc front x (y ++ back)
    ∙ ap (λ r. front ++ r) (sym (append_assoc x y back))

-- what has bytes behind others is no shorter
pub no_shorter : (a b c : List ℕ) → b ≡ a ++ c → length a ≤ length b
no_shorter a b c e = let s : length b ≡ length a + length c = ap length e ∙ length-append a c in omega (arith, s)
