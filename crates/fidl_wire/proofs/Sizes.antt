-- The inline part of a value is as long as its term's size.
use Rattle.std.proofs.Common.{rules, ◌≡◌, ℕ, suc, ◌+◌, ◌-◌, ◌*◌, ◌≤◌, max, Bool, true, false, ℤ, List, ◌++◌, length, get_or, Option, Some, None, refl, ap, sym, ◌∙◌, arith, length-append, nat_le, zero-add, mul-suc}
use Rattle.std.proofs.Math.ListN.{length-replicate, get_or-map}
use Rattle.std.specs.Int.{next_multiple_of, byte_len}
use Rattle.fidl_wire.specs.Value.{Value, absent, bool, number, text, list, fields, handle, table, union, Values, none, value, Member, known, unknown, count}
use Rattle.fidl_wire.specs.Term.{Term, Kind, Fields, no_fields, field, resolve, fields_of, rows_of, find, width, nothing, int8}
use Rattle.fidl_wire.specs.Term as ty
use Rattle.fidl_wire.specs.Figure.{Declarations, figure, figure_of, IsLaidOut, end_of, align_of, size_of}
use Rattle.fidl_wire.specs.Typed.{IsTyped, AllTyped, EachTyped, IsTypedMember}
use Rattle.fidl_wire.specs.Encoding.{Encoding, zeros, padded, envelope, envelope_end, encoding_of, elements, members, enveloped, number_bytes}

-- a declaration has the figure that is kept for it
pub size_of-resolve : (ds : Declarations) → IsLaidOut ds → (t : Term) → size_of ds (resolve ds.terms t) ≡ size_of ds t
size_of-resolve ds h (ty.named i) = ap (λ f. f.size) (sym (get_or-map (figure_of ds.figures) ds.terms i nothing) ∙ ap (λ fs. get_or fs i (figure 1 1 0)) h)
size_of-resolve ds h ty.bool = refl
size_of-resolve ds h _ = refl

pub length-number_bytes : (kind : Kind) (z : ℤ) → length (number_bytes kind z) ≡ byte_len (width kind)
length-number_bytes int8 z = refl
length-number_bytes _ z = refl

pub le_of_test : (n : ℕ) → nat_le n 4 ≡ true → n ≤ 4
le_of_test n h = search (rules, h)

more : {a b : ℕ} (size n : ℕ) → a ≡ size → b ≡ size * n → a + b ≡ size * suc n
more size n p q = rw (p, q, mul-suc) (omega arith)

pub length-padded : (n : ℕ) (bytes : List ℕ) → length bytes ≤ n → length (padded n bytes) ≡ n
length-padded n bytes h = simp (length-append, length-replicate) (omega arith)

-- from here to there
length-zeros_up : (from to : ℕ) → from ≤ to → from + length (zeros (to - from)) ≡ to
length-zeros_up from to h = simp (length-replicate) (omega arith)

pub le-next_multiple_of : (x y : ℕ) → x ≤ next_multiple_of x y
le-next_multiple_of x y = omega arith

length-inline_envelope : (size : ℕ) (e : Encoding) → length e.inline ≡ size → length (envelope size e).inline ≡ 8
length-inline_envelope size e h = go (nat_le size 4) refl
  where
    go : (b : Bool) → nat_le size 4 ≡ b → length (envelope size e).inline ≡ 8
    go true r = rw r (length-append (padded 4 e.inline) (envelope_end 1 e.handles) ∙ ap (λ n. n + 4) (length-padded 4 e.inline (omega (arith, h, le_of_test size r))))
    go false r = rw r refl

next_field : (from size a b c : ℕ) (at : ℕ) → from ≤ at → a ≡ at - from → b ≡ size → from + (a + (b + c)) ≡ (at + size) + c
next_field from size a b c at h p q = omega arith

-- a struct's members end within it
pub end_of-le : (ds : Declarations) (fs : Fields) → end_of ds.figures 0 fs ≤ size_of ds (ty.struct fs)
end_of-le ds fs = omega (arith, le-next_multiple_of (max (end_of ds.figures 0 fs) 1) (align_of ds.figures fs))

mutual
  pub length-inline : (ds : Declarations) → IsLaidOut ds → (t : Term) (v : Value) → IsTyped ds t v → length (encoding_of ds t v).inline ≡ size_of ds t
  length-inline ds w t absent h = length-replicate (size_of ds t) 0
  length-inline ds w ty.bool (bool b) h = refl
  length-inline ds w (ty.number kind) (number z) h = length-number_bytes kind z
  length-inline ds w (ty.bits kind mask) (number z) h = length-number_bytes kind z
  length-inline ds w (ty.enum kind values) (number z) h = length-number_bytes kind z
  length-inline ds w (ty.string optional bound) (text bytes) h = refl
  length-inline ds w (ty.vector optional bound t) (list vs) h = refl
  length-inline ds w (ty.array t n) (list vs) h = length-elements ds w (resolve ds.terms t) vs h.1 ∙ ap (λ k. k * count vs) (size_of-resolve ds w t) ∙ ap (λ k. size_of ds t * k) h.0
  length-inline ds w (ty.struct fs) (fields vs) h = sym (zero-add _) ∙ length-members ds w fs (size_of ds (ty.struct fs)) 0 vs (end_of-le ds fs) h
  length-inline ds w (ty.box t) (fields vs) h = refl
  length-inline ds w (ty.handle optional subtype rights) (handle i) h = refl
  length-inline ds w (ty.table rows) (table n ms) h = refl
  length-inline ds w (ty.union optional strict rows) (union ordinal m) h = omega (arith, length-enveloped ds w strict (find rows ordinal) m h.2)
  length-inline ds w _ _ h = absurd h

  pub length-elements : (ds : Declarations) → IsLaidOut ds → (t : Term) (vs : Values) → AllTyped ds t vs → length (elements ds t vs).inline ≡ size_of ds t * count vs
  length-elements ds w t none h = omega arith
  length-elements ds w t (value v vs) h = length-append (encoding_of ds t v).inline (elements ds t vs).inline ∙ more (size_of ds t) (count vs) (length-inline ds w t v h.0) (length-elements ds w t vs h.1)

  pub length-members : (ds : Declarations) → IsLaidOut ds → (fs : Fields) (size from : ℕ) (vs : Values) → end_of ds.figures from fs ≤ size → EachTyped ds fs vs → from + length (members ds size from fs vs).inline ≡ size
  length-members ds w no_fields size from none le h = length-zeros_up from size le
  length-members ds w (field name t fs) size from (value v vs) le h =
      let f = figure_of ds.figures t in
      let at = next_multiple_of from f.align in
      let e = encoding_of ds (resolve ds.terms t) v in
      let rest = members ds size (at + f.size) fs vs in
      ap (λ n. from + n) (length-append (zeros (at - from)) (e.inline ++ rest.inline) ∙ ap (λ n. length (zeros (at - from)) + n) (length-append e.inline rest.inline))
      ∙ next_field from f.size (length (zeros (at - from))) (length e.inline) (length rest.inline) at (le-next_multiple_of from f.align) (length-replicate (at - from) 0) (length-inline ds w (resolve ds.terms t) v h.0 ∙ size_of-resolve ds w t)
      ∙ length-members ds w fs size (at + f.size) vs le h.1
  length-members ds w _ size from _ le h = absurd h

  pub length-enveloped : (ds : Declarations) → IsLaidOut ds → (strict : Bool) (o : Option Term) (m : Member) → IsTypedMember ds strict o m → length (enveloped ds o m).inline ≡ 8
  length-enveloped ds w strict (Some t) (known v) h = length-inline_envelope (size_of ds t) (encoding_of ds (resolve ds.terms t) v) (length-inline ds w (resolve ds.terms t) v h ∙ size_of-resolve ds w t)
  length-enveloped ds w strict None (unknown true bytes handles) h = length-append bytes (envelope_end 1 handles) ∙ ap (λ n. n + 4) h.2
  length-enveloped ds w strict None (unknown false bytes handles) h = refl
  length-enveloped ds w strict _ _ h = absurd h
