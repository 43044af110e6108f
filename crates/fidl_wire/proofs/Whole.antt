-- What stands out of line is whole eights.
use Rattle.std.proofs.Common.{◌≡◌, ℕ, suc, ◌+◌, ◌-◌, ◌%◌, Bool, true, false, List, ◌++◌, length, Option, Some, None, refl, ap, ◌∙◌, arith, length-append, nat_le, cond}
use Rattle.std.proofs.Math.ListN.{length-replicate}
use Rattle.std.specs.Int.{next_multiple_of}
use Rattle.fidl_wire.specs.Value.{Value, absent, bool, number, text, list, fields, handle, table, union, Values, none, value, Member, known, unknown, Members, empty, member}
use Rattle.fidl_wire.specs.Term.{Term, Fields, no_fields, field, Rows, resolve, fields_of, find}
use Rattle.fidl_wire.specs.Term as ty
use Rattle.fidl_wire.specs.Figure.{Declarations, figure_of, size_of}
use Rattle.fidl_wire.specs.Typed.{IsTyped, AllTyped, EachTyped, IsTypedMember, RiseTyped}
use Rattle.fidl_wire.specs.Encoding.{Encoding, zeros, pad8, object, inline_only, envelope, inline_envelope, out_envelope, padded, encoding_of, elements, members, enveloped, envelopes}

abbrev IsWhole : List ℕ → Type 0
IsWhole bytes = length bytes % 8 ≡ 0

whole-append : (a b : List ℕ) → IsWhole a → IsWhole b → IsWhole (a ++ b)
whole-append a b h k = rw (length-append a b) (omega (arith, h, k))

whole-pad8 : (a : List ℕ) → IsWhole (pad8 a)
whole-pad8 a =
    let up = next_multiple_of (length a) 8 - length a in
    let all : length (pad8 a) ≡ length a + up = length-append a (zeros up) ∙ ap (λ n. length a + n) (length-replicate {A = ℕ} up 0) in
    omega (arith, all)

whole-object : (e : Encoding) → IsWhole e.out → IsWhole (object e)
whole-object e h = whole-append (pad8 e.inline) e.out (whole-pad8 e.inline) h

whole-envelope : (size : ℕ) (e : Encoding) → IsWhole e.out → IsWhole (envelope size e).out
whole-envelope size e h = go (nat_le size 4)
  where
    go : (b : Bool) → IsWhole (cond b (inline_envelope (padded 4 e.inline) e.handles) (out_envelope (object e) e.handles)).out
    go true = refl
    go false = whole-object e h

mutual
  pub whole-out : (ds : Declarations) (t : Term) (v : Value) → IsTyped ds t v → IsWhole (encoding_of ds t v).out
  whole-out ds t absent h = refl
  whole-out ds ty.bool (bool b) h = refl
  whole-out ds (ty.number kind) (number z) h = refl
  whole-out ds (ty.bits kind mask) (number z) h = refl
  whole-out ds (ty.enum kind values) (number z) h = refl
  whole-out ds (ty.string optional bound) (text bytes) h = whole-object (inline_only bytes) refl
  whole-out ds (ty.vector optional bound t) (list vs) h = whole-object (elements ds (resolve ds.terms t) vs) (whole-elements ds (resolve ds.terms t) vs h.1)
  whole-out ds (ty.array t n) (list vs) h = whole-elements ds (resolve ds.terms t) vs h.1
  whole-out ds (ty.struct fs) (fields vs) h = whole-members ds fs (size_of ds (ty.struct fs)) 0 vs h
  whole-out ds (ty.box t) (fields vs) h = let fs = fields_of (resolve ds.terms t) in whole-object (members ds (size_of ds (ty.struct fs)) 0 fs vs) (whole-members ds fs (size_of ds (ty.struct fs)) 0 vs h.1)
  whole-out ds (ty.handle optional subtype rights) (handle i) h = refl
  whole-out ds (ty.table rows) (table n ms) h = whole-object (envelopes ds rows 1 n ms) (whole-envelopes ds rows 0 n ms h.1)
  whole-out ds (ty.union optional strict rows) (union ordinal m) h = whole-enveloped ds strict (find rows ordinal) m h.2
  whole-out ds _ _ h = absurd h

  whole-elements : (ds : Declarations) (t : Term) (vs : Values) → AllTyped ds t vs → IsWhole (elements ds t vs).out
  whole-elements ds t none h = refl
  whole-elements ds t (value v vs) h = whole-append (encoding_of ds t v).out (elements ds t vs).out (whole-out ds t v h.0) (whole-elements ds t vs h.1)

  whole-members : (ds : Declarations) (fs : Fields) (size from : ℕ) (vs : Values) → EachTyped ds fs vs → IsWhole (members ds size from fs vs).out
  whole-members ds no_fields size from none h = refl
  whole-members ds (field name t fs) size from (value v vs) h =
      let f = figure_of ds.figures t in
      let at = next_multiple_of from f.align in
      whole-append (encoding_of ds (resolve ds.terms t) v).out (members ds size (at + f.size) fs vs).out (whole-out ds (resolve ds.terms t) v h.0) (whole-members ds fs size (at + f.size) vs h.1)
  whole-members ds _ size from _ h = absurd h

  whole-enveloped : (ds : Declarations) (strict : Bool) (o : Option Term) (m : Member) → IsTypedMember ds strict o m → IsWhole (enveloped ds o m).out
  whole-enveloped ds strict (Some t) (known v) h = whole-envelope (size_of ds t) (encoding_of ds (resolve ds.terms t) v) (whole-out ds (resolve ds.terms t) v h)
  whole-enveloped ds strict None (unknown true bytes handles) h = refl
  whole-enveloped ds strict None (unknown false bytes handles) h = h.2.1
  whole-enveloped ds strict _ _ h = absurd h

  whole-envelopes : (ds : Declarations) (rows : Rows) (last n : ℕ) (ms : Members) → RiseTyped ds rows last n ms → IsWhole (envelopes ds rows (suc last) n ms).out
  whole-envelopes ds rows last n empty h = refl
  whole-envelopes ds rows last n (member ordinal m ms) h = whole-append (enveloped ds (find rows ordinal) m).out (envelopes ds rows (suc ordinal) n ms).out (whole-enveloped ds false (find rows ordinal) m h.2) (whole-envelopes ds rows ordinal n ms h.3)

pub whole-message : (ds : Declarations) (t : Term) (v : Value) → IsTyped ds t v → IsWhole (object (encoding_of ds t v))
whole-message ds t v h = whole-object (encoding_of ds t v) (whole-out ds t v h)
