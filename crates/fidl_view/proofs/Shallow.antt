-- A value is at most one level deeper than it has bytes out of line: each level but the last holds a
-- marker or an envelope, of eight bytes.
use Rattle.std.proofs.Common.{◌≡◌, ℕ, zero, suc, ◌+◌, ◌-◌, ◌<◌, ◌≤◌, max, Bool, true, false, List, ◌++◌, length, Option, arith, length-append, nat_le, if◌then◌else◌}
use Rattle.std.specs.Int.{next_multiple_of, w64, to_le_bytes}
use Rattle.fidl_wire.specs.Value.{Value, absent, bool, number, text, list, fields, handle, table, union, Values, none, value, Member, known, unknown, Members, empty, member, count}
use Rattle.fidl_wire.specs.Term.{Term, Fields, no_fields, field, Rows, resolve, rows_of, find}
use Rattle.fidl_wire.specs.Term as ty
use Rattle.fidl_wire.specs.Figure.{Declarations, figure_of, size_of}
use Rattle.fidl_wire.specs.Encoding.{Encoding, zeros, padded, pad8, present, inline_only, joined, object, pointing, inline_envelope, out_envelope, term_or, behind, element_of, content_of, encoding_of, elements, members, enveloped, envelopes}
use Rattle.fidl_wire.specs.Depth.{below, depth_of, elements_depth, fields_depth, member_depth, members_depth}

-- an encoding has the bytes that its depth needs
pub record Holds (e : Encoding) (depth : ℕ) : Type 0 where
  pub out : depth ≤ suc (length e.out)
  pub inline : 0 < depth → 8 ≤ length e.inline

holds_none : (e : Encoding) → Holds e 0
holds_none e = record { out = omega arith; inline = λ h. absurd (omega (arith, h)) }

holds_joined : (a b : Encoding) (m n : ℕ) → Holds a m → Holds b n → Holds (joined a b) (max m n)
holds_joined a b m n h k = record {
  out = omega (arith, h.out, k.out, length-append a.out b.out);
  inline = go m h.inline (length-append a.inline b.inline);
}
  where
    go : (m : ℕ) → (0 < m → 8 ≤ length a.inline) → length (a.inline ++ b.inline) ≡ length a.inline + length b.inline → 0 < max m n → 8 ≤ length (a.inline ++ b.inline)
    go zero h e some = let long = k.inline (omega arith) in omega (arith, long, e)
    go (suc m) h e some = let long = h (omega arith) in omega (arith, long, e)

-- what has no depth stands before
holds_later : (a b : Encoding) (n : ℕ) → Holds b n → Holds (joined a b) n
holds_later a b n k = record {
  out = omega (arith, k.out, length-append a.out b.out);
  inline = λ some. omega (arith, k.inline some, length-append a.inline b.inline);
}

long_enough : (e : Encoding) (n : ℕ) → Holds e n → suc n ≤ suc (length (object e))
long_enough e n h = go n h.out h.inline (length-append (pad8 e.inline) e.out) (length-append e.inline (zeros (next_multiple_of (length e.inline) 8 - length e.inline)))
  where
    go : (n : ℕ) → n ≤ suc (length e.out) → (0 < n → 8 ≤ length e.inline) → length (object e) ≡ length (pad8 e.inline) + length e.out
        → length (pad8 e.inline) ≡ length e.inline + length (zeros (next_multiple_of (length e.inline) 8 - length e.inline)) → suc n ≤ suc (length (object e))
    go zero out inline p q = omega arith
    go (suc n) out inline p q = let long = inline (omega arith) in omega (arith, out, p, q, long)

holds_pointing : (bytes : List ℕ) (e : Encoding) (n : ℕ) → 8 ≤ length bytes → Holds e n → Holds (pointing bytes e) (suc n)
holds_pointing bytes e n long h = record { out = long_enough e n h; inline = λ some. long }

holds_counted : (c : ℕ) (e : Encoding) (n : ℕ) → Holds e n → Holds (pointing (to_le_bytes w64 c ++ present) e) (suc n)
holds_counted c e n h = holds_pointing (to_le_bytes w64 c ++ present) e n (omega (arith, length-append (to_le_bytes w64 c) present)) h

holds_behind : (t : Term) (c : ℕ) (e : Encoding) (n : ℕ) → Holds e n → Holds (behind t c e) (below t n)
holds_behind (ty.vector optional bound t) c e n h = holds_counted c e n h
holds_behind (ty.box t) c e n h = holds_pointing present e n (omega arith) h
holds_behind ty.bool c e n h = h
holds_behind (ty.number k) c e n h = h
holds_behind (ty.bits k mask) c e n h = h
holds_behind (ty.enum k values) c e n h = h
holds_behind (ty.handle optional subtype rights) c e n h = h
holds_behind (ty.string optional bound) c e n h = h
holds_behind (ty.array t count) c e n h = h
holds_behind (ty.struct fs) c e n h = h
holds_behind (ty.table rows) c e n h = h
holds_behind (ty.union optional strict rows) c e n h = h
holds_behind (ty.named i) c e n h = h

holds_out : (e : Encoding) (n : ℕ) → Holds e n → Holds (out_envelope (object e) e.handles) (suc n)
holds_out e n h = record { out = long_enough e n h; inline = λ some. omega arith }

mutual
  pub value_holds : (ds : Declarations) (t : Term) (v : Value) → Holds (encoding_of ds t v) (depth_of ds t v)
  value_holds ds t absent = holds_none _
  value_holds ds t (bool b) = holds_none _
  value_holds ds t (number z) = holds_none _
  value_holds ds t (handle h) = holds_none _
  value_holds ds t (text bytes) = holds_counted (length bytes) (inline_only bytes) 0 (holds_none _)
  value_holds ds t (list vs) = holds_behind t (count vs) _ _ (elements_hold ds (element_of ds t) vs)
  value_holds ds t (fields vs) = holds_behind t (count vs) _ _ (members_hold ds (content_of ds t) (size_of ds (ty.struct (content_of ds t))) 0 vs)
  value_holds ds t (table n ms) = holds_counted n _ _ (envelopes_hold ds (rows_of t) 1 n ms)
  value_holds ds t (union ordinal m) = holds_later (inline_only (to_le_bytes w64 ordinal)) _ _ (member_holds ds (find (rows_of t) ordinal) m)

  elements_hold : (ds : Declarations) (t : Term) (vs : Values) → Holds (elements ds t vs) (elements_depth ds t vs)
  elements_hold ds t none = holds_none _
  elements_hold ds t (value v vs) = holds_joined _ _ _ _ (value_holds ds t v) (elements_hold ds t vs)

  members_hold : (ds : Declarations) (fs : Fields) (size from : ℕ) (vs : Values) → Holds (members ds size from fs vs) (fields_depth ds fs vs)
  members_hold ds fs size from none = holds_none _
  members_hold ds no_fields size from (value v vs) = holds_none _
  members_hold ds (field name t fs) size from (value v vs) =
      let f = figure_of ds.figures t in
      let at = next_multiple_of from f.align in
      holds_later (inline_only (zeros (at - from))) _ _ (holds_joined _ _ _ _ (value_holds ds (resolve ds.terms t) v) (members_hold ds fs size (at + f.size) vs))

  member_holds : (ds : Declarations) (o : Option Term) (m : Member) → Holds (enveloped ds o m) (member_depth ds o m)
  member_holds ds o (known v) = go (nat_le (size_of ds (term_or o)) 4) (value_holds ds (resolve ds.terms (term_or o)) v)
    where
      go : (b : Bool) {e : Encoding} {n : ℕ} → Holds e n → Holds (if b then inline_envelope (padded 4 e.inline) e.handles else out_envelope (object e) e.handles) (if b then 0 else suc n)
      go true h = holds_none _
      go false {e} {n} h = holds_out e n h
  member_holds ds o (unknown true bytes handles) = holds_none _
  member_holds ds o (unknown false bytes handles) = record { out = omega arith; inline = λ some. omega arith }

  envelopes_hold : (ds : Declarations) (rows : Rows) (next n : ℕ) (ms : Members) → Holds (envelopes ds rows next n ms) (members_depth ds rows ms)
  envelopes_hold ds rows next n empty = holds_none _
  envelopes_hold ds rows next n (member ordinal m ms) =
      holds_later (inline_only (zeros _)) _ _ (holds_joined _ _ _ _ (member_holds ds (find rows ordinal) m) (envelopes_hold ds rows (suc ordinal) n ms))
