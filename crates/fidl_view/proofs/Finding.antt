-- The parts of a value that stands in a message stand where the value says.
use Rattle.std.proofs.Common.{◌≡◌, ℕ, zero, suc, ◌+◌, ◌<◌, ◌≤◌, List, length, refl, sym, subst, arith, length-append}
use Rattle.std.specs.Prelude.{Some}
use Rattle.std.specs.Int.{next_multiple_of}
use Rattle.fidl_wire.specs.Value.{Value, Values, absent, bool, number, text, list, fields, handle, table, union, none, value}
use Rattle.fidl_wire.specs.Term.{Term, resolve}
use Rattle.fidl_wire.specs.Term as ty
use Rattle.fidl_wire.specs.Figure.{Declarations, figure_of}
use Rattle.fidl_wire.specs.Typed.{IsTyped, EachTyped}
use Rattle.fidl_wire.specs.Encoding.{encoding_of, members}
use Rattle.fidl_wire.specs.Standing.{Stands}
use Rattle.fidl_table_format.specs.Section.{header_of, row_at}
use Rattle.fidl_table_format.specs.Terms.{declarations_of, fields_from}
use Rattle.fidl_decode_model.specs.Invariants.{Keys}
use Rattle.fidl_decode_model.specs.Links.{Linked}
use Rattle.fidl_decode_model.specs.State.{Message}
use Rattle.fidl_decode_model.specs.Placed.{Placed, AreFieldsPlaced}
use Rattle.fidl_decode_model.specs.Readable.{Readable, AreFieldsReadable}
use Rattle.fidl_view.specs.Parts.{nth}

module _ (ds : Declarations) (m : Message) (l : Linked) where
  -- its own bytes
  pub inline_of : (t : Term) (place : ℕ) (v : Value) → Placed ds m l t place v → Stands m.bytes place (encoding_of ds t v).inline
  inline_of t place absent h = h
  inline_of t place (bool b) h = h
  inline_of t place (number z) h = h
  inline_of t place (text bytes) h = h.0
  inline_of t place (list vs) h = h.0
  inline_of t place (fields vs) h = h.0
  inline_of t place (handle i) h = h.0
  inline_of t place (table n ms) h = h.0
  inline_of t place (union ordinal x) h = h.0

module _ (t : List ℕ) (m : Message) (l : Linked) where
  -- the member of a row stands at the row's place, and can be read there
  abbrev pub RowPlaced : (base row : ℕ) → Value → Type 0
  RowPlaced base row x =
      let ds = declarations_of t in
      let r = row_at t (header_of t) row in
      IsTyped ds (resolve ds.terms (ty.named r.entry)) x × Placed ds m l (resolve ds.terms (ty.named r.entry)) (base + r.key) x
      × (length (encoding_of ds (resolve ds.terms (ty.named r.entry)) x).out ≤ length m.bytes)
      × Readable ds l (resolve ds.terms (ty.named r.entry)) (base + r.key) x

  -- a member
  pub nth_field : (first n size from base : ℕ) (vs : Values) (i : ℕ) → i < n → Keys t first n from
      → EachTyped (declarations_of t) (fields_from t (header_of t) first n) vs → AreFieldsPlaced (declarations_of t) m l (fields_from t (header_of t) first n) from base vs
      → length (members (declarations_of t) size from (fields_from t (header_of t) first n) vs).out ≤ length m.bytes
      → AreFieldsReadable (declarations_of t) l (fields_from t (header_of t) first n) from base vs
      → (x : Value) × (nth vs i ≡ Some x) × RowPlaced base (first + i) x
  nth_field first zero size from base vs i less keys typed h within r = absurd (omega (arith, less))
  nth_field first (suc n) size from base none i less keys typed h within r = absurd typed
  nth_field first (suc n) size from base (value v vs) i less keys typed h within reads =
      let ds = declarations_of t in
      let r = row_at t (header_of t) first in
      let f = figure_of ds.figures (ty.named r.entry) in
      let own = (encoding_of ds (resolve ds.terms (ty.named r.entry)) v).out in
      let more = (members ds size (next_multiple_of from f.align + f.size) (fields_from t (header_of t) (suc first) n) vs).out in
      let both = length-append own more in
      at i less (
        typed.0,
        subst (λ k. Placed ds m l (resolve ds.terms (ty.named r.entry)) (base + k) v) (sym keys.1) h.0,
        omega (arith, both, within),
        subst (λ k. Readable ds l (resolve ds.terms (ty.named r.entry)) (base + k) v) (sym keys.1) reads.0,
      )
      (λ j lt. nth_field (suc first) n size (next_multiple_of from f.align + f.size) base vs j lt keys.2 typed.1 h.1 (omega (arith, both, within)) reads.1)
    where
      at : (i : ℕ) → i < suc n → RowPlaced base first v → ((j : ℕ) → j < n → (x : Value) × (nth vs j ≡ Some x) × RowPlaced base (suc first + j) x)
          → (x : Value) × (nth (value v vs) i ≡ Some x) × RowPlaced base (first + i) x
      at zero less here more = let e : first ≡ first + 0 = omega arith in (v, refl, subst (λ k. RowPlaced base k v) e here)
      at (suc j) less here more =
          let r = more j (omega arith) in
          let e : suc first + j ≡ first + suc j = omega arith in
          (r.0, r.1, subst (λ k. RowPlaced base k r.0) e r.2)
