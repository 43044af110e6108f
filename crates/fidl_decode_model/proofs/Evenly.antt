-- The members of a struct, and the elements of an array or vector, stand where they can.
use Rattle.std.proofs.Common.{◌≡◌, ℕ, zero, suc, ◌+◌, ◌%◌, List, sym, subst, arith}
use Rattle.fidl_wire.specs.Term as ty
use Rattle.fidl_wire.specs.Figure.{align_of, size_of}
use Rattle.fidl_table_format.specs.Section.{header_of, row_at, name_at}
use Rattle.fidl_table_format.specs.Terms.{declarations_of, fields_from}
use Rattle.fidl_decode_model.specs.declared.frame.Frame.{Frame}
use Rattle.fidl_decode_model.specs.declared.frame.Remaining.{Remaining}
use Rattle.fidl_decode_model.specs.declared.frame.Remaining.TheVariants.{Rows, Elements, Envelopes, Content}
use Rattle.fidl_decode_model.specs.Invariants.{Keys, IsFine}
use Rattle.fidl_decode_model.specs.Rows.{table_rows, element_rows}
use Rattle.fidl_decode_model.specs.Machine.{rows_left, IsPlain}
use Rattle.fidl_decode_model.specs.Frontier.{IsEven, RowsEven, LeftEven}
use Rattle.fidl_decode_model.proofs.Aligned.{even_first, even_rest, even_after, no_names}

-- of rows alone
pub plain_even : (t : List ℕ) (f : Frame) (left : Remaining) → IsPlain left → LeftEven t f left → RowsEven (declarations_of t) f.base (rows_left t f.done left)
plain_even t f (Rows first count) plain h = h
plain_even t f (Elements entry size count) plain h = h
plain_even t f (Envelopes entry read count) plain h = absurd plain
plain_even t f (Content entry size count until) plain h = absurd plain

pub even_plain : (t : List ℕ) (f : Frame) (left : Remaining) → IsPlain left → RowsEven (declarations_of t) f.base (rows_left t f.done left) → LeftEven t f left
even_plain t f (Rows first count) plain h = h
even_plain t f (Elements entry size count) plain h = h
even_plain t f (Envelopes entry read count) plain h = absurd plain
even_plain t f (Content entry size count until) plain h = absurd plain

module _ (t : List ℕ) (fine : IsFine t) where
  -- a struct's rows
  pub table_even : (first n from base : ℕ) → Keys t first n from → base % align_of (declarations_of t).figures (fields_from t (header_of t) first n) ≡ 0 → RowsEven (declarations_of t) base (table_rows t (header_of t) first n)
  table_even first zero from base keys even = tt
  table_even first (suc n) from base keys even =
      let ds = declarations_of t in
      let r = row_at t (header_of t) first in
      let fs = fields_from t (header_of t) (suc first) n in
      let name = name_at t (header_of t) r.name_place r.name_length in (
        subst (λ k. IsEven ds (ty.named r.entry) (base + k)) (sym keys.1) (even_first ds fine.laid_out (no_names t) name (ty.named r.entry) fs from base even),
        table_even (suc first) n _ base keys.2 (even_rest ds fine.laid_out (no_names t) name (ty.named r.entry) fs base even),
      )

  -- elements behind one another
  pub elements_even : (e size n at base : ℕ) → size ≡ size_of (declarations_of t) (ty.named e) → IsEven (declarations_of t) (ty.named e) (base + at) → RowsEven (declarations_of t) base (element_rows e size n at)
  elements_even e size zero at base same even = tt
  elements_even e size (suc n) at base same even =
      let ds = declarations_of t in
      let next : base + at + size_of ds (ty.named e) ≡ base + (at + size) = omega (arith, same) in
      (even, elements_even e size n (at + size) base same (subst (λ p. IsEven ds (ty.named e) p) next (even_after ds fine.laid_out (no_names t) (ty.named e) (base + at) even)))
