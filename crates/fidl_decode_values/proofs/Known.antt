-- Rows that are known to be passed over, and the struct in a box.
use Rattle.std.proofs.Common.{◌≡◌, ℕ, ◌+◌, ◌-◌, ◌<◌, ◌≤◌, List, sym, ap, subst, ◌∙◌, arith}
use Rattle.std.specs.Prelude.{Option, Some}
use Rattle.fidl_table_format.specs.declared.kind.EntryKind.TheVariants.{Box, Struct}
use Rattle.fidl_table_format.specs.Kind.{kind_of}
use Rattle.fidl_table_format.specs.Section.{header_of, entry_at}
use Rattle.fidl_decode_model.specs.declared.frame.Remaining.{Remaining}
use Rattle.fidl_decode_model.specs.declared.frame.Remaining.TheVariants.{Rows}
use Rattle.fidl_decode_model.specs.Invariants.{IsFine}
use Rattle.fidl_decode_model.specs.State.{Message}
use Rattle.fidl_decode_model.specs.Machine.{Passes, IsKnown}
use Rattle.fidl_decode_model.proofs.Visiting.{fine_as}

pub same_rows : (a n rows first count : ℕ) → first ≡ a + rows → rows + count ≡ n → Rows a n ≡ Rows (first - rows) (rows + count)
same_rows a n rows first count is whole =
    let begin : a ≡ first - rows = omega (arith, is) in
    ap (λ k. Rows k n) begin ∙ ap (λ k. Rows (first - rows) k) (sym whole)

pub known_from : (t : List ℕ) (m : Message) (a n rows first count done : ℕ) (flag : Option ℕ) → first ≡ a + rows → rows + count ≡ n → Passes t m (Rows a n) rows first count done flag → IsKnown t m rows first count done flag
known_from t m a n rows first count done flag is whole passes = subst (λ (l : Remaining). Passes t m l rows first count done flag) (same_rows a n rows first count is whole) passes

module _ (t : List ℕ) (fine : IsFine t) (e : ℕ) (lt : e < (header_of t).entries) (is : kind_of (entry_at t e).kind ≡ Some Box) where
  pub box_inside : (entry_at t e).first < (header_of t).entries
  box_inside = (fine_as t fine e Box lt is).content.0

  pub box_rows : (entry_at t (entry_at t e).first).first + (entry_at t (entry_at t e).first).count ≤ (header_of t).rows
  box_rows = (fine_as t fine (entry_at t e).first Struct box_inside (fine_as t fine e Box lt is).content.1).content.0
