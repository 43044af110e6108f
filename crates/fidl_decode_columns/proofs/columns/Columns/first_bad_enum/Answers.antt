use Rattle.std.proofs.Common.{rules, ◌≡◌, ℕ, ◌+◌, ◌≤◌, ℤ, List, sym, ap, subst, ◌∙◌, arith}
use Rattle.std.specs.Prelude.{◌≤ℤ◌, Bool, true, Option, Some, None, IfSome, Contains, if◌then◌else◌}
use Rattle.fidl_wire.specs.Term.{Kind}
use Rattle.fidl_table_format.specs.declared.kind.EntryKind.TheVariants.{Enum}
use Rattle.fidl_table_format.specs.declared.record.Entry.{Entry}
use Rattle.fidl_table_format.specs.declared.record.ValueRange.{ValueRange}
use Rattle.fidl_table_format.specs.Number.{number_standing}
use Rattle.fidl_table_format.specs.Section.{header_of, entry_at, range_at}
use Rattle.fidl_table_format.specs.Terms.{as_number, underlying, value_number, values_from, strict_values, is_strict}
use Rattle.fidl_table_format.specs.Uses.{uses_values}
use Rattle.fidl_verify.proofs.Known.{test_of}
use Rattle.fidl_decode_columns.specs.Columns.{place_of, IsFirstNot}
use Rattle.fidl_decode_columns.proofs.Narrowed.{same_first}
use Rattle.fidl_decode_columns.proofs.Numbers.{one_range_has, one_range_only}
use Rattle.fidl_decode_columns.proofs.columns.Columns.first_bad_enum.Goals as goal

pub returns-then-e-ne1-clause-value : goal.returns-then-e-ne1-clause-value
returns-then-e-ne1-clause-value c =
    let t = c.args.self.now.table.now in
    let d = entry_at t c.args.entry in
    let own = c.entry-e.ensures.value in
    let strict : is_strict d ≡ true = (let r = sym c.is_strict.ensures in search (rules, r, own, c.if-not-is_strict.false)) in
    let is : strict_values t (header_of t) d ≡ Some (values_from t (header_of t) (underlying d) d.first d.count) = ap (λ (b : Bool). if b then Some (values_from t (header_of t) (underlying d) d.first d.count) else None) strict in
    subst (λ (o : Option (List ℤ)). IsFirstNot (λ k. IfSome o (λ values. Contains values (number_standing (underlying d) c.args.self.now.links.now.came (place_of c.args.column k)))) c.args.limit c.first_no_value.result) (sym is) c.first_no_value.ensures.value

pub range-range-requires : goal.range-range-requires
range-range-requires c =
    let t = c.args.self.now.table.now in
    let within : c.entry-e.result.first + c.entry-e.result.count ≤ (header_of t).values = subst (λ (e : Entry). e.first + e.count ≤ (header_of t).values) (sym c.entry-e.ensures.value)
    ((c.entry-e.ensures.well_formed.entries c.args.entry c.requires.entry).children.values (test_of uses_values Enum (entry_at t c.args.entry) c.requires.kind)) in
    omega (arith, within, c.if-e-ne1.false)

pub returns-clause-value : goal.returns-clause-value
returns-clause-value c =
    let t = c.args.self.now.table.now in
    let d = entry_at t c.args.entry in
    let bytes = c.args.self.now.links.now.came in
    let own = c.entry-e.ensures.value in
    let one : d.count ≡ 1 = ap (λ (e : Entry). e.count) (sym own) ∙ c.if-e-ne1.false in
    let strict : is_strict d ≡ true = (let r = sym c.is_strict.ensures in search (rules, r, own, c.if-not-is_strict.false)) in
    let is : strict_values t (header_of t) d ≡ Some (values_from t (header_of t) (underlying d) d.first d.count) = ap (λ (b : Bool). if b then Some (values_from t (header_of t) (underlying d) d.first d.count) else None) strict in
    let at : Kind → ℕ → ℤ = λ u k. number_standing u bytes (place_of c.args.column k) in
    let In : Kind → ValueRange → ℕ → Type 0 = λ u r k. (value_number u r.lowest ≤ℤ at u k) × (at u k ≤ℤ value_number u r.highest) in
    let same : as_number c.underlying.result ≡ underlying d = c.underlying.ensures.number ∙ ap (λ (e : Entry). underlying e) own in
    let range : c.range-range.result ≡ range_at t (header_of t) d.first = c.range-range.ensures.value ∙ ap (λ (e : Entry). range_at t (header_of t) e.first) own in
    let typed = subst (λ (u : Kind). IsFirstNot (In u c.range-range.result) c.args.limit c.first_outside_range_by_kind.result) same c.first_outside_range_by_kind.ensures in
    let ranged = subst (λ (r : ValueRange). IsFirstNot (In (underlying d) r) c.args.limit c.first_outside_range_by_kind.result) range typed in
    let listed = same_first (In (underlying d) (range_at t (header_of t) d.first)) (λ k. Contains (values_from t (header_of t) (underlying d) d.first d.count) (at (underlying d) k)) c.args.limit c.first_outside_range_by_kind.result
    (λ k. one_range_has t (header_of t) (underlying d) (at (underlying d) k) d.first d.count one) (λ k. one_range_only t (header_of t) (underlying d) (at (underlying d) k) d.first d.count one) ranged in
    subst (λ (o : Option (List ℤ)). IsFirstNot (λ k. IfSome o (λ values. Contains values (at (underlying d) k))) c.args.limit c.first_outside_range_by_kind.result) (sym is) listed
