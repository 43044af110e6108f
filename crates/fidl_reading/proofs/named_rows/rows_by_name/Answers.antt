use Rattle.std.proofs.Common.{◌≡◌, ◌+◌, ℕ, List, ap, sym, subst, ◌∙◌, arith}
use Rattle.std.specs.Prelude.{Some}
use Rattle.std.specs.Cmp.Lexicographic.{slice_cmp}
use Rattle.std.specs.Ordering.{nat_cmp}
use Rattle.std.specs.BTreeMap.{UpdatesBy}
use Rattle.fidl_table_format.specs.declared.record.Row.{Row}
use Rattle.fidl_table_format.specs.Section.{header_of, name_at}
use Rattle.fidl_reading.specs.Found.{row_of, Finds}
use Rattle.fidl_reading.specs.Keys.{name_of_row}
use Rattle.fidl_reading.proofs.Mapped.{none_found, found_before, found_long, found_now, has_none, has_some, by_items}
use Rattle.fidl_reading.proofs.named_rows.rows_by_name.Goals.{then-name-le-LONGEST_NAME+then-not-contains_key+in_ok-from_slice+in_ok-insert, else-name-le-LONGEST_NAME, else-name-le-LONGEST_NAME-via-then-name-le-LONGEST_NAME+else-not-contains_key, else-name-le-LONGEST_NAME-via-else-name-le-LONGEST_NAME}
use Rattle.fidl_reading.proofs.named_rows.rows_by_name.Goals as goal

pub loop-k-init : goal.loop-k-init
loop-k-init c = none_found c.args.table.now c.args.first c.new-rows.result c.new-rows.ensures.empty

pub loop-k-preserved : goal.loop-k-preserved
loop-k-preserved c =
    let b = c.args.table.now in
    let first = c.args.first in
    let k = c.loop-k.k in
    let rows = c.loop-k.rows in
    let own = c.row_name-name.result.now in
    let is : name_of_row b (first + k) ≡ own = sym (c.row_name-name.ensures ∙ ap (λ (r : Row). name_at b (header_of b) r.name_place r.name_length) c.row.ensures.value) in
    elim c.if-name-le-LONGEST_NAME.branch as (λ x. Finds b first (k + 1) c.if-name-le-LONGEST_NAME.rows) [
      | then-name-le-LONGEST_NAME+then-not-contains_key+in_ok-from_slice+in_ok-insert w ↦
          let none = has_none w.contains_key.result (row_of rows own) w.contains_key.ensures w.if-not-contains_key.true in
          let now = subst (λ (l : List ℕ). UpdatesBy by_items (λ key. slice_cmp nat_cmp l key.items) rows w.insert.new.self (Some (first + k))) w.in_ok-from_slice.ensures.items w.in_ok-insert.ensures.updates in
          subst (Finds b first (k + 1)) (sym w.rows-is) (found_now b first k rows own is c.loop-k.invariant w.insert.new.self none now)
      | else-name-le-LONGEST_NAME w ↦
          subst (Finds b first (k + 1)) (sym w.rows-is) (elim w.else-name-le-LONGEST_NAME.branch as (λ x. Finds b first (k + 1) rows) [
            | else-name-le-LONGEST_NAME-via-then-name-le-LONGEST_NAME+else-not-contains_key v ↦
                let x = has_some v.contains_key.result (row_of rows own) v.contains_key.ensures v.if-not-contains_key.false in
                found_before b first k rows own is c.loop-k.invariant x.0 x.1
            | else-name-le-LONGEST_NAME-via-else-name-le-LONGEST_NAME v ↦ found_long b first k rows own is c.loop-k.invariant v.if-name-le-LONGEST_NAME.false
          ])
    ]

pub returns : goal.returns
returns c = subst (λ n. Finds c.args.table.now c.args.first n c.loop-k.rows) (omega arith) c.loop-k.invariant
