use Rattle.std.proofs.Common.{◌≡◌, ◌+◌, ℕ, List, sym, subst, arith}
use Rattle.std.specs.Prelude.{Some}
use Rattle.std.specs.Cmp.Lexicographic.{slice_cmp}
use Rattle.std.specs.Ordering.{nat_cmp}
use Rattle.std.specs.BTreeMap.{UpdatesBy}
use Rattle.fidl_verify.specs.Lookups.{protocol_record}
use Rattle.fidl_reading.proofs.Mapped.{by_items, has_none, has_some}
use Rattle.fidl_script.specs.Named.{name_of_method, place_at, Finds}
use Rattle.fidl_script.proofs.Mapped.{none_found, found_before, found_long, found_now}
use Rattle.fidl_script.proofs.methods.places_by_name.Goals.{then-name-le-LONGEST_NAME+then-not-contains_key+in_ok-from_slice+in_ok-insert, else-name-le-LONGEST_NAME, else-name-le-LONGEST_NAME-via-then-name-le-LONGEST_NAME+else-not-contains_key, else-name-le-LONGEST_NAME-via-else-name-le-LONGEST_NAME}
use Rattle.fidl_script.proofs.methods.places_by_name.Goals as goal

pub loop-place-init : goal.loop-place-init
loop-place-init c = none_found c.args.protocol.now c.new-places.result c.new-places.ensures.empty

pub loop-place-preserved : goal.loop-place-preserved
loop-place-preserved c =
    let p = c.args.protocol.now in
    let k = c.loop-place.place in
    let places = c.loop-place.places in
    let own = c.name_at-name.result.now in
    let is : name_of_method p k ≡ own = sym c.name_at-name.ensures in
    elim c.if-name-le-LONGEST_NAME.branch as (λ x. Finds p (k + 1) c.if-name-le-LONGEST_NAME.places) [
      | then-name-le-LONGEST_NAME+then-not-contains_key+in_ok-from_slice+in_ok-insert w ↦
          let none = has_none w.contains_key.result (place_at places own) w.contains_key.ensures w.if-not-contains_key.true in
          let now = subst (λ (l : List ℕ). UpdatesBy by_items (λ key. slice_cmp nat_cmp l key.items) places w.insert.new.self (Some k)) w.in_ok-from_slice.ensures.items w.in_ok-insert.ensures.updates in
          subst (Finds p (k + 1)) (sym w.places-is) (found_now p k places own is c.loop-place.invariant w.insert.new.self none now)
      | else-name-le-LONGEST_NAME w ↦
          subst (Finds p (k + 1)) (sym w.places-is) (elim w.else-name-le-LONGEST_NAME.branch as (λ x. Finds p (k + 1) places) [
            | else-name-le-LONGEST_NAME-via-then-name-le-LONGEST_NAME+else-not-contains_key v ↦
                let x = has_some v.contains_key.result (place_at places own) v.contains_key.ensures v.if-not-contains_key.false in
                found_before p k places own is c.loop-place.invariant x.0 x.1
            | else-name-le-LONGEST_NAME-via-else-name-le-LONGEST_NAME v ↦ found_long p k places own is c.loop-place.invariant v.if-name-le-LONGEST_NAME.false
          ])
    ]

pub returns : goal.returns
returns c =
    let e : c.loop-place.place ≡ (protocol_record c.args.protocol.now).methods = omega arith in
    subst (λ n. Finds c.args.protocol.now n c.loop-place.places) e c.loop-place.invariant
