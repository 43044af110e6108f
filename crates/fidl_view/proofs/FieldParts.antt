-- The members of a struct that are left, one by one.
use Rattle.std.proofs.Common.{◌≡◌, ℕ, zero, suc, ◌+◌, ◌-◌, ◌<◌, ◌≤◌, ◌∷◌, refl, ap, sym, subst, arith}
use Rattle.std.specs.Prelude.{Option, Some, None}
use Rattle.std.specs.Option.{option_map_or}
use Rattle.fidl_wire.specs.Value.{Value, Values, none, value}
use Rattle.fidl_table_format.specs.declared.record.Row.{Row}
use Rattle.fidl_table_format.specs.Section.{header_of, row_at}
use Rattle.fidl_decode_model.specs.Model.{Shown}
use Rattle.fidl_view.specs.Parts.{nth}
use Rattle.fidl_view.specs.Shows.{Shows}
use Rattle.fidl_view.specs.Elements.{part, ShowEach}
use Rattle.fidl_view.specs.Fields.{parts_of_rows}

-- the first member, and the others
pub fields_next : (d : Shown) (first place n : ℕ) → (n ≡ 0 → ⊥) → parts_of_rows d first place n
    ≡ part d (row_at d.table (header_of d.table) first).entry (place + (row_at d.table (header_of d.table) first).key) ∷ parts_of_rows d (suc first) place (n - 1)
fields_next d first place zero some = absurd (some (omega arith))
fields_next d first place (suc n) some =
    let e : n ≡ suc n - 1 = omega arith in
    let r = row_at d.table (header_of d.table) first in
    ap (λ k. part d r.entry (place + r.key) ∷ parts_of_rows d (suc first) place k) e

-- the value at a place is the one that the row so far behind the first shows
abbrev ShownAt : Shown → (first place : ℕ) → Values → (i : ℕ) → Type 0
ShownAt d first place vs i = let r = row_at d.table (header_of d.table) (first + i) in
    (x : Value) × (nth vs i ≡ Some x) × Shows d r.entry (place + r.key) x

some_is_not_none : (v : Value) (o : Option Value) → o ≡ Some v → o ≡ None → ⊥
some_is_not_none v o is lacks = cc

-- values that are shown at each place are shown one by one
pub fields_shown : (d : Shown) (place n first : ℕ) (vs : Values) → ((i : ℕ) → i < n → ShownAt d first place vs i) → ((i : ℕ) → n ≤ i → nth vs i ≡ None)
    → ShowEach (parts_of_rows d first place n) vs
fields_shown d place zero first none each past = tt
fields_shown d place zero first (value v vs) each past = absurd (some_is_not_none v (Some v) refl (past 0 (omega arith)))
fields_shown d place (suc n) first none each past = (let x = each 0 (omega arith) in absurd (some_is_not_none x.0 None x.1 refl))
fields_shown d place (suc n) first (value v vs) each past =
    (head (each 0 (omega arith)), fields_shown d place n (suc first) vs (λ i lt. later i (each (suc i) (omega arith))) (λ i le. past (suc i) (omega arith)))
  where
    row : ℕ → Row
    row k = row_at d.table (header_of d.table) k

    head : ShownAt d first place (value v vs) 0 → Shows d (row first).entry (place + (row first).key) v
    head x =
        let is : x.0 ≡ v = ap (λ (o : Option Value). option_map_or (λ (u : Value). u) o v) (sym x.1) in
        let here : first + 0 ≡ first = omega arith in
        subst (λ (u : Value). Shows d (row first).entry (place + (row first).key) u) is
        (subst (λ k. Shows d (row k).entry (place + (row k).key) x.0) here x.2)

    later : (i : ℕ) → ShownAt d first place (value v vs) (suc i) → ShownAt d (suc first) place vs i
    later i x =
        let behind : first + suc i ≡ suc first + i = omega arith in
        (x.0, x.1, subst (λ k. Shows d (row k).entry (place + (row k).key) x.0) behind x.2)
