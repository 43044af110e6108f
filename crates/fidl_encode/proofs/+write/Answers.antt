use Rattle.std.proofs.Common.{[], inl, inr, true, false, IsTrue, ◌≡◌, ◌≤◌, ◌<◌, ◌+◌, ◌-◌, ◌*◌, ◌^◌, ◌++◌, w64, length, map, refl, sym, ap, subst, ◌∙◌, arith}
use Rattle.std.specs.Prelude.{OnOk, IfErr, IfSome, Option, Some, None}
use Rattle.std.specs.Int.{to_le_bytes, next_multiple_of, w16, w32, byte_len}
use Rattle.fidl_wire.specs.Term.{Term, find, width}
use Rattle.fidl_wire.specs.Term as ty
use Rattle.fidl_wire.specs.Value as data_of
use Rattle.fidl_wire.specs.Value.{Value, Member, values_of, list, known, unknown}
use Rattle.fidl_wire.specs.Views.{value_view, values_view, member_view, members_view, content_view}
use Rattle.fidl_wire.specs.Figure.{Declarations, size_of}
use Rattle.fidl_wire.specs.Typed.{IsTyped}
use Rattle.fidl_wire.specs.Encoding.{zeros, present, object}
use Rattle.fidl_wire.proofs.Sizes.{length-inline, size_of-resolve}
use Rattle.fidl_table_format.specs.declared.record.Entry.{Entry}
use Rattle.fidl_table_format.specs.declared.record.Row.{Row}
use Rattle.fidl_table_format.specs.declared.kind.EntryKind.TheVariants.{Bool as Boolean, Bits, Enum, String, Vector, Array, Box, Struct, Table, Union, Handle}
use Rattle.fidl_table_format.specs.Section.{header_of, entry_at, row_at}
use Rattle.fidl_table_format.specs.Terms.{declarations_of, is_optional, is_strict, members_of, underlying, mask_of, as_number}
use Rattle.fidl_table_format.specs.Entry.{IsOf}
use Rattle.fidl_table_format.specs.Uses.{uses_ordinals}
use Rattle.fidl_verify.proofs.Known.{test_of}
use Rattle.fidl_verify.proofs.Declared.{laid_out}
use Rattle.fidl_encode.specs.Writing.{written, IsOver}
use Rattle.fidl_encode.specs.declared.fault.EncodeFault.TheVariants as fault
use Rattle.fidl_encode.specs.Parts.{Part, value_part, elements_part, entry_part, type_at, fields_at, struct_part, member_part, envelopes_part, row_type, enum_at, IsWritten, IsRefused, HasNoRoom}
use Rattle.fidl_encode.proofs.Ending.{refused_deep, refused_room, refused_below, written_below, written_alike, refused_alike, length_room, length_object, handles_more, too_long, both, plain, written_inline, written_both, refused_rest, within_same}
use Rattle.fidl_encode.proofs.Adding.{append-nil}
use Rattle.fidl_encode.proofs.Leaving.{handed_on, on_ok, if_err, absent_ok, absent_refused}
use Rattle.fidl_encode.proofs.Trees.{known_is, unknown_is}
use Rattle.fidl_encode.proofs.Enveloped as enveloped
use Rattle.fidl_encode.proofs.Envelopes as envelopes
use Rattle.fidl_encode.proofs.Envelopes.{clash}
use Rattle.fidl_encode.proofs.Entries as entries
use Rattle.fidl_encode.proofs.Elements as elements
use Rattle.fidl_encode.proofs.Fields as members
use Rattle.fidl_encode.proofs.+write.Goals as goal
use Rattle.fidl_encode.proofs.+write.Goals.{envelope::write_envelopes-then-ordinal-last-via-then-ordinal-last, envelope::write_envelopes-then-ordinal-last-via-else-ordinal-last+then-ordinal-envelopes, envelope::write_union-then-ordinal-eq0-via-then-ordinal-eq0, envelope::write_union-then-ordinal-eq0-via-else-ordinal-eq0+then-is_missing}

-- ---- elements

pub list::write_elements-loop-k-init : goal.list::write_elements-loop-k-init
list::write_elements-loop-k-init t c =
    let b = c.args.table.now in
    elements.left_all (declarations_of b) (type_at b c.args.element) (entry_at b c.args.element).size c.args.values.now c.args.target.depth c.args.target.at (written c.args.out.now) c.requires.within

pub list::write_elements-overflow_mul-place : goal.list::write_elements-overflow_mul-place
list::write_elements-overflow_mul-place t c =
    let b = c.args.table.now in
    let p = elements.product_within (entry_at b c.args.element).size (length c.args.values.now) c.loop-k.k c.loop-k-test.true in
    let same : c.entry-size.result.size ≡ (entry_at b c.args.element).size = ap (λ (e : Entry). e.size) c.entry-size.ensures.value in
    let room = c.requires.room in
    let short = c.requires.within.short in
    record { fits = subst (λ n. c.loop-k.k * n < 2 ^ 64) (sym same) (omega (arith, p, room, short)) }

pub list::write_elements-overflow_add-place : goal.list::write_elements-overflow_add-place
list::write_elements-overflow_add-place t c =
    let b = c.args.table.now in
    let p = elements.product_within (entry_at b c.args.element).size (length c.args.values.now) c.loop-k.k c.loop-k-test.true in
    let same : c.entry-size.result.size ≡ (entry_at b c.args.element).size = ap (λ (e : Entry). e.size) c.entry-size.ensures.value in
    let room = c.requires.room in
    let short = c.requires.within.short in
    record { fits = subst (λ n. c.args.target.at + c.loop-k.k * n < 2 ^ 64) (sym same) (omega (arith, p, room, short)) }

pub list::write_elements-write_value-requires : goal.list::write_elements-write_value-requires
list::write_elements-write_value-requires t c =
    let b = c.args.table.now in
    let size = (entry_at b c.args.element).size in
    let p = elements.product_within size (length c.args.values.now) c.loop-k.k c.loop-k-test.true in
    let same : c.entry-size.result.size ≡ size = ap (λ (e : Entry). e.size) c.entry-size.ensures.value in
    let room = c.requires.room in
    let longer = c.loop-k.invariant.longer in (
      omega (arith, c.decreases),
      (c.requires.element, (c.loop-k.invariant.within, subst (λ n. c.args.target.at + c.loop-k.k * n + size ≤ length c.loop-k.out.bytes.items) (sym same) (omega (arith, p, room, longer)))),
    )

pub list::write_elements-returns-in_err-write_value-clause-fault_is_true : goal.list::write_elements-returns-in_err-write_value-clause-fault_is_true
list::write_elements-returns-in_err-write_value-clause-fault_is_true t c =
    let b = c.args.table.now in
    let w = c.entry-size.ensures.well_formed in
    let ds = declarations_of b in
    let own = type_at b c.args.element in
    let size = (entry_at b c.args.element).size in
    handed_on c.from_residual.result c.in_err-write_value.field-0.0 (IsRefused (elements_part ds own (elements.views c.args.values.now)) c.args.target.depth (written c.args.out.now)) c.from_residual.ensures.1
    (elements.left_refused ds own size c.args.values.now c.args.target.depth c.args.target.at (written c.args.out.now) (laid_out b w) (entries.size_at b w c.args.element c.requires.element) c.loop-k.k c.index-values-k.result
    (written c.loop-k.out) c.loop-k-test.true (sym c.index-values-k.is) c.loop-k.invariant c.in_err-write_value.field-0.0 c.in_err-write_value.ensures.fault_is_true)

pub list::write_elements-loop-k-preserved : goal.list::write_elements-loop-k-preserved
list::write_elements-loop-k-preserved t c =
    let b = c.args.table.now in
    let w = c.entry-size.ensures.well_formed in
    let ds = declarations_of b in
    let own = type_at b c.args.element in
    let size = (entry_at b c.args.element).size in
    let same : c.entry-size.result.size ≡ size = ap (λ (e : Entry). e.size) c.entry-size.ensures.value in
    elements.left_next ds own size c.args.values.now c.args.target.depth c.args.target.at (written c.args.out.now) (laid_out b w) (entries.size_at b w c.args.element c.requires.element) c.loop-k.k c.index-values-k.result
    (written c.loop-k.out) c.loop-k-test.true (sym c.index-values-k.is) c.loop-k.invariant (written c.write_value.new.out)
    (subst (λ n. IsWritten (value_part ds own (value_view c.index-values-k.result)) c.args.target.depth (c.args.target.at + c.loop-k.k * n) (written c.loop-k.out) (written c.write_value.new.out)) same c.in_ok-write_value.ensures.ok)

pub list::write_elements-returns-clause-ok : goal.list::write_elements-returns-clause-ok
list::write_elements-returns-clause-ok t c =
    let b = c.args.table.now in
    elements.left_none (declarations_of b) (type_at b c.args.element) (entry_at b c.args.element).size c.args.values.now c.args.target.depth c.args.target.at (written c.args.out.now) c.loop-k.k (written c.loop-k.out)
    (omega (arith, c.loop-k-test.false)) c.loop-k.invariant

-- ---- vectors

pub list::write_vector-returns-in_err-depth-clause-fault_is_true : goal.list::write_vector-returns-in_err-depth-clause-fault_is_true
list::write_vector-returns-in_err-depth-clause-fault_is_true t c =
    let b = c.args.table.now in
    let e = c.args.entry.now in
    let vs = values_view c.in-Some.values.now in
    let T = ty.vector (is_optional e) e.bound (ty.named e.first) in
    handed_on c.from_residual.result c.in_err-depth.field-0.0 (IsRefused (value_part (declarations_of b) T (value_view c.args.value.now)) c.args.target.depth (written c.args.out.now)) c.from_residual.ensures.1
    (subst (λ (v : Value). IsRefused (value_part (declarations_of b) T v) c.args.target.depth (written c.args.out.now) c.in_err-depth.field-0.0) (sym c.in-Some.ensures.some)
    (refused_deep _ _ _ _ (elements.points_elements (declarations_of b) (laid_out b c.requires.well_formed) (is_optional e) e.bound (ty.named e.first) vs (entry_at b e.first).size (entries.size_at b c.requires.well_formed e.first c.requires.element))
    c.args.target.depth (written c.args.out.now) c.in_err-depth.field-0.0 c.in_err-depth.ensures.fault c.in_err-depth.ensures.none))

pub list::write_vector-returns-then-count-entry-clause-fault_is_true : goal.list::write_vector-returns-then-count-entry-clause-fault_is_true
list::write_vector-returns-then-count-entry-clause-fault_is_true t c =
    let b = c.args.table.now in
    let e = c.args.entry.now in
    let len = c.len-count.ensures in
    let T = ty.vector (is_optional e) e.bound (ty.named e.first) in
    subst (λ (v : Value). IsRefused (value_part (declarations_of b) T v) c.args.target.depth (written c.args.out.now) fault.OverBound) (sym c.in-Some.ensures.some)
    (elements.over_bound (declarations_of b) (is_optional e) e.bound (ty.named e.first) (values_view c.in-Some.values.now) (omega (arith, c.if-count-entry.true, len)))

pub list::write_vector-overflow_mul-size : goal.list::write_vector-overflow_mul-size
list::write_vector-overflow_mul-size t c =
    let b = c.args.table.now in
    let same : c.entry-size.result.size ≡ (entry_at b c.args.entry.now.first).size = ap (λ (e : Entry). e.size) c.entry-size.ensures.value in
    let few = entries.size_few b c.requires.well_formed c.args.entry.now.first c.requires.element in
    record { fits = elements.product_small c.entry-size.result.size c.len-count.result (omega (arith, same, few)) (omega (arith, c.if-count-entry.false, c.requires.bound)) }

pub list::write_vector-returns-in_err-at-clause-fault_is_true : goal.list::write_vector-returns-in_err-at-clause-fault_is_true
list::write_vector-returns-in_err-at-clause-fault_is_true t c =
    let b = c.args.table.now in
    let e = c.args.entry.now in
    let vs = values_view c.in-Some.values.now in
    let T = ty.vector (is_optional e) e.bound (ty.named e.first) in
    let same : c.entry-size.result.size ≡ (entry_at b e.first).size = ap (λ (e : Entry). e.size) c.entry-size.ensures.value in
    handed_on c.from_residual-in_err-at.result c.in_err-at.field-0.0 (IsRefused (value_part (declarations_of b) T (value_view c.args.value.now)) c.args.target.depth (written c.args.out.now)) c.from_residual-in_err-at.ensures.1
    (subst (λ (v : Value). IsRefused (value_part (declarations_of b) T v) c.args.target.depth (written c.args.out.now) c.in_err-at.field-0.0) (sym c.in-Some.ensures.some)
    (refused_room _ _ _ _ (elements.points_elements (declarations_of b) (laid_out b c.requires.well_formed) (is_optional e) e.bound (ty.named e.first) vs c.entry-size.result.size (entries.size_at b c.requires.well_formed e.first c.requires.element ∙ sym same))
    c.args.target.depth (written c.args.out.now) c.in_err-at.field-0.0 (subst (λ n. HasNoRoom (written c.args.out.now) (c.entry-size.result.size * n) c.in_err-at.field-0.0) c.len-count.ensures c.in_err-at.ensures.fault_is_true)))

pub list::write_vector-write_elements-requires : goal.list::write_vector-write_elements-requires
list::write_vector-write_elements-requires t c =
    let b = c.args.table.now in
    let e = c.args.entry.now in
    let same : c.entry-size.result.size ≡ (entry_at b e.first).size = ap (λ (e : Entry). e.size) c.entry-size.ensures.value in
    let n : length c.as_slice.result.now ≡ c.len-count.result = sym (elements.length-views c.as_slice.result.now) ∙ ap length c.as_slice.ensures ∙ sym c.len-count.ensures in
    let few = entries.size_few b c.requires.well_formed e.first c.requires.element in
    let nest = entries.nest_few b c.requires.well_formed e.first c.requires.element in
    let room = length_room (written c.args.out.now) (written c.reserve.new.self) (c.entry-size.result.size * c.len-count.result) c.in_ok-at.ensures.room in
    let at = c.in_ok-at.ensures.place in
    let deep = c.in_ok-depth.ensures.ok in (
      omega (arith, c.decreases, few, nest, deep),
      (
        c.requires.element,
        (
          c.in_ok-at.ensures.within,
          subst (λ k. c.in_ok-at.at + (entry_at b e.first).size * k ≤ length c.reserve.new.self.bytes.items) (sym n) (subst (λ s. c.in_ok-at.at + s * c.len-count.result ≤ length c.reserve.new.self.bytes.items) same (omega (arith, room, at))),
        ),
      ),
    )

pub list::write_vector-returns-in_err-write_elements-clause-fault_is_true : goal.list::write_vector-returns-in_err-write_elements-clause-fault_is_true
list::write_vector-returns-in_err-write_elements-clause-fault_is_true t c =
    let b = c.args.table.now in
    let e = c.args.entry.now in
    let vs = values_view c.in-Some.values.now in
    let T = ty.vector (is_optional e) e.bound (ty.named e.first) in
    let same : c.entry-size.result.size ≡ (entry_at b e.first).size = ap (λ (e : Entry). e.size) c.entry-size.ensures.value in
    let a = written c.args.out.now in
    let f = c.in_err-write_elements.field-0.0 in
    handed_on c.from_residual-in_err-write_elements.result f (IsRefused (value_part (declarations_of b) T (value_view c.args.value.now)) c.args.target.depth a) c.from_residual-in_err-write_elements.ensures.1
    (subst (λ (v : Value). IsRefused (value_part (declarations_of b) T v) c.args.target.depth a f) (sym c.in-Some.ensures.some)
    (refused_below _ _ _ _ (elements.points_elements (declarations_of b) (laid_out b c.requires.well_formed) (is_optional e) e.bound (ty.named e.first) vs c.entry-size.result.size (entries.size_at b c.requires.well_formed e.first c.requires.element ∙ sym same))
    c.args.target.depth a c.in_ok-depth.depth c.in_ok-depth.ensures.ok (written c.reserve.new.self)
    (c.in_ok-at.ensures.room ∙ ap (λ n. a.bytes ++ zeros (next_multiple_of (c.entry-size.result.size * n) 8)) c.len-count.ensures) c.in_ok-at.ensures.handles f
    (subst (λ l. IsRefused (elements_part (declarations_of b) (type_at b e.first) (values_of l)) c.in_ok-depth.depth (written c.reserve.new.self) f) c.as_slice.ensures c.in_err-write_elements.ensures.fault_is_true)))

pub list::write_vector-put_count-requires : goal.list::write_vector-put_count-requires
list::write_vector-put_count-requires t c =
    let room = length_room (written c.args.out.now) (written c.reserve.new.self) (c.entry-size.result.size * c.len-count.result) c.in_ok-at.ensures.room in
    let more = c.in_ok-write_elements.ensures.ok.adds.longer in
    let own = c.requires.room in
    omega (arith, room, more, own)

pub list::write_vector-returns-clause-ok : goal.list::write_vector-returns-clause-ok
list::write_vector-returns-clause-ok t c =
    let b = c.args.table.now in
    let e = c.args.entry.now in
    let vs = values_view c.in-Some.values.now in
    let T = ty.vector (is_optional e) e.bound (ty.named e.first) in
    let same : c.entry-size.result.size ≡ (entry_at b e.first).size = ap (λ (e : Entry). e.size) c.entry-size.ensures.value in
    let a = written c.args.out.now in
    let len = c.len-count.ensures in
    subst (λ (v : Value). IsWritten (value_part (declarations_of b) T v) c.args.target.depth c.args.target.at a (written c.put_count.new.self)) (sym c.in-Some.ensures.some)
    (written_below _ _ _ _ (elements.points_elements (declarations_of b) (laid_out b c.requires.well_formed) (is_optional e) e.bound (ty.named e.first) vs c.entry-size.result.size (entries.size_at b c.requires.well_formed e.first c.requires.element ∙ sym same))
    c.args.target.depth a c.in_ok-depth.depth c.in_ok-depth.ensures.ok (written c.reserve.new.self)
    (c.in_ok-at.ensures.room ∙ ap (λ n. a.bytes ++ zeros (next_multiple_of (c.entry-size.result.size * n) 8)) len) c.in_ok-at.ensures.handles
    (written c.write_elements.new.out) (written c.put_count.new.self) c.args.target.at
    (λ h. elements.bounded (declarations_of b) (is_optional e) e.bound (ty.named e.first) vs (omega (arith, c.if-count-entry.false, len)) h)
    (subst (λ n. IsWritten (elements_part (declarations_of b) (type_at b e.first) (values_of vs)) c.in_ok-depth.depth n (written c.reserve.new.self) (written c.write_elements.new.out)) c.in_ok-at.ensures.place
    (subst (λ l. IsWritten (elements_part (declarations_of b) (type_at b e.first) (values_of l)) c.in_ok-depth.depth c.in_ok-at.at (written c.reserve.new.self) (written c.write_elements.new.out)) c.as_slice.ensures c.in_ok-write_elements.ensures.ok))
    (subst (λ n. IsOver c.write_elements.new.out.bytes.items c.put_count.new.self.bytes.items c.args.target.at (to_le_bytes w64 n ++ present)) len c.put_count.ensures.over)
    c.put_count.ensures.same c.put_count.ensures.handles)

-- ---- arrays

pub list::write_array-write_elements-requires : goal.list::write_array-write_elements-requires
list::write_array-write_elements-requires t c =
    let b = c.args.table.now in
    let e = c.args.entry.now in
    let n : length c.as_slice.result.now ≡ e.count = sym (elements.length-views c.as_slice.result.now) ∙ ap length c.as_slice.ensures ∙ sym c.len.ensures ∙ omega (arith, c.if-len-entry.false) in
    (omega (arith, c.decreases), (c.requires.element, (c.requires.within, subst (λ k. c.args.target.at + (entry_at b e.first).size * k ≤ length c.args.out.now.bytes.items) (sym n) c.requires.room)))

pub list::write_array-returns-then-len-entry-clause-fault_is_true : goal.list::write_array-returns-then-len-entry-clause-fault_is_true
list::write_array-returns-then-len-entry-clause-fault_is_true t c =
    let b = c.args.table.now in
    let e = c.args.entry.now in
    subst (λ (v : Value). IsTyped (declarations_of b) (ty.array (ty.named e.first) e.count) v → ⊥) (sym c.in-Some.ensures.some)
    (elements.other_count (declarations_of b) (ty.named e.first) e.count (values_view c.in-Some.values.now) (λ same. c.if-len-entry.true (c.len.ensures ∙ same)))

pub list::write_array-returns-clause-ok : goal.list::write_array-returns-clause-ok
list::write_array-returns-clause-ok t c =
    let b = c.args.table.now in
    let e = c.args.entry.now in
    let vs = values_view c.in-Some.values.now in
    let ds = declarations_of b in
    let T = ty.array (ty.named e.first) e.count in
    let a = written c.args.out.now in
    let z = written c.write_elements.new.out in
    let alike = elements.array_alike ds (ty.named e.first) e.count vs (sym c.len.ensures ∙ c.if-len-entry.false) in
    subst (λ (v : Value). OnOk c.write_elements.result (IsWritten (value_part ds T v) c.args.target.depth c.args.target.at a z)) (sym c.in-Some.ensures.some)
    (on_ok c.write_elements.result (λ h. written_alike (elements_part ds (type_at b e.first) (values_of vs)) (value_part ds T (list (values_of vs))) c.args.target.depth c.args.target.at a z alike
    (subst (λ l. IsWritten (elements_part ds (type_at b e.first) (values_of l)) c.args.target.depth c.args.target.at a z) c.as_slice.ensures h)) c.write_elements.ensures.ok)

pub list::write_array-returns-clause-fault_is_true : goal.list::write_array-returns-clause-fault_is_true
list::write_array-returns-clause-fault_is_true t c =
    let b = c.args.table.now in
    let e = c.args.entry.now in
    let vs = values_view c.in-Some.values.now in
    let ds = declarations_of b in
    let T = ty.array (ty.named e.first) e.count in
    let a = written c.args.out.now in
    let alike = elements.array_alike ds (ty.named e.first) e.count vs (sym c.len.ensures ∙ c.if-len-entry.false) in
    subst (λ (v : Value). IfErr c.write_elements.result (IsRefused (value_part ds T v) c.args.target.depth a)) (sym c.in-Some.ensures.some)
    (if_err (IsRefused (elements_part ds (type_at b e.first) (values_of (map value_view c.as_slice.result.now))) c.args.target.depth a) (IsRefused (value_part ds T (list (values_of vs))) c.args.target.depth a) c.write_elements.result
    (λ f h. refused_alike (elements_part ds (type_at b e.first) (values_of vs)) (value_part ds T (list (values_of vs))) c.args.target.depth a alike f
    (subst (λ l. IsRefused (elements_part ds (type_at b e.first) (values_of l)) c.args.target.depth a f) c.as_slice.ensures h)) c.write_elements.ensures.fault_is_true)

-- ---- the members of structs

pub structs::write_members-returns-then-values-entry-clause-fault_is_true : goal.structs::write_members-returns-then-values-entry-clause-fault_is_true
structs::write_members-returns-then-values-entry-clause-fault_is_true t c =
    let b = c.args.table.now in
    let e = entry_at b c.args.index in
    let counted : c.entry-entry.result.count ≡ e.count = ap (λ (e : Entry). e.count) c.entry-entry.ensures.value in
    members.not_as_many (declarations_of b) b e.first e.count c.args.values.now (λ same. c.if-values-entry.true (same ∙ sym counted))

pub structs::write_members-loop-k-init : goal.structs::write_members-loop-k-init
structs::write_members-loop-k-init t c =
    let b = c.args.table.now in
    let e = entry_at b c.args.index in
    let w = c.entry-entry.ensures.well_formed in
    members.left_all b (size_of (declarations_of b) (ty.struct (fields_at b c.args.index))) e.first e.count c.args.values.now c.args.target.depth c.args.target.at (written c.args.out.now)
    ((w.entries c.args.index c.requires.entry).offsets c.requires.of_struct) c.requires.within

pub structs::write_members-overflow_add-entry : goal.structs::write_members-overflow_add-entry
structs::write_members-overflow_add-entry t c =
    let counted = ap (λ (e : Entry). e.count) c.entry-entry.ensures.value in
    let begun = ap (λ (e : Entry). e.first) c.entry-entry.ensures.value in
    let inside = entries.row_lt c.args.table.now c.entry-entry.ensures.well_formed c.args.index c.requires.entry c.requires.of_struct c.loop-k.k (omega (arith, c.loop-k-test.true, counted)) in
    record { fits = omega (arith, inside, begun, c.rows-rows.ensures.value) }

pub structs::write_members-row-row-requires : goal.structs::write_members-row-row-requires
structs::write_members-row-row-requires t c =
    let counted = ap (λ (e : Entry). e.count) c.entry-entry.ensures.value in
    let begun = ap (λ (e : Entry). e.first) c.entry-entry.ensures.value in
    let inside = entries.row_lt c.args.table.now c.entry-entry.ensures.well_formed c.args.index c.requires.entry c.requires.of_struct c.loop-k.k (omega (arith, c.loop-k-test.true, counted)) in
    subst (λ k. k + c.loop-k.k < (header_of c.args.table.now).rows) (sym begun) inside

pub structs::write_members-overflow_add-place : goal.structs::write_members-overflow_add-place
structs::write_members-overflow_add-place t c =
    let b = c.args.table.now in
    let e = entry_at b c.args.index in
    let counted = ap (λ (e : Entry). e.count) c.entry-entry.ensures.value in
    let begun = ap (λ (e : Entry). e.first) c.entry-entry.ensures.value in
    let less : c.loop-k.k < e.count = omega (arith, c.loop-k-test.true, counted) in
    let fits = entries.member_fits b c.entry-entry.ensures.well_formed c.args.index c.requires.entry c.requires.of_struct c.loop-k.k less in
    let here : c.row-row.result ≡ row_at b (header_of b) (e.first + c.loop-k.k) = c.row-row.ensures.value ∙ ap (λ k. row_at b (header_of b) (k + c.loop-k.k)) begun in
    let key : c.row-row.result.key ≡ (row_at b (header_of b) (e.first + c.loop-k.k)).key = ap (λ (r : Row). r.key) here in
    let room = c.requires.room in
    let short = c.requires.within.short in
    record { fits = omega (arith, fits, key, room, short) }

pub structs::write_members-write_value-requires : goal.structs::write_members-write_value-requires
structs::write_members-write_value-requires t c =
    let b = c.args.table.now in
    let w = c.entry-entry.ensures.well_formed in
    let e = entry_at b c.args.index in
    let counted = ap (λ (e : Entry). e.count) c.entry-entry.ensures.value in
    let begun = ap (λ (e : Entry). e.first) c.entry-entry.ensures.value in
    let less : c.loop-k.k < e.count = omega (arith, c.loop-k-test.true, counted) in
    let here : c.row-row.result ≡ row_at b (header_of b) (e.first + c.loop-k.k) = c.row-row.ensures.value ∙ ap (λ k. row_at b (header_of b) (k + c.loop-k.k)) begun in
    let fits = subst (λ (r : Row). r.key + (entry_at b r.entry).size ≤ e.size) (sym here) (entries.member_fits b w c.args.index c.requires.entry c.requires.of_struct c.loop-k.k less) in
    let lower = subst (λ (r : Row). (entry_at b r.entry).nest < e.nest) (sym here) (entries.member_less b w c.args.index c.requires.entry c.requires.of_struct c.loop-k.k less) in
    let room = c.requires.room in
    let longer = c.loop-k.invariant.longer in
    (omega (arith, c.decreases, lower, fits), (c.row-row.ensures.entry, (c.loop-k.invariant.within, omega (arith, fits, room, longer))))

pub structs::write_members-returns-in_err-write_value-clause-fault_is_true : goal.structs::write_members-returns-in_err-write_value-clause-fault_is_true
structs::write_members-returns-in_err-write_value-clause-fault_is_true t c =
    let b = c.args.table.now in
    let w = c.entry-entry.ensures.well_formed in
    let e = entry_at b c.args.index in
    let size = size_of (declarations_of b) (ty.struct (fields_at b c.args.index)) in
    let f = c.in_err-write_value.field-0.0 in
    let counted = ap (λ (e : Entry). e.count) c.entry-entry.ensures.value in
    let begun = ap (λ (e : Entry). e.first) c.entry-entry.ensures.value in
    let many : length c.args.values.now ≡ e.count = omega (arith, c.if-values-entry.false, counted) in
    let here : c.row-row.result ≡ row_at b (header_of b) (e.first + c.loop-k.k) = c.row-row.ensures.value ∙ ap (λ k. row_at b (header_of b) (k + c.loop-k.k)) begun in
    handed_on c.from_residual.result f (IsRefused (struct_part b c.args.index (elements.views c.args.values.now)) c.args.target.depth (written c.args.out.now)) c.from_residual.ensures.1
    (members.left_refused b size e.first e.count c.args.values.now c.args.target.depth c.args.target.at (written c.args.out.now) (laid_out b w) c.loop-k.k c.index-values-k.result (written c.loop-k.out)
    (omega (arith, c.loop-k-test.true, counted, many)) (sym c.index-values-k.is) many c.loop-k.invariant f
    (subst (λ (r : Row). IsRefused (value_part (declarations_of b) (type_at b r.entry) (value_view c.index-values-k.result)) c.args.target.depth (written c.loop-k.out) f) here c.in_err-write_value.ensures.fault_is_true))

pub structs::write_members-loop-k-preserved : goal.structs::write_members-loop-k-preserved
structs::write_members-loop-k-preserved t c =
    let b = c.args.table.now in
    let w = c.entry-entry.ensures.well_formed in
    let e = entry_at b c.args.index in
    let size = size_of (declarations_of b) (ty.struct (fields_at b c.args.index)) in
    let counted = ap (λ (e : Entry). e.count) c.entry-entry.ensures.value in
    let begun = ap (λ (e : Entry). e.first) c.entry-entry.ensures.value in
    let many : length c.args.values.now ≡ e.count = omega (arith, c.if-values-entry.false, counted) in
    let here : c.row-row.result ≡ row_at b (header_of b) (e.first + c.loop-k.k) = c.row-row.ensures.value ∙ ap (λ k. row_at b (header_of b) (k + c.loop-k.k)) begun in
    members.left_next b size e.first e.count c.args.values.now c.args.target.depth c.args.target.at (written c.args.out.now) (laid_out b w) c.loop-k.k c.index-values-k.result (written c.loop-k.out)
    (omega (arith, c.loop-k-test.true, counted, many)) (sym c.index-values-k.is) many c.loop-k.invariant (written c.write_value.new.out)
    (subst (λ (r : Row). IsWritten (value_part (declarations_of b) (type_at b r.entry) (value_view c.index-values-k.result)) c.args.target.depth (c.args.target.at + r.key) (written c.loop-k.out) (written c.write_value.new.out)) here c.in_ok-write_value.ensures.ok)

pub structs::write_members-returns-clause-ok : goal.structs::write_members-returns-clause-ok
structs::write_members-returns-clause-ok t c =
    let b = c.args.table.now in
    let e = entry_at b c.args.index in
    let size = size_of (declarations_of b) (ty.struct (fields_at b c.args.index)) in
    let counted = ap (λ (e : Entry). e.count) c.entry-entry.ensures.value in
    let many : length c.args.values.now ≡ e.count = omega (arith, c.if-values-entry.false, counted) in
    members.left_none b size e.first e.count c.args.values.now c.args.target.depth c.args.target.at (written c.args.out.now) c.loop-k.k (written c.loop-k.out) many
    (omega (arith, c.loop-k-test.false, c.loop-k.auto.k-end, counted)) c.loop-k.invariant

-- ---- structs

pub structs::write_struct-write_members-requires : goal.structs::write_struct-write_members-requires
structs::write_struct-write_members-requires t c = (omega (arith, c.decreases), (c.requires.entry, (c.requires.of_struct, (c.requires.within, c.requires.room))))

pub structs::write_struct-returns-clause-ok : goal.structs::write_struct-returns-clause-ok
structs::write_struct-returns-clause-ok t c =
    let b = c.args.table.now in
    let a = written c.args.out.now in
    let z = written c.write_members.new.out in
    subst (λ (v : Value). OnOk c.write_members.result (IsWritten (value_part (declarations_of b) (ty.struct (fields_at b c.args.index)) v) c.args.target.depth c.args.target.at a z)) (sym c.in-Some.ensures.some)
    (subst (λ l. OnOk c.write_members.result (IsWritten (struct_part b c.args.index (values_of l)) c.args.target.depth c.args.target.at a z)) c.as_slice.ensures c.write_members.ensures.ok)

pub structs::write_struct-returns-clause-fault_is_true : goal.structs::write_struct-returns-clause-fault_is_true
structs::write_struct-returns-clause-fault_is_true t c =
    let b = c.args.table.now in
    let a = written c.args.out.now in
    subst (λ (v : Value). IfErr c.write_members.result (IsRefused (value_part (declarations_of b) (ty.struct (fields_at b c.args.index)) v) c.args.target.depth a)) (sym c.in-Some.ensures.some)
    (subst (λ l. IfErr c.write_members.result (IsRefused (struct_part b c.args.index (values_of l)) c.args.target.depth a)) c.as_slice.ensures c.write_members.ensures.fault_is_true)

-- ---- boxes

pub structs::write_box-returns-in_err-depth-clause-fault_is_true : goal.structs::write_box-returns-in_err-depth-clause-fault_is_true
structs::write_box-returns-in_err-depth-clause-fault_is_true t c =
    let b = c.args.table.now in
    let i = c.args.content in
    let T = ty.box (ty.named i) in
    let f = c.in_err-depth.field-0.0 in
    let a = written c.args.out.now in
    handed_on c.from_residual.result f (IsRefused (value_part (declarations_of b) T (value_view c.args.value.now)) c.args.target.depth a) c.from_residual.ensures.1
    (subst (λ (v : Value). IsRefused (value_part (declarations_of b) T v) c.args.target.depth a f) (sym c.in-Some.ensures.some)
    (refused_deep _ _ _ _ (members.points_struct (declarations_of b) (laid_out b c.requires.well_formed) (ty.named i) (fields_at b i) (values_of (values_view c.in-Some.values.now)) (entry_at b i).size
    (entries.term_at b c.requires.well_formed i c.requires.content Struct c.requires.of_struct) (entries.size_as b c.requires.well_formed i c.requires.content Struct c.requires.of_struct))
    c.args.target.depth a f c.in_err-depth.ensures.fault c.in_err-depth.ensures.none))

pub structs::write_box-returns-in_err-at-clause-fault_is_true : goal.structs::write_box-returns-in_err-at-clause-fault_is_true
structs::write_box-returns-in_err-at-clause-fault_is_true t c =
    let b = c.args.table.now in
    let i = c.args.content in
    let T = ty.box (ty.named i) in
    let f = c.in_err-at.field-0.0 in
    let a = written c.args.out.now in
    let same : c.entry.result.size ≡ (entry_at b i).size = ap (λ (e : Entry). e.size) c.entry.ensures.value in
    handed_on c.from_residual-in_err-at.result f (IsRefused (value_part (declarations_of b) T (value_view c.args.value.now)) c.args.target.depth a) c.from_residual-in_err-at.ensures.1
    (subst (λ (v : Value). IsRefused (value_part (declarations_of b) T v) c.args.target.depth a f) (sym c.in-Some.ensures.some)
    (refused_room _ _ _ _ (members.points_struct (declarations_of b) (laid_out b c.requires.well_formed) (ty.named i) (fields_at b i) (values_of (values_view c.in-Some.values.now)) c.entry.result.size
    (entries.term_at b c.requires.well_formed i c.requires.content Struct c.requires.of_struct) (entries.size_as b c.requires.well_formed i c.requires.content Struct c.requires.of_struct ∙ sym same))
    c.args.target.depth a f c.in_err-at.ensures.fault_is_true))

pub structs::write_box-write_members-requires : goal.structs::write_box-write_members-requires
structs::write_box-write_members-requires t c =
    let b = c.args.table.now in
    let i = c.args.content in
    let same : c.entry.result.size ≡ (entry_at b i).size = ap (λ (e : Entry). e.size) c.entry.ensures.value in
    let few = entries.size_few b c.requires.well_formed i c.requires.content in
    let nest = entries.nest_few b c.requires.well_formed i c.requires.content in
    let room = length_room (written c.args.out.now) (written c.reserve.new.self) c.entry.result.size c.in_ok-at.ensures.room in
    let at = c.in_ok-at.ensures.place in
    let deep = c.in_ok-depth.ensures.ok in
    (omega (arith, c.decreases, few, nest, deep), (c.requires.content, (c.requires.of_struct, (c.in_ok-at.ensures.within, omega (arith, room, at, same)))))

pub structs::write_box-returns-in_err-write_members-clause-fault_is_true : goal.structs::write_box-returns-in_err-write_members-clause-fault_is_true
structs::write_box-returns-in_err-write_members-clause-fault_is_true t c =
    let b = c.args.table.now in
    let i = c.args.content in
    let T = ty.box (ty.named i) in
    let f = c.in_err-write_members.field-0.0 in
    let a = written c.args.out.now in
    let same : c.entry.result.size ≡ (entry_at b i).size = ap (λ (e : Entry). e.size) c.entry.ensures.value in
    handed_on c.from_residual-in_err-write_members.result f (IsRefused (value_part (declarations_of b) T (value_view c.args.value.now)) c.args.target.depth a) c.from_residual-in_err-write_members.ensures.1
    (subst (λ (v : Value). IsRefused (value_part (declarations_of b) T v) c.args.target.depth a f) (sym c.in-Some.ensures.some)
    (refused_below _ _ _ _ (members.points_struct (declarations_of b) (laid_out b c.requires.well_formed) (ty.named i) (fields_at b i) (values_of (values_view c.in-Some.values.now)) c.entry.result.size
    (entries.term_at b c.requires.well_formed i c.requires.content Struct c.requires.of_struct) (entries.size_as b c.requires.well_formed i c.requires.content Struct c.requires.of_struct ∙ sym same))
    c.args.target.depth a c.in_ok-depth.depth c.in_ok-depth.ensures.ok (written c.reserve.new.self) c.in_ok-at.ensures.room c.in_ok-at.ensures.handles f
    (subst (λ l. IsRefused (struct_part b i (values_of l)) c.in_ok-depth.depth (written c.reserve.new.self) f) c.as_slice.ensures c.in_err-write_members.ensures.fault_is_true)))

pub structs::write_box-put-requires : goal.structs::write_box-put-requires
structs::write_box-put-requires t c =
    let room = length_room (written c.args.out.now) (written c.reserve.new.self) c.entry.result.size c.in_ok-at.ensures.room in
    let more = c.in_ok-write_members.ensures.ok.adds.longer in
    let own = c.requires.room in
    omega (arith, room, more, own)

pub structs::write_box-returns-clause-ok : goal.structs::write_box-returns-clause-ok
structs::write_box-returns-clause-ok t c =
    let b = c.args.table.now in
    let i = c.args.content in
    let T = ty.box (ty.named i) in
    let a = written c.args.out.now in
    let w = c.requires.well_formed in
    let same : c.entry.result.size ≡ (entry_at b i).size = ap (λ (e : Entry). e.size) c.entry.ensures.value in
    let ws = values_of (values_view c.in-Some.values.now) in
    let is = entries.term_at b w i c.requires.content Struct c.requires.of_struct in
    subst (λ (v : Value). IsWritten (value_part (declarations_of b) T v) c.args.target.depth c.args.target.at a (written c.put.new.self)) (sym c.in-Some.ensures.some)
    (written_below _ _ _ _ (members.points_struct (declarations_of b) (laid_out b w) (ty.named i) (fields_at b i) ws c.entry.result.size is (entries.size_as b w i c.requires.content Struct c.requires.of_struct ∙ sym same))
    c.args.target.depth a c.in_ok-depth.depth c.in_ok-depth.ensures.ok (written c.reserve.new.self) c.in_ok-at.ensures.room c.in_ok-at.ensures.handles
    (written c.write_members.new.out) (written c.put.new.self) c.args.target.at
    (λ h. members.boxed_typed (declarations_of b) (ty.named i) (fields_at b i) ws is h)
    (subst (λ n. IsWritten (struct_part b i ws) c.in_ok-depth.depth n (written c.reserve.new.self) (written c.write_members.new.out)) c.in_ok-at.ensures.place
    (subst (λ l. IsWritten (struct_part b i (values_of l)) c.in_ok-depth.depth c.in_ok-at.at (written c.reserve.new.self) (written c.write_members.new.out)) c.as_slice.ensures c.in_ok-write_members.ensures.ok))
    c.put.ensures.over c.put.ensures.same c.put.ensures.handles)

-- ---- what is absent

pub list::write_vector-returns-in_default-clause-ok : goal.list::write_vector-returns-in_default-clause-ok
list::write_vector-returns-in_default-clause-ok t c =
    let e = c.args.entry.now in
    absent_ok (declarations_of c.args.table.now) (ty.vector (is_optional e) e.bound (ty.named e.first)) (value_view c.args.value.now) c.is_optional.result c.check_absent.result c.args.target.depth c.args.target.at (written c.args.out.now)
    c.check_absent.ensures.absence c.check_absent.ensures.optional (λ h. subst IsTrue c.is_optional.ensures h) c.requires.within

pub list::write_vector-returns-in_default-clause-fault_is_true : goal.list::write_vector-returns-in_default-clause-fault_is_true
list::write_vector-returns-in_default-clause-fault_is_true t c =
    let e = c.args.entry.now in
    let ds = declarations_of c.args.table.now in
    let v = value_view c.args.value.now in
    absent_refused (value_part ds (ty.vector (is_optional e) e.bound (ty.named e.first)) v) c.args.target.depth (written c.args.out.now) v c.is_optional.result c.check_absent.result
    c.check_absent.ensures.present c.check_absent.ensures.fault
    (λ there. elements.no_vector ds (is_optional e) e.bound (ty.named e.first) v c.in_default.ensures.none (λ h. there (subst IsTrue (sym c.is_optional.ensures) h)))

pub structs::write_box-returns-in_default-clause-ok : goal.structs::write_box-returns-in_default-clause-ok
structs::write_box-returns-in_default-clause-ok t c =
    absent_ok (declarations_of c.args.table.now) (ty.box (ty.named c.args.content)) (value_view c.args.value.now) true c.check_absent.result c.args.target.depth c.args.target.at (written c.args.out.now)
    c.check_absent.ensures.absence c.check_absent.ensures.optional (λ h. tt) c.requires.within

pub structs::write_box-returns-in_default-clause-fault_is_true : goal.structs::write_box-returns-in_default-clause-fault_is_true
structs::write_box-returns-in_default-clause-fault_is_true t c =
    let ds = declarations_of c.args.table.now in
    let v = value_view c.args.value.now in
    absent_refused (value_part ds (ty.box (ty.named c.args.content)) v) c.args.target.depth (written c.args.out.now) v true c.check_absent.result
    c.check_absent.ensures.present c.check_absent.ensures.fault (λ there. members.no_box ds (ty.named c.args.content) v c.in_default.ensures.none (there refl))

pub structs::write_struct-returns-in_default-clause-fault_is_true : goal.structs::write_struct-returns-in_default-clause-fault_is_true
structs::write_struct-returns-in_default-clause-fault_is_true t c = members.no_struct (declarations_of c.args.table.now) (fields_at c.args.table.now c.args.index) (value_view c.args.value.now) c.in_default.ensures.none

pub list::write_array-returns-in_default-clause-fault_is_true : goal.list::write_array-returns-in_default-clause-fault_is_true
list::write_array-returns-in_default-clause-fault_is_true t c =
    elements.no_array (declarations_of c.args.table.now) (ty.named c.args.entry.now.first) c.args.entry.now.count (value_view c.args.value.now) c.in_default.ensures.none

-- ---- members in their envelopes

pub envelope::write_inline-write_value-requires : goal.envelope::write_inline-write_value-requires
envelope::write_inline-write_value-requires t c =
    let nest = entries.nest_few c.args.table.now c.requires.well_formed c.args.entry c.requires.entry in
    let room = c.requires.room in
    let small = c.requires.small in
    (omega (arith, c.decreases, nest, small), (c.requires.entry, (c.requires.within, omega (arith, room, small))))

pub envelope::write_inline-returns-in_err-write_value-clause-fault_is_true : goal.envelope::write_inline-returns-in_err-write_value-clause-fault_is_true
envelope::write_inline-returns-in_err-write_value-clause-fault_is_true t c =
    let b = c.args.table.now in
    let w = c.requires.well_formed in
    let f = c.in_err-write_value.field-0.0 in
    let a = written c.args.out.now in
    let v = value_view c.args.value.now in
    handed_on c.from_residual.result f (IsRefused (member_part (declarations_of b) false (Some (ty.named c.args.entry)) (known v)) c.args.target.depth a) c.from_residual.ensures.1
    (enveloped.refused_in (declarations_of b) (laid_out b w) (ty.named c.args.entry) v c.args.target.depth c.args.target.at (subst (λ n. n ≤ 4) (sym (entries.named_size b w c.args.entry c.requires.entry)) c.requires.small) a f c.in_err-write_value.ensures.fault_is_true)

pub envelope::write_inline-overflow_sub-handle_count : goal.envelope::write_inline-overflow_sub-handle_count
envelope::write_inline-overflow_sub-handle_count t c =
    let more = handles_more (written c.args.out.now) (written c.write_value.new.out) c.args.target.at _ c.in_ok-write_value.ensures.ok.adds in
    let before = c.handle_count-before.ensures in
    let after = c.handle_count.ensures in
    omega (arith, more, before, after)

pub envelope::write_inline-overflow_cast-handle_count : goal.envelope::write_inline-overflow_cast-handle_count
envelope::write_inline-overflow_cast-handle_count t c =
    let few = c.in_ok-write_value.ensures.ok.within.few in
    let after = c.handle_count.ensures in
    record { fits = omega (arith, few, after) }

pub envelope::write_inline-put_envelope_end-requires : goal.envelope::write_inline-put_envelope_end-requires
envelope::write_inline-put_envelope_end-requires t c =
    let more = c.in_ok-write_value.ensures.ok.adds.longer in
    let room = c.requires.room in
    omega (arith, more, room)

pub envelope::write_inline-returns-clause-ok : goal.envelope::write_inline-returns-clause-ok
envelope::write_inline-returns-clause-ok t c =
    let b = c.args.table.now in
    let w = c.requires.well_formed in
    let v = value_view c.args.value.now in
    let a = written c.args.out.now in
    let z = written c.write_value.new.out in
    let x = written c.put_envelope_end.new.self in
    let own : Part = entry_part b c.args.entry v in
    let more = handles_more a z c.args.target.at own.encoding c.in_ok-write_value.ensures.ok.adds in
    let before = c.handle_count-before.ensures in
    let after = c.handle_count.ensures in
    let n : c.handle_count.result - c.handle_count-before.result ≡ length own.encoding.handles = omega (arith, more, before, after) in
    enveloped.written_in (declarations_of b) (laid_out b w) (ty.named c.args.entry) v c.args.target.depth c.args.target.at (subst (λ n. n ≤ 4) (sym (entries.named_size b w c.args.entry c.requires.entry)) c.requires.small)
    a z x c.in_ok-write_value.ensures.ok
    (subst (λ n. IsOver z.bytes x.bytes (c.args.target.at + 4) (to_le_bytes w16 n ++ to_le_bytes w16 1)) n c.put_envelope_end.ensures.over)
    c.put_envelope_end.ensures.same c.put_envelope_end.ensures.handles

-- ---- members out of line

pub envelope::write_outside-returns-in_err-depth-clause-fault_is_true : goal.envelope::write_outside-returns-in_err-depth-clause-fault_is_true
envelope::write_outside-returns-in_err-depth-clause-fault_is_true t c =
    let b = c.args.table.now in
    let w = c.requires.well_formed in
    let f = c.in_err-depth.field-0.0 in
    let a = written c.args.out.now in
    let v = value_view c.args.value.now in
    let i = c.args.entry in
    handed_on c.from_residual.result f (IsRefused (member_part (declarations_of b) false (Some (ty.named i)) (known v)) c.args.target.depth a) c.from_residual.ensures.1
    (refused_deep _ _ _ _ (enveloped.points_out (declarations_of b) (laid_out b w) (ty.named i) v c.args.target.depth c.args.target.at (subst (λ n. 4 < n) (sym (entries.named_size b w i c.requires.entry)) c.requires.large))
    c.args.target.depth a f c.in_err-depth.ensures.fault c.in_err-depth.ensures.none)

pub envelope::write_outside-returns-in_err-at-clause-fault_is_true : goal.envelope::write_outside-returns-in_err-at-clause-fault_is_true
envelope::write_outside-returns-in_err-at-clause-fault_is_true t c =
    let b = c.args.table.now in
    let w = c.requires.well_formed in
    let f = c.in_err-at.field-0.0 in
    let a = written c.args.out.now in
    let v = value_view c.args.value.now in
    let i = c.args.entry in
    let same : c.entry.result.size ≡ size_of (declarations_of b) (ty.named i) = ap (λ (e : Entry). e.size) c.entry.ensures.value ∙ sym (entries.named_size b w i c.requires.entry) in
    handed_on c.from_residual-in_err-at.result f (IsRefused (member_part (declarations_of b) false (Some (ty.named i)) (known v)) c.args.target.depth a) c.from_residual-in_err-at.ensures.1
    (refused_room _ _ _ _ (enveloped.points_out (declarations_of b) (laid_out b w) (ty.named i) v c.args.target.depth c.args.target.at (subst (λ n. 4 < n) (sym (entries.named_size b w i c.requires.entry)) c.requires.large))
    c.args.target.depth a f (subst (λ n. HasNoRoom a n f) same c.in_err-at.ensures.fault_is_true))

pub envelope::write_outside-write_value-requires : goal.envelope::write_outside-write_value-requires
envelope::write_outside-write_value-requires t c =
    let b = c.args.table.now in
    let w = c.requires.well_formed in
    let i = c.args.entry in
    let same : c.entry.result.size ≡ (entry_at b i).size = ap (λ (e : Entry). e.size) c.entry.ensures.value in
    let few = entries.size_few b w i c.requires.entry in
    let nest = entries.nest_few b w i c.requires.entry in
    let room = length_room (written c.args.out.now) (written c.reserve.new.self) c.entry.result.size c.in_ok-at.ensures.room in
    let at = c.in_ok-at.ensures.place in
    let deep = c.in_ok-depth.ensures.ok in
    (omega (arith, c.decreases, few, nest, deep), (c.requires.entry, (c.in_ok-at.ensures.within, omega (arith, room, at, same))))

pub envelope::write_outside-returns-in_err-write_value-clause-fault_is_true : goal.envelope::write_outside-returns-in_err-write_value-clause-fault_is_true
envelope::write_outside-returns-in_err-write_value-clause-fault_is_true t c =
    let b = c.args.table.now in
    let w = c.requires.well_formed in
    let f = c.in_err-write_value.field-0.0 in
    let a = written c.args.out.now in
    let v = value_view c.args.value.now in
    let i = c.args.entry in
    let same : c.entry.result.size ≡ size_of (declarations_of b) (ty.named i) = ap (λ (e : Entry). e.size) c.entry.ensures.value ∙ sym (entries.named_size b w i c.requires.entry) in
    handed_on c.from_residual-in_err-write_value.result f (IsRefused (member_part (declarations_of b) false (Some (ty.named i)) (known v)) c.args.target.depth a) c.from_residual-in_err-write_value.ensures.1
    (refused_below _ _ _ _ (enveloped.points_out (declarations_of b) (laid_out b w) (ty.named i) v c.args.target.depth c.args.target.at (subst (λ n. 4 < n) (sym (entries.named_size b w i c.requires.entry)) c.requires.large))
    c.args.target.depth a c.in_ok-depth.depth c.in_ok-depth.ensures.ok (written c.reserve.new.self) (c.in_ok-at.ensures.room ∙ ap (λ n. a.bytes ++ zeros (next_multiple_of n 8)) same) c.in_ok-at.ensures.handles f c.in_err-write_value.ensures.fault_is_true)

pub envelope::write_outside-overflow_sub-len : goal.envelope::write_outside-overflow_sub-len
envelope::write_outside-overflow_sub-len t c =
    let room = length_room (written c.args.out.now) (written c.reserve.new.self) c.entry.result.size c.in_ok-at.ensures.room in
    let more = c.in_ok-write_value.ensures.ok.adds.longer in
    let at = c.in_ok-at.ensures.place in
    let len = c.len.ensures in
    omega (arith, room, more, at, len)

pub envelope::write_outside-overflow_cast-len : goal.envelope::write_outside-overflow_cast-len
envelope::write_outside-overflow_cast-len t c =
    let short = c.in_ok-write_value.ensures.ok.within.short in
    let len = c.len.ensures in
    record { fits = omega (arith, short, len) }

pub envelope::write_outside-overflow_sub-handle_count : goal.envelope::write_outside-overflow_sub-handle_count
envelope::write_outside-overflow_sub-handle_count t c =
    let more = handles_more (written c.reserve.new.self) (written c.write_value.new.out) c.in_ok-at.at _ c.in_ok-write_value.ensures.ok.adds in
    let kept : length c.reserve.new.self.handles.items ≡ length c.args.out.now.handles.items = ap length c.in_ok-at.ensures.handles in
    let before = c.handle_count-before.ensures in
    let after = c.handle_count.ensures in
    omega (arith, more, before, after, kept)

pub envelope::write_outside-overflow_cast-handle_count : goal.envelope::write_outside-overflow_cast-handle_count
envelope::write_outside-overflow_cast-handle_count t c =
    let few = c.in_ok-write_value.ensures.ok.within.few in
    let after = c.handle_count.ensures in
    record { fits = omega (arith, few, after) }

pub envelope::write_outside-put_envelope-requires : goal.envelope::write_outside-put_envelope-requires
envelope::write_outside-put_envelope-requires t c =
    let room = length_room (written c.args.out.now) (written c.reserve.new.self) c.entry.result.size c.in_ok-at.ensures.room in
    let more = c.in_ok-write_value.ensures.ok.adds.longer in
    let own = c.requires.room in
    omega (arith, room, more, own)

pub envelope::write_outside-returns-clause-ok : goal.envelope::write_outside-returns-clause-ok
envelope::write_outside-returns-clause-ok t c =
    let b = c.args.table.now in
    let w = c.requires.well_formed in
    let a = written c.args.out.now in
    let r = written c.reserve.new.self in
    let z = written c.write_value.new.out in
    let x = written c.put_envelope.new.self in
    let v = value_view c.args.value.now in
    let i = c.args.entry in
    let own : Part = entry_part b i v in
    let named = entries.named_size b w i c.requires.entry in
    let same : c.entry.result.size ≡ size_of (declarations_of b) (ty.named i) = ap (λ (e : Entry). e.size) c.entry.ensures.value ∙ sym named in
    let room = length_room a r c.entry.result.size c.in_ok-at.ensures.room in
    let kept : length r.handles ≡ length a.handles = ap length c.in_ok-at.ensures.handles in
    let more = handles_more r z c.in_ok-at.at own.encoding c.in_ok-write_value.ensures.ok.adds in
    let before = c.handle_count-before.ensures in
    let after = c.handle_count.ensures in
    let at = c.in_ok-at.ensures.place in
    let len = c.len.ensures in
    let longer = c.in_ok-write_value.ensures.ok.adds.longer in
    let own_size = length-inline (declarations_of b) (laid_out b w) (type_at b i) v c.in_ok-write_value.ensures.ok.typed ∙ size_of-resolve (declarations_of b) (laid_out b w) (ty.named i) ∙ sym same in
    let whole : length (object own.encoding) ≡ next_multiple_of c.entry.result.size 8 + length own.encoding.out = length_object own.encoding ∙ ap (λ n. next_multiple_of n 8 + length own.encoding.out) own_size in
    let n : c.handle_count.result - c.handle_count-before.result ≡ length own.encoding.handles = omega (arith, more, before, after, kept) in
    let k : c.len.result - c.in_ok-at.at ≡ length (object own.encoding) = omega (arith, room, at, len, longer, whole) in
    written_below _ _ _ _ (enveloped.points_out (declarations_of b) (laid_out b w) (ty.named i) v c.args.target.depth c.args.target.at (subst (λ n. 4 < n) (sym named) c.requires.large))
    c.args.target.depth a c.in_ok-depth.depth c.in_ok-depth.ensures.ok r (c.in_ok-at.ensures.room ∙ ap (λ n. a.bytes ++ zeros (next_multiple_of n 8)) same) c.in_ok-at.ensures.handles
    z x c.args.target.at (λ h. h) (subst (λ n. IsWritten own c.in_ok-depth.depth n r z) at c.in_ok-write_value.ensures.ok)
    (subst (λ k. IsOver z.bytes x.bytes c.args.target.at (to_le_bytes w32 k ++ (to_le_bytes w16 (length own.encoding.handles) ++ to_le_bytes w16 0))) k
    (subst (λ n. IsOver z.bytes x.bytes c.args.target.at (to_le_bytes w32 (c.len.result - c.in_ok-at.at) ++ (to_le_bytes w16 n ++ to_le_bytes w16 0))) n c.put_envelope.ensures.over))
    c.put_envelope.ensures.same c.put_envelope.ensures.handles

-- ---- members

pub envelope::write_member-write_inline-requires : goal.envelope::write_member-write_inline-requires
envelope::write_member-write_inline-requires t c =
    let at : c.in-Some.row.entry < (header_of c.args.table.now).entries = subst (λ (o : Option Row). IfSome o (λ row. row.entry < (header_of c.args.table.now).entries)) c.in-Some.is c.requires.entry in
    let same : c.entry.result.size ≡ (entry_at c.args.table.now c.in-Some.row.entry).size = ap (λ (e : Entry). e.size) c.entry.ensures.value in
    (omega (arith, c.decreases), (c.requires.well_formed, (at, (omega (arith, same, c.if-entry-le4.true), (c.requires.within, c.requires.room)))))

pub envelope::write_member-write_outside-requires : goal.envelope::write_member-write_outside-requires
envelope::write_member-write_outside-requires t c =
    let at : c.in-Some.row.entry < (header_of c.args.table.now).entries = subst (λ (o : Option Row). IfSome o (λ row. row.entry < (header_of c.args.table.now).entries)) c.in-Some.is c.requires.entry in
    let same : c.entry.result.size ≡ (entry_at c.args.table.now c.in-Some.row.entry).size = ap (λ (e : Entry). e.size) c.entry.ensures.value in
    (omega (arith, c.decreases), (c.requires.well_formed, (at, (omega (arith, same, c.if-entry-le4.false), (c.requires.within, c.requires.room)))))

pub envelope::write_member-returns-then-entry-le4-clause-ok : goal.envelope::write_member-returns-then-entry-le4-clause-ok
envelope::write_member-returns-then-entry-le4-clause-ok t c =
    let b = c.args.table.now in
    let P : Option Row → Member → Type 0 = λ o m. OnOk c.write_inline.result (IsWritten (member_part (declarations_of b) false (row_type o) m) c.args.target.depth c.args.target.at (written c.args.out.now) (written c.write_inline.new.out)) in
    subst (λ o. P o (member_view c.args.member.now)) (sym c.in-Some.is) (subst (λ m. P (Some c.in-Some.row) m) (sym (ap member_view c.in-Known.is ∙ known_is c.in-Known.value)) c.write_inline.ensures.ok)

pub envelope::write_member-returns-then-entry-le4-clause-fault_is_true : goal.envelope::write_member-returns-then-entry-le4-clause-fault_is_true
envelope::write_member-returns-then-entry-le4-clause-fault_is_true t c =
    let b = c.args.table.now in
    let P : Option Row → Member → Type 0 = λ o m. IfErr c.write_inline.result (IsRefused (member_part (declarations_of b) false (row_type o) m) c.args.target.depth (written c.args.out.now)) in
    subst (λ o. P o (member_view c.args.member.now)) (sym c.in-Some.is) (subst (λ m. P (Some c.in-Some.row) m) (sym (ap member_view c.in-Known.is ∙ known_is c.in-Known.value)) c.write_inline.ensures.fault_is_true)

pub envelope::write_member-returns-else-entry-le4-clause-ok : goal.envelope::write_member-returns-else-entry-le4-clause-ok
envelope::write_member-returns-else-entry-le4-clause-ok t c =
    let b = c.args.table.now in
    let P : Option Row → Member → Type 0 = λ o m. OnOk c.write_outside.result (IsWritten (member_part (declarations_of b) false (row_type o) m) c.args.target.depth c.args.target.at (written c.args.out.now) (written c.write_outside.new.out)) in
    subst (λ o. P o (member_view c.args.member.now)) (sym c.in-Some.is) (subst (λ m. P (Some c.in-Some.row) m) (sym (ap member_view c.in-Known.is ∙ known_is c.in-Known.value)) c.write_outside.ensures.ok)

pub envelope::write_member-returns-else-entry-le4-clause-fault_is_true : goal.envelope::write_member-returns-else-entry-le4-clause-fault_is_true
envelope::write_member-returns-else-entry-le4-clause-fault_is_true t c =
    let b = c.args.table.now in
    let P : Option Row → Member → Type 0 = λ o m. IfErr c.write_outside.result (IsRefused (member_part (declarations_of b) false (row_type o) m) c.args.target.depth (written c.args.out.now)) in
    subst (λ o. P o (member_view c.args.member.now)) (sym c.in-Some.is) (subst (λ m. P (Some c.in-Some.row) m) (sym (ap member_view c.in-Known.is ∙ known_is c.in-Known.value)) c.write_outside.ensures.fault_is_true)

-- ---- the envelopes of a table

pub envelope::write_envelopes-loop-k-init : goal.envelope::write_envelopes-loop-k-init
envelope::write_envelopes-loop-k-init t c =
    let b = c.args.table.now in
    envelopes.left_all (declarations_of b) (members_of b c.args.envelopes.index) c.args.envelopes.count c.args.members.now c.args.target.depth c.args.target.at (written c.args.out.now) c.requires.within

pub envelope::write_envelopes-returns-then-ordinal-last-clause-fault_is_true : goal.envelope::write_envelopes-returns-then-ordinal-last-clause-fault_is_true
envelope::write_envelopes-returns-then-ordinal-last-clause-fault_is_true t c =
    let b = c.args.table.now in
    envelopes.left_wrong (declarations_of b) (members_of b c.args.envelopes.index) c.args.envelopes.count c.args.members.now c.args.target.depth c.args.target.at (written c.args.out.now) (laid_out b c.requires.well_formed)
    c.loop-k.k c.loop-k.last c.index-members-k.result (written c.loop-k.out) c.loop-k-test.true (sym c.index-members-k.is) c.loop-k.invariant fault.WrongShape refl
    (λ rises le. elim c.then-ordinal-last.branch [
      | envelope::write_envelopes-then-ordinal-last-via-then-ordinal-last w ↦ omega (arith, rises, w.if-ordinal-last.true)
      | envelope::write_envelopes-then-ordinal-last-via-else-ordinal-last+then-ordinal-envelopes w ↦ omega (arith, le, w.if-ordinal-envelopes.true)
    ])

pub envelope::write_envelopes-row_of-row-requires-clause-kind : goal.envelope::write_envelopes-row_of-row-requires-clause-kind
envelope::write_envelopes-row_of-row-requires-clause-kind t c = test_of uses_ordinals Table (entry_at c.args.table.now c.args.envelopes.index) c.requires.of_table

pub envelope::write_envelopes-write_member-requires : goal.envelope::write_envelopes-write_member-requires
envelope::write_envelopes-write_member-requires t c =
    let room = c.requires.room in
    let longer = c.loop-k.invariant.longer in
    let rises = c.if-ordinal-last.false in
    let le = c.if-ordinal-envelopes.false in
    (omega (arith, c.decreases), (c.requires.well_formed, (c.row_of-row.ensures.entry_below, (c.loop-k.invariant.within, omega (arith, room, longer, rises, le)))))

pub envelope::write_envelopes-returns-in_err-write_member-clause-fault_is_true : goal.envelope::write_envelopes-returns-in_err-write_member-clause-fault_is_true
envelope::write_envelopes-returns-in_err-write_member-clause-fault_is_true t c =
    let b = c.args.table.now in
    let rows = members_of b c.args.envelopes.index in
    let m = c.index-members-k.result in
    let f = c.in_err-write_member.field-0.0 in
    let a = written c.args.out.now in
    handed_on c.from_residual.result f (IsRefused (envelopes_part (declarations_of b) rows 0 c.args.envelopes.count (envelopes.entry_views c.args.members.now)) c.args.target.depth a) c.from_residual.ensures.1
    (envelopes.left_refused (declarations_of b) rows c.args.envelopes.count c.args.members.now c.args.target.depth c.args.target.at a (laid_out b c.requires.well_formed)
    c.loop-k.k c.loop-k.last m (written c.loop-k.out) c.loop-k-test.true (sym c.index-members-k.is) c.loop-k.invariant (omega (arith, c.if-ordinal-last.false)) (omega (arith, c.if-ordinal-envelopes.false)) f
    (subst (λ o. IsRefused (member_part (declarations_of b) false o (member_view m.1)) c.args.target.depth (written c.loop-k.out) f) (envelopes.row_found rows m.0 c.row_of-row.result c.row_of-row.ensures.none c.row_of-row.ensures.some) c.in_err-write_member.ensures.fault_is_true))

pub envelope::write_envelopes-loop-k-preserved : goal.envelope::write_envelopes-loop-k-preserved
envelope::write_envelopes-loop-k-preserved t c =
    let b = c.args.table.now in
    let rows = members_of b c.args.envelopes.index in
    let m = c.index-members-k.result in
    envelopes.left_next (declarations_of b) rows c.args.envelopes.count c.args.members.now c.args.target.depth c.args.target.at (written c.args.out.now) (laid_out b c.requires.well_formed)
    c.loop-k.k c.loop-k.last m (written c.loop-k.out) c.loop-k-test.true (sym c.index-members-k.is) c.loop-k.invariant (omega (arith, c.if-ordinal-last.false)) (omega (arith, c.if-ordinal-envelopes.false)) (written c.write_member.new.out)
    (subst (λ o. IsWritten (member_part (declarations_of b) false o (member_view m.1)) c.args.target.depth (c.args.target.at + 8 * (m.0 - 1)) (written c.loop-k.out) (written c.write_member.new.out)) (envelopes.row_found rows m.0 c.row_of-row.result c.row_of-row.ensures.none c.row_of-row.ensures.some)
    c.in_ok-write_member.ensures.ok)

pub envelope::write_envelopes-returns-clause-ok : goal.envelope::write_envelopes-returns-clause-ok
envelope::write_envelopes-returns-clause-ok t c =
    let b = c.args.table.now in
    envelopes.left_none (declarations_of b) (members_of b c.args.envelopes.index) c.args.envelopes.count c.args.members.now c.args.target.depth c.args.target.at (written c.args.out.now) c.loop-k.k c.loop-k.last (written c.loop-k.out)
    (omega (arith, c.loop-k-test.false)) c.loop-k.invariant

-- ---- tables

pub envelope::write_table-returns-in_default-clause-fault_is_true : goal.envelope::write_table-returns-in_default-clause-fault_is_true
envelope::write_table-returns-in_default-clause-fault_is_true t c = envelopes.no_table (declarations_of c.args.table.now) (members_of c.args.table.now c.args.index) (value_view c.args.value.now) c.in_default.ensures.none

pub envelope::write_table-returns-in_err-depth-clause-fault_is_true : goal.envelope::write_table-returns-in_err-depth-clause-fault_is_true
envelope::write_table-returns-in_err-depth-clause-fault_is_true t c =
    let b = c.args.table.now in
    let rows = members_of b c.args.index in
    let f = c.in_err-depth.field-0.0 in
    let a = written c.args.out.now in
    handed_on c.from_residual.result f (IsRefused (value_part (declarations_of b) (ty.table rows) (value_view c.args.value.now)) c.args.target.depth a) c.from_residual.ensures.1
    (subst (λ (v : Value). IsRefused (value_part (declarations_of b) (ty.table rows) v) c.args.target.depth a f) (sym c.in-Some.ensures.some)
    (refused_deep _ _ _ _ (envelopes.points_envelopes (declarations_of b) (laid_out b c.requires.well_formed) rows c.in-Some.count (data_of.members_of (members_view c.in-Some.members.now))) c.args.target.depth a f c.in_err-depth.ensures.fault c.in_err-depth.ensures.none))

pub envelope::write_table-returns-then-count-clause-fault_is_true : goal.envelope::write_table-returns-then-count-clause-fault_is_true
envelope::write_table-returns-then-count-clause-fault_is_true t c =
    let b = c.args.table.now in
    let rows = members_of b c.args.index in
    let a = written c.args.out.now in
    subst (λ (v : Value). IsRefused (value_part (declarations_of b) (ty.table rows) v) c.args.target.depth a fault.TooLong) (sym c.in-Some.ensures.some)
    (refused_room _ _ _ _ (envelopes.points_envelopes (declarations_of b) (laid_out b c.requires.well_formed) rows c.in-Some.count (data_of.members_of (members_view c.in-Some.members.now))) c.args.target.depth a fault.TooLong
    (too_long (length a.bytes) c.in-Some.count c.if-count.true))

pub envelope::write_table-returns-in_err-at-clause-fault_is_true : goal.envelope::write_table-returns-in_err-at-clause-fault_is_true
envelope::write_table-returns-in_err-at-clause-fault_is_true t c =
    let b = c.args.table.now in
    let rows = members_of b c.args.index in
    let f = c.in_err-at.field-0.0 in
    let a = written c.args.out.now in
    handed_on c.from_residual-in_err-at.result f (IsRefused (value_part (declarations_of b) (ty.table rows) (value_view c.args.value.now)) c.args.target.depth a) c.from_residual-in_err-at.ensures.1
    (subst (λ (v : Value). IsRefused (value_part (declarations_of b) (ty.table rows) v) c.args.target.depth a f) (sym c.in-Some.ensures.some)
    (refused_room _ _ _ _ (envelopes.points_envelopes (declarations_of b) (laid_out b c.requires.well_formed) rows c.in-Some.count (data_of.members_of (members_view c.in-Some.members.now))) c.args.target.depth a f c.in_err-at.ensures.fault_is_true))

pub envelope::write_table-write_envelopes-requires : goal.envelope::write_table-write_envelopes-requires
envelope::write_table-write_envelopes-requires t c =
    let room = length_room (written c.args.out.now) (written c.reserve.new.self) (8 * c.in-Some.count) c.in_ok-at.ensures.room in
    let at = c.in_ok-at.ensures.place in
    let deep = c.in_ok-depth.ensures.ok in
    (omega (arith, c.decreases, deep), (c.requires.well_formed, (c.requires.entry, (c.requires.of_table, (c.in_ok-at.ensures.within, omega (arith, room, at))))))

pub envelope::write_table-returns-in_err-write_envelopes-clause-fault_is_true : goal.envelope::write_table-returns-in_err-write_envelopes-clause-fault_is_true
envelope::write_table-returns-in_err-write_envelopes-clause-fault_is_true t c =
    let b = c.args.table.now in
    let rows = members_of b c.args.index in
    let f = c.in_err-write_envelopes.field-0.0 in
    let a = written c.args.out.now in
    let r = written c.reserve.new.self in
    handed_on c.from_residual-in_err-write_envelopes.result f (IsRefused (value_part (declarations_of b) (ty.table rows) (value_view c.args.value.now)) c.args.target.depth a) c.from_residual-in_err-write_envelopes.ensures.1
    (subst (λ (v : Value). IsRefused (value_part (declarations_of b) (ty.table rows) v) c.args.target.depth a f) (sym c.in-Some.ensures.some)
    (refused_below _ _ _ _ (envelopes.points_envelopes (declarations_of b) (laid_out b c.requires.well_formed) rows c.in-Some.count (data_of.members_of (members_view c.in-Some.members.now))) c.args.target.depth a
    c.in_ok-depth.depth c.in_ok-depth.ensures.ok r c.in_ok-at.ensures.room c.in_ok-at.ensures.handles f
    (subst (λ l. IsRefused (envelopes_part (declarations_of b) rows 0 c.in-Some.count (data_of.members_of l)) c.in_ok-depth.depth r f) c.as_slice.ensures c.in_err-write_envelopes.ensures.fault_is_true)))

pub envelope::write_table-put_count-requires : goal.envelope::write_table-put_count-requires
envelope::write_table-put_count-requires t c =
    let room = length_room (written c.args.out.now) (written c.reserve.new.self) (8 * c.in-Some.count) c.in_ok-at.ensures.room in
    let more = c.in_ok-write_envelopes.ensures.ok.adds.longer in
    let own = c.requires.room in
    omega (arith, room, more, own)

pub envelope::write_table-returns-clause-ok : goal.envelope::write_table-returns-clause-ok
envelope::write_table-returns-clause-ok t c =
    let b = c.args.table.now in
    let rows = members_of b c.args.index in
    let a = written c.args.out.now in
    let r = written c.reserve.new.self in
    let z = written c.write_envelopes.new.out in
    let ms = data_of.members_of (members_view c.in-Some.members.now) in
    subst (λ (v : Value). IsWritten (value_part (declarations_of b) (ty.table rows) v) c.args.target.depth c.args.target.at a (written c.put_count.new.self)) (sym c.in-Some.ensures.some)
    (written_below _ _ _ _ (envelopes.points_envelopes (declarations_of b) (laid_out b c.requires.well_formed) rows c.in-Some.count ms) c.args.target.depth a c.in_ok-depth.depth c.in_ok-depth.ensures.ok r c.in_ok-at.ensures.room c.in_ok-at.ensures.handles
    z (written c.put_count.new.self) c.args.target.at (λ h. (omega (arith, c.if-count.false), h))
    (subst (λ n. IsWritten (envelopes_part (declarations_of b) rows 0 c.in-Some.count ms) c.in_ok-depth.depth n r z) c.in_ok-at.ensures.place
    (subst (λ l. IsWritten (envelopes_part (declarations_of b) rows 0 c.in-Some.count (data_of.members_of l)) c.in_ok-depth.depth c.in_ok-at.at r z) c.as_slice.ensures c.in_ok-write_envelopes.ensures.ok))
    c.put_count.ensures.over c.put_count.ensures.same c.put_count.ensures.handles)

pub envelope::write_member-returns-then-is_some-clause-fault_is_true : goal.envelope::write_member-returns-then-is_some-clause-fault_is_true
envelope::write_member-returns-then-is_some-clause-fault_is_true t c =
    envelopes.unknown_clash (declarations_of c.args.table.now) c.args.row (member_view c.args.member.now) c.in-Unknown.inline c.in-Unknown.bytes c.in-Unknown.handles (sym c.is_some.ensures ∙ c.if-is_some.true)
    (ap member_view c.in-Unknown.is ∙ unknown_is c.in-Unknown.inline c.in-Unknown.bytes c.in-Unknown.handles)

pub envelope::write_member-returns-else-is_some-clause-ok : goal.envelope::write_member-returns-else-is_some-clause-ok
envelope::write_member-returns-else-is_some-clause-ok t c =
    let ds = declarations_of c.args.table.now in
    let a = written c.args.out.now in
    let z = written c.write_unknown.new.out in
    let row : c.args.row ≡ None = envelopes.not_some c.args.row (sym c.is_some.ensures ∙ c.if-is_some.false) in
    let is : member_view c.args.member.now ≡ unknown c.in-Unknown.inline c.as_slice.result.now c.as_slice-in-Unknown.result.now
    = ap member_view c.in-Unknown.is ∙ unknown_is c.in-Unknown.inline c.in-Unknown.bytes c.in-Unknown.handles ∙ ap (λ l. unknown c.in-Unknown.inline l c.in-Unknown.handles) (sym c.as_slice.ensures)
    ∙ ap (λ l. unknown c.in-Unknown.inline c.as_slice.result.now l) (sym c.as_slice-in-Unknown.ensures) in
    on_ok c.write_unknown.result
    (λ h. subst (λ o. IsWritten (member_part ds false (row_type o) (member_view c.args.member.now)) c.args.target.depth c.args.target.at a z) (sym row)
    (subst (λ m. IsWritten (member_part ds false None m) c.args.target.depth c.args.target.at a z) (sym is) (h ds)))
    c.write_unknown.ensures.ok

pub envelope::write_member-returns-else-is_some-clause-fault_is_true : goal.envelope::write_member-returns-else-is_some-clause-fault_is_true
envelope::write_member-returns-else-is_some-clause-fault_is_true t c =
    let ds = declarations_of c.args.table.now in
    let a = written c.args.out.now in
    let row : c.args.row ≡ None = envelopes.not_some c.args.row (sym c.is_some.ensures ∙ c.if-is_some.false) in
    let is : member_view c.args.member.now ≡ unknown c.in-Unknown.inline c.as_slice.result.now c.as_slice-in-Unknown.result.now
    = ap member_view c.in-Unknown.is ∙ unknown_is c.in-Unknown.inline c.in-Unknown.bytes c.in-Unknown.handles ∙ ap (λ l. unknown c.in-Unknown.inline l c.in-Unknown.handles) (sym c.as_slice.ensures)
    ∙ ap (λ l. unknown c.in-Unknown.inline c.as_slice.result.now l) (sym c.as_slice-in-Unknown.ensures) in
    if_err (λ f. (ds : Declarations) → IsRefused (member_part ds false None (unknown c.in-Unknown.inline c.as_slice.result.now c.as_slice-in-Unknown.result.now)) c.args.target.depth a f)
    (IsRefused (member_part ds false (row_type c.args.row) (member_view c.args.member.now)) c.args.target.depth a) c.write_unknown.result
    (λ f h. subst (λ o. IsRefused (member_part ds false (row_type o) (member_view c.args.member.now)) c.args.target.depth a f) (sym row) (subst (λ m. IsRefused (member_part ds false None m) c.args.target.depth a f) (sym is) (h ds)))
    c.write_unknown.ensures.fault_is_true

-- ---- unions

pub envelope::write_union-returns-in_default-clause-ok : goal.envelope::write_union-returns-in_default-clause-ok
envelope::write_union-returns-in_default-clause-ok t c =
    let b = c.args.table.now in
    let e = entry_at b c.args.index in
    let may : c.is_optional.result ≡ is_optional e = c.is_optional.ensures ∙ ap is_optional c.entry-entry.ensures.value in
    absent_ok (declarations_of b) (ty.union (is_optional e) (is_strict e) (members_of b c.args.index)) (value_view c.args.value.now) c.is_optional.result c.check_absent.result c.args.target.depth c.args.target.at (written c.args.out.now)
    c.check_absent.ensures.absence c.check_absent.ensures.optional (λ h. subst IsTrue may h) c.requires.within

pub envelope::write_union-returns-in_default-clause-fault_is_true : goal.envelope::write_union-returns-in_default-clause-fault_is_true
envelope::write_union-returns-in_default-clause-fault_is_true t c =
    let b = c.args.table.now in
    let e = entry_at b c.args.index in
    let v = value_view c.args.value.now in
    let may : c.is_optional.result ≡ is_optional e = c.is_optional.ensures ∙ ap is_optional c.entry-entry.ensures.value in
    absent_refused (value_part (declarations_of b) (ty.union (is_optional e) (is_strict e) (members_of b c.args.index)) v) c.args.target.depth (written c.args.out.now) v c.is_optional.result c.check_absent.result
    c.check_absent.ensures.present c.check_absent.ensures.fault
    (λ there. envelopes.no_union (declarations_of b) (is_optional e) (is_strict e) (members_of b c.args.index) v c.in_default.ensures.none (λ h. there (subst IsTrue (sym may) h)))

pub envelope::write_union-returns-then-ordinal-eq0-clause-fault_is_true : goal.envelope::write_union-returns-then-ordinal-eq0-clause-fault_is_true
envelope::write_union-returns-then-ordinal-eq0-clause-fault_is_true t c =
    let b = c.args.table.now in
    let e = entry_at b c.args.index in
    let rows = members_of b c.args.index in
    let T = ty.union (is_optional e) (is_strict e) rows in
    let no = envelopes.no_member (declarations_of b) (is_optional e) (is_strict e) rows c.in-Some.ordinal (content_view c.in-Some.content.now) in
    subst (λ (v : Value). IsTyped (declarations_of b) T v → ⊥) (sym c.in-Some.ensures.some)
    (elim c.then-ordinal-eq0.branch [
      | envelope::write_union-then-ordinal-eq0-via-then-ordinal-eq0 w ↦ no (inl (omega (arith, w.if-ordinal-eq0.true)))
      | envelope::write_union-then-ordinal-eq0-via-else-ordinal-eq0+then-is_missing w ↦
          let m = w.is_missing.ensures.0 w.if-is_missing.true in
          no (inr (subst IsTrue (w.is_strict.ensures ∙ ap is_strict c.entry-entry.ensures.value) m.0, envelopes.none_found rows c.in-Some.ordinal c.member-row.result c.member-row.ensures.none m.1))
    ])

pub envelope::write_union-member-row-requires-clause-kind : goal.envelope::write_union-member-row-requires-clause-kind
envelope::write_union-member-row-requires-clause-kind t c = test_of uses_ordinals Union (entry_at c.args.table.now c.args.index) c.requires.of_union

pub envelope::write_union-write_member-requires : goal.envelope::write_union-write_member-requires
envelope::write_union-write_member-requires t c =
    let room = c.requires.room in
    let same = c.put.ensures.same in (
      omega (arith, c.decreases),
      (c.entry-entry.ensures.well_formed, (c.member-row.ensures.entry_below, (within_same (written c.args.out.now) (written c.put.new.self) c.put.ensures.same c.put.ensures.handles c.requires.within, omega (arith, room, same)))),
    )

pub envelope::write_union-returns-clause-ok : goal.envelope::write_union-returns-clause-ok
envelope::write_union-returns-clause-ok t c =
    let b = c.args.table.now in
    let e = entry_at b c.args.index in
    let ds = declarations_of b in
    let rows = members_of b c.args.index in
    let T = ty.union (is_optional e) (is_strict e) rows in
    let n = c.in-Some.ordinal in
    let m = content_view c.in-Some.content.now in
    let a = written c.args.out.now in
    let r = written c.put.new.self in
    let z = written c.write_member.new.out in
    let found = envelopes.row_found rows n c.member-row.result c.member-row.ensures.none c.member-row.ensures.some in
    let has : IsTrue (is_strict e) → find rows n ≡ None → ⊥ = λ s none. let miss = c.is_missing.ensures.1 (subst IsTrue (sym (c.is_strict.ensures ∙ ap is_strict c.entry-entry.ensures.value)) s, envelopes.not_found rows n c.member-row.result c.member-row.ensures.some none) in
    clash c.is_missing.result miss c.if-is_missing.false in
    let alike = envelopes.union_alike ds (is_optional e) (is_strict e) rows n m (omega (arith, c.if-ordinal-eq0.false)) c.in-Some.ensures.range has in
    let put = written_inline (plain (to_le_bytes w64 n)) c.args.target.depth c.args.target.at a r (to_le_bytes w64 n) [] tt refl refl (subst (λ x. IsOver a.bytes r.bytes c.args.target.at x) c.to_le_bytes.ensures c.put.ensures.over) c.put.ensures.same
    (c.put.ensures.handles ∙ sym (append-nil a.handles)) (within_same a r c.put.ensures.same c.put.ensures.handles c.requires.within) in
    subst (λ (v : Value). OnOk c.write_member.result (IsWritten (value_part ds T v) c.args.target.depth c.args.target.at a z)) (sym c.in-Some.ensures.some)
    (on_ok c.write_member.result
    (λ h. written_alike (both (plain (to_le_bytes w64 n)) (member_part ds false (find rows n) m)) (value_part ds T (data_of.union n m)) c.args.target.depth c.args.target.at a z alike
    (written_both (plain (to_le_bytes w64 n)) (member_part ds false (find rows n) m) c.args.target.depth a c.args.target.at r z put
    (subst (λ o. IsWritten (member_part ds false o m) c.args.target.depth (c.args.target.at + 8) r z) found (subst (λ m. IsWritten (member_part ds false (row_type c.member-row.result) m) c.args.target.depth (c.args.target.at + 8) r z) c.member.ensures h))))
    c.write_member.ensures.ok)

pub envelope::write_union-returns-clause-fault_is_true : goal.envelope::write_union-returns-clause-fault_is_true
envelope::write_union-returns-clause-fault_is_true t c =
    let b = c.args.table.now in
    let e = entry_at b c.args.index in
    let ds = declarations_of b in
    let rows = members_of b c.args.index in
    let T = ty.union (is_optional e) (is_strict e) rows in
    let n = c.in-Some.ordinal in
    let m = content_view c.in-Some.content.now in
    let a = written c.args.out.now in
    let r = written c.put.new.self in
    let found = envelopes.row_found rows n c.member-row.result c.member-row.ensures.none c.member-row.ensures.some in
    let has : IsTrue (is_strict e) → find rows n ≡ None → ⊥ = λ s none. let miss = c.is_missing.ensures.1 (subst IsTrue (sym (c.is_strict.ensures ∙ ap is_strict c.entry-entry.ensures.value)) s, envelopes.not_found rows n c.member-row.result c.member-row.ensures.some none) in
    clash c.is_missing.result miss c.if-is_missing.false in
    let alike = envelopes.union_alike ds (is_optional e) (is_strict e) rows n m (omega (arith, c.if-ordinal-eq0.false)) c.in-Some.ensures.range has in
    let put = written_inline (plain (to_le_bytes w64 n)) c.args.target.depth c.args.target.at a r (to_le_bytes w64 n) [] tt refl refl (subst (λ x. IsOver a.bytes r.bytes c.args.target.at x) c.to_le_bytes.ensures c.put.ensures.over) c.put.ensures.same
    (c.put.ensures.handles ∙ sym (append-nil a.handles)) (within_same a r c.put.ensures.same c.put.ensures.handles c.requires.within) in
    subst (λ (v : Value). IfErr c.write_member.result (IsRefused (value_part ds T v) c.args.target.depth a)) (sym c.in-Some.ensures.some)
    (if_err (IsRefused (member_part ds false (row_type c.member-row.result) (member_view c.member.result.now)) c.args.target.depth r) (IsRefused (value_part ds T (data_of.union n m)) c.args.target.depth a) c.write_member.result
    (λ f h. refused_alike (both (plain (to_le_bytes w64 n)) (member_part ds false (find rows n) m)) (value_part ds T (data_of.union n m)) c.args.target.depth a alike f
    (refused_rest (plain (to_le_bytes w64 n)) (member_part ds false (find rows n) m) c.args.target.depth a c.args.target.at r put f
    (subst (λ o. IsRefused (member_part ds false o m) c.args.target.depth r f) found (subst (λ m. IsRefused (member_part ds false (row_type c.member-row.result) m) c.args.target.depth r f) c.member.ensures h))))
    c.write_member.ensures.fault_is_true)

-- ---- values

pub value::write_any-unwrap-kind-requires : goal.value::write_any-unwrap-kind-requires
value::write_any-unwrap-kind-requires t c =
    let b = c.args.table.now in
    let e = c.entry-entry.result in
    let w = c.entry-entry.ensures.well_formed in
    let same = c.entry-entry.ensures.value in
    let i = c.args.index in
    let lt = c.requires.entry in
    entries.kind_there b w i lt e same c.from_number.result c.from_number.ensures

pub value::write_any-write_bool-requires-clause-room : goal.value::write_any-write_bool-requires-clause-room
value::write_any-write_bool-requires-clause-room t c =
    let b = c.args.table.now in
    let e = c.entry-entry.result in
    let w = c.entry-entry.ensures.well_formed in
    let same = c.entry-entry.ensures.value in
    let i = c.args.index in
    let lt = c.requires.entry in
    let is : IsOf Boolean e = sym c.from_number.ensures ∙ c.unwrap-kind.ensures ∙ ap Some c.in-Bool.is in
    let size = entries.size_from b w i lt e same Boolean is in
    let room = c.requires.room in
    omega (arith, size, room)

pub value::write_any-write_bits-requires-clause-room : goal.value::write_any-write_bits-requires-clause-room
value::write_any-write_bits-requires-clause-room t c =
    let b = c.args.table.now in
    let e = c.entry-entry.result in
    let w = c.entry-entry.ensures.well_formed in
    let same = c.entry-entry.ensures.value in
    let i = c.args.index in
    let lt = c.requires.entry in
    let is : IsOf Bits e = sym c.from_number.ensures ∙ c.unwrap-kind.ensures ∙ ap Some c.in-Bits.is in
    let size = entries.size_from b w i lt e same Bits is in
    let room = c.requires.room in
    omega (arith, size, room)

pub value::write_any-write_string-requires-clause-room : goal.value::write_any-write_string-requires-clause-room
value::write_any-write_string-requires-clause-room t c =
    let b = c.args.table.now in
    let e = c.entry-entry.result in
    let w = c.entry-entry.ensures.well_formed in
    let same = c.entry-entry.ensures.value in
    let i = c.args.index in
    let lt = c.requires.entry in
    let is : IsOf String e = sym c.from_number.ensures ∙ c.unwrap-kind.ensures ∙ ap Some c.in-String.is in
    let size = entries.size_from b w i lt e same String is in
    let room = c.requires.room in
    omega (arith, size, room)

pub value::write_any-write_handle-requires-clause-room : goal.value::write_any-write_handle-requires-clause-room
value::write_any-write_handle-requires-clause-room t c =
    let b = c.args.table.now in
    let e = c.entry-entry.result in
    let w = c.entry-entry.ensures.well_formed in
    let same = c.entry-entry.ensures.value in
    let i = c.args.index in
    let lt = c.requires.entry in
    let is : IsOf Handle e = sym c.from_number.ensures ∙ c.unwrap-kind.ensures ∙ ap Some c.in-Handle.is in
    let size = entries.size_from b w i lt e same Handle is in
    let room = c.requires.room in
    omega (arith, size, room)

pub value::write_any-write_bits-requires-clause-unsigned : goal.value::write_any-write_bits-requires-clause-unsigned
value::write_any-write_bits-requires-clause-unsigned t c =
    let b = c.args.table.now in
    let e = c.entry-entry.result in
    let w = c.entry-entry.ensures.well_formed in
    let same = c.entry-entry.ensures.value in
    let i = c.args.index in
    let lt = c.requires.entry in
    let is : IsOf Bits e = sym c.from_number.ensures ∙ c.unwrap-kind.ensures ∙ ap Some c.in-Bits.is in
    entries.unsigned_from b w i lt e same is

pub value::write_any-write_enum-requires-clause-kind : goal.value::write_any-write_enum-requires-clause-kind
value::write_any-write_enum-requires-clause-kind t c =
    let b = c.args.table.now in
    let e = c.entry-entry.result in
    let w = c.entry-entry.ensures.well_formed in
    let same = c.entry-entry.ensures.value in
    let i = c.args.index in
    let lt = c.requires.entry in
    let is : IsOf Enum e = sym c.from_number.ensures ∙ c.unwrap-kind.ensures ∙ ap Some c.in-Enum.is in
    entries.is_there b w i lt e same Enum is

pub value::write_any-write_enum-requires-clause-room : goal.value::write_any-write_enum-requires-clause-room
value::write_any-write_enum-requires-clause-room t c =
    let b = c.args.table.now in
    let e = c.entry-entry.result in
    let w = c.entry-entry.ensures.well_formed in
    let same = c.entry-entry.ensures.value in
    let i = c.args.index in
    let lt = c.requires.entry in
    let is : IsOf Enum e = sym c.from_number.ensures ∙ c.unwrap-kind.ensures ∙ ap Some c.in-Enum.is in
    let size = entries.size_as b w i lt Enum (entries.is_there b w i lt e same Enum is) in
    let room = c.requires.room in
    omega (arith, size, room)

pub value::write_any-write_vector-requires : goal.value::write_any-write_vector-requires
value::write_any-write_vector-requires t c =
    let b = c.args.table.now in
    let e = c.entry-entry.result in
    let w = c.entry-entry.ensures.well_formed in
    let same = c.entry-entry.ensures.value in
    let i = c.args.index in
    let lt = c.requires.entry in
    let is : IsOf Vector e = sym c.from_number.ensures ∙ c.unwrap-kind.ensures ∙ ap Some c.in-Vector.is in
    let size = entries.size_from b w i lt e same Vector is in
    let room = c.requires.room in
    (omega (arith, c.decreases), (w, (entries.first_from b w i lt e same Vector is refl, (entries.bound_from b w i lt e same is, (c.requires.within, omega (arith, size, room))))))

pub value::write_any-write_array-requires : goal.value::write_any-write_array-requires
value::write_any-write_array-requires t c =
    let b = c.args.table.now in
    let e = c.entry-entry.result in
    let w = c.entry-entry.ensures.well_formed in
    let same = c.entry-entry.ensures.value in
    let i = c.args.index in
    let lt = c.requires.entry in
    let is : IsOf Array e = sym c.from_number.ensures ∙ c.unwrap-kind.ensures ∙ ap Some c.in-Array.is in
    let room = c.requires.room in
    let fits = entries.fits_from b w i lt e same is in
    let less = entries.less_from b w i lt e same is in (
      omega (arith, c.decreases, fits, less),
      (entries.first_from b w i lt e same Array is refl, (c.requires.within, subst (λ n. c.args.target.at + n ≤ length c.args.out.now.bytes.items) (sym (entries.array_from b w i lt e same is)) room)),
    )

pub value::write_any-write_box-requires : goal.value::write_any-write_box-requires
value::write_any-write_box-requires t c =
    let b = c.args.table.now in
    let e = c.entry-entry.result in
    let w = c.entry-entry.ensures.well_formed in
    let same = c.entry-entry.ensures.value in
    let i = c.args.index in
    let lt = c.requires.entry in
    let is : IsOf Box e = sym c.from_number.ensures ∙ c.unwrap-kind.ensures ∙ ap Some c.in-Box.is in
    let size = entries.size_from b w i lt e same Box is in
    let room = c.requires.room in
    (omega (arith, c.decreases), (w, (entries.first_from b w i lt e same Box is refl, (entries.struct_from b w i lt e same is, (c.requires.within, omega (arith, size, room))))))

pub value::write_any-write_struct-requires : goal.value::write_any-write_struct-requires
value::write_any-write_struct-requires t c =
    let b = c.args.table.now in
    let e = c.entry-entry.result in
    let w = c.entry-entry.ensures.well_formed in
    let same = c.entry-entry.ensures.value in
    let i = c.args.index in
    let lt = c.requires.entry in
    let is : IsOf Struct e = sym c.from_number.ensures ∙ c.unwrap-kind.ensures ∙ ap Some c.in-Struct.is in
    (omega (arith, c.decreases), (lt, (entries.is_there b w i lt e same Struct is, (c.requires.within, c.requires.room))))

pub value::write_any-write_table-requires : goal.value::write_any-write_table-requires
value::write_any-write_table-requires t c =
    let b = c.args.table.now in
    let e = c.entry-entry.result in
    let w = c.entry-entry.ensures.well_formed in
    let same = c.entry-entry.ensures.value in
    let i = c.args.index in
    let lt = c.requires.entry in
    let is : IsOf Table e = sym c.from_number.ensures ∙ c.unwrap-kind.ensures ∙ ap Some c.in-Table.is in
    let size = entries.size_from b w i lt e same Table is in
    let room = c.requires.room in
    (omega (arith, c.decreases), (w, (lt, (entries.is_there b w i lt e same Table is, (c.requires.within, omega (arith, size, room))))))

pub value::write_any-write_union-requires : goal.value::write_any-write_union-requires
value::write_any-write_union-requires t c =
    let b = c.args.table.now in
    let e = c.entry-entry.result in
    let w = c.entry-entry.ensures.well_formed in
    let same = c.entry-entry.ensures.value in
    let i = c.args.index in
    let lt = c.requires.entry in
    let is : IsOf Union e = sym c.from_number.ensures ∙ c.unwrap-kind.ensures ∙ ap Some c.in-Union.is in
    let size = entries.size_from b w i lt e same Union is in
    let room = c.requires.room in
    (omega (arith, c.decreases, size), (lt, (entries.is_there b w i lt e same Union is, (c.requires.within, omega (arith, size, room)))))

pub value::write_any-returns-in-Bool-clause-ok : goal.value::write_any-returns-in-Bool-clause-ok
value::write_any-returns-in-Bool-clause-ok t c =
    let b = c.args.table.now in
    let e = c.entry-entry.result in
    let w = c.entry-entry.ensures.well_formed in
    let same = c.entry-entry.ensures.value in
    let i = c.args.index in
    let lt = c.requires.entry in
    let is : IsOf Boolean e = sym c.from_number.ensures ∙ c.unwrap-kind.ensures ∙ ap Some c.in-Bool.is in
    on_ok c.write_bool.result (λ h. subst (λ t. IsWritten (value_part (declarations_of b) t (value_view c.args.value.now)) c.args.target.depth c.args.target.at (written c.args.out.now) (written c.write_bool.new.out)) (sym (entries.term_from b w i lt e same Boolean is)) (h (declarations_of b))) c.write_bool.ensures.ok

pub value::write_any-returns-in-Bool-clause-fault_is_true : goal.value::write_any-returns-in-Bool-clause-fault_is_true
value::write_any-returns-in-Bool-clause-fault_is_true t c =
    let b = c.args.table.now in
    let e = c.entry-entry.result in
    let w = c.entry-entry.ensures.well_formed in
    let same = c.entry-entry.ensures.value in
    let i = c.args.index in
    let lt = c.requires.entry in
    let is : IsOf Boolean e = sym c.from_number.ensures ∙ c.unwrap-kind.ensures ∙ ap Some c.in-Bool.is in
    if_err (λ f. (ds : Declarations) → IsRefused (value_part ds (ty.bool) (value_view c.args.value.now)) c.args.target.depth (written c.args.out.now) f) (IsRefused (entry_part b i (value_view c.args.value.now)) c.args.target.depth (written c.args.out.now)) c.write_bool.result
    (λ f h. subst (λ t. IsRefused (value_part (declarations_of b) t (value_view c.args.value.now)) c.args.target.depth (written c.args.out.now) f) (sym (entries.term_from b w i lt e same Boolean is)) (h (declarations_of b))) c.write_bool.ensures.fault_is_true

pub value::write_any-returns-in-Bits-clause-ok : goal.value::write_any-returns-in-Bits-clause-ok
value::write_any-returns-in-Bits-clause-ok t c =
    let b = c.args.table.now in
    let e = c.entry-entry.result in
    let w = c.entry-entry.ensures.well_formed in
    let same = c.entry-entry.ensures.value in
    let i = c.args.index in
    let lt = c.requires.entry in
    let is : IsOf Bits e = sym c.from_number.ensures ∙ c.unwrap-kind.ensures ∙ ap Some c.in-Bits.is in
    on_ok c.write_bits.result (λ h. subst (λ t. IsWritten (value_part (declarations_of b) t (value_view c.args.value.now)) c.args.target.depth c.args.target.at (written c.args.out.now) (written c.write_bits.new.out)) (sym (entries.term_from b w i lt e same Bits is)) (h (declarations_of b))) c.write_bits.ensures.ok

pub value::write_any-returns-in-Bits-clause-fault_is_true : goal.value::write_any-returns-in-Bits-clause-fault_is_true
value::write_any-returns-in-Bits-clause-fault_is_true t c =
    let b = c.args.table.now in
    let e = c.entry-entry.result in
    let w = c.entry-entry.ensures.well_formed in
    let same = c.entry-entry.ensures.value in
    let i = c.args.index in
    let lt = c.requires.entry in
    let is : IsOf Bits e = sym c.from_number.ensures ∙ c.unwrap-kind.ensures ∙ ap Some c.in-Bits.is in
    if_err (λ f. (ds : Declarations) → IsRefused (value_part ds (ty.bits (underlying e) (mask_of e)) (value_view c.args.value.now)) c.args.target.depth (written c.args.out.now) f) (IsRefused (entry_part b i (value_view c.args.value.now)) c.args.target.depth (written c.args.out.now)) c.write_bits.result
    (λ f h. subst (λ t. IsRefused (value_part (declarations_of b) t (value_view c.args.value.now)) c.args.target.depth (written c.args.out.now) f) (sym (entries.term_from b w i lt e same Bits is)) (h (declarations_of b))) c.write_bits.ensures.fault_is_true

pub value::write_any-returns-in-String-clause-ok : goal.value::write_any-returns-in-String-clause-ok
value::write_any-returns-in-String-clause-ok t c =
    let b = c.args.table.now in
    let e = c.entry-entry.result in
    let w = c.entry-entry.ensures.well_formed in
    let same = c.entry-entry.ensures.value in
    let i = c.args.index in
    let lt = c.requires.entry in
    let is : IsOf String e = sym c.from_number.ensures ∙ c.unwrap-kind.ensures ∙ ap Some c.in-String.is in
    on_ok c.write_string.result (λ h. subst (λ t. IsWritten (value_part (declarations_of b) t (value_view c.args.value.now)) c.args.target.depth c.args.target.at (written c.args.out.now) (written c.write_string.new.out)) (sym (entries.term_from b w i lt e same String is)) (h (declarations_of b))) c.write_string.ensures.ok

pub value::write_any-returns-in-String-clause-fault_is_true : goal.value::write_any-returns-in-String-clause-fault_is_true
value::write_any-returns-in-String-clause-fault_is_true t c =
    let b = c.args.table.now in
    let e = c.entry-entry.result in
    let w = c.entry-entry.ensures.well_formed in
    let same = c.entry-entry.ensures.value in
    let i = c.args.index in
    let lt = c.requires.entry in
    let is : IsOf String e = sym c.from_number.ensures ∙ c.unwrap-kind.ensures ∙ ap Some c.in-String.is in
    if_err (λ f. (ds : Declarations) → IsRefused (value_part ds (ty.string (is_optional e) e.bound) (value_view c.args.value.now)) c.args.target.depth (written c.args.out.now) f) (IsRefused (entry_part b i (value_view c.args.value.now)) c.args.target.depth (written c.args.out.now)) c.write_string.result
    (λ f h. subst (λ t. IsRefused (value_part (declarations_of b) t (value_view c.args.value.now)) c.args.target.depth (written c.args.out.now) f) (sym (entries.term_from b w i lt e same String is)) (h (declarations_of b))) c.write_string.ensures.fault_is_true

pub value::write_any-returns-in-Handle-clause-ok : goal.value::write_any-returns-in-Handle-clause-ok
value::write_any-returns-in-Handle-clause-ok t c =
    let b = c.args.table.now in
    let e = c.entry-entry.result in
    let w = c.entry-entry.ensures.well_formed in
    let same = c.entry-entry.ensures.value in
    let i = c.args.index in
    let lt = c.requires.entry in
    let is : IsOf Handle e = sym c.from_number.ensures ∙ c.unwrap-kind.ensures ∙ ap Some c.in-Handle.is in
    on_ok c.write_handle.result (λ h. subst (λ t. IsWritten (value_part (declarations_of b) t (value_view c.args.value.now)) c.args.target.depth c.args.target.at (written c.args.out.now) (written c.write_handle.new.out)) (sym (entries.term_from b w i lt e same Handle is)) (h (declarations_of b))) c.write_handle.ensures.ok

pub value::write_any-returns-in-Handle-clause-fault_is_true : goal.value::write_any-returns-in-Handle-clause-fault_is_true
value::write_any-returns-in-Handle-clause-fault_is_true t c =
    let b = c.args.table.now in
    let e = c.entry-entry.result in
    let w = c.entry-entry.ensures.well_formed in
    let same = c.entry-entry.ensures.value in
    let i = c.args.index in
    let lt = c.requires.entry in
    let is : IsOf Handle e = sym c.from_number.ensures ∙ c.unwrap-kind.ensures ∙ ap Some c.in-Handle.is in
    if_err (λ f. (ds : Declarations) → IsRefused (value_part ds (ty.handle (is_optional e) e.subtype e.rights) (value_view c.args.value.now)) c.args.target.depth (written c.args.out.now) f) (IsRefused (entry_part b i (value_view c.args.value.now)) c.args.target.depth (written c.args.out.now)) c.write_handle.result
    (λ f h. subst (λ t. IsRefused (value_part (declarations_of b) t (value_view c.args.value.now)) c.args.target.depth (written c.args.out.now) f) (sym (entries.term_from b w i lt e same Handle is)) (h (declarations_of b))) c.write_handle.ensures.fault_is_true

pub value::write_any-returns-in-Enum-clause-ok : goal.value::write_any-returns-in-Enum-clause-ok
value::write_any-returns-in-Enum-clause-ok t c =
    let b = c.args.table.now in
    let e = c.entry-entry.result in
    let w = c.entry-entry.ensures.well_formed in
    let same = c.entry-entry.ensures.value in
    let i = c.args.index in
    let lt = c.requires.entry in
    let is : IsOf Enum e = sym c.from_number.ensures ∙ c.unwrap-kind.ensures ∙ ap Some c.in-Enum.is in
    on_ok c.write_enum.result (λ h. subst (λ t. IsWritten (value_part (declarations_of b) t (value_view c.args.value.now)) c.args.target.depth c.args.target.at (written c.args.out.now) (written c.write_enum.new.out)) (sym (entries.term_at b w i lt Enum (entries.is_there b w i lt e same Enum is))) (h (declarations_of b))) c.write_enum.ensures.ok

pub value::write_any-returns-in-Enum-clause-fault_is_true : goal.value::write_any-returns-in-Enum-clause-fault_is_true
value::write_any-returns-in-Enum-clause-fault_is_true t c =
    let b = c.args.table.now in
    let e = c.entry-entry.result in
    let w = c.entry-entry.ensures.well_formed in
    let same = c.entry-entry.ensures.value in
    let i = c.args.index in
    let lt = c.requires.entry in
    let is : IsOf Enum e = sym c.from_number.ensures ∙ c.unwrap-kind.ensures ∙ ap Some c.in-Enum.is in
    if_err (λ f. (ds : Declarations) → IsRefused (value_part ds (enum_at b i) (value_view c.args.value.now)) c.args.target.depth (written c.args.out.now) f) (IsRefused (entry_part b i (value_view c.args.value.now)) c.args.target.depth (written c.args.out.now)) c.write_enum.result
    (λ f h. subst (λ t. IsRefused (value_part (declarations_of b) t (value_view c.args.value.now)) c.args.target.depth (written c.args.out.now) f) (sym (entries.term_at b w i lt Enum (entries.is_there b w i lt e same Enum is))) (h (declarations_of b))) c.write_enum.ensures.fault_is_true

pub value::write_any-returns-in-Vector-clause-ok : goal.value::write_any-returns-in-Vector-clause-ok
value::write_any-returns-in-Vector-clause-ok t c =
    let b = c.args.table.now in
    let e = c.entry-entry.result in
    let w = c.entry-entry.ensures.well_formed in
    let same = c.entry-entry.ensures.value in
    let i = c.args.index in
    let lt = c.requires.entry in
    let is : IsOf Vector e = sym c.from_number.ensures ∙ c.unwrap-kind.ensures ∙ ap Some c.in-Vector.is in
    subst (λ t. OnOk c.write_vector.result (IsWritten (value_part (declarations_of b) t (value_view c.args.value.now)) c.args.target.depth c.args.target.at (written c.args.out.now) (written c.write_vector.new.out))) (sym (entries.term_from b w i lt e same Vector is)) c.write_vector.ensures.ok

pub value::write_any-returns-in-Vector-clause-fault_is_true : goal.value::write_any-returns-in-Vector-clause-fault_is_true
value::write_any-returns-in-Vector-clause-fault_is_true t c =
    let b = c.args.table.now in
    let e = c.entry-entry.result in
    let w = c.entry-entry.ensures.well_formed in
    let same = c.entry-entry.ensures.value in
    let i = c.args.index in
    let lt = c.requires.entry in
    let is : IsOf Vector e = sym c.from_number.ensures ∙ c.unwrap-kind.ensures ∙ ap Some c.in-Vector.is in
    subst (λ t. IfErr c.write_vector.result (IsRefused (value_part (declarations_of b) t (value_view c.args.value.now)) c.args.target.depth (written c.args.out.now))) (sym (entries.term_from b w i lt e same Vector is)) c.write_vector.ensures.fault_is_true

pub value::write_any-returns-in-Array-clause-ok : goal.value::write_any-returns-in-Array-clause-ok
value::write_any-returns-in-Array-clause-ok t c =
    let b = c.args.table.now in
    let e = c.entry-entry.result in
    let w = c.entry-entry.ensures.well_formed in
    let same = c.entry-entry.ensures.value in
    let i = c.args.index in
    let lt = c.requires.entry in
    let is : IsOf Array e = sym c.from_number.ensures ∙ c.unwrap-kind.ensures ∙ ap Some c.in-Array.is in
    subst (λ t. OnOk c.write_array.result (IsWritten (value_part (declarations_of b) t (value_view c.args.value.now)) c.args.target.depth c.args.target.at (written c.args.out.now) (written c.write_array.new.out))) (sym (entries.term_from b w i lt e same Array is)) c.write_array.ensures.ok

pub value::write_any-returns-in-Array-clause-fault_is_true : goal.value::write_any-returns-in-Array-clause-fault_is_true
value::write_any-returns-in-Array-clause-fault_is_true t c =
    let b = c.args.table.now in
    let e = c.entry-entry.result in
    let w = c.entry-entry.ensures.well_formed in
    let same = c.entry-entry.ensures.value in
    let i = c.args.index in
    let lt = c.requires.entry in
    let is : IsOf Array e = sym c.from_number.ensures ∙ c.unwrap-kind.ensures ∙ ap Some c.in-Array.is in
    subst (λ t. IfErr c.write_array.result (IsRefused (value_part (declarations_of b) t (value_view c.args.value.now)) c.args.target.depth (written c.args.out.now))) (sym (entries.term_from b w i lt e same Array is)) c.write_array.ensures.fault_is_true

pub value::write_any-returns-in-Box-clause-ok : goal.value::write_any-returns-in-Box-clause-ok
value::write_any-returns-in-Box-clause-ok t c =
    let b = c.args.table.now in
    let e = c.entry-entry.result in
    let w = c.entry-entry.ensures.well_formed in
    let same = c.entry-entry.ensures.value in
    let i = c.args.index in
    let lt = c.requires.entry in
    let is : IsOf Box e = sym c.from_number.ensures ∙ c.unwrap-kind.ensures ∙ ap Some c.in-Box.is in
    subst (λ t. OnOk c.write_box.result (IsWritten (value_part (declarations_of b) t (value_view c.args.value.now)) c.args.target.depth c.args.target.at (written c.args.out.now) (written c.write_box.new.out))) (sym (entries.term_from b w i lt e same Box is)) c.write_box.ensures.ok

pub value::write_any-returns-in-Box-clause-fault_is_true : goal.value::write_any-returns-in-Box-clause-fault_is_true
value::write_any-returns-in-Box-clause-fault_is_true t c =
    let b = c.args.table.now in
    let e = c.entry-entry.result in
    let w = c.entry-entry.ensures.well_formed in
    let same = c.entry-entry.ensures.value in
    let i = c.args.index in
    let lt = c.requires.entry in
    let is : IsOf Box e = sym c.from_number.ensures ∙ c.unwrap-kind.ensures ∙ ap Some c.in-Box.is in
    subst (λ t. IfErr c.write_box.result (IsRefused (value_part (declarations_of b) t (value_view c.args.value.now)) c.args.target.depth (written c.args.out.now))) (sym (entries.term_from b w i lt e same Box is)) c.write_box.ensures.fault_is_true

pub value::write_any-returns-in-Struct-clause-ok : goal.value::write_any-returns-in-Struct-clause-ok
value::write_any-returns-in-Struct-clause-ok t c =
    let b = c.args.table.now in
    let e = c.entry-entry.result in
    let w = c.entry-entry.ensures.well_formed in
    let same = c.entry-entry.ensures.value in
    let i = c.args.index in
    let lt = c.requires.entry in
    let is : IsOf Struct e = sym c.from_number.ensures ∙ c.unwrap-kind.ensures ∙ ap Some c.in-Struct.is in
    subst (λ t. OnOk c.write_struct.result (IsWritten (value_part (declarations_of b) t (value_view c.args.value.now)) c.args.target.depth c.args.target.at (written c.args.out.now) (written c.write_struct.new.out))) (sym (entries.term_at b w i lt Struct (entries.is_there b w i lt e same Struct is))) c.write_struct.ensures.ok

pub value::write_any-returns-in-Struct-clause-fault_is_true : goal.value::write_any-returns-in-Struct-clause-fault_is_true
value::write_any-returns-in-Struct-clause-fault_is_true t c =
    let b = c.args.table.now in
    let e = c.entry-entry.result in
    let w = c.entry-entry.ensures.well_formed in
    let same = c.entry-entry.ensures.value in
    let i = c.args.index in
    let lt = c.requires.entry in
    let is : IsOf Struct e = sym c.from_number.ensures ∙ c.unwrap-kind.ensures ∙ ap Some c.in-Struct.is in
    subst (λ t. IfErr c.write_struct.result (IsRefused (value_part (declarations_of b) t (value_view c.args.value.now)) c.args.target.depth (written c.args.out.now))) (sym (entries.term_at b w i lt Struct (entries.is_there b w i lt e same Struct is))) c.write_struct.ensures.fault_is_true

pub value::write_any-returns-in-Table-clause-ok : goal.value::write_any-returns-in-Table-clause-ok
value::write_any-returns-in-Table-clause-ok t c =
    let b = c.args.table.now in
    let e = c.entry-entry.result in
    let w = c.entry-entry.ensures.well_formed in
    let same = c.entry-entry.ensures.value in
    let i = c.args.index in
    let lt = c.requires.entry in
    let is : IsOf Table e = sym c.from_number.ensures ∙ c.unwrap-kind.ensures ∙ ap Some c.in-Table.is in
    subst (λ t. OnOk c.write_table.result (IsWritten (value_part (declarations_of b) t (value_view c.args.value.now)) c.args.target.depth c.args.target.at (written c.args.out.now) (written c.write_table.new.out))) (sym (entries.table_is b w i lt (entries.is_there b w i lt e same Table is))) c.write_table.ensures.ok

pub value::write_any-returns-in-Table-clause-fault_is_true : goal.value::write_any-returns-in-Table-clause-fault_is_true
value::write_any-returns-in-Table-clause-fault_is_true t c =
    let b = c.args.table.now in
    let e = c.entry-entry.result in
    let w = c.entry-entry.ensures.well_formed in
    let same = c.entry-entry.ensures.value in
    let i = c.args.index in
    let lt = c.requires.entry in
    let is : IsOf Table e = sym c.from_number.ensures ∙ c.unwrap-kind.ensures ∙ ap Some c.in-Table.is in
    subst (λ t. IfErr c.write_table.result (IsRefused (value_part (declarations_of b) t (value_view c.args.value.now)) c.args.target.depth (written c.args.out.now))) (sym (entries.table_is b w i lt (entries.is_there b w i lt e same Table is))) c.write_table.ensures.fault_is_true

pub value::write_any-returns-in-Union-clause-ok : goal.value::write_any-returns-in-Union-clause-ok
value::write_any-returns-in-Union-clause-ok t c =
    let b = c.args.table.now in
    let e = c.entry-entry.result in
    let w = c.entry-entry.ensures.well_formed in
    let same = c.entry-entry.ensures.value in
    let i = c.args.index in
    let lt = c.requires.entry in
    let is : IsOf Union e = sym c.from_number.ensures ∙ c.unwrap-kind.ensures ∙ ap Some c.in-Union.is in
    subst (λ t. OnOk c.write_union.result (IsWritten (value_part (declarations_of b) t (value_view c.args.value.now)) c.args.target.depth c.args.target.at (written c.args.out.now) (written c.write_union.new.out))) (sym (entries.union_is b w i lt (entries.is_there b w i lt e same Union is))) c.write_union.ensures.ok

pub value::write_any-returns-in-Union-clause-fault_is_true : goal.value::write_any-returns-in-Union-clause-fault_is_true
value::write_any-returns-in-Union-clause-fault_is_true t c =
    let b = c.args.table.now in
    let e = c.entry-entry.result in
    let w = c.entry-entry.ensures.well_formed in
    let same = c.entry-entry.ensures.value in
    let i = c.args.index in
    let lt = c.requires.entry in
    let is : IsOf Union e = sym c.from_number.ensures ∙ c.unwrap-kind.ensures ∙ ap Some c.in-Union.is in
    subst (λ t. IfErr c.write_union.result (IsRefused (value_part (declarations_of b) t (value_view c.args.value.now)) c.args.target.depth (written c.args.out.now))) (sym (entries.union_is b w i lt (entries.is_there b w i lt e same Union is))) c.write_union.ensures.fault_is_true

pub value::write_any-write_number-requires-clause-room : goal.value::write_any-write_number-requires-clause-room
value::write_any-write_number-requires-clause-room t c =
    let b = c.args.table.now in
    let e = c.entry-entry.result in
    let w = c.entry-entry.ensures.well_formed in
    let same = c.entry-entry.ensures.value in
    let i = c.args.index in
    let lt = c.requires.entry in
    let k = c.unwrap-kind.result in
    let is : IsOf k e = sym c.from_number.ensures ∙ c.unwrap-kind.ensures in
    let d = c.in_default in
    let n = entries.number_term b (header_of b) e k d.not-Bool d.not-Bits d.not-Enum d.not-String d.not-Vector d.not-Array d.not-Box d.not-Struct d.not-Table d.not-Union d.not-Handle in
    let size : byte_len (width (as_number k)) ≡ (entry_at b i).size = sym (ap (λ t. size_of (declarations_of b) t) n) ∙ entries.size_from b w i lt e same k is in
    let room = c.requires.room in
    omega (arith, size, room)

pub value::write_any-returns-in_default-clause-ok : goal.value::write_any-returns-in_default-clause-ok
value::write_any-returns-in_default-clause-ok t c =
    let b = c.args.table.now in
    let e = c.entry-entry.result in
    let w = c.entry-entry.ensures.well_formed in
    let same = c.entry-entry.ensures.value in
    let i = c.args.index in
    let lt = c.requires.entry in
    let k = c.unwrap-kind.result in
    let is : IsOf k e = sym c.from_number.ensures ∙ c.unwrap-kind.ensures in
    let d = c.in_default in
    let n = entries.number_term b (header_of b) e k d.not-Bool d.not-Bits d.not-Enum d.not-String d.not-Vector d.not-Array d.not-Box d.not-Struct d.not-Table d.not-Union d.not-Handle in
    on_ok c.write_number.result (λ h. subst (λ t. IsWritten (value_part (declarations_of b) t (value_view c.args.value.now)) c.args.target.depth c.args.target.at (written c.args.out.now) (written c.write_number.new.out)) (sym (entries.term_from b w i lt e same k is ∙ n)) (h (declarations_of b))) c.write_number.ensures.ok

pub value::write_any-returns-in_default-clause-fault_is_true : goal.value::write_any-returns-in_default-clause-fault_is_true
value::write_any-returns-in_default-clause-fault_is_true t c =
    let b = c.args.table.now in
    let e = c.entry-entry.result in
    let w = c.entry-entry.ensures.well_formed in
    let same = c.entry-entry.ensures.value in
    let i = c.args.index in
    let lt = c.requires.entry in
    let k = c.unwrap-kind.result in
    let is : IsOf k e = sym c.from_number.ensures ∙ c.unwrap-kind.ensures in
    let d = c.in_default in
    let n = entries.number_term b (header_of b) e k d.not-Bool d.not-Bits d.not-Enum d.not-String d.not-Vector d.not-Array d.not-Box d.not-Struct d.not-Table d.not-Union d.not-Handle in
    if_err (λ f. (ds : Declarations) → IsRefused (value_part ds (ty.number (as_number k)) (value_view c.args.value.now)) c.args.target.depth (written c.args.out.now) f) (IsRefused (entry_part b i (value_view c.args.value.now)) c.args.target.depth (written c.args.out.now)) c.write_number.result
    (λ f h. subst (λ t. IsRefused (value_part (declarations_of b) t (value_view c.args.value.now)) c.args.target.depth (written c.args.out.now) f) (sym (entries.term_from b w i lt e same k is ∙ n)) (h (declarations_of b))) c.write_number.ensures.fault_is_true

-- ---- bools and numbers in place

pub value::write_value-unwrap-kind-requires : goal.value::write_value-unwrap-kind-requires
value::write_value-unwrap-kind-requires t c =
    let b = c.args.table.now in
    let e = c.entry-entry.result in
    let w = c.entry-entry.ensures.well_formed in
    let same = c.entry-entry.ensures.value in
    let i = c.args.index in
    let lt = c.requires.entry in
    entries.kind_there b w i lt e same c.from_number.result c.from_number.ensures

pub value::write_value-write_bool-requires-clause-room : goal.value::write_value-write_bool-requires-clause-room
value::write_value-write_bool-requires-clause-room t c =
    let b = c.args.table.now in
    let e = c.entry-entry.result in
    let w = c.entry-entry.ensures.well_formed in
    let same = c.entry-entry.ensures.value in
    let i = c.args.index in
    let lt = c.requires.entry in
    let is : IsOf Boolean e = sym c.from_number.ensures ∙ c.unwrap-kind.ensures ∙ ap Some c.in-Bool.is in
    let size = entries.size_from b w i lt e same Boolean is in
    let room = c.requires.room in
    omega (arith, size, room)

pub value::write_value-returns-in-Bool-clause-ok : goal.value::write_value-returns-in-Bool-clause-ok
value::write_value-returns-in-Bool-clause-ok t c =
    let b = c.args.table.now in
    let e = c.entry-entry.result in
    let w = c.entry-entry.ensures.well_formed in
    let same = c.entry-entry.ensures.value in
    let i = c.args.index in
    let lt = c.requires.entry in
    let is : IsOf Boolean e = sym c.from_number.ensures ∙ c.unwrap-kind.ensures ∙ ap Some c.in-Bool.is in
    on_ok c.write_bool.result (λ h. subst (λ t. IsWritten (value_part (declarations_of b) t (value_view c.args.value.now)) c.args.target.depth c.args.target.at (written c.args.out.now) (written c.write_bool.new.out)) (sym (entries.term_from b w i lt e same Boolean is)) (h (declarations_of b))) c.write_bool.ensures.ok

pub value::write_value-returns-in-Bool-clause-fault_is_true : goal.value::write_value-returns-in-Bool-clause-fault_is_true
value::write_value-returns-in-Bool-clause-fault_is_true t c =
    let b = c.args.table.now in
    let e = c.entry-entry.result in
    let w = c.entry-entry.ensures.well_formed in
    let same = c.entry-entry.ensures.value in
    let i = c.args.index in
    let lt = c.requires.entry in
    let is : IsOf Boolean e = sym c.from_number.ensures ∙ c.unwrap-kind.ensures ∙ ap Some c.in-Bool.is in
    if_err (λ f. (ds : Declarations) → IsRefused (value_part ds (ty.bool) (value_view c.args.value.now)) c.args.target.depth (written c.args.out.now) f) (IsRefused (entry_part b i (value_view c.args.value.now)) c.args.target.depth (written c.args.out.now)) c.write_bool.result
    (λ f h. subst (λ t. IsRefused (value_part (declarations_of b) t (value_view c.args.value.now)) c.args.target.depth (written c.args.out.now) f) (sym (entries.term_from b w i lt e same Boolean is)) (h (declarations_of b))) c.write_bool.ensures.fault_is_true

pub value::write_value-write_number-requires-clause-room : goal.value::write_value-write_number-requires-clause-room
value::write_value-write_number-requires-clause-room t c =
    let b = c.args.table.now in
    let e = c.entry-entry.result in
    let w = c.entry-entry.ensures.well_formed in
    let same = c.entry-entry.ensures.value in
    let i = c.args.index in
    let lt = c.requires.entry in
    let k = c.unwrap-kind.result in
    let is : IsOf k e = sym c.from_number.ensures ∙ c.unwrap-kind.ensures in
    let d = c.in_default in
    let n = entries.number_term b (header_of b) e k d.not-Bool d.not-Bits d.not-Enum d.not-String d.not-Vector d.not-Array d.not-Box d.not-Struct d.not-Table d.not-Union d.not-Handle in
    let size : byte_len (width (as_number k)) ≡ (entry_at b i).size = sym (ap (λ t. size_of (declarations_of b) t) n) ∙ entries.size_from b w i lt e same k is in
    let room = c.requires.room in
    omega (arith, size, room)

pub value::write_value-returns-in_default-clause-ok : goal.value::write_value-returns-in_default-clause-ok
value::write_value-returns-in_default-clause-ok t c =
    let b = c.args.table.now in
    let e = c.entry-entry.result in
    let w = c.entry-entry.ensures.well_formed in
    let same = c.entry-entry.ensures.value in
    let i = c.args.index in
    let lt = c.requires.entry in
    let k = c.unwrap-kind.result in
    let is : IsOf k e = sym c.from_number.ensures ∙ c.unwrap-kind.ensures in
    let d = c.in_default in
    let n = entries.number_term b (header_of b) e k d.not-Bool d.not-Bits d.not-Enum d.not-String d.not-Vector d.not-Array d.not-Box d.not-Struct d.not-Table d.not-Union d.not-Handle in
    on_ok c.write_number.result (λ h. subst (λ t. IsWritten (value_part (declarations_of b) t (value_view c.args.value.now)) c.args.target.depth c.args.target.at (written c.args.out.now) (written c.write_number.new.out)) (sym (entries.term_from b w i lt e same k is ∙ n)) (h (declarations_of b))) c.write_number.ensures.ok

pub value::write_value-returns-in_default-clause-fault_is_true : goal.value::write_value-returns-in_default-clause-fault_is_true
value::write_value-returns-in_default-clause-fault_is_true t c =
    let b = c.args.table.now in
    let e = c.entry-entry.result in
    let w = c.entry-entry.ensures.well_formed in
    let same = c.entry-entry.ensures.value in
    let i = c.args.index in
    let lt = c.requires.entry in
    let k = c.unwrap-kind.result in
    let is : IsOf k e = sym c.from_number.ensures ∙ c.unwrap-kind.ensures in
    let d = c.in_default in
    let n = entries.number_term b (header_of b) e k d.not-Bool d.not-Bits d.not-Enum d.not-String d.not-Vector d.not-Array d.not-Box d.not-Struct d.not-Table d.not-Union d.not-Handle in
    if_err (λ f. (ds : Declarations) → IsRefused (value_part ds (ty.number (as_number k)) (value_view c.args.value.now)) c.args.target.depth (written c.args.out.now) f) (IsRefused (entry_part b i (value_view c.args.value.now)) c.args.target.depth (written c.args.out.now)) c.write_number.result
    (λ f h. subst (λ t. IsRefused (value_part (declarations_of b) t (value_view c.args.value.now)) c.args.target.depth (written c.args.out.now) f) (sym (entries.term_from b w i lt e same k is ∙ n)) (h (declarations_of b))) c.write_number.ensures.fault_is_true
