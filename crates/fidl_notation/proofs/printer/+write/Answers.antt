use Rattle.std.proofs.Common.{◌≡◌, ℕ, ◌+◌, ◌<◌, ◌≤◌, List, refl, sym, ap, subst, ◌∙◌, arith}
use Rattle.std.specs.Prelude.{Option, Some, IsSome, IfSome, codes, decimal}
use Rattle.fidl_wire.specs.Term.{Term, resolve, find}
use Rattle.fidl_wire.specs.Term as ty
use Rattle.fidl_wire.specs.Value.{Value, list, fields, Member, known, unknown}
use Rattle.fidl_wire.specs.Typed.{IsTyped}
use Rattle.fidl_wire.specs.Depth.{depth_of, fields_depth, member_depth}
use Rattle.fidl_wire.specs.Text.{text_of, member_text}
use Rattle.fidl_table_format.specs.declared.record.Entry.{Entry}
use Rattle.fidl_table_format.specs.declared.record.Row.{Row}
use Rattle.fidl_table_format.specs.declared.kind.EntryKind.{EntryKind}
use Rattle.fidl_table_format.specs.declared.kind.EntryKind.TheVariants.{Bool as Boolean, String, Vector, Array, Box, Struct, Table, Union, Handle}
use Rattle.fidl_table_format.specs.Kind.{kind_of}
use Rattle.fidl_table_format.specs.Section.{header_of, entry_at, row_at}
use Rattle.fidl_table_format.specs.Terms.{declarations_of, members_of, term_as, is_optional}
use Rattle.fidl_table_format.specs.Entry.{IsOf}
use Rattle.fidl_table_format.specs.WellFormed.{WellFormed}
use Rattle.fidl_decode_model.specs.Model.{Shown}
use Rattle.fidl_view.specs.declared.view.View.{View}
use Rattle.fidl_view.specs.Parts.{element_of, field_of, held_of, length_of}
use Rattle.fidl_view.specs.Views.{ShowsKnown}
use Rattle.fidl_streams.proofs.Taking.{takes_none, writes_as, takes_as, takes_then, front_as, failed_as, so_far_first, so_far_second, so_far_begin, so_far_more, so_far_written, begin_failed, so_far_as, more_left, failed_then, writes_then}
use Rattle.fidl_streams.specs.Written.{Writes}
use Rattle.std.proofs.Math.Logic.{∥∥₁_map, ∥∥₁_elim}
use Rattle.fidl_view.proofs.Truncated.{is_some_prop}
use Rattle.std.proofs.Math.Bridge.{le_prop}
use Rattle.fidl_notation.proofs.Printing as printing
use Rattle.fidl_notation.proofs.EntryTexts as entries
use Rattle.fidl_view.proofs.Listed as listed
use Rattle.fidl_view.proofs.Entered as facts
use Rattle.fidl_view.proofs.Tabled as tabled
use Rattle.fidl_view.proofs.Held as held
use Rattle.fidl_notation.proofs.Tables as tables
use Rattle.fidl_notation.specs.Slots.{named_text, slot_text, later_behind}
use Rattle.fidl_view.proofs.Listed.{part_as}
use Rattle.fidl_notation.proofs.printer.+write.Goals as goal

pub write_elements-unwrap-count-requires : goal.write_elements-unwrap-count-requires
write_elements-unwrap-count-requires g t c = ∥∥₁_elim c.requires.part (is_some_prop _) (λ q. subst (λ (o : Option ℕ). IsSome o) (sym (c.len.ensures (list q.1) q.2.part.shown)) refl)

pub write_elements-unwrap-part-requires : goal.write_elements-unwrap-part-requires
write_elements-unwrap-part-requires g t c = ∥∥₁_elim c.requires.part (is_some_prop _) (λ q.
    let b = c.args.table.now in
    let vs = q.1 in
    let p = q.2 in
    let size = listed.list_count b c.args.element c.args.view q.0 vs p c.len.result c.unwrap-count.result (c.len.ensures (list vs) p.part.shown) c.unwrap-count.ensures in
    let x = listed.nth_there vs c.loop-at.at (omega (arith, c.loop-at-test.true, size)) in
    listed.part_some c.args.view.decoded.now (element_of (list vs) c.loop-at.at) x.0 c.element.result x.1 (c.element.ensures.part (list vs) p.part.shown))

pub write_elements-write_value-requires : goal.write_elements-write_value-requires
write_elements-write_value-requires g t c κs within =
    let b = c.args.table.now in
    let d = c.args.view.decoded.now in
    let message = listed.same_message d c.element.result c.unwrap-part.result c.unwrap-part.ensures c.element.ensures.message in (
      omega (arith, c.decreases),
      (
        within,
        (
          ap (λ (s : Shown). s.table) message ∙ c.requires.table,
          (
            c.requires.element,
            ∥∥₁_map c.requires.part (λ q.
                let vs = q.1 in
                let p = q.2 in
                let x = listed.part_shown d (element_of (list vs) c.loop-at.at) c.element.result c.unwrap-part.result c.unwrap-part.ensures (c.element.ensures.part (list vs) p.part.shown) in
                let typed = listed.list_nth b c.args.element c.args.view q.0 vs p c.loop-at.at x.0 x.1 in
                let deep = listed.nth_depth (declarations_of b) (resolve (declarations_of b).terms (ty.named c.args.element)) vs c.loop-at.at x.0 x.1 in
                let message = listed.same_message d c.element.result c.unwrap-part.result c.unwrap-part.ensures c.element.ensures.message in
                (x.0, record { shown = x.2; typed = typed }, omega (arith, deep, q.3))),
          ),
        ),
      ),
    )

pub write_elements-loop-at-init : goal.write_elements-loop-at-init
write_elements-loop-at-init g t c =
    record { left = λ t vs p. so_far_begin _ _ _ _ _ c.in_ok-write_all.ensures (printing.list_text c.args.table.now c.args.element c.args.view t vs p) }

pub write_elements-loop-at-preserved : goal.write_elements-loop-at-preserved
write_elements-loop-at-preserved g t c =
    record {
      left = λ t vs p.
          let b = c.args.table.now in
          let x = listed.part_shown c.args.view.decoded.now (element_of (list vs) c.loop-at.at) c.element.result c.unwrap-part.result c.unwrap-part.ensures (c.element.ensures.part (list vs) p.part.shown) in
          let typed = listed.list_nth b c.args.element c.args.view t vs p c.loop-at.at x.0 x.1 in
          let wrote = takes_then _ _ _ _ _ c.in_ok-write_comma.ensures (c.in_ok-write_value.ensures x.0 (record { shown = x.2; typed = typed })) in
          so_far_more _ _ _ _ _ _ _ (c.loop-at.invariant.left t vs p) wrote (printing.elements_at (declarations_of b) (resolve (declarations_of b).terms (ty.named c.args.element)) vs c.loop-at.at (c.loop-at.at + 1) x.0 (codes "]") x.1 (omega arith));
    }

pub write_elements-returns : goal.write_elements-returns
write_elements-returns g t c n vs p =
    let b = c.args.table.now in
    let size = listed.list_count b c.args.element c.args.view n vs p c.len.result c.unwrap-count.result (c.len.ensures (list vs) p.part.shown) c.unwrap-count.ensures in
    let end = so_far_as _ _ _ _ (codes "]") (c.loop-at.invariant.left n vs p) (printing.elements_end (declarations_of b) (resolve (declarations_of b).terms (ty.named c.args.element)) vs c.loop-at.at _ (codes "]") (omega (arith, c.loop-at-test.false, c.loop-at.auto.at-end, size))) in
    so_far_written _ _ _ _ _ c.write_all-2.result end c.write_all-2.ensures

pub write_elements-returns-in_err-write_all : goal.write_elements-returns-in_err-write_all
write_elements-returns-in_err-write_all g t c n vs p =
    failed_as _ _ _ c.from_residual.result c.from_residual.ensures.0 (begin_failed _ _ _ _ _ c.in_err-write_all.ensures (printing.list_text c.args.table.now c.args.element c.args.view n vs p))

pub write_elements-returns-in_err-write_comma : goal.write_elements-returns-in_err-write_comma
write_elements-returns-in_err-write_comma g t c n vs p =
    let b = c.args.table.now in
    let size = listed.list_count b c.args.element c.args.view n vs p c.len.result c.unwrap-count.result (c.len.ensures (list vs) p.part.shown) c.unwrap-count.ensures in
    let x = listed.nth_there vs c.loop-at.at (omega (arith, c.loop-at-test.true, size)) in
    let step = printing.elements_at (declarations_of b) (resolve (declarations_of b).terms (ty.named c.args.element)) vs c.loop-at.at (c.loop-at.at + 1) x.0 (codes "]") x.1 (omega arith) in
    failed_as _ _ _ c.from_residual-in_err-write_comma.result c.from_residual-in_err-write_comma.ensures.0 (so_far_first _ _ _ _ _ _ _ _ (c.loop-at.invariant.left n vs p) c.in_err-write_comma.ensures step)

pub write_elements-returns-in_err-write_value : goal.write_elements-returns-in_err-write_value
write_elements-returns-in_err-write_value g t c n vs p =
    let b = c.args.table.now in
    let x = listed.part_shown c.args.view.decoded.now (element_of (list vs) c.loop-at.at) c.element.result c.unwrap-part.result c.unwrap-part.ensures (c.element.ensures.part (list vs) p.part.shown) in
    let typed = listed.list_nth b c.args.element c.args.view n vs p c.loop-at.at x.0 x.1 in
    let step = printing.elements_at (declarations_of b) (resolve (declarations_of b).terms (ty.named c.args.element)) vs c.loop-at.at (c.loop-at.at + 1) x.0 (codes "]") x.1 (omega arith) in
    failed_as _ _ _ c.from_residual-in_err-write_value.result c.from_residual-in_err-write_value.ensures.0
    (so_far_second _ _ _ _ _ _ _ _ _ (c.loop-at.invariant.left n vs p) c.in_ok-write_comma.ensures (c.in_err-write_value.ensures x.0 (record { shown = x.2; typed = typed })) step)

pub write_named-returns-in_err-write_all : goal.write_named-returns-in_err-write_all
write_named-returns-in_err-write_all g t c v p =
    failed_as _ _ _ c.from_residual.result c.from_residual.ensures.0
    (more_left _ _ _ (text_of (declarations_of c.args.table.now) (resolve (declarations_of c.args.table.now).terms (ty.named c.args.row.now.entry)) v) (more_left _ _ _ (codes ": ") (front_as _ _ _ _ c.row_name.ensures c.in_err-write_all.ensures)))

pub write_named-returns-in_err-write_all-2 : goal.write_named-returns-in_err-write_all-2
write_named-returns-in_err-write_all-2 g t c v p =
    failed_as _ _ _ c.from_residual-in_err-write_all-2.result c.from_residual-in_err-write_all-2.ensures.0
    (more_left _ _ _ (text_of (declarations_of c.args.table.now) (resolve (declarations_of c.args.table.now).terms (ty.named c.args.row.now.entry)) v) (failed_then _ _ _ _ _ (takes_as _ _ _ _ c.row_name.ensures c.in_ok-write_all.ensures) c.in_err-write_all-2.ensures))

pub write_named-returns : goal.write_named-returns
write_named-returns g t c v p =
    writes_then _ _ _ _ _ c.write_value.result (takes_then _ _ _ _ _ (takes_as _ _ _ _ c.row_name.ensures c.in_ok-write_all.ensures) c.in_ok-write_all-2.ensures) (c.write_value.ensures v p)

pub write_members-loop-at-init : goal.write_members-loop-at-init
write_members-loop-at-init g t c =
    record { left = λ n vs p. so_far_begin _ _ _ _ _ c.in_ok-write_all.ensures (entries.members_begin c.args.table.now c.entry-entry.ensures.well_formed c.args.index c.requires.index c.args.view n vs p) }

pub write_members-overflow_add-entry : goal.write_members-overflow_add-entry
write_members-overflow_add-entry g t c =
    let counted = ap (λ (e : Entry). e.count) c.entry-entry.ensures.value in
    let begun = ap (λ (e : Entry). e.first) c.entry-entry.ensures.value in
    let inside = facts.row_lt c.args.table.now c.entry-entry.ensures.well_formed c.args.index c.requires.index c.requires.of_struct c.loop-at.at (omega (arith, c.loop-at-test.true, counted)) in
    record { fits = omega (arith, inside, begun, c.rows-rows.ensures.value) }

pub write_members-row-row-requires : goal.write_members-row-row-requires
write_members-row-row-requires g t c =
    let counted = ap (λ (e : Entry). e.count) c.entry-entry.ensures.value in
    let begun = ap (λ (e : Entry). e.first) c.entry-entry.ensures.value in
    let inside = facts.row_lt c.args.table.now c.entry-entry.ensures.well_formed c.args.index c.requires.index c.requires.of_struct c.loop-at.at (omega (arith, c.loop-at-test.true, counted)) in
    subst (λ k. k + c.loop-at.at < (header_of c.args.table.now).rows) (sym begun) inside

pub write_members-unwrap-part-requires : goal.write_members-unwrap-part-requires
write_members-unwrap-part-requires g t c = ∥∥₁_elim c.requires.part (is_some_prop _) (λ q.
    let n = q.0 in
    let vs = q.1 in
    let p = q.2 in
    let counted = ap (λ (e : Entry). e.count) c.entry-entry.ensures.value in
    let x = facts.member_there c.args.table.now c.entry-entry.ensures.well_formed c.args.index c.requires.index c.args.view n vs p c.loop-at.at (omega (arith, c.loop-at-test.true, counted)) in
    listed.part_some c.args.view.decoded.now (field_of (fields vs) c.loop-at.at) x.0 c.field.result x.1 (c.field.ensures.part (fields vs) p.part.shown))

pub write_members-write_named-requires : goal.write_members-write_named-requires
write_members-write_named-requires g t c κs within =
    let b = c.args.table.now in
    let w = c.entry-entry.ensures.well_formed in
    let i = c.args.index in
    let lt = c.requires.index in
    let is = c.requires.of_struct in
    let d = c.args.view.decoded.now in
    let counted = ap (λ (e : Entry). e.count) c.entry-entry.ensures.value in
    let begun = ap (λ (e : Entry). e.first) c.entry-entry.ensures.value in
    let less : c.loop-at.at < (entry_at b i).count = omega (arith, c.loop-at-test.true, counted) in
    let here : c.row-row.result ≡ row_at b (header_of b) ((entry_at b i).first + c.loop-at.at) = c.row-row.ensures.value ∙ ap (λ k. row_at b (header_of b) (k + c.loop-at.at)) begun in
    let entered : c.row-row.result.entry ≡ (row_at b (header_of b) ((entry_at b i).first + c.loop-at.at)).entry = ap (λ (r : Row). r.entry) here in
    let message = listed.same_message d c.field.result c.unwrap-part.result c.unwrap-part.ensures c.field.ensures.message in
    let nest = facts.member_less b w i lt is c.loop-at.at less in
    let lower : (entry_at b c.row-row.result.entry).nest < (entry_at b i).nest = subst (λ k. (entry_at b k).nest < (entry_at b i).nest) (sym entered) nest in
    let fits : (entry_at b c.row-row.result.entry).size ≤ (entry_at b i).size = subst (λ k. (entry_at b k).size ≤ (entry_at b i).size) (sym entered) (facts.member_fits b w i lt is c.loop-at.at less) in (
      omega (arith, c.decreases, lower, fits),
      (
        within,
        (
          ap (λ (s : Shown). s.table) message ∙ c.requires.table,
          (
            c.row-row.ensures.name,
            (
              c.row-row.ensures.entry,
              ∥∥₁_map c.requires.part (λ q.
                  let n = q.0 in
                  let vs = q.1 in
                  let p = q.2 in
                  let x = listed.part_shown d (field_of (fields vs) c.loop-at.at) c.field.result c.unwrap-part.result c.unwrap-part.ensures (c.field.ensures.part (fields vs) p.part.shown) in
                  let typed = facts.member_typed b w i lt c.args.view n vs p c.loop-at.at less x.0 x.1 in
                  let deep : depth_of (declarations_of b) (resolve (declarations_of b).terms (ty.named c.row-row.result.entry)) x.0 ≤ fields_depth (declarations_of b) (facts.members_at b w i lt) vs =
                  subst (λ k. depth_of (declarations_of b) (resolve (declarations_of b).terms (ty.named k)) x.0 ≤ fields_depth (declarations_of b) (facts.members_at b w i lt) vs) (sym entered) (facts.member_depth b w i lt c.args.view n vs p c.loop-at.at less x.0 x.1) in (
                    x.0,
                    record {
                      shown = x.2;
                      typed = subst (λ k. IsTyped (declarations_of b) (resolve (declarations_of b).terms (ty.named k)) x.0) (sym entered) typed;
                    },
                    omega (arith, deep, q.3),
                  )),
            ),
          ),
        ),
      ),
    )

pub write_members-loop-at-preserved : goal.write_members-loop-at-preserved
write_members-loop-at-preserved g t c =
    record {
      left = λ n vs p.
          let b = c.args.table.now in
          let w = c.entry-entry.ensures.well_formed in
          let i = c.args.index in
          let lt = c.requires.index in
          let counted = ap (λ (e : Entry). e.count) c.entry-entry.ensures.value in
          let begun = ap (λ (e : Entry). e.first) c.entry-entry.ensures.value in
          let less : c.loop-at.at < (entry_at b i).count = omega (arith, c.loop-at-test.true, counted) in
          let here : c.row-row.result ≡ row_at b (header_of b) ((entry_at b i).first + c.loop-at.at) = c.row-row.ensures.value ∙ ap (λ k. row_at b (header_of b) (k + c.loop-at.at)) begun in
          let x = listed.part_shown c.args.view.decoded.now (field_of (fields vs) c.loop-at.at) c.field.result c.unwrap-part.result c.unwrap-part.ensures (c.field.ensures.part (fields vs) p.part.shown) in
          let typed = facts.member_typed b w i lt c.args.view n vs p c.loop-at.at less x.0 x.1 in
          let own = subst (λ (r : Row). IsTyped (declarations_of b) (resolve (declarations_of b).terms (ty.named r.entry)) x.0) (sym here) typed in
          let named = ap (λ (r : Row). named_text b r x.0) here in
          let step = entries.members_step b w i lt c.args.view n vs p c.loop-at.at (c.loop-at.at + 1) x.0 x.1 less (omega arith) in
          so_far_more _ _ _ _ _ _ _ (c.loop-at.invariant.left n vs p) (takes_then _ _ _ _ _ c.in_ok-write_comma.ensures (takes_as _ _ _ _ named (c.in_ok-write_named.ensures x.0 (record { shown = x.2; typed = own })))) step;
    }

pub write_members-returns : goal.write_members-returns
write_members-returns g t c n vs p =
    let counted = ap (λ (e : Entry). e.count) c.entry-entry.ensures.value in
    let end = so_far_as _ _ _ _ (codes "}") (c.loop-at.invariant.left n vs p)
    (entries.members_end c.args.table.now c.entry-entry.ensures.well_formed c.args.index c.requires.index c.args.view n vs p c.loop-at.at (omega (arith, c.loop-at-test.false, c.loop-at.auto.at-end, counted))) in
    so_far_written _ _ _ _ _ c.write_all-2.result end c.write_all-2.ensures

pub write_members-returns-in_err-write_all : goal.write_members-returns-in_err-write_all
write_members-returns-in_err-write_all g t c n vs p =
    failed_as _ _ _ c.from_residual.result c.from_residual.ensures.0
    (begin_failed _ _ _ _ _ c.in_err-write_all.ensures (entries.members_begin c.args.table.now c.entry-entry.ensures.well_formed c.args.index c.requires.index c.args.view n vs p))

pub write_members-returns-in_err-write_comma : goal.write_members-returns-in_err-write_comma
write_members-returns-in_err-write_comma g t c n vs p =
    let b = c.args.table.now in
    let w = c.entry-entry.ensures.well_formed in
    let i = c.args.index in
    let lt = c.requires.index in
    let counted = ap (λ (e : Entry). e.count) c.entry-entry.ensures.value in
    let less : c.loop-at.at < (entry_at b i).count = omega (arith, c.loop-at-test.true, counted) in
    let x = facts.member_there b w i lt c.args.view n vs p c.loop-at.at less in
    let step = entries.members_step b w i lt c.args.view n vs p c.loop-at.at (c.loop-at.at + 1) x.0 x.1 less (omega arith) in
    failed_as _ _ _ c.from_residual-in_err-write_comma.result c.from_residual-in_err-write_comma.ensures.0
    (so_far_first _ _ _ _ _ _ _ _ (c.loop-at.invariant.left n vs p) c.in_err-write_comma.ensures step)

pub write_members-returns-in_err-write_named : goal.write_members-returns-in_err-write_named
write_members-returns-in_err-write_named g t c n vs p =
    let b = c.args.table.now in
    let w = c.entry-entry.ensures.well_formed in
    let i = c.args.index in
    let lt = c.requires.index in
    let counted = ap (λ (e : Entry). e.count) c.entry-entry.ensures.value in
    let begun = ap (λ (e : Entry). e.first) c.entry-entry.ensures.value in
    let less : c.loop-at.at < (entry_at b i).count = omega (arith, c.loop-at-test.true, counted) in
    let here : c.row-row.result ≡ row_at b (header_of b) ((entry_at b i).first + c.loop-at.at) = c.row-row.ensures.value ∙ ap (λ k. row_at b (header_of b) (k + c.loop-at.at)) begun in
    let x = listed.part_shown c.args.view.decoded.now (field_of (fields vs) c.loop-at.at) c.field.result c.unwrap-part.result c.unwrap-part.ensures (c.field.ensures.part (fields vs) p.part.shown) in
    let typed = facts.member_typed b w i lt c.args.view n vs p c.loop-at.at less x.0 x.1 in
    let own = subst (λ (r : Row). IsTyped (declarations_of b) (resolve (declarations_of b).terms (ty.named r.entry)) x.0) (sym here) typed in
    let named = ap (λ (r : Row). named_text b r x.0) here in
    let step = entries.members_step b w i lt c.args.view n vs p c.loop-at.at (c.loop-at.at + 1) x.0 x.1 less (omega arith) in
    failed_as _ _ _ c.from_residual-in_err-write_named.result c.from_residual-in_err-write_named.ensures.0
    (so_far_second _ _ _ _ _ _ _ _ _ (c.loop-at.invariant.left n vs p) c.in_ok-write_comma.ensures (front_as _ _ _ _ named (c.in_err-write_named.ensures x.0 (record { shown = x.2; typed = own }))) step)

pub write_value-unwrap-kind-requires : goal.write_value-unwrap-kind-requires
write_value-unwrap-kind-requires g t c =
    let k = facts.kind_at c.args.table.now c.entry-entry.ensures.well_formed c.args.index c.requires.index in
    subst (λ (o : Option EntryKind). IsSome o) (sym (c.from_number.ensures ∙ ap (λ (e : Entry). kind_of e.kind) c.entry-entry.ensures.value ∙ k.1)) refl

pub write_value-write_bool-requires : goal.write_value-write_bool-requires
write_value-write_bool-requires g t c =
    let b = c.args.table.now in
    let is : IsOf Boolean (entry_at b c.args.index) = sym (c.from_number.ensures ∙ ap (λ (e : Entry). kind_of e.kind) c.entry-entry.ensures.value) ∙ c.unwrap-kind.ensures ∙ ap (λ (k : EntryKind). Some k) c.in-Bool.is in
    ∥∥₁_map c.requires.part (λ q. (declarations_of b, (q.0, part_as _ _ _ _ _ (facts.term_at b c.entry-entry.ensures.well_formed c.args.index c.requires.index Boolean is) q.1)))

pub write_value-write_elements-requires : goal.write_value-write_elements-requires
write_value-write_elements-requires g t c κs within =
    let b = c.args.table.now in
    let w = c.entry-entry.ensures.well_formed in
    let i = c.args.index in
    let lt = c.requires.index in
    let is : IsOf Array (entry_at b i) = sym (c.from_number.ensures ∙ ap (λ (e : Entry). kind_of e.kind) c.entry-entry.ensures.value) ∙ c.unwrap-kind.ensures ∙ ap (λ (k : EntryKind). Some k) c.in-Array.is in
    let begun = ap (λ (e : Entry). e.first) c.entry-entry.ensures.value in
    let e = facts.term_at b w i lt Array is ∙ ap (λ k. ty.array (ty.named k) (entry_at b i).count) (sym begun) in
    let lower : (entry_at b c.entry-entry.result.first).nest < (entry_at b i).nest = subst (λ k. (entry_at b k).nest < (entry_at b i).nest) (sym begun) (facts.element_less b w i lt is) in
    let fits : (entry_at b c.entry-entry.result.first).size ≤ (entry_at b i).size = subst (λ k. (entry_at b k).size ≤ (entry_at b i).size) (sym begun) (facts.element_fits b w i lt is) in
    let inside = subst (λ k. k < (header_of b).entries) (sym begun) (facts.element_lt b w i lt is) in (
      omega (arith, c.decreases, lower, fits),
      (
        within,
        (
          c.requires.table,
          (
            inside,
            ∥∥₁_map c.requires.part (λ q.
                let x = listed.elements_of_array b c.entry-entry.result.first (entry_at b i).count (resolve (declarations_of b).terms (ty.named i)) c.args.view q.0 e q.1 in
                let lower : (entry_at b c.entry-entry.result.first).nest < (entry_at b i).nest = subst (λ k. (entry_at b k).nest < (entry_at b i).nest) (sym begun) (facts.element_less b w i lt is) in
                let fits : (entry_at b c.entry-entry.result.first).size ≤ (entry_at b i).size = subst (λ k. (entry_at b k).size ≤ (entry_at b i).size) (sym begun) (facts.element_fits b w i lt is) in
                let inside = subst (λ k. k < (header_of b).entries) (sym begun) (facts.element_lt b w i lt is) in
                (ty.array (ty.named c.entry-entry.result.first) (entry_at b i).count, x.0, x.2, omega (arith, x.3, q.2))),
          ),
        ),
      ),
    )

pub write_value-write_vector-requires : goal.write_value-write_vector-requires
write_value-write_vector-requires g t c κs within =
    let b = c.args.table.now in
    let w = c.entry-entry.ensures.well_formed in
    let i = c.args.index in
    let lt = c.requires.index in
    let is : IsOf Vector (entry_at b i) = sym (c.from_number.ensures ∙ ap (λ (e : Entry). kind_of e.kind) c.entry-entry.ensures.value) ∙ c.unwrap-kind.ensures ∙ ap (λ (k : EntryKind). Some k) c.in-Vector.is in
    let begun = ap (λ (e : Entry). e.first) c.entry-entry.ensures.value in
    let e = facts.term_at b w i lt Vector is ∙ ap (λ k. ty.vector (is_optional (entry_at b i)) (entry_at b i).bound (ty.named k)) (sym begun) in
    let inside = subst (λ k. k < (header_of b).entries) (sym begun) (facts.vector_lt b w i lt is) in (
      omega (arith, c.decreases),
      (
        within,
        (
          c.requires.table,
          (
            inside,
            (
              w,
              ∥∥₁_map c.requires.part (λ q.
                  let v = q.0 in
                  let inside = subst (λ k. k < (header_of b).entries) (sym begun) (facts.vector_lt b w i lt is) in
                  let deep = subst (λ (u : Term). depth_of (declarations_of b) u v ≤ c.args.depth) e q.2 in
                  (is_optional (entry_at b i), (entry_at b i).bound, (v, part_as _ _ _ _ _ e q.1, deep))),
            ),
          ),
        ),
      ),
    )

pub write_value-write_members-requires : goal.write_value-write_members-requires
write_value-write_members-requires g t c κs within =
    let b = c.args.table.now in
    let w = c.entry-entry.ensures.well_formed in
    let i = c.args.index in
    let lt = c.requires.index in
    let is : IsOf Struct (entry_at b i) = sym (c.from_number.ensures ∙ ap (λ (e : Entry). kind_of e.kind) c.entry-entry.ensures.value) ∙ c.unwrap-kind.ensures ∙ ap (λ (k : EntryKind). Some k) c.in-Struct.is in (
      omega (arith, c.decreases),
      (
        within,
        (
          c.requires.table,
          (
            lt,
            (
              is,
              ∥∥₁_map c.requires.part (λ q.
                  let x = facts.members_of_struct b w i lt is c.args.view q.0 q.1 in
                  ((resolve (declarations_of b).terms (ty.named i)), x.0, x.2, omega (arith, x.3, q.2))),
            ),
          ),
        ),
      ),
    )

pub write_value-write_box-requires : goal.write_value-write_box-requires
write_value-write_box-requires g t c κs within =
    let b = c.args.table.now in
    let w = c.entry-entry.ensures.well_formed in
    let i = c.args.index in
    let lt = c.requires.index in
    let is : IsOf Box (entry_at b i) = sym (c.from_number.ensures ∙ ap (λ (e : Entry). kind_of e.kind) c.entry-entry.ensures.value) ∙ c.unwrap-kind.ensures ∙ ap (λ (k : EntryKind). Some k) c.in-Box.is in
    let begun = ap (λ (e : Entry). e.first) c.entry-entry.ensures.value in
    let e = facts.term_at b w i lt Box is ∙ ap (λ k. ty.box (ty.named k)) (sym begun) in
    let inside = subst (λ k. k < (header_of b).entries) (sym begun) (facts.box_lt b w i lt is) in
    let of = subst (λ k. IsOf Struct (entry_at b k)) (sym begun) (facts.box_struct b w i lt is) in (
      omega (arith, c.decreases),
      (
        within,
        (
          w,
          (
            c.requires.table,
            (
              inside,
              (
                of,
                ∥∥₁_map c.requires.part (λ q.
                    let v = q.0 in
                    let inside = subst (λ k. k < (header_of b).entries) (sym begun) (facts.box_lt b w i lt is) in
                    let of = subst (λ k. IsOf Struct (entry_at b k)) (sym begun) (facts.box_struct b w i lt is) in
                    let deep = subst (λ (u : Term). depth_of (declarations_of b) u v ≤ c.args.depth) e q.2 in
                    (v, part_as _ _ _ _ _ e q.1, deep)),
              ),
            ),
          ),
        ),
      ),
    )

pub write_value-write_number-requires : goal.write_value-write_number-requires
write_value-write_number-requires g t c =
    let b = c.args.table.now in
    let w = c.entry-entry.ensures.well_formed in
    let i = c.args.index in
    let lt = c.requires.index in
    let is : IsOf c.unwrap-kind.result (entry_at b i) = sym (c.from_number.ensures ∙ ap (λ (e : Entry). kind_of e.kind) c.entry-entry.ensures.value) ∙ c.unwrap-kind.ensures in
    let number = listed.number_kind b (header_of b) (entry_at b i) c.unwrap-kind.result c.in_default.not-Bool c.in_default.not-Array c.in_default.not-Struct c.in_default.not-String c.in_default.not-Handle c.in_default.not-Vector c.in_default.not-Box c.in_default.not-Table c.in_default.not-Union in
    record {
      well_formed = subst (λ (t : List ℕ). WellFormed t) (sym c.requires.table) w;
      part = ∥∥₁_map c.requires.part (λ q. (declarations_of b, term_as c.unwrap-kind.result b (header_of b) (entry_at b i), number, (q.0, part_as _ _ _ _ _ (facts.term_at b w i lt c.unwrap-kind.result is) q.1)));
    }

pub write_value-returns-in-Bool : goal.write_value-returns-in-Bool
write_value-returns-in-Bool g t c v p =
    let b = c.args.table.now in
    let is : IsOf Boolean (entry_at b c.args.index) = sym (c.from_number.ensures ∙ ap (λ (e : Entry). kind_of e.kind) c.entry-entry.ensures.value) ∙ c.unwrap-kind.ensures ∙ ap (λ (k : EntryKind). Some k) c.in-Bool.is in
    let e = facts.term_at b c.entry-entry.ensures.well_formed c.args.index c.requires.index Boolean is in
    subst (λ (u : Term). Writes (g.W.Sink.taken c.args.out.now) (g.W.Sink.taken c.write_bool.new.out) (text_of (declarations_of b) u v) c.write_bool.result) (sym e) (c.write_bool.ensures (declarations_of b) v (part_as _ _ _ _ _ e p))

pub write_value-returns-in-String : goal.write_value-returns-in-String
write_value-returns-in-String g t c v p =
    let b = c.args.table.now in
    let i = c.args.index in
    let is : IsOf String (entry_at b i) = sym (c.from_number.ensures ∙ ap (λ (e : Entry). kind_of e.kind) c.entry-entry.ensures.value) ∙ c.unwrap-kind.ensures ∙ ap (λ (k : EntryKind). Some k) c.in-String.is in
    let e = facts.term_at b c.entry-entry.ensures.well_formed i c.requires.index String is in
    subst (λ (u : Term). Writes (g.W.Sink.taken c.args.out.now) (g.W.Sink.taken c.write_string.new.out) (text_of (declarations_of b) u v) c.write_string.result) (sym e) (c.write_string.ensures (declarations_of b) (is_optional (entry_at b i)) (entry_at b i).bound v (part_as _ _ _ _ _ e p))

pub write_value-returns-in-Handle : goal.write_value-returns-in-Handle
write_value-returns-in-Handle g t c v p =
    let b = c.args.table.now in
    let i = c.args.index in
    let is : IsOf Handle (entry_at b i) = sym (c.from_number.ensures ∙ ap (λ (e : Entry). kind_of e.kind) c.entry-entry.ensures.value) ∙ c.unwrap-kind.ensures ∙ ap (λ (k : EntryKind). Some k) c.in-Handle.is in
    let e = facts.term_at b c.entry-entry.ensures.well_formed i c.requires.index Handle is in
    subst (λ (u : Term). Writes (g.W.Sink.taken c.args.out.now) (g.W.Sink.taken c.write_handle_or_absent.new.out) (text_of (declarations_of b) u v)
    c.write_handle_or_absent.result) (sym e) (c.write_handle_or_absent.ensures (declarations_of b) (is_optional (entry_at b i))
    (entry_at b i).subtype (entry_at b i).rights v (part_as _ _ _ _ _ e p))

pub write_value-returns-in-Array : goal.write_value-returns-in-Array
write_value-returns-in-Array g t c v p =
    let b = c.args.table.now in
    let w = c.entry-entry.ensures.well_formed in
    let i = c.args.index in
    let lt = c.requires.index in
    let is : IsOf Array (entry_at b i) = sym (c.from_number.ensures ∙ ap (λ (e : Entry). kind_of e.kind) c.entry-entry.ensures.value) ∙ c.unwrap-kind.ensures ∙ ap (λ (k : EntryKind). Some k) c.in-Array.is in
    let begun = ap (λ (e : Entry). e.first) c.entry-entry.ensures.value in
    let e = facts.term_at b w i lt Array is ∙ ap (λ k. ty.array (ty.named k) (entry_at b i).count) (sym begun) in
    let x = listed.elements_of_array b c.entry-entry.result.first (entry_at b i).count (resolve (declarations_of b).terms (ty.named i)) c.args.view v e p in
    subst (λ (u : Term). Writes (g.W.Sink.taken c.args.out.now) (g.W.Sink.taken c.write_elements.new.out) (text_of (declarations_of b) u v) c.write_elements.result) (sym e)
    (subst (λ (u : Value). Writes (g.W.Sink.taken c.args.out.now) (g.W.Sink.taken c.write_elements.new.out)
    (text_of (declarations_of b) (ty.array (ty.named c.entry-entry.result.first) (entry_at b i).count) u) c.write_elements.result) (sym x.1)
    (c.write_elements.ensures (ty.array (ty.named c.entry-entry.result.first) (entry_at b i).count) x.0 x.2))

pub write_value-returns-in-Vector : goal.write_value-returns-in-Vector
write_value-returns-in-Vector g t c v p =
    let b = c.args.table.now in
    let w = c.entry-entry.ensures.well_formed in
    let i = c.args.index in
    let lt = c.requires.index in
    let is : IsOf Vector (entry_at b i) = sym (c.from_number.ensures ∙ ap (λ (e : Entry). kind_of e.kind) c.entry-entry.ensures.value) ∙ c.unwrap-kind.ensures ∙ ap (λ (k : EntryKind). Some k) c.in-Vector.is in
    let begun = ap (λ (e : Entry). e.first) c.entry-entry.ensures.value in
    let e = facts.term_at b w i lt Vector is ∙ ap (λ k. ty.vector (is_optional (entry_at b i)) (entry_at b i).bound (ty.named k)) (sym begun) in
    subst (λ (u : Term). Writes (g.W.Sink.taken c.args.out.now) (g.W.Sink.taken c.write_vector.new.out) (text_of (declarations_of b) u v) c.write_vector.result) (sym e) (c.write_vector.ensures (is_optional (entry_at b i)) (entry_at b i).bound v (part_as _ _ _ _ _ e p))

pub write_value-returns-in-Struct : goal.write_value-returns-in-Struct
write_value-returns-in-Struct g t c v p =
    let b = c.args.table.now in
    let w = c.entry-entry.ensures.well_formed in
    let i = c.args.index in
    let lt = c.requires.index in
    let is : IsOf Struct (entry_at b i) = sym (c.from_number.ensures ∙ ap (λ (e : Entry). kind_of e.kind) c.entry-entry.ensures.value) ∙ c.unwrap-kind.ensures ∙ ap (λ (k : EntryKind). Some k) c.in-Struct.is in
    let x = facts.members_of_struct b w i lt is c.args.view v p in
    subst (λ (u : Value). Writes (g.W.Sink.taken c.args.out.now) (g.W.Sink.taken c.write_members.new.out)
    (text_of (declarations_of b) (resolve (declarations_of b).terms (ty.named i)) u) c.write_members.result) (sym x.1)
    (c.write_members.ensures (resolve (declarations_of b).terms (ty.named i)) x.0 x.2)

pub write_value-returns-in-Box : goal.write_value-returns-in-Box
write_value-returns-in-Box g t c v p =
    let b = c.args.table.now in
    let w = c.entry-entry.ensures.well_formed in
    let i = c.args.index in
    let lt = c.requires.index in
    let is : IsOf Box (entry_at b i) = sym (c.from_number.ensures ∙ ap (λ (e : Entry). kind_of e.kind) c.entry-entry.ensures.value) ∙ c.unwrap-kind.ensures ∙ ap (λ (k : EntryKind). Some k) c.in-Box.is in
    let begun = ap (λ (e : Entry). e.first) c.entry-entry.ensures.value in
    let e = facts.term_at b w i lt Box is ∙ ap (λ k. ty.box (ty.named k)) (sym begun) in
    subst (λ (u : Term). Writes (g.W.Sink.taken c.args.out.now) (g.W.Sink.taken c.write_box.new.out) (text_of (declarations_of b) u v) c.write_box.result) (sym e) (c.write_box.ensures v (part_as _ _ _ _ _ e p))

pub write_value-returns-in_default : goal.write_value-returns-in_default
write_value-returns-in_default g t c v p =
    let b = c.args.table.now in
    let w = c.entry-entry.ensures.well_formed in
    let i = c.args.index in
    let lt = c.requires.index in
    let is : IsOf c.unwrap-kind.result (entry_at b i) = sym (c.from_number.ensures ∙ ap (λ (e : Entry). kind_of e.kind) c.entry-entry.ensures.value) ∙ c.unwrap-kind.ensures in
    let number = listed.number_kind b (header_of b) (entry_at b i) c.unwrap-kind.result c.in_default.not-Bool c.in_default.not-Array c.in_default.not-Struct c.in_default.not-String c.in_default.not-Handle c.in_default.not-Vector c.in_default.not-Box c.in_default.not-Table c.in_default.not-Union in
    let e = facts.term_at b w i lt c.unwrap-kind.result is in
    subst (λ (u : Term). Writes (g.W.Sink.taken c.args.out.now) (g.W.Sink.taken c.write_number.new.out) (text_of (declarations_of b) u v)
    c.write_number.result) (sym e) (c.write_number.ensures (declarations_of b) (term_as c.unwrap-kind.result b (header_of b) (entry_at b i))
    number v (part_as _ _ _ _ _ e p))

pub write_vector-returns-then-is_absent : goal.write_vector-returns-then-is_absent
write_vector-returns-then-is_absent g t c optional bound v p =
    writes_as _ _ _ _ c.write_all.result (printing.absent_text (declarations_of c.args.table.now) (ty.vector optional bound (ty.named c.args.element)) v (sym c.if-is_absent.true ∙ c.is_absent.ensures v p.shown)) c.write_all.ensures

pub write_vector-overflow_sub-depth : goal.write_vector-overflow_sub-depth
write_vector-overflow_sub-depth g t c = ∥∥₁_elim c.requires.part le_prop (λ q.
    let x = listed.elements_of_vector c.args.table.now c.args.element q.0 q.1 c.args.view q.2.0 q.2.1 (sym c.if-is_absent.false ∙ c.is_absent.ensures q.2.0 q.2.1.shown) in
    omega (arith, x.3, q.2.2))

pub write_vector-write_elements-requires : goal.write_vector-write_elements-requires
write_vector-write_elements-requires g t c κs within =
    let few = facts.nest_few c.args.table.now c.requires.well_formed c.args.element c.requires.element in
    let small = facts.size_few c.args.table.now c.requires.well_formed c.args.element c.requires.element in (
      ∥∥₁_elim c.requires.part le_prop (λ q.
          let x = listed.elements_of_vector c.args.table.now c.args.element q.0 q.1 c.args.view q.2.0 q.2.1 (sym c.if-is_absent.false ∙ c.is_absent.ensures q.2.0 q.2.1.shown) in
          let few = facts.nest_few c.args.table.now c.requires.well_formed c.args.element c.requires.element in
          let small = facts.size_few c.args.table.now c.requires.well_formed c.args.element c.requires.element in
          omega (arith, c.decreases, few, small, x.3, q.2.2)),
      (
        within,
        (
          c.requires.table,
          (
            c.requires.element,
            ∥∥₁_map c.requires.part (λ q.
                let x = listed.elements_of_vector c.args.table.now c.args.element q.0 q.1 c.args.view q.2.0 q.2.1 (sym c.if-is_absent.false ∙ c.is_absent.ensures q.2.0 q.2.1.shown) in
                let few = facts.nest_few c.args.table.now c.requires.well_formed c.args.element c.requires.element in
                let small = facts.size_few c.args.table.now c.requires.well_formed c.args.element c.requires.element in
                (ty.vector q.0 q.1 (ty.named c.args.element), x.0, x.2, omega (arith, x.3, q.2.2))),
          ),
        ),
      ),
    )

pub write_vector-returns : goal.write_vector-returns
write_vector-returns g t c optional bound v p =
    let ty' = ty.vector optional bound (ty.named c.args.element) in
    let x = listed.elements_of_vector c.args.table.now c.args.element optional bound c.args.view v p (sym c.if-is_absent.false ∙ c.is_absent.ensures v p.shown) in
    subst (λ (u : Value). Writes (g.W.Sink.taken c.args.out.now) (g.W.Sink.taken c.write_elements.new.out) (text_of (declarations_of c.args.table.now) ty' u) c.write_elements.result) (sym x.1) (c.write_elements.ensures ty' x.0 x.2)

pub write_box-returns-then-is_absent : goal.write_box-returns-then-is_absent
write_box-returns-then-is_absent g t c v p =
    writes_as _ _ _ _ c.write_all.result (printing.absent_text (declarations_of c.args.table.now) (ty.box (ty.named c.args.index)) v (sym c.if-is_absent.true ∙ c.is_absent.ensures v p.shown)) c.write_all.ensures

pub write_box-overflow_sub-depth : goal.write_box-overflow_sub-depth
write_box-overflow_sub-depth g t c = ∥∥₁_elim c.requires.part le_prop (λ q.
    let x = facts.members_of_box c.args.table.now c.requires.well_formed c.args.index c.requires.index c.requires.of_struct c.args.view q.0 q.1 (sym c.if-is_absent.false ∙ c.is_absent.ensures q.0 q.1.shown) in
    omega (arith, x.3, q.2))

pub write_box-write_members-requires : goal.write_box-write_members-requires
write_box-write_members-requires g t c κs within =
    let few = facts.nest_few c.args.table.now c.requires.well_formed c.args.index c.requires.index in
    let small = facts.size_few c.args.table.now c.requires.well_formed c.args.index c.requires.index in (
      ∥∥₁_elim c.requires.part le_prop (λ q.
          let x = facts.members_of_box c.args.table.now c.requires.well_formed c.args.index c.requires.index c.requires.of_struct c.args.view q.0 q.1 (sym c.if-is_absent.false ∙ c.is_absent.ensures q.0 q.1.shown) in
          let few = facts.nest_few c.args.table.now c.requires.well_formed c.args.index c.requires.index in
          let small = facts.size_few c.args.table.now c.requires.well_formed c.args.index c.requires.index in
          omega (arith, c.decreases, few, small, x.3, q.2)),
      (
        within,
        (
          c.requires.table,
          (
            c.requires.index,
            (
              c.requires.of_struct,
              ∥∥₁_map c.requires.part (λ q.
                  let x = facts.members_of_box c.args.table.now c.requires.well_formed c.args.index c.requires.index c.requires.of_struct c.args.view q.0 q.1 (sym c.if-is_absent.false ∙ c.is_absent.ensures q.0 q.1.shown) in
                  let few = facts.nest_few c.args.table.now c.requires.well_formed c.args.index c.requires.index in
                  let small = facts.size_few c.args.table.now c.requires.well_formed c.args.index c.requires.index in
                  (ty.box (ty.named c.args.index), x.0, x.2, omega (arith, x.3, q.2))),
            ),
          ),
        ),
      ),
    )

pub write_box-returns : goal.write_box-returns
write_box-returns g t c v p =
    let ty' = ty.box (ty.named c.args.index) in
    let x = facts.members_of_box c.args.table.now c.requires.well_formed c.args.index c.requires.index c.requires.of_struct c.args.view v p (sym c.if-is_absent.false ∙ c.is_absent.ensures v p.shown) in
    subst (λ (u : Value). Writes (g.W.Sink.taken c.args.out.now) (g.W.Sink.taken c.write_members.new.out) (text_of (declarations_of c.args.table.now) ty' u) c.write_members.result) (sym x.1) (c.write_members.ensures ty' x.0 x.2)

pub write_member-unwrap-row-requires : goal.write_member-unwrap-row-requires
write_member-unwrap-row-requires g t c = ∥∥₁_elim c.requires.part (is_some_prop _) (λ q.
    let p = q in
    tabled.row_there c.args.table.now c.requires.well_formed c.args.slot.index c.requires.index c.args.slot.ordinal p.0 c.member.result c.member.ensures.none p.1.typed)

pub write_member-entry-requires : goal.write_member-entry-requires
write_member-entry-requires g t c = tabled.of_some (λ r. r.entry < (header_of c.args.table.now).entries) c.member.result c.unwrap-row.result c.unwrap-row.ensures c.member.ensures.entry_below

pub write_member-write_named-requires : goal.write_member-write_named-requires
write_member-write_named-requires g t c κs within =
    let b = c.args.table.now in
    let w = c.requires.well_formed in
    let i = c.args.slot.index in
    let lt = c.requires.index in
    let row = c.unwrap-row.result in
    let below = tabled.of_some (λ r. r.entry < (header_of b).entries) c.member.result row c.unwrap-row.ensures c.member.ensures.entry_below in
    let found = tabled.of_some (λ r. find (members_of b i) c.args.slot.ordinal ≡ Some (ty.named r.entry)) c.member.result row c.unwrap-row.ensures c.member.ensures.some in
    let name = tabled.of_some (λ r. r.name_place + r.name_length ≤ (header_of b).names) c.member.result row c.unwrap-row.ensures c.member.ensures.name in
    let sized = ap (λ (e : Entry). e.size) c.entry.ensures.value in
    let few = facts.nest_few b w row.entry below in (
      omega (arith, c.decreases, c.if-entry-le4.true, sized, few),
      (
        within,
        (
          c.requires.table,
          (
            name,
            (
              below,
              ∥∥₁_map c.requires.part (λ q.
                  let p = q in
                  let below = tabled.of_some (λ r. r.entry < (header_of b).entries) c.member.result row c.unwrap-row.ensures c.member.ensures.entry_below in
                  let found = tabled.of_some (λ r. find (members_of b i) c.args.slot.ordinal ≡ Some (ty.named r.entry)) c.member.result row c.unwrap-row.ensures c.member.ensures.some in
                  let typed = tabled.member_typed b w i lt c.args.slot.ordinal row.entry p.0 found p.1.typed in
                  let name = tabled.of_some (λ r. r.name_place + r.name_length ≤ (header_of b).names) c.member.result row c.unwrap-row.ensures c.member.ensures.name in
                  let sized = ap (λ (e : Entry). e.size) c.entry.ensures.value in
                  let deep = tabled.inline_depth b w i lt row.entry below p.0 typed (omega (arith, c.if-entry-le4.true, sized)) in
                  let few = facts.nest_few b w row.entry below in
                  (p.0, record { shown = p.1.shown; typed = typed }, omega (arith, deep))),
            ),
          ),
        ),
      ),
    )

pub write_member-write_named-requires-2 : goal.write_member-write_named-requires-2
write_member-write_named-requires-2 g t c κs within =
    let b = c.args.table.now in
    let w = c.requires.well_formed in
    let i = c.args.slot.index in
    let lt = c.requires.index in
    let row = c.unwrap-row.result in
    let below = tabled.of_some (λ r. r.entry < (header_of b).entries) c.member.result row c.unwrap-row.ensures c.member.ensures.entry_below in
    let found = tabled.of_some (λ r. find (members_of b i) c.args.slot.ordinal ≡ Some (ty.named r.entry)) c.member.result row c.unwrap-row.ensures c.member.ensures.some in
    let name = tabled.of_some (λ r. r.name_place + r.name_length ≤ (header_of b).names) c.member.result row c.unwrap-row.ensures c.member.ensures.name in
    let sized = ap (λ (e : Entry). e.size) c.entry.ensures.value in
    let few = facts.nest_few b w row.entry below in
    let small = facts.size_few b w row.entry below in (
      ∥∥₁_elim c.requires.part le_prop (λ q.
          let p = q in
          let below = tabled.of_some (λ r. r.entry < (header_of b).entries) c.member.result row c.unwrap-row.ensures c.member.ensures.entry_below in
          let found = tabled.of_some (λ r. find (members_of b i) c.args.slot.ordinal ≡ Some (ty.named r.entry)) c.member.result row c.unwrap-row.ensures c.member.ensures.some in
          let typed = tabled.member_typed b w i lt c.args.slot.ordinal row.entry p.0 found p.1.typed in
          let name = tabled.of_some (λ r. r.name_place + r.name_length ≤ (header_of b).names) c.member.result row c.unwrap-row.ensures c.member.ensures.name in
          let sized = ap (λ (e : Entry). e.size) c.entry.ensures.value in
          let deep = tabled.out_depth b w i lt c.args.slot.ordinal row.entry below p.0 c.args.slot.depth found p.2 (omega (arith, c.if-entry-le4.false, sized)) in
          let few = facts.nest_few b w row.entry below in
          let small = facts.size_few b w row.entry below in
          omega (arith, c.decreases, few, small, deep)),
      (
        within,
        (
          c.requires.table,
          (
            name,
            (
              below,
              ∥∥₁_map c.requires.part (λ q.
                  let p = q in
                  let below = tabled.of_some (λ r. r.entry < (header_of b).entries) c.member.result row c.unwrap-row.ensures c.member.ensures.entry_below in
                  let found = tabled.of_some (λ r. find (members_of b i) c.args.slot.ordinal ≡ Some (ty.named r.entry)) c.member.result row c.unwrap-row.ensures c.member.ensures.some in
                  let typed = tabled.member_typed b w i lt c.args.slot.ordinal row.entry p.0 found p.1.typed in
                  let name = tabled.of_some (λ r. r.name_place + r.name_length ≤ (header_of b).names) c.member.result row c.unwrap-row.ensures c.member.ensures.name in
                  let sized = ap (λ (e : Entry). e.size) c.entry.ensures.value in
                  let deep = tabled.out_depth b w i lt c.args.slot.ordinal row.entry below p.0 c.args.slot.depth found p.2 (omega (arith, c.if-entry-le4.false, sized)) in
                  let few = facts.nest_few b w row.entry below in
                  let small = facts.size_few b w row.entry below in
                  (p.0, record { shown = p.1.shown; typed = typed }, omega (arith, deep))),
            ),
          ),
        ),
      ),
    )

pub write_member-overflow_sub-slot : goal.write_member-overflow_sub-slot
write_member-overflow_sub-slot g t c = ∥∥₁_elim c.requires.part le_prop (λ q.
    let b = c.args.table.now in
    let w = c.requires.well_formed in
    let i = c.args.slot.index in
    let row = c.unwrap-row.result in
    let p = q in
    let below = tabled.of_some (λ r. r.entry < (header_of b).entries) c.member.result row c.unwrap-row.ensures c.member.ensures.entry_below in
    let found = tabled.of_some (λ r. find (members_of b i) c.args.slot.ordinal ≡ Some (ty.named r.entry)) c.member.result row c.unwrap-row.ensures c.member.ensures.some in
    let name = tabled.of_some (λ r. r.name_place + r.name_length ≤ (header_of b).names) c.member.result row c.unwrap-row.ensures c.member.ensures.name in
    let sized = ap (λ (e : Entry). e.size) c.entry.ensures.value in
    let deep = tabled.out_depth b w i c.requires.index c.args.slot.ordinal row.entry below p.0 c.args.slot.depth found p.2 (omega (arith, c.if-entry-le4.false, sized)) in
    omega (arith, deep))

pub write_member-returns-then-entry-le4 : goal.write_member-returns-then-entry-le4
write_member-returns-then-entry-le4 g t c v m =
    let b = c.args.table.now in
    let w = c.requires.well_formed in
    let i = c.args.slot.index in
    let lt = c.requires.index in
    let row = c.unwrap-row.result in
    let at = tabled.of_some (λ r. tables.IsRowAt b w i lt c.args.slot.ordinal r) c.member.result row c.unwrap-row.ensures c.member.ensures.row in
    let found = tabled.of_some (λ r. find (members_of b i) c.args.slot.ordinal ≡ Some (ty.named r.entry)) c.member.result row c.unwrap-row.ensures c.member.ensures.some in
    let whole = tables.member_whole b w i lt c.requires.kind c.args.slot.ordinal v row at found in
    let typed = tabled.member_typed b w i lt c.args.slot.ordinal row.entry v found m.typed in
    writes_as _ _ _ _ c.write_named.result (sym whole) (c.write_named.ensures v (record { shown = m.shown; typed = typed }))

pub write_member-returns : goal.write_member-returns
write_member-returns g t c v m =
    let b = c.args.table.now in
    let w = c.requires.well_formed in
    let i = c.args.slot.index in
    let lt = c.requires.index in
    let row = c.unwrap-row.result in
    let at = tabled.of_some (λ r. tables.IsRowAt b w i lt c.args.slot.ordinal r) c.member.result row c.unwrap-row.ensures c.member.ensures.row in
    let found = tabled.of_some (λ r. find (members_of b i) c.args.slot.ordinal ≡ Some (ty.named r.entry)) c.member.result row c.unwrap-row.ensures c.member.ensures.some in
    let whole = tables.member_whole b w i lt c.requires.kind c.args.slot.ordinal v row at found in
    let typed = tabled.member_typed b w i lt c.args.slot.ordinal row.entry v found m.typed in
    writes_as _ _ _ _ c.write_named-2.result (sym whole) (c.write_named-2.ensures v (record { shown = m.shown; typed = typed }))

pub write_slot-returns-in_err-write_comma-clause-text : goal.write_slot-returns-in_err-write_comma-clause-text
write_slot-returns-in_err-write_comma-clause-text g t c v p =
    let b = c.args.table.now in
    let w = c.requires.well_formed in
    let i = c.args.slot.index in
    let lt = c.requires.index in
    let is = c.requires.of_table in
    let f = c.in-Some.ensures.part v p.shown in
    let held = tabled.held_known b w i lt is c.args.view v p c.args.slot.ordinal f.0 f.1 in
    failed_as _ _ _ c.from_residual.result c.from_residual.ensures.0
    (front_as _ _ _ _ (ap (λ (o : Option Member). slot_text (declarations_of b) (members_of b i) c.args.later c.args.slot.ordinal o) (sym held)) (more_left _ _ _ (member_text (declarations_of b) (members_of b i) c.args.slot.ordinal (known f.0)) c.in_err-write_comma.ensures))

pub write_slot-write_member-requires : goal.write_slot-write_member-requires
write_slot-write_member-requires g t c κs within =
    let b = c.args.table.now in
    let w = c.requires.well_formed in
    let i = c.args.slot.index in
    let lt = c.requires.index in
    let is = c.requires.of_table in (
      omega (arith, c.decreases),
      (
        within,
        (
          ap (λ (s : Shown). s.table) c.in-Some.ensures.message ∙ c.requires.table,
          (
            w,
            (
              lt,
              (
                tabled.has_ordinals b w i lt Table refl is,
                ∥∥₁_map c.requires.part (λ q.
                    let v = q.0 in
                    let p = q.1 in
                    let b = c.args.table.now in
                    let w = c.requires.well_formed in
                    let i = c.args.slot.index in
                    let lt = c.requires.index in
                    let is = c.requires.of_table in
                    let f = c.in-Some.ensures.part v p.shown in
                    let held = tabled.held_known b w i lt is c.args.view v p c.args.slot.ordinal f.0 f.1 in
                    let typed = tabled.held_typed b w i lt is c.args.view v p c.args.slot.ordinal (known f.0) held in
                    let deep = tabled.held_depth b w i lt is c.args.view v p c.args.slot.ordinal (known f.0) c.args.slot.depth held (omega (arith, q.2)) in
                    (f.0, record { shown = f.2; typed = typed }, deep)),
              ),
            ),
          ),
        ),
      ),
    )

pub write_slot-returns-in_err-write_member-clause-text : goal.write_slot-returns-in_err-write_member-clause-text
write_slot-returns-in_err-write_member-clause-text g t c v p =
    let b = c.args.table.now in
    let w = c.requires.well_formed in
    let i = c.args.slot.index in
    let lt = c.requires.index in
    let is = c.requires.of_table in
    let f = c.in-Some.ensures.part v p.shown in
    let held = tabled.held_known b w i lt is c.args.view v p c.args.slot.ordinal f.0 f.1 in
    let typed = tabled.held_typed b w i lt is c.args.view v p c.args.slot.ordinal (known f.0) held in
    failed_as _ _ _ c.from_residual-in_err-write_member.result c.from_residual-in_err-write_member.ensures.0
    (front_as _ _ _ _ (ap (λ (o : Option Member). slot_text (declarations_of b) (members_of b i) c.args.later c.args.slot.ordinal o) (sym held)) (failed_then _ _ _ _ _ c.in_ok-write_comma.ensures (c.in_err-write_member.ensures f.0 (record { shown = f.2; typed = typed }))))

pub write_slot-returns-in-Some-clause-text : goal.write_slot-returns-in-Some-clause-text
write_slot-returns-in-Some-clause-text g t c v p =
    let b = c.args.table.now in
    let w = c.requires.well_formed in
    let i = c.args.slot.index in
    let lt = c.requires.index in
    let is = c.requires.of_table in
    let f = c.in-Some.ensures.part v p.shown in
    let held = tabled.held_known b w i lt is c.args.view v p c.args.slot.ordinal f.0 f.1 in
    let typed = tabled.held_typed b w i lt is c.args.view v p c.args.slot.ordinal (known f.0) held in
    takes_as _ _ _ _ (ap (λ (o : Option Member). slot_text (declarations_of b) (members_of b i) c.args.later c.args.slot.ordinal o) (sym held)) (takes_then _ _ _ _ _ c.in_ok-write_comma.ensures (c.in_ok-write_member.ensures f.0 (record { shown = f.2; typed = typed })))

pub write_slot-returns-in-Some-clause-later : goal.write_slot-returns-in-Some-clause-later
write_slot-returns-in-Some-clause-later g t c v p =
    let b = c.args.table.now in
    let w = c.requires.well_formed in
    let i = c.args.slot.index in
    let lt = c.requires.index in
    let is = c.requires.of_table in
    let f = c.in-Some.ensures.part v p.shown in
    let held = tabled.held_known b w i lt is c.args.view v p c.args.slot.ordinal f.0 f.1 in
    ap (λ (o : Option Member). later_behind c.args.later o) (sym held)

pub write_slot-returns-in_err-write_comma-2-clause-text : goal.write_slot-returns-in_err-write_comma-2-clause-text
write_slot-returns-in_err-write_comma-2-clause-text g t c v p =
    let b = c.args.table.now in
    let i = c.args.slot.index in
    let u = c.in-Some-unknown.member in
    let held = held.unknown_held (held_of v c.args.slot.ordinal) (unknown u.inline u.bytes.now u.handles.now) (c.in-Some-unknown.ensures v p.shown) in
    failed_as _ _ _ c.from_residual-in_err-write_comma-2.result c.from_residual-in_err-write_comma-2.ensures.0
    (front_as _ _ _ _ (ap (λ (o : Option Member). slot_text (declarations_of b) (members_of b i) c.args.later c.args.slot.ordinal o) (sym held))
    (more_left _ _ _ (member_text (declarations_of b) (members_of b i) c.args.slot.ordinal (unknown u.inline u.bytes.now u.handles.now))
    c.in_err-write_comma-2.ensures))

pub write_slot-returns-in_err-write_unknown-clause-text : goal.write_slot-returns-in_err-write_unknown-clause-text
write_slot-returns-in_err-write_unknown-clause-text g t c v p =
    let b = c.args.table.now in
    let i = c.args.slot.index in
    let u = c.in-Some-unknown.member in
    let held = held.unknown_held (held_of v c.args.slot.ordinal) (unknown u.inline u.bytes.now u.handles.now) (c.in-Some-unknown.ensures v p.shown) in
    failed_as _ _ _ c.from_residual-in_err-write_unknown.result c.from_residual-in_err-write_unknown.ensures.0
    (front_as _ _ _ _ (ap (λ (o : Option Member). slot_text (declarations_of b) (members_of b i) c.args.later c.args.slot.ordinal o) (sym held)) (failed_then _ _ _ _ _ c.in_ok-write_comma-2.ensures (c.in_err-write_unknown.ensures (declarations_of b) (members_of b i))))

pub write_slot-returns-in-Some-unknown-clause-text : goal.write_slot-returns-in-Some-unknown-clause-text
write_slot-returns-in-Some-unknown-clause-text g t c v p =
    let b = c.args.table.now in
    let i = c.args.slot.index in
    let u = c.in-Some-unknown.member in
    let held = held.unknown_held (held_of v c.args.slot.ordinal) (unknown u.inline u.bytes.now u.handles.now) (c.in-Some-unknown.ensures v p.shown) in
    takes_as _ _ _ _ (ap (λ (o : Option Member). slot_text (declarations_of b) (members_of b i) c.args.later c.args.slot.ordinal o) (sym held)) (takes_then _ _ _ _ _ c.in_ok-write_comma-2.ensures (c.in_ok-write_unknown.ensures (declarations_of b) (members_of b i)))

pub write_slot-returns-in-Some-unknown-clause-later : goal.write_slot-returns-in-Some-unknown-clause-later
write_slot-returns-in-Some-unknown-clause-later g t c v p =
    let b = c.args.table.now in
    let i = c.args.slot.index in
    let u = c.in-Some-unknown.member in
    let held = held.unknown_held (held_of v c.args.slot.ordinal) (unknown u.inline u.bytes.now u.handles.now) (c.in-Some-unknown.ensures v p.shown) in
    ap (λ (o : Option Member). later_behind c.args.later o) (sym held)

pub write_slot-returns-clause-text : goal.write_slot-returns-clause-text
write_slot-returns-clause-text g t c v p =
    let b = c.args.table.now in
    let i = c.args.slot.index in
    let held = tabled.held_none b c.requires.well_formed i c.requires.index c.requires.of_table c.args.view v p c.args.slot.ordinal (c.in_default.ensures.part v p.shown) (c.in_default-unknown.ensures v p.shown) in
    takes_as _ _ _ _ (ap (λ (o : Option Member). slot_text (declarations_of b) (members_of b i) c.args.later c.args.slot.ordinal o) (sym held)) (takes_none _)

pub write_slot-returns-clause-later : goal.write_slot-returns-clause-later
write_slot-returns-clause-later g t c v p =
    let b = c.args.table.now in
    let i = c.args.slot.index in
    let held = tabled.held_none b c.requires.well_formed i c.requires.index c.requires.of_table c.args.view v p c.args.slot.ordinal (c.in_default.ensures.part v p.shown) (c.in_default-unknown.ensures v p.shown) in
    ap (λ (o : Option Member). later_behind c.args.later o) (sym held)

pub write_table-unwrap-count-requires : goal.write_table-unwrap-count-requires
write_table-unwrap-count-requires g t c = ∥∥₁_elim c.requires.part (is_some_prop _) (λ q.
    let v = q.0 in
    let p = q.1 in
    let f = tabled.as_table c.args.table.now c.requires.well_formed c.args.index c.requires.index c.requires.of_table c.args.view v p in
    subst (λ (o : Option ℕ). IsSome o) (sym (c.len.ensures v p.shown ∙ ap (λ (u : Value). length_of u) f.2)) refl)

pub write_table-returns-in_err-write_all : goal.write_table-returns-in_err-write_all
write_table-returns-in_err-write_all g t c v p =
    failed_as _ _ _ c.from_residual.result c.from_residual.ensures.0
    (tables.head_failed c.args.table.now c.requires.well_formed c.args.index c.requires.index c.requires.of_table c.args.view
    (g.W.Sink.taken c.args.out.now) _ c.unwrap-count.result (λ v p. sym c.unwrap-count.ensures ∙ c.len.ensures v p.shown)
    (more_left _ _ _ (codes ") {") (more_left _ _ _ (decimal c.unwrap-count.result) c.in_err-write_all.ensures)) v p)

pub write_table-returns-in_err-write_decimal : goal.write_table-returns-in_err-write_decimal
write_table-returns-in_err-write_decimal g t c v p =
    failed_as _ _ _ c.from_residual-in_err-write_decimal.result c.from_residual-in_err-write_decimal.ensures.0
    (tables.head_failed c.args.table.now c.requires.well_formed c.args.index c.requires.index c.requires.of_table c.args.view
    (g.W.Sink.taken c.args.out.now) _ c.unwrap-count.result (λ v p. sym c.unwrap-count.ensures ∙ c.len.ensures v p.shown)
    (more_left _ _ _ (codes ") {") (failed_then _ _ _ _ _ c.in_ok-write_all.ensures c.in_err-write_decimal.ensures)) v p)

pub write_table-returns-in_err-write_all-2 : goal.write_table-returns-in_err-write_all-2
write_table-returns-in_err-write_all-2 g t c v p =
    failed_as _ _ _ c.from_residual-in_err-write_all-2.result c.from_residual-in_err-write_all-2.ensures.0
    (tables.head_failed c.args.table.now c.requires.well_formed c.args.index c.requires.index c.requires.of_table c.args.view
    (g.W.Sink.taken c.args.out.now) _ c.unwrap-count.result (λ v p. sym c.unwrap-count.ensures ∙ c.len.ensures v p.shown)
    (failed_then _ _ _ _ _ (takes_then _ _ _ _ _ c.in_ok-write_all.ensures c.in_ok-write_decimal.ensures) c.in_err-write_all-2.ensures) v p)

pub write_table-loop-at-init : goal.write_table-loop-at-init
write_table-loop-at-init g t c =
    tables.table_begin c.args.table.now c.requires.well_formed c.args.index c.requires.index c.requires.of_table c.args.view
    (g.W.Sink.taken c.args.out.now) _ c.unwrap-count.result (λ v p. sym c.unwrap-count.ensures ∙ c.len.ensures v p.shown)
    (takes_then _ _ _ _ _ (takes_then _ _ _ _ _ c.in_ok-write_all.ensures c.in_ok-write_decimal.ensures) c.in_ok-write_all-2.ensures)

pub write_table-overflow_sub-slot : goal.write_table-overflow_sub-slot
write_table-overflow_sub-slot g t c = ∥∥₁_elim c.requires.part le_prop (λ q.
    let v = q.0 in
    let p = q.1 in
    let deep = tabled.some_depth c.args.table.now c.requires.well_formed c.args.index c.requires.index c.requires.of_table c.args.view v p c.args.depth q.2 in
    omega (arith, deep))

pub write_table-write_slot-requires : goal.write_table-write_slot-requires
write_table-write_slot-requires g t c κs within = (
  ∥∥₁_elim c.requires.part le_prop (λ q.
      let v = q.0 in
      let p = q.1 in
      let deep = tabled.some_depth c.args.table.now c.requires.well_formed c.args.index c.requires.index c.requires.of_table c.args.view v p c.args.depth q.2 in
      omega (arith, c.decreases, deep)),
  (
    within,
    (
      c.requires.table,
      (
        c.requires.well_formed,
        (
          c.requires.index,
          (
            c.requires.of_table,
            ∥∥₁_map c.requires.part (λ q.
                let v = q.0 in
                let p = q.1 in
                let deep = tabled.some_depth c.args.table.now c.requires.well_formed c.args.index c.requires.index c.requires.of_table c.args.view v p c.args.depth q.2 in
                (v, p, omega (arith, deep, q.2))),
          ),
        ),
      ),
    ),
  ),
)

pub write_table-returns-in_err-later : goal.write_table-returns-in_err-later
write_table-returns-in_err-later g t c v p =
    failed_as _ _ _ c.from_residual-in_err-later.result c.from_residual-in_err-later.ensures.0
    (tables.table_failed c.args.table.now c.requires.well_formed c.args.index c.requires.index c.requires.of_table c.args.view (g.W.Sink.taken c.args.out.now) _ _ c.loop-at.at (c.loop-at.at + 1) c.loop-at.later (omega arith) c.loop-at.invariant v p (c.in_err-later.ensures.text v p))

pub write_table-loop-at-preserved : goal.write_table-loop-at-preserved
write_table-loop-at-preserved g t c =
    tables.table_next c.args.table.now c.requires.well_formed c.args.index c.requires.index c.requires.of_table c.args.view (g.W.Sink.taken c.args.out.now) _ _ c.loop-at.at (c.loop-at.at + 1) c.loop-at.later _ (omega arith) c.loop-at.invariant c.in_ok-later.ensures.text c.in_ok-later.ensures.later

pub write_table-returns : goal.write_table-returns
write_table-returns g t c v p =
    so_far_written _ _ _ _ _ c.write_all-3.result
    (tables.table_end c.args.table.now c.requires.well_formed c.args.index c.requires.index c.requires.of_table c.args.view (g.W.Sink.taken c.args.out.now) _ c.loop-at.at c.loop-at.later c.loop-at.invariant v p
    (λ n ms e. let same = listed.some_same c.unwrap-count.result n (sym c.unwrap-count.ensures ∙ c.len.ensures v p.shown ∙ ap (λ (u : Value). length_of u) e) in omega (arith, c.loop-at-test.false, c.loop-at.auto.at-end, same)))
    c.write_all-3.ensures

pub write_union-returns-in_default : goal.write_union-returns-in_default
write_union-returns-in_default g t c v p =
    writes_as _ _ _ _ c.write_all.result (sym (tables.union_absent c.args.table.now c.requires.well_formed c.args.index c.requires.index c.requires.of_union c.args.view v p (c.in_default.ensures.part v p.shown))) c.write_all.ensures

pub write_union-returns-in_err-write_all : goal.write_union-returns-in_err-write_all
write_union-returns-in_err-write_all g t c v p =
    let f = c.in-Some.ensures.part v p.shown in
    let own = tabled.union_is c.args.table.now c.requires.well_formed c.args.index c.requires.index c.requires.of_union c.args.view v p c.in-Some.ordinal f.0 f.1 in
    let whole = tables.union_text c.args.table.now c.requires.well_formed c.args.index c.requires.index c.requires.of_union c.args.view v p c.in-Some.ordinal f.0 f.1 in
    failed_as _ _ _ c.from_residual.result c.from_residual.ensures.0
    (front_as _ _ _ _ (sym whole) (more_left _ _ _ (codes ")") (more_left _ _ _ (member_text (declarations_of c.args.table.now) (members_of c.args.table.now c.args.index) c.in-Some.ordinal f.0) c.in_err-write_all.ensures)))

pub write_union-write_member-requires : goal.write_union-write_member-requires
write_union-write_member-requires g t c κs within =
    let b = c.args.table.now in
    let w = c.requires.well_formed in
    let i = c.args.index in
    let lt = c.requires.index in
    let message = subst (λ (o : Option View). IfSome o (λ part. part.decoded.now ≡ c.args.view.decoded.now)) c.in-Some-known.is c.in-Some.ensures.message in (
      omega (arith, c.decreases),
      (
        within,
        (
          ap (λ (s : Shown). s.table) message ∙ c.requires.table,
          (
            w,
            (
              lt,
              (
                tabled.has_ordinals b w i lt Union refl c.requires.of_union,
                ∥∥₁_map c.requires.part (λ q.
                    let v = q.0 in
                    let p = q.1 in
                    let f = c.in-Some.ensures.part v p.shown in
                    let own = tabled.union_is c.args.table.now c.requires.well_formed c.args.index c.requires.index c.requires.of_union c.args.view v p c.in-Some.ordinal f.0 f.1 in
                    let whole = tables.union_text c.args.table.now c.requires.well_formed c.args.index c.requires.index c.requires.of_union c.args.view v p c.in-Some.ordinal f.0 f.1 in
                    let k = subst (λ (o : Option View). ShowsKnown o f.0) c.in-Some-known.is f.2 in
                    let same = tabled.known_is f.0 k.0 k.1 in
                    let message = subst (λ (o : Option View). IfSome o (λ part. part.decoded.now ≡ c.args.view.decoded.now)) c.in-Some-known.is c.in-Some.ensures.message in
                    let all : member_depth (declarations_of b) (find (members_of b i) c.in-Some.ordinal) f.0 ≤ c.args.depth = let whole = own.deep in omega (arith, whole, q.2) in
                    let deep = subst (λ (x : Member). member_depth (declarations_of b) (find (members_of b i) c.in-Some.ordinal) x ≤ c.args.depth) same all in
                    (k.0, record { shown = k.2; typed = own.typed k.0 same }, deep)),
              ),
            ),
          ),
        ),
      ),
    )

pub write_union-returns-in_err-write_member : goal.write_union-returns-in_err-write_member
write_union-returns-in_err-write_member g t c v p =
    let f = c.in-Some.ensures.part v p.shown in
    let own = tabled.union_is c.args.table.now c.requires.well_formed c.args.index c.requires.index c.requires.of_union c.args.view v p c.in-Some.ordinal f.0 f.1 in
    let whole = tables.union_text c.args.table.now c.requires.well_formed c.args.index c.requires.index c.requires.of_union c.args.view v p c.in-Some.ordinal f.0 f.1 in
    let k = subst (λ (o : Option View). ShowsKnown o f.0) c.in-Some-known.is f.2 in
    let same = tabled.known_is f.0 k.0 k.1 in
    failed_as _ _ _ c.from_residual-in_err-write_member.result c.from_residual-in_err-write_member.ensures.0
    (front_as _ _ _ _ (sym whole) (more_left _ _ _ (codes ")") (failed_then _ _ _ _ _ c.in_ok-write_all.ensures
    (front_as _ _ _ _ (ap (λ (x : Member). member_text (declarations_of c.args.table.now) (members_of c.args.table.now c.args.index)
    c.in-Some.ordinal x) (sym same)) (c.in_err-write_member.ensures k.0 (record { shown = k.2; typed = own.typed k.0 same }))))))

pub write_union-returns-in-Some-known : goal.write_union-returns-in-Some-known
write_union-returns-in-Some-known g t c v p =
    let f = c.in-Some.ensures.part v p.shown in
    let own = tabled.union_is c.args.table.now c.requires.well_formed c.args.index c.requires.index c.requires.of_union c.args.view v p c.in-Some.ordinal f.0 f.1 in
    let whole = tables.union_text c.args.table.now c.requires.well_formed c.args.index c.requires.index c.requires.of_union c.args.view v p c.in-Some.ordinal f.0 f.1 in
    let k = subst (λ (o : Option View). ShowsKnown o f.0) c.in-Some-known.is f.2 in
    let same = tabled.known_is f.0 k.0 k.1 in
    writes_as _ _ _ _ c.write_all-in-Some-known.result (sym whole)
    (writes_then _ _ _ _ _ c.write_all-in-Some-known.result (takes_then _ _ _ _ _ c.in_ok-write_all.ensures
    (takes_as _ _ _ _ (ap (λ (x : Member). member_text (declarations_of c.args.table.now) (members_of c.args.table.now c.args.index)
    c.in-Some.ordinal x) (sym same)) (c.in_ok-write_member.ensures k.0 (record { shown = k.2; typed = own.typed k.0 same }))))
    c.write_all-in-Some-known.ensures)

pub write_union-unwrap-member-requires : goal.write_union-unwrap-member-requires
write_union-unwrap-member-requires g t c = ∥∥₁_elim c.requires.part (is_some_prop _) (λ q.
    let v = q.0 in
    let p = q.1 in
    let f = c.in-Some.ensures.part v p.shown in
    let none = subst (λ (o : Option View). ShowsKnown o f.0) c.in_default-known.is f.2 in
    tabled.unknown_there c.unknown.result v c.in-Some.ordinal f.0 f.1 none (c.unknown.ensures v p.shown))

pub write_union-returns-in_err-write_unknown : goal.write_union-returns-in_err-write_unknown
write_union-returns-in_err-write_unknown g t c v p =
    let f = c.in-Some.ensures.part v p.shown in
    let own = tabled.union_is c.args.table.now c.requires.well_formed c.args.index c.requires.index c.requires.of_union c.args.view v p c.in-Some.ordinal f.0 f.1 in
    let whole = tables.union_text c.args.table.now c.requires.well_formed c.args.index c.requires.index c.requires.of_union c.args.view v p c.in-Some.ordinal f.0 f.1 in
    let none = subst (λ (o : Option View). ShowsKnown o f.0) c.in_default-known.is f.2 in
    let u = c.unwrap-member.result in
    let same = tabled.unknown_same c.unknown.result u v c.in-Some.ordinal f.0 f.1 none c.unwrap-member.ensures (c.unknown.ensures v p.shown) in
    failed_as _ _ _ c.from_residual-in_err-write_unknown.result c.from_residual-in_err-write_unknown.ensures.0
    (front_as _ _ _ _ (sym whole) (more_left _ _ _ (codes ")") (failed_then _ _ _ _ _ c.in_ok-write_all.ensures
    (front_as _ _ _ _ (ap (λ (x : Member). member_text (declarations_of c.args.table.now) (members_of c.args.table.now c.args.index)
    c.in-Some.ordinal x) (sym same)) (c.in_err-write_unknown.ensures (declarations_of c.args.table.now)
    (members_of c.args.table.now c.args.index))))))

pub write_union-returns : goal.write_union-returns
write_union-returns g t c v p =
    let f = c.in-Some.ensures.part v p.shown in
    let own = tabled.union_is c.args.table.now c.requires.well_formed c.args.index c.requires.index c.requires.of_union c.args.view v p c.in-Some.ordinal f.0 f.1 in
    let whole = tables.union_text c.args.table.now c.requires.well_formed c.args.index c.requires.index c.requires.of_union c.args.view v p c.in-Some.ordinal f.0 f.1 in
    let none = subst (λ (o : Option View). ShowsKnown o f.0) c.in_default-known.is f.2 in
    let u = c.unwrap-member.result in
    let same = tabled.unknown_same c.unknown.result u v c.in-Some.ordinal f.0 f.1 none c.unwrap-member.ensures (c.unknown.ensures v p.shown) in
    writes_as _ _ _ _ c.write_all-3.result (sym whole)
    (writes_then _ _ _ _ _ c.write_all-3.result (takes_then _ _ _ _ _ c.in_ok-write_all.ensures
    (takes_as _ _ _ _ (ap (λ (x : Member). member_text (declarations_of c.args.table.now) (members_of c.args.table.now c.args.index)
    c.in-Some.ordinal x) (sym same)) (c.in_ok-write_unknown.ensures (declarations_of c.args.table.now)
    (members_of c.args.table.now c.args.index)))) c.write_all-3.ensures)

pub write_value-write_table-requires : goal.write_value-write_table-requires
write_value-write_table-requires g t c κs within =
    let b = c.args.table.now in
    let w = c.entry-entry.ensures.well_formed in
    let is : IsOf Table (entry_at b c.args.index) = sym (c.from_number.ensures ∙ ap (λ (e : Entry). kind_of e.kind) c.entry-entry.ensures.value) ∙ c.unwrap-kind.ensures ∙ ap (λ (k : EntryKind). Some k) c.in-Table.is in (
      omega (arith, c.decreases),
      (within, (c.requires.table, (w, (c.requires.index, (is, c.requires.part))))),
    )

pub write_value-write_union-requires : goal.write_value-write_union-requires
write_value-write_union-requires g t c κs within =
    let b = c.args.table.now in
    let w = c.entry-entry.ensures.well_formed in
    let is : IsOf Union (entry_at b c.args.index) = sym (c.from_number.ensures ∙ ap (λ (e : Entry). kind_of e.kind) c.entry-entry.ensures.value) ∙ c.unwrap-kind.ensures ∙ ap (λ (k : EntryKind). Some k) c.in-Union.is in
    let size = tabled.union_size b w c.args.index c.requires.index is in (
      omega (arith, c.decreases, size),
      (within, (c.requires.table, (w, (c.requires.index, (is, c.requires.part))))),
    )

pub write_value-returns-in-Table : goal.write_value-returns-in-Table
write_value-returns-in-Table g t c = c.write_table.ensures

pub write_value-returns-in-Union : goal.write_value-returns-in-Union
write_value-returns-in-Union g t c = c.write_union.ensures
