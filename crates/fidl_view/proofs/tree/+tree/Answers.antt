use Rattle.std.proofs.Common.{◌≡◌, ℕ, ◌+◌, ◌<◌, ◌≤◌, List, refl, sym, ap, subst, ◌∙◌, arith}
use Rattle.std.specs.Prelude.{Option, Some, IsSome, IfSome}
use Rattle.std.proofs.Math.Logic.{∥∥₁_map, ∥∥₁_elim}
use Rattle.std.proofs.Math.Bridge.{le_prop}
use Rattle.fidl_wire.specs.Term.{Term, resolve, find}
use Rattle.fidl_wire.specs.Term as ty
use Rattle.fidl_wire.specs.Value.{Value, Values, list, fields, table, Member, Members, known, unknown}
use Rattle.fidl_wire.specs.Views.{members_view}
use Rattle.fidl_wire.specs.Typed.{IsTyped}
use Rattle.fidl_wire.specs.Depth.{depth_of, fields_depth, member_depth}
use Rattle.fidl_table_format.specs.declared.record.Entry.{Entry}
use Rattle.fidl_table_format.specs.declared.record.Row.{Row}
use Rattle.fidl_table_format.specs.declared.kind.EntryKind.{EntryKind}
use Rattle.fidl_table_format.specs.declared.kind.EntryKind.TheVariants.{Bool as Boolean, String, Vector, Array, Box, Struct, Table, Union, Handle}
use Rattle.fidl_table_format.specs.Kind.{kind_of}
use Rattle.fidl_table_format.specs.Section.{header_of, entry_at, row_at}
use Rattle.fidl_table_format.specs.Terms.{declarations_of, members_of, term_as, is_optional}
use Rattle.fidl_table_format.specs.Entry.{IsOf}
use Rattle.fidl_table_format.specs.WellFormed.{WellFormed}
use Rattle.fidl_decode_model.specs.Model.{Shown}
use Rattle.fidl_view.specs.declared.view.View.{View}
use Rattle.fidl_view.specs.Parts.{element_of, field_of, held_of, length_of}
use Rattle.fidl_view.specs.Views.{ShowsKnown}
use Rattle.fidl_view.specs.Within.{IsValueOf}
use Rattle.fidl_view.proofs.Truncated.{is_some_prop}
use Rattle.fidl_view.proofs.Listed as listed
use Rattle.fidl_view.proofs.Listed.{part_as}
use Rattle.fidl_view.proofs.Entered as facts
use Rattle.fidl_view.proofs.Tabled as tabled
use Rattle.fidl_view.proofs.Held as held
use Rattle.fidl_view.proofs.Growing as growing
use Rattle.fidl_view.proofs.Owned as trees
use Rattle.fidl_view.proofs.tree.+tree.Goals as goal

pub elements_tree-unwrap-count-requires : goal.elements_tree-unwrap-count-requires
elements_tree-unwrap-count-requires t c = ∥∥₁_elim c.requires.part (is_some_prop _) (λ q. subst (λ (o : Option ℕ). IsSome o) (sym (c.len.ensures (list q.1) q.2.part.shown)) refl)

pub elements_tree-unwrap-part-requires : goal.elements_tree-unwrap-part-requires
elements_tree-unwrap-part-requires t c = ∥∥₁_elim c.requires.part (is_some_prop _) (λ q.
    let b = c.args.table.now in
    let vs = q.1 in
    let p = q.2 in
    let size = listed.list_count b c.args.element c.args.view q.0 vs p c.len.result c.unwrap-count.result (c.len.ensures (list vs) p.part.shown) c.unwrap-count.ensures in
    let x = listed.nth_there vs c.loop-at.at (omega (arith, c.loop-at-test.true, size)) in
    listed.part_some c.args.view.decoded.now (element_of (list vs) c.loop-at.at) x.0 c.element.result x.1 (c.element.ensures.part (list vs) p.part.shown))

pub elements_tree-value_tree-requires : goal.elements_tree-value_tree-requires
elements_tree-value_tree-requires t c =
    let b = c.args.table.now in
    let d = c.args.view.decoded.now in
    let message = listed.same_message d c.element.result c.unwrap-part.result c.unwrap-part.ensures c.element.ensures.message in (
      omega (arith, c.decreases),
      (
        ap (λ (s : Shown). s.table) message ∙ c.requires.table,
        (
          c.requires.element,
          ∥∥₁_map c.requires.part (λ q.
              let vs = q.1 in
              let p = q.2 in
              let x = listed.part_shown d (element_of (list vs) c.loop-at.at) c.element.result c.unwrap-part.result c.unwrap-part.ensures (c.element.ensures.part (list vs) p.part.shown) in
              let typed = listed.list_nth b c.args.element c.args.view q.0 vs p c.loop-at.at x.0 x.1 in
              let deep = listed.nth_depth (declarations_of b) (resolve (declarations_of b).terms (ty.named c.args.element)) vs c.loop-at.at x.0 x.1 in
              let message = listed.same_message d c.element.result c.unwrap-part.result c.unwrap-part.ensures c.element.ensures.message in
              (x.0, record { shown = x.2; typed = typed }, omega (arith, deep, q.3))),
        ),
      ),
    )

pub members_tree-overflow_add-entry : goal.members_tree-overflow_add-entry
members_tree-overflow_add-entry t c =
    let counted = ap (λ (e : Entry). e.count) c.entry-entry.ensures.value in
    let begun = ap (λ (e : Entry). e.first) c.entry-entry.ensures.value in
    let inside = facts.row_lt c.args.table.now c.entry-entry.ensures.well_formed c.args.index c.requires.index c.requires.of_struct c.loop-at.at (omega (arith, c.loop-at-test.true, counted)) in
    record { fits = omega (arith, inside, begun, c.rows-rows.ensures.value) }

pub members_tree-row-row-requires : goal.members_tree-row-row-requires
members_tree-row-row-requires t c =
    let counted = ap (λ (e : Entry). e.count) c.entry-entry.ensures.value in
    let begun = ap (λ (e : Entry). e.first) c.entry-entry.ensures.value in
    let inside = facts.row_lt c.args.table.now c.entry-entry.ensures.well_formed c.args.index c.requires.index c.requires.of_struct c.loop-at.at (omega (arith, c.loop-at-test.true, counted)) in
    subst (λ k. k + c.loop-at.at < (header_of c.args.table.now).rows) (sym begun) inside

pub members_tree-unwrap-part-requires : goal.members_tree-unwrap-part-requires
members_tree-unwrap-part-requires t c = ∥∥₁_elim c.requires.part (is_some_prop _) (λ q.
    let n = q.0 in
    let vs = q.1 in
    let p = q.2 in
    let counted = ap (λ (e : Entry). e.count) c.entry-entry.ensures.value in
    let x = facts.member_there c.args.table.now c.entry-entry.ensures.well_formed c.args.index c.requires.index c.args.view n vs p c.loop-at.at (omega (arith, c.loop-at-test.true, counted)) in
    listed.part_some c.args.view.decoded.now (field_of (fields vs) c.loop-at.at) x.0 c.field.result x.1 (c.field.ensures.part (fields vs) p.part.shown))

pub members_tree-value_tree-requires : goal.members_tree-value_tree-requires
members_tree-value_tree-requires t c =
    let b = c.args.table.now in
    let w = c.entry-entry.ensures.well_formed in
    let i = c.args.index in
    let lt = c.requires.index in
    let is = c.requires.of_struct in
    let d = c.args.view.decoded.now in
    let counted = ap (λ (e : Entry). e.count) c.entry-entry.ensures.value in
    let begun = ap (λ (e : Entry). e.first) c.entry-entry.ensures.value in
    let less : c.loop-at.at < (entry_at b i).count = omega (arith, c.loop-at-test.true, counted) in
    let here : c.row-row.result ≡ row_at b (header_of b) ((entry_at b i).first + c.loop-at.at) = c.row-row.ensures.value ∙ ap (λ k. row_at b (header_of b) (k + c.loop-at.at)) begun in
    let entered : c.row-row.result.entry ≡ (row_at b (header_of b) ((entry_at b i).first + c.loop-at.at)).entry = ap (λ (r : Row). r.entry) here in
    let message = listed.same_message d c.field.result c.unwrap-part.result c.unwrap-part.ensures c.field.ensures.message in
    let nest = facts.member_less b w i lt is c.loop-at.at less in
    let lower : (entry_at b c.row-row.result.entry).nest < (entry_at b i).nest = subst (λ k. (entry_at b k).nest < (entry_at b i).nest) (sym entered) nest in
    let fits : (entry_at b c.row-row.result.entry).size ≤ (entry_at b i).size = subst (λ k. (entry_at b k).size ≤ (entry_at b i).size) (sym entered) (facts.member_fits b w i lt is c.loop-at.at less) in (
      omega (arith, c.decreases, lower, fits),
      (
        ap (λ (s : Shown). s.table) message ∙ c.requires.table,
        (
          c.row-row.ensures.entry,
          ∥∥₁_map c.requires.part (λ q.
              let n = q.0 in
              let vs = q.1 in
              let p = q.2 in
              let x = listed.part_shown d (field_of (fields vs) c.loop-at.at) c.field.result c.unwrap-part.result c.unwrap-part.ensures (c.field.ensures.part (fields vs) p.part.shown) in
              let typed = facts.member_typed b w i lt c.args.view n vs p c.loop-at.at less x.0 x.1 in
              let deep : depth_of (declarations_of b) (resolve (declarations_of b).terms (ty.named c.row-row.result.entry)) x.0 ≤ fields_depth (declarations_of b) (facts.members_at b w i lt) vs =
              subst (λ k. depth_of (declarations_of b) (resolve (declarations_of b).terms (ty.named k)) x.0 ≤ fields_depth (declarations_of b) (facts.members_at b w i lt) vs) (sym entered) (facts.member_depth b w i lt c.args.view n vs p c.loop-at.at less x.0 x.1) in (
                x.0,
                record {
                  shown = x.2;
                  typed = subst (λ k. IsTyped (declarations_of b) (resolve (declarations_of b).terms (ty.named k)) x.0) (sym entered) typed;
                },
                omega (arith, deep, q.3),
              )),
        ),
      ),
    )

pub value_tree-unwrap-kind-requires : goal.value_tree-unwrap-kind-requires
value_tree-unwrap-kind-requires t c =
    let k = facts.kind_at c.args.table.now c.entry-entry.ensures.well_formed c.args.index c.requires.index in
    subst (λ (o : Option EntryKind). IsSome o) (sym (c.from_number.ensures ∙ ap (λ (e : Entry). kind_of e.kind) c.entry-entry.ensures.value ∙ k.1)) refl

pub value_tree-bool_tree-requires : goal.value_tree-bool_tree-requires
value_tree-bool_tree-requires t c =
    let b = c.args.table.now in
    let is : IsOf Boolean (entry_at b c.args.index) = sym (c.from_number.ensures ∙ ap (λ (e : Entry). kind_of e.kind) c.entry-entry.ensures.value) ∙ c.unwrap-kind.ensures ∙ ap (λ (k : EntryKind). Some k) c.in-Bool.is in
    ∥∥₁_map c.requires.part (λ q. (declarations_of b, (q.0, part_as _ _ _ _ _ (facts.term_at b c.entry-entry.ensures.well_formed c.args.index c.requires.index Boolean is) q.1)))

pub value_tree-elements_tree-requires : goal.value_tree-elements_tree-requires
value_tree-elements_tree-requires t c =
    let b = c.args.table.now in
    let w = c.entry-entry.ensures.well_formed in
    let i = c.args.index in
    let lt = c.requires.index in
    let is : IsOf Array (entry_at b i) = sym (c.from_number.ensures ∙ ap (λ (e : Entry). kind_of e.kind) c.entry-entry.ensures.value) ∙ c.unwrap-kind.ensures ∙ ap (λ (k : EntryKind). Some k) c.in-Array.is in
    let begun = ap (λ (e : Entry). e.first) c.entry-entry.ensures.value in
    let e = facts.term_at b w i lt Array is ∙ ap (λ k. ty.array (ty.named k) (entry_at b i).count) (sym begun) in
    let lower : (entry_at b c.entry-entry.result.first).nest < (entry_at b i).nest = subst (λ k. (entry_at b k).nest < (entry_at b i).nest) (sym begun) (facts.element_less b w i lt is) in
    let fits : (entry_at b c.entry-entry.result.first).size ≤ (entry_at b i).size = subst (λ k. (entry_at b k).size ≤ (entry_at b i).size) (sym begun) (facts.element_fits b w i lt is) in
    let inside = subst (λ k. k < (header_of b).entries) (sym begun) (facts.element_lt b w i lt is) in (
      omega (arith, c.decreases, lower, fits),
      (
        c.requires.table,
        (
          inside,
          ∥∥₁_map c.requires.part (λ q.
              let x = listed.elements_of_array b c.entry-entry.result.first (entry_at b i).count (resolve (declarations_of b).terms (ty.named i)) c.args.view q.0 e q.1 in
              let lower : (entry_at b c.entry-entry.result.first).nest < (entry_at b i).nest = subst (λ k. (entry_at b k).nest < (entry_at b i).nest) (sym begun) (facts.element_less b w i lt is) in
              let fits : (entry_at b c.entry-entry.result.first).size ≤ (entry_at b i).size = subst (λ k. (entry_at b k).size ≤ (entry_at b i).size) (sym begun) (facts.element_fits b w i lt is) in
              let inside = subst (λ k. k < (header_of b).entries) (sym begun) (facts.element_lt b w i lt is) in
              (ty.array (ty.named c.entry-entry.result.first) (entry_at b i).count, x.0, x.2, omega (arith, x.3, q.2))),
        ),
      ),
    )

pub value_tree-vector_tree-requires : goal.value_tree-vector_tree-requires
value_tree-vector_tree-requires t c =
    let b = c.args.table.now in
    let w = c.entry-entry.ensures.well_formed in
    let i = c.args.index in
    let lt = c.requires.index in
    let is : IsOf Vector (entry_at b i) = sym (c.from_number.ensures ∙ ap (λ (e : Entry). kind_of e.kind) c.entry-entry.ensures.value) ∙ c.unwrap-kind.ensures ∙ ap (λ (k : EntryKind). Some k) c.in-Vector.is in
    let begun = ap (λ (e : Entry). e.first) c.entry-entry.ensures.value in
    let e = facts.term_at b w i lt Vector is ∙ ap (λ k. ty.vector (is_optional (entry_at b i)) (entry_at b i).bound (ty.named k)) (sym begun) in
    let inside = subst (λ k. k < (header_of b).entries) (sym begun) (facts.vector_lt b w i lt is) in (
      omega (arith, c.decreases),
      (
        c.requires.table,
        (
          inside,
          (
            w,
            ∥∥₁_map c.requires.part (λ q.
                let v = q.0 in
                let inside = subst (λ k. k < (header_of b).entries) (sym begun) (facts.vector_lt b w i lt is) in
                let deep = subst (λ (u : Term). depth_of (declarations_of b) u v ≤ c.args.depth) e q.2 in
                (is_optional (entry_at b i), (entry_at b i).bound, (v, part_as _ _ _ _ _ e q.1, deep))),
          ),
        ),
      ),
    )

pub value_tree-members_tree-requires : goal.value_tree-members_tree-requires
value_tree-members_tree-requires t c =
    let b = c.args.table.now in
    let w = c.entry-entry.ensures.well_formed in
    let i = c.args.index in
    let lt = c.requires.index in
    let is : IsOf Struct (entry_at b i) = sym (c.from_number.ensures ∙ ap (λ (e : Entry). kind_of e.kind) c.entry-entry.ensures.value) ∙ c.unwrap-kind.ensures ∙ ap (λ (k : EntryKind). Some k) c.in-Struct.is in (
      omega (arith, c.decreases),
      (
        c.requires.table,
        (
          lt,
          (
            is,
            ∥∥₁_map c.requires.part (λ q.
                let x = facts.members_of_struct b w i lt is c.args.view q.0 q.1 in
                ((resolve (declarations_of b).terms (ty.named i)), x.0, x.2, omega (arith, x.3, q.2))),
          ),
        ),
      ),
    )

pub value_tree-box_tree-requires : goal.value_tree-box_tree-requires
value_tree-box_tree-requires t c =
    let b = c.args.table.now in
    let w = c.entry-entry.ensures.well_formed in
    let i = c.args.index in
    let lt = c.requires.index in
    let is : IsOf Box (entry_at b i) = sym (c.from_number.ensures ∙ ap (λ (e : Entry). kind_of e.kind) c.entry-entry.ensures.value) ∙ c.unwrap-kind.ensures ∙ ap (λ (k : EntryKind). Some k) c.in-Box.is in
    let begun = ap (λ (e : Entry). e.first) c.entry-entry.ensures.value in
    let e = facts.term_at b w i lt Box is ∙ ap (λ k. ty.box (ty.named k)) (sym begun) in
    let inside = subst (λ k. k < (header_of b).entries) (sym begun) (facts.box_lt b w i lt is) in
    let of = subst (λ k. IsOf Struct (entry_at b k)) (sym begun) (facts.box_struct b w i lt is) in (
      omega (arith, c.decreases),
      (
        w,
        (
          c.requires.table,
          (
            inside,
            (
              of,
              ∥∥₁_map c.requires.part (λ q.
                  let v = q.0 in
                  let inside = subst (λ k. k < (header_of b).entries) (sym begun) (facts.box_lt b w i lt is) in
                  let of = subst (λ k. IsOf Struct (entry_at b k)) (sym begun) (facts.box_struct b w i lt is) in
                  let deep = subst (λ (u : Term). depth_of (declarations_of b) u v ≤ c.args.depth) e q.2 in
                  (v, part_as _ _ _ _ _ e q.1, deep)),
            ),
          ),
        ),
      ),
    )

pub value_tree-number_tree-requires : goal.value_tree-number_tree-requires
value_tree-number_tree-requires t c =
    let b = c.args.table.now in
    let w = c.entry-entry.ensures.well_formed in
    let i = c.args.index in
    let lt = c.requires.index in
    let is : IsOf c.unwrap-kind.result (entry_at b i) = sym (c.from_number.ensures ∙ ap (λ (e : Entry). kind_of e.kind) c.entry-entry.ensures.value) ∙ c.unwrap-kind.ensures in
    let number = listed.number_kind b (header_of b) (entry_at b i) c.unwrap-kind.result c.in_default.not-Bool c.in_default.not-Array c.in_default.not-Struct c.in_default.not-String c.in_default.not-Handle c.in_default.not-Vector c.in_default.not-Box c.in_default.not-Table c.in_default.not-Union in
    record {
      well_formed = subst (λ (t : List ℕ). WellFormed t) (sym c.requires.table) w;
      part = ∥∥₁_map c.requires.part (λ q. (declarations_of b, term_as c.unwrap-kind.result b (header_of b) (entry_at b i), number, (q.0, part_as _ _ _ _ _ (facts.term_at b w i lt c.unwrap-kind.result is) q.1)));
    }

pub value_tree-table_tree-requires : goal.value_tree-table_tree-requires
value_tree-table_tree-requires t c =
    let b = c.args.table.now in
    let w = c.entry-entry.ensures.well_formed in
    let is : IsOf Table (entry_at b c.args.index) = sym (c.from_number.ensures ∙ ap (λ (e : Entry). kind_of e.kind) c.entry-entry.ensures.value) ∙ c.unwrap-kind.ensures ∙ ap (λ (k : EntryKind). Some k) c.in-Table.is in (
      omega (arith, c.decreases),
      (c.requires.table, (w, (c.requires.index, (is, c.requires.part)))),
    )

pub value_tree-union_tree-requires : goal.value_tree-union_tree-requires
value_tree-union_tree-requires t c =
    let b = c.args.table.now in
    let w = c.entry-entry.ensures.well_formed in
    let is : IsOf Union (entry_at b c.args.index) = sym (c.from_number.ensures ∙ ap (λ (e : Entry). kind_of e.kind) c.entry-entry.ensures.value) ∙ c.unwrap-kind.ensures ∙ ap (λ (k : EntryKind). Some k) c.in-Union.is in
    let size = tabled.union_size b w c.args.index c.requires.index is in (
      omega (arith, c.decreases, size),
      (c.requires.table, (w, (c.requires.index, (is, c.requires.part)))),
    )

pub vector_tree-overflow_sub-depth : goal.vector_tree-overflow_sub-depth
vector_tree-overflow_sub-depth t c = ∥∥₁_elim c.requires.part le_prop (λ q.
    let x = listed.elements_of_vector c.args.table.now c.args.element q.0 q.1 c.args.view q.2.0 q.2.1 (sym c.if-is_absent.false ∙ c.is_absent.ensures q.2.0 q.2.1.shown) in
    omega (arith, x.3, q.2.2))

pub vector_tree-elements_tree-requires : goal.vector_tree-elements_tree-requires
vector_tree-elements_tree-requires t c =
    let few = facts.nest_few c.args.table.now c.requires.well_formed c.args.element c.requires.element in
    let small = facts.size_few c.args.table.now c.requires.well_formed c.args.element c.requires.element in (
      ∥∥₁_elim c.requires.part le_prop (λ q.
          let x = listed.elements_of_vector c.args.table.now c.args.element q.0 q.1 c.args.view q.2.0 q.2.1 (sym c.if-is_absent.false ∙ c.is_absent.ensures q.2.0 q.2.1.shown) in
          let few = facts.nest_few c.args.table.now c.requires.well_formed c.args.element c.requires.element in
          let small = facts.size_few c.args.table.now c.requires.well_formed c.args.element c.requires.element in
          omega (arith, c.decreases, few, small, x.3, q.2.2)),
      (
        c.requires.table,
        (
          c.requires.element,
          ∥∥₁_map c.requires.part (λ q.
              let x = listed.elements_of_vector c.args.table.now c.args.element q.0 q.1 c.args.view q.2.0 q.2.1 (sym c.if-is_absent.false ∙ c.is_absent.ensures q.2.0 q.2.1.shown) in
              let few = facts.nest_few c.args.table.now c.requires.well_formed c.args.element c.requires.element in
              let small = facts.size_few c.args.table.now c.requires.well_formed c.args.element c.requires.element in
              (ty.vector q.0 q.1 (ty.named c.args.element), x.0, x.2, omega (arith, x.3, q.2.2))),
        ),
      ),
    )

pub box_tree-overflow_sub-depth : goal.box_tree-overflow_sub-depth
box_tree-overflow_sub-depth t c = ∥∥₁_elim c.requires.part le_prop (λ q.
    let x = facts.members_of_box c.args.table.now c.requires.well_formed c.args.index c.requires.index c.requires.of_struct c.args.view q.0 q.1 (sym c.if-is_absent.false ∙ c.is_absent.ensures q.0 q.1.shown) in
    omega (arith, x.3, q.2))

pub box_tree-members_tree-requires : goal.box_tree-members_tree-requires
box_tree-members_tree-requires t c =
    let few = facts.nest_few c.args.table.now c.requires.well_formed c.args.index c.requires.index in
    let small = facts.size_few c.args.table.now c.requires.well_formed c.args.index c.requires.index in (
      ∥∥₁_elim c.requires.part le_prop (λ q.
          let x = facts.members_of_box c.args.table.now c.requires.well_formed c.args.index c.requires.index c.requires.of_struct c.args.view q.0 q.1 (sym c.if-is_absent.false ∙ c.is_absent.ensures q.0 q.1.shown) in
          let few = facts.nest_few c.args.table.now c.requires.well_formed c.args.index c.requires.index in
          let small = facts.size_few c.args.table.now c.requires.well_formed c.args.index c.requires.index in
          omega (arith, c.decreases, few, small, x.3, q.2)),
      (
        c.requires.table,
        (
          c.requires.index,
          (
            c.requires.of_struct,
            ∥∥₁_map c.requires.part (λ q.
                let x = facts.members_of_box c.args.table.now c.requires.well_formed c.args.index c.requires.index c.requires.of_struct c.args.view q.0 q.1 (sym c.if-is_absent.false ∙ c.is_absent.ensures q.0 q.1.shown) in
                let few = facts.nest_few c.args.table.now c.requires.well_formed c.args.index c.requires.index in
                let small = facts.size_few c.args.table.now c.requires.well_formed c.args.index c.requires.index in
                (ty.box (ty.named c.args.index), x.0, x.2, omega (arith, x.3, q.2))),
          ),
        ),
      ),
    )

pub member_tree-unwrap-row-requires : goal.member_tree-unwrap-row-requires
member_tree-unwrap-row-requires t c = ∥∥₁_elim c.requires.part (is_some_prop _) (λ q.
    let p = q in
    tabled.row_there c.args.table.now c.requires.well_formed c.args.slot.index c.requires.index c.args.slot.ordinal p.0 c.member.result c.member.ensures.none p.1.typed)

pub member_tree-entry-requires : goal.member_tree-entry-requires
member_tree-entry-requires t c = tabled.of_some (λ r. r.entry < (header_of c.args.table.now).entries) c.member.result c.unwrap-row.result c.unwrap-row.ensures c.member.ensures.entry_below

pub member_tree-value_tree-requires : goal.member_tree-value_tree-requires
member_tree-value_tree-requires t c =
    let b = c.args.table.now in
    let w = c.requires.well_formed in
    let i = c.args.slot.index in
    let lt = c.requires.index in
    let row = c.unwrap-row.result in
    let below = tabled.of_some (λ r. r.entry < (header_of b).entries) c.member.result row c.unwrap-row.ensures c.member.ensures.entry_below in
    let found = tabled.of_some (λ r. find (members_of b i) c.args.slot.ordinal ≡ Some (ty.named r.entry)) c.member.result row c.unwrap-row.ensures c.member.ensures.some in
    let sized = ap (λ (e : Entry). e.size) c.entry.ensures.value in
    let few = facts.nest_few b w row.entry below in (
      omega (arith, c.decreases, c.if-entry-le4.true, sized, few),
      (
        c.requires.table,
        (
          below,
          ∥∥₁_map c.requires.part (λ q.
              let p = q in
              let below = tabled.of_some (λ r. r.entry < (header_of b).entries) c.member.result row c.unwrap-row.ensures c.member.ensures.entry_below in
              let found = tabled.of_some (λ r. find (members_of b i) c.args.slot.ordinal ≡ Some (ty.named r.entry)) c.member.result row c.unwrap-row.ensures c.member.ensures.some in
              let typed = tabled.member_typed b w i lt c.args.slot.ordinal row.entry p.0 found p.1.typed in
              let sized = ap (λ (e : Entry). e.size) c.entry.ensures.value in
              let deep = tabled.inline_depth b w i lt row.entry below p.0 typed (omega (arith, c.if-entry-le4.true, sized)) in
              let few = facts.nest_few b w row.entry below in
              (p.0, record { shown = p.1.shown; typed = typed }, omega (arith, deep))),
        ),
      ),
    )

pub member_tree-value_tree-requires-2 : goal.member_tree-value_tree-requires-2
member_tree-value_tree-requires-2 t c =
    let b = c.args.table.now in
    let w = c.requires.well_formed in
    let i = c.args.slot.index in
    let lt = c.requires.index in
    let row = c.unwrap-row.result in
    let below = tabled.of_some (λ r. r.entry < (header_of b).entries) c.member.result row c.unwrap-row.ensures c.member.ensures.entry_below in
    let found = tabled.of_some (λ r. find (members_of b i) c.args.slot.ordinal ≡ Some (ty.named r.entry)) c.member.result row c.unwrap-row.ensures c.member.ensures.some in
    let sized = ap (λ (e : Entry). e.size) c.entry.ensures.value in
    let few = facts.nest_few b w row.entry below in
    let small = facts.size_few b w row.entry below in (
      ∥∥₁_elim c.requires.part le_prop (λ q.
          let p = q in
          let below = tabled.of_some (λ r. r.entry < (header_of b).entries) c.member.result row c.unwrap-row.ensures c.member.ensures.entry_below in
          let found = tabled.of_some (λ r. find (members_of b i) c.args.slot.ordinal ≡ Some (ty.named r.entry)) c.member.result row c.unwrap-row.ensures c.member.ensures.some in
          let typed = tabled.member_typed b w i lt c.args.slot.ordinal row.entry p.0 found p.1.typed in
          let sized = ap (λ (e : Entry). e.size) c.entry.ensures.value in
          let deep = tabled.out_depth b w i lt c.args.slot.ordinal row.entry below p.0 c.args.slot.depth found p.2 (omega (arith, c.if-entry-le4.false, sized)) in
          let few = facts.nest_few b w row.entry below in
          let small = facts.size_few b w row.entry below in
          omega (arith, c.decreases, few, small, deep)),
      (
        c.requires.table,
        (
          below,
          ∥∥₁_map c.requires.part (λ q.
              let p = q in
              let below = tabled.of_some (λ r. r.entry < (header_of b).entries) c.member.result row c.unwrap-row.ensures c.member.ensures.entry_below in
              let found = tabled.of_some (λ r. find (members_of b i) c.args.slot.ordinal ≡ Some (ty.named r.entry)) c.member.result row c.unwrap-row.ensures c.member.ensures.some in
              let typed = tabled.member_typed b w i lt c.args.slot.ordinal row.entry p.0 found p.1.typed in
              let sized = ap (λ (e : Entry). e.size) c.entry.ensures.value in
              let deep = tabled.out_depth b w i lt c.args.slot.ordinal row.entry below p.0 c.args.slot.depth found p.2 (omega (arith, c.if-entry-le4.false, sized)) in
              let few = facts.nest_few b w row.entry below in
              let small = facts.size_few b w row.entry below in
              (p.0, record { shown = p.1.shown; typed = typed }, omega (arith, deep))),
        ),
      ),
    )

pub member_tree-overflow_sub-slot : goal.member_tree-overflow_sub-slot
member_tree-overflow_sub-slot t c = ∥∥₁_elim c.requires.part le_prop (λ q.
    let b = c.args.table.now in
    let w = c.requires.well_formed in
    let i = c.args.slot.index in
    let row = c.unwrap-row.result in
    let p = q in
    let below = tabled.of_some (λ r. r.entry < (header_of b).entries) c.member.result row c.unwrap-row.ensures c.member.ensures.entry_below in
    let found = tabled.of_some (λ r. find (members_of b i) c.args.slot.ordinal ≡ Some (ty.named r.entry)) c.member.result row c.unwrap-row.ensures c.member.ensures.some in
    let sized = ap (λ (e : Entry). e.size) c.entry.ensures.value in
    let deep = tabled.out_depth b w i c.requires.index c.args.slot.ordinal row.entry below p.0 c.args.slot.depth found p.2 (omega (arith, c.if-entry-le4.false, sized)) in
    omega (arith, deep))

pub held_tree-member_tree-requires : goal.held_tree-member_tree-requires
held_tree-member_tree-requires t c =
    let b = c.args.table.now in
    let w = c.requires.well_formed in
    let i = c.args.slot.index in
    let lt = c.requires.index in
    let is = c.requires.of_table in (
      omega (arith, c.decreases),
      (
        ap (λ (s : Shown). s.table) c.in-Some.ensures.message ∙ c.requires.table,
        (
          w,
          (
            lt,
            (
              tabled.has_ordinals b w i lt Table refl is,
              ∥∥₁_map c.requires.part (λ q.
                  let v = q.0 in
                  let p = q.1 in
                  let b = c.args.table.now in
                  let w = c.requires.well_formed in
                  let i = c.args.slot.index in
                  let lt = c.requires.index in
                  let is = c.requires.of_table in
                  let f = c.in-Some.ensures.part v p.shown in
                  let held = tabled.held_known b w i lt is c.args.view v p c.args.slot.ordinal f.0 f.1 in
                  let typed = tabled.held_typed b w i lt is c.args.view v p c.args.slot.ordinal (known f.0) held in
                  let deep = tabled.held_depth b w i lt is c.args.view v p c.args.slot.ordinal (known f.0) c.args.slot.depth held (omega (arith, q.2)) in
                  (f.0, record { shown = f.2; typed = typed }, deep)),
            ),
          ),
        ),
      ),
    )

pub table_tree-unwrap-count-requires : goal.table_tree-unwrap-count-requires
table_tree-unwrap-count-requires t c = ∥∥₁_elim c.requires.part (is_some_prop _) (λ q.
    let v = q.0 in
    let p = q.1 in
    let f = tabled.as_table c.args.table.now c.requires.well_formed c.args.index c.requires.index c.requires.of_table c.args.view v p in
    subst (λ (o : Option ℕ). IsSome o) (sym (c.len.ensures v p.shown ∙ ap (λ (u : Value). length_of u) f.2)) refl)

pub table_tree-overflow_sub-slot : goal.table_tree-overflow_sub-slot
table_tree-overflow_sub-slot t c = ∥∥₁_elim c.requires.part le_prop (λ q.
    let v = q.0 in
    let p = q.1 in
    let deep = tabled.some_depth c.args.table.now c.requires.well_formed c.args.index c.requires.index c.requires.of_table c.args.view v p c.args.depth q.2 in
    omega (arith, deep))

pub table_tree-held_tree-requires : goal.table_tree-held_tree-requires
table_tree-held_tree-requires t c = (
  ∥∥₁_elim c.requires.part le_prop (λ q.
      let v = q.0 in
      let p = q.1 in
      let deep = tabled.some_depth c.args.table.now c.requires.well_formed c.args.index c.requires.index c.requires.of_table c.args.view v p c.args.depth q.2 in
      omega (arith, c.decreases, deep)),
  (
    c.requires.table,
    (
      c.requires.well_formed,
      (
        c.requires.index,
        (
          c.requires.of_table,
          ∥∥₁_map c.requires.part (λ q.
              let v = q.0 in
              let p = q.1 in
              let deep = tabled.some_depth c.args.table.now c.requires.well_formed c.args.index c.requires.index c.requires.of_table c.args.view v p c.args.depth q.2 in
              (v, p, omega (arith, deep, q.2))),
        ),
      ),
    ),
  ),
)

pub union_tree-member_tree-requires : goal.union_tree-member_tree-requires
union_tree-member_tree-requires t c =
    let b = c.args.table.now in
    let w = c.requires.well_formed in
    let i = c.args.index in
    let lt = c.requires.index in
    let message = subst (λ (o : Option View). IfSome o (λ part. part.decoded.now ≡ c.args.view.decoded.now)) c.in-Some-known.is c.in-Some.ensures.message in (
      omega (arith, c.decreases),
      (
        ap (λ (s : Shown). s.table) message ∙ c.requires.table,
        (
          w,
          (
            lt,
            (
              tabled.has_ordinals b w i lt Union refl c.requires.of_union,
              ∥∥₁_map c.requires.part (λ q.
                  let v = q.0 in
                  let p = q.1 in
                  let f = c.in-Some.ensures.part v p.shown in
                  let own = tabled.union_is c.args.table.now c.requires.well_formed c.args.index c.requires.index c.requires.of_union c.args.view v p c.in-Some.ordinal f.0 f.1 in
                  let k = subst (λ (o : Option View). ShowsKnown o f.0) c.in-Some-known.is f.2 in
                  let same = tabled.known_is f.0 k.0 k.1 in
                  let message = subst (λ (o : Option View). IfSome o (λ part. part.decoded.now ≡ c.args.view.decoded.now)) c.in-Some-known.is c.in-Some.ensures.message in
                  let all : member_depth (declarations_of b) (find (members_of b i) c.in-Some.ordinal) f.0 ≤ c.args.depth = let deepest = own.deep in omega (arith, deepest, q.2) in
                  let deep = subst (λ (x : Member). member_depth (declarations_of b) (find (members_of b i) c.in-Some.ordinal) x ≤ c.args.depth) same all in
                  (k.0, record { shown = k.2; typed = own.typed k.0 same }, deep)),
            ),
          ),
        ),
      ),
    )

pub union_tree-unwrap-member-requires : goal.union_tree-unwrap-member-requires
union_tree-unwrap-member-requires t c = ∥∥₁_elim c.requires.part (is_some_prop _) (λ q.
    let v = q.0 in
    let p = q.1 in
    let f = c.in-Some.ensures.part v p.shown in
    let none = subst (λ (o : Option View). ShowsKnown o f.0) c.in_default-known.is f.2 in
    tabled.unknown_there c.unknown.result v c.in-Some.ordinal f.0 f.1 none (c.unknown.ensures v p.shown))

pub elements_tree-loop-at-init : goal.elements_tree-loop-at-init
elements_tree-loop-at-init t c = record { so_far = λ u vs p. ap (λ (l : List Value). growing.before l vs) c.new-items.ensures }

pub elements_tree-loop-at-preserved : goal.elements_tree-loop-at-preserved
elements_tree-loop-at-preserved t c = record {
  so_far = λ u vs p.
      let b = c.args.table.now in
      let x = listed.part_shown c.args.view.decoded.now (element_of (list vs) c.loop-at.at) c.element.result c.unwrap-part.result c.unwrap-part.ensures (c.element.ensures.part (list vs) p.part.shown) in
      let typed = listed.list_nth b c.args.element c.args.view u vs p c.loop-at.at x.0 x.1 in
      growing.grown _ _ _ x.0 vs c.loop-at.at (c.loop-at.at + 1) c.in_ok-push.ensures.ok (c.in_ok-item.ensures x.0 (record { shown = x.2; typed = typed })) x.1 (omega arith) (c.loop-at.invariant.so_far u vs p);
}

pub elements_tree-returns : goal.elements_tree-returns
elements_tree-returns t c u vs p =
    let size = listed.list_count c.args.table.now c.args.element c.args.view u vs p c.len.result c.unwrap-count.result (c.len.ensures (list vs) p.part.shown) c.unwrap-count.ensures in
    growing.all_there _ vs c.loop-at.at (omega (arith, c.loop-at-test.false, c.loop-at.auto.at-end, size)) (c.loop-at.invariant.so_far u vs p)

pub members_tree-loop-at-init : goal.members_tree-loop-at-init
members_tree-loop-at-init t c = record { so_far = λ n vs p. ap (λ (l : List Value). growing.before l vs) c.new-items.ensures }

pub members_tree-loop-at-preserved : goal.members_tree-loop-at-preserved
members_tree-loop-at-preserved t c = record {
  so_far = λ n vs p.
      let b = c.args.table.now in
      let w = c.entry-entry.ensures.well_formed in
      let i = c.args.index in
      let lt = c.requires.index in
      let counted = ap (λ (e : Entry). e.count) c.entry-entry.ensures.value in
      let begun = ap (λ (e : Entry). e.first) c.entry-entry.ensures.value in
      let less : c.loop-at.at < (entry_at b i).count = omega (arith, c.loop-at-test.true, counted) in
      let here : c.row-row.result ≡ row_at b (header_of b) ((entry_at b i).first + c.loop-at.at) = c.row-row.ensures.value ∙ ap (λ k. row_at b (header_of b) (k + c.loop-at.at)) begun in
      let x = listed.part_shown c.args.view.decoded.now (field_of (fields vs) c.loop-at.at) c.field.result c.unwrap-part.result c.unwrap-part.ensures (c.field.ensures.part (fields vs) p.part.shown) in
      let typed = facts.member_typed b w i lt c.args.view n vs p c.loop-at.at less x.0 x.1 in
      let own = subst (λ (r : Row). IsTyped (declarations_of b) (resolve (declarations_of b).terms (ty.named r.entry)) x.0) (sym here) typed in
      growing.grown _ _ _ x.0 vs c.loop-at.at (c.loop-at.at + 1) c.in_ok-push.ensures.ok (c.in_ok-item.ensures x.0 (record { shown = x.2; typed = own })) x.1 (omega arith) (c.loop-at.invariant.so_far n vs p);
}

pub members_tree-returns : goal.members_tree-returns
members_tree-returns t c n vs p =
    let b = c.args.table.now in
    let w = c.entry-entry.ensures.well_formed in
    let i = c.args.index in
    let lt = c.requires.index in
    let counted = ap (λ (e : Entry). e.count) c.entry-entry.ensures.value in
    growing.all_members b w i lt c.args.view n vs p _ c.loop-at.at (omega (arith, c.loop-at-test.false, c.loop-at.auto.at-end, counted)) (c.loop-at.invariant.so_far n vs p)

pub vector_tree-returns-then-is_absent : goal.vector_tree-returns-then-is_absent
vector_tree-returns-then-is_absent t c optional bound v p = trees.absent_is ∙ growing.absent_is v (sym c.if-is_absent.true ∙ c.is_absent.ensures v p.shown)

pub vector_tree-returns : goal.vector_tree-returns
vector_tree-returns t c optional bound v p =
    let ty' = ty.vector optional bound (ty.named c.args.element) in
    let x = listed.elements_of_vector c.args.table.now c.args.element optional bound c.args.view v p (sym c.if-is_absent.false ∙ c.is_absent.ensures v p.shown) in
    trees.list_is _ ∙ ap (λ (us : Values). list us) (c.in_ok-elements_tree.ensures ty' x.0 x.2) ∙ sym x.1

pub box_tree-returns-then-is_absent : goal.box_tree-returns-then-is_absent
box_tree-returns-then-is_absent t c v p = trees.absent_is ∙ growing.absent_is v (sym c.if-is_absent.true ∙ c.is_absent.ensures v p.shown)

pub box_tree-returns : goal.box_tree-returns
box_tree-returns t c v p =
    let ty' = ty.box (ty.named c.args.index) in
    let x = facts.members_of_box c.args.table.now c.requires.well_formed c.args.index c.requires.index c.requires.of_struct c.args.view v p (sym c.if-is_absent.false ∙ c.is_absent.ensures v p.shown) in
    trees.fields_is _ ∙ ap (λ (us : Values). fields us) (c.in_ok-members_tree.ensures ty' x.0 x.2) ∙ sym x.1

pub member_tree-returns-then-entry-le4 : goal.member_tree-returns-then-entry-le4
member_tree-returns-then-entry-le4 t c v m =
    let b = c.args.table.now in
    let w = c.requires.well_formed in
    let i = c.args.slot.index in
    let lt = c.requires.index in
    let row = c.unwrap-row.result in
    let found = tabled.of_some (λ r. find (members_of b i) c.args.slot.ordinal ≡ Some (ty.named r.entry)) c.member.result row c.unwrap-row.ensures c.member.ensures.some in
    let typed = tabled.member_typed b w i lt c.args.slot.ordinal row.entry v found m.typed in
    trees.known_is _ ∙ ap (λ (x : Value). known x) (c.in_ok-value_tree.ensures v (record { shown = m.shown; typed = typed }))

pub member_tree-returns : goal.member_tree-returns
member_tree-returns t c v m =
    let b = c.args.table.now in
    let w = c.requires.well_formed in
    let i = c.args.slot.index in
    let lt = c.requires.index in
    let row = c.unwrap-row.result in
    let found = tabled.of_some (λ r. find (members_of b i) c.args.slot.ordinal ≡ Some (ty.named r.entry)) c.member.result row c.unwrap-row.ensures c.member.ensures.some in
    let typed = tabled.member_typed b w i lt c.args.slot.ordinal row.entry v found m.typed in
    trees.known_is _ ∙ ap (λ (x : Value). known x) (c.in_ok-value_tree-2.ensures v (record { shown = m.shown; typed = typed }))

pub held_tree-returns-in-Some : goal.held_tree-returns-in-Some
held_tree-returns-in-Some t c v p =
    let b = c.args.table.now in
    let w = c.requires.well_formed in
    let i = c.args.slot.index in
    let lt = c.requires.index in
    let is = c.requires.of_table in
    let f = c.in-Some.ensures.part v p.shown in
    let there = tabled.held_known b w i lt is c.args.view v p c.args.slot.ordinal f.0 f.1 in
    let typed = tabled.held_typed b w i lt is c.args.view v p c.args.slot.ordinal (known f.0) there in
    ap (λ (x : Member). Some x) (c.in_ok-member_tree.ensures f.0 (record { shown = f.2; typed = typed })) ∙ sym there

pub held_tree-returns-in-Some-unknown : goal.held_tree-returns-in-Some-unknown
held_tree-returns-in-Some-unknown t c v p =
    let u = c.in-Some-unknown.member in
    let there = held.unknown_held (held_of v c.args.slot.ordinal) (unknown u.inline u.bytes.now u.handles.now) (c.in-Some-unknown.ensures v p.shown) in
    ap (λ (x : Member). Some x) c.in_ok-unknown_tree.ensures ∙ sym there

pub held_tree-returns : goal.held_tree-returns
held_tree-returns t c v p =
    sym (tabled.held_none c.args.table.now c.requires.well_formed c.args.slot.index c.requires.index c.requires.of_table c.args.view v p c.args.slot.ordinal (c.in_default.ensures.part v p.shown) (c.in_default-unknown.ensures v p.shown))

pub table_tree-loop-at-init : goal.table_tree-loop-at-init
table_tree-loop-at-init t c = record {
  so_far = λ n ms p.
      let b = c.args.table.now in
      let i = c.args.index in
      let rises = (tabled.is_table b c.requires.well_formed i c.requires.index c.requires.of_table c.args.view n ms p).rises in
      (ms, held.all_left (declarations_of b) (members_of b i) n ms rises, ap (λ (l : List (ℕ × Member)). growing.ahead l ms) c.new-members.ensures);
}

pub table_tree-loop-at-preserved : goal.table_tree-loop-at-preserved
table_tree-loop-at-preserved t c = record {
  so_far = λ n ms p.
      let b = c.args.table.now in
      let i = c.args.index in
      let r = c.loop-at.invariant.so_far n ms p in
      growing.held_more (declarations_of b) (members_of b i) c.loop-at.at (c.loop-at.at + 1) n ms r.0 _ _ _ r.1 (omega arith) r.2 (c.in_ok-held.ensures (table n ms) p) c.in_ok-add_held.ensures;
}

pub table_tree-returns : goal.table_tree-returns
table_tree-returns t c v p =
    let b = c.args.table.now in
    let i = c.args.index in
    let f = tabled.as_table b c.requires.well_formed i c.requires.index c.requires.of_table c.args.view v p in
    let q = subst (λ (u : Value). IsValueOf b i c.args.view u) f.2 p in
    let r = c.loop-at.invariant.so_far f.0 f.1 q in
    let same = listed.some_same c.unwrap-count.result f.0 (sym c.unwrap-count.ensures ∙ c.len.ensures v p.shown ∙ ap (λ (u : Value). length_of u) f.2) in
    let done = growing.all_held (declarations_of b) (members_of b i) c.loop-at.at f.0 f.1 r.0 _ r.1 (omega (arith, c.loop-at-test.false, c.loop-at.auto.at-end, same)) r.2 in
    trees.table_is _ _ ∙ ap (λ k. table k (growing.of_list (members_view c.loop-at.members))) same ∙ ap (λ (ms : Members). table f.0 ms) done ∙ sym f.2

pub union_tree-returns-in_default : goal.union_tree-returns-in_default
union_tree-returns-in_default t c v p =
    trees.absent_is ∙ sym (tabled.union_none c.args.table.now c.requires.well_formed c.args.index c.requires.index c.requires.of_union c.args.view v p (c.in_default.ensures.part v p.shown))

pub union_tree-returns-in-Some-known : goal.union_tree-returns-in-Some-known
union_tree-returns-in-Some-known t c v p =
    let f = c.in-Some.ensures.part v p.shown in
    let own = tabled.union_is c.args.table.now c.requires.well_formed c.args.index c.requires.index c.requires.of_union c.args.view v p c.in-Some.ordinal f.0 f.1 in
    let k = subst (λ (o : Option View). ShowsKnown o f.0) c.in-Some-known.is f.2 in
    let same = tabled.known_is f.0 k.0 k.1 in
    let tree = c.in_ok-member.ensures k.0 (record { shown = k.2; typed = own.typed k.0 same }) in
    growing.union_as c.union_tree_of.result _ _ _ v (tree ∙ sym same) f.1 c.union_tree_of.ensures

pub union_tree-returns : goal.union_tree-returns
union_tree-returns t c v p =
    let f = c.in-Some.ensures.part v p.shown in
    let none = subst (λ (o : Option View). ShowsKnown o f.0) c.in_default-known.is f.2 in
    let same = tabled.unknown_same c.unknown.result c.unwrap-member.result v c.in-Some.ordinal f.0 f.1 none c.unwrap-member.ensures (c.unknown.ensures v p.shown) in
    growing.union_as c.union_tree_of-2.result _ _ _ v (c.in_ok-raw.ensures ∙ sym same) f.1 c.union_tree_of-2.ensures

pub value_tree-returns-in-Bool : goal.value_tree-returns-in-Bool
value_tree-returns-in-Bool t c v p =
    let b = c.args.table.now in
    let is : IsOf Boolean (entry_at b c.args.index) = sym (c.from_number.ensures ∙ ap (λ (e : Entry). kind_of e.kind) c.entry-entry.ensures.value) ∙ c.unwrap-kind.ensures ∙ ap (λ (k : EntryKind). Some k) c.in-Bool.is in
    let e = facts.term_at b c.entry-entry.ensures.well_formed c.args.index c.requires.index Boolean is in
    c.bool_tree.ensures (declarations_of b) v (part_as _ _ _ _ _ e p)

pub value_tree-returns-in-String : goal.value_tree-returns-in-String
value_tree-returns-in-String t c v p =
    let b = c.args.table.now in
    let i = c.args.index in
    let is : IsOf String (entry_at b i) = sym (c.from_number.ensures ∙ ap (λ (e : Entry). kind_of e.kind) c.entry-entry.ensures.value) ∙ c.unwrap-kind.ensures ∙ ap (λ (k : EntryKind). Some k) c.in-String.is in
    let e = facts.term_at b c.entry-entry.ensures.well_formed i c.requires.index String is in
    c.string_tree.ensures (declarations_of b) (is_optional (entry_at b i)) (entry_at b i).bound v (part_as _ _ _ _ _ e p)

pub value_tree-returns-in-Handle : goal.value_tree-returns-in-Handle
value_tree-returns-in-Handle t c v p =
    let b = c.args.table.now in
    let i = c.args.index in
    let is : IsOf Handle (entry_at b i) = sym (c.from_number.ensures ∙ ap (λ (e : Entry). kind_of e.kind) c.entry-entry.ensures.value) ∙ c.unwrap-kind.ensures ∙ ap (λ (k : EntryKind). Some k) c.in-Handle.is in
    let e = facts.term_at b c.entry-entry.ensures.well_formed i c.requires.index Handle is in
    c.handle_tree.ensures (declarations_of b) (is_optional (entry_at b i)) (entry_at b i).subtype (entry_at b i).rights v (part_as _ _ _ _ _ e p)

pub value_tree-returns-in_ok-items-in-Array : goal.value_tree-returns-in_ok-items-in-Array
value_tree-returns-in_ok-items-in-Array t c v p =
    let b = c.args.table.now in
    let w = c.entry-entry.ensures.well_formed in
    let i = c.args.index in
    let lt = c.requires.index in
    let is : IsOf Array (entry_at b i) = sym (c.from_number.ensures ∙ ap (λ (e : Entry). kind_of e.kind) c.entry-entry.ensures.value) ∙ c.unwrap-kind.ensures ∙ ap (λ (k : EntryKind). Some k) c.in-Array.is in
    let begun = ap (λ (e : Entry). e.first) c.entry-entry.ensures.value in
    let e = facts.term_at b w i lt Array is ∙ ap (λ k. ty.array (ty.named k) (entry_at b i).count) (sym begun) in
    let x = listed.elements_of_array b c.entry-entry.result.first (entry_at b i).count (resolve (declarations_of b).terms (ty.named i)) c.args.view v e p in
    trees.list_is _ ∙ ap (λ (us : Values). list us) (c.in_ok-items-in-Array.ensures (ty.array (ty.named c.entry-entry.result.first) (entry_at b i).count) x.0 x.2) ∙ sym x.1

pub value_tree-returns-in-Vector : goal.value_tree-returns-in-Vector
value_tree-returns-in-Vector t c v p =
    let b = c.args.table.now in
    let w = c.entry-entry.ensures.well_formed in
    let i = c.args.index in
    let lt = c.requires.index in
    let is : IsOf Vector (entry_at b i) = sym (c.from_number.ensures ∙ ap (λ (e : Entry). kind_of e.kind) c.entry-entry.ensures.value) ∙ c.unwrap-kind.ensures ∙ ap (λ (k : EntryKind). Some k) c.in-Vector.is in
    let begun = ap (λ (e : Entry). e.first) c.entry-entry.ensures.value in
    let e = facts.term_at b w i lt Vector is ∙ ap (λ k. ty.vector (is_optional (entry_at b i)) (entry_at b i).bound (ty.named k)) (sym begun) in
    c.vector_tree.ensures (is_optional (entry_at b i)) (entry_at b i).bound v (part_as _ _ _ _ _ e p)

pub value_tree-returns-in_ok-items-in-Struct : goal.value_tree-returns-in_ok-items-in-Struct
value_tree-returns-in_ok-items-in-Struct t c v p =
    let b = c.args.table.now in
    let w = c.entry-entry.ensures.well_formed in
    let i = c.args.index in
    let lt = c.requires.index in
    let is : IsOf Struct (entry_at b i) = sym (c.from_number.ensures ∙ ap (λ (e : Entry). kind_of e.kind) c.entry-entry.ensures.value) ∙ c.unwrap-kind.ensures ∙ ap (λ (k : EntryKind). Some k) c.in-Struct.is in
    let x = facts.members_of_struct b w i lt is c.args.view v p in
    trees.fields_is _ ∙ ap (λ (us : Values). fields us) (c.in_ok-items-in-Struct.ensures (resolve (declarations_of b).terms (ty.named i)) x.0 x.2) ∙ sym x.1

pub value_tree-returns-in-Box : goal.value_tree-returns-in-Box
value_tree-returns-in-Box t c v p =
    let b = c.args.table.now in
    let w = c.entry-entry.ensures.well_formed in
    let i = c.args.index in
    let lt = c.requires.index in
    let is : IsOf Box (entry_at b i) = sym (c.from_number.ensures ∙ ap (λ (e : Entry). kind_of e.kind) c.entry-entry.ensures.value) ∙ c.unwrap-kind.ensures ∙ ap (λ (k : EntryKind). Some k) c.in-Box.is in
    let begun = ap (λ (e : Entry). e.first) c.entry-entry.ensures.value in
    let e = facts.term_at b w i lt Box is ∙ ap (λ k. ty.box (ty.named k)) (sym begun) in
    c.box_tree.ensures v (part_as _ _ _ _ _ e p)

pub value_tree-returns-in-Table : goal.value_tree-returns-in-Table
value_tree-returns-in-Table t c = c.table_tree.ensures

pub value_tree-returns-in-Union : goal.value_tree-returns-in-Union
value_tree-returns-in-Union t c = c.union_tree.ensures

pub value_tree-returns-in_default : goal.value_tree-returns-in_default
value_tree-returns-in_default t c v p =
    let b = c.args.table.now in
    let w = c.entry-entry.ensures.well_formed in
    let i = c.args.index in
    let lt = c.requires.index in
    let is : IsOf c.unwrap-kind.result (entry_at b i) = sym (c.from_number.ensures ∙ ap (λ (e : Entry). kind_of e.kind) c.entry-entry.ensures.value) ∙ c.unwrap-kind.ensures in
    let number = listed.number_kind b (header_of b) (entry_at b i) c.unwrap-kind.result c.in_default.not-Bool c.in_default.not-Array c.in_default.not-Struct c.in_default.not-String c.in_default.not-Handle c.in_default.not-Vector c.in_default.not-Box c.in_default.not-Table c.in_default.not-Union in
    let e = facts.term_at b w i lt c.unwrap-kind.result is in
    c.number_tree.ensures (declarations_of b) (term_as c.unwrap-kind.result b (header_of b) (entry_at b i)) number v (part_as _ _ _ _ _ e p)
