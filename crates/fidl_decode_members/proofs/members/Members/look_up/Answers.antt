use Rattle.std.proofs.Common.{◌≡◌, ◌+◌, ◌<◌, suc, inl, inr, refl, sym, ap, subst, ◌∙◌, add-one, arith, false, IsTrue, length-set, get_or-set_other}
use Rattle.std.proofs.lemmas.List.{get_or-set_same}
use Rattle.std.proofs.lemmas.Bool.{cases_eq}
use Rattle.std.specs.Option.{option_map_or}
use Rattle.std.specs.Prelude.{Option, Some, slice_set, slice_index_or}
use Rattle.fidl_table_format.specs.declared.kind.EntryKind.{EntryKind}
use Rattle.fidl_table_format.specs.declared.record.Entry.{Entry}
use Rattle.fidl_table_format.specs.Uses.{uses_ordinals}
use Rattle.fidl_table_format.specs.Entry.{kind_is}
use Rattle.fidl_table_format.specs.Section.{header_of, entry_at, row_at}
use Rattle.fidl_verify.proofs.Members.{lies_within, if_some}
use Rattle.fidl_decode_values.specs.Reading.{message}
use Rattle.fidl_decode_members.specs.declared.member.Member.{Member}
use Rattle.fidl_decode_members.specs.Members.{IsMember, unnoted}
use Rattle.fidl_decode_members.proofs.members.Members.look_up.Goals as goal

pub overflow_add-e : goal.overflow_add-e
overflow_add-e c =
    let t = c.args.decoder.now.table.now in
    let d = entry_at t c.args.entry in
    let uses : IsTrue (kind_is uses_ordinals d) = ap (λ (o : Option EntryKind). option_map_or uses_ordinals o false) c.requires.kind in
    let within = lies_within t c.entry-e.ensures.well_formed c.args.entry c.requires.entry uses d refl in
    let few = c.loop-count.invariant.few in
    record { fits = omega (arith, within, few, ap (λ (d : Entry). d.first) c.entry-e.ensures.value, ap (λ (d : Entry). d.count) c.entry-e.ensures.value, c.rows-rows.ensures.value, c.rows-rows.type_inv) }

pub row-row-requires : goal.row-row-requires
row-row-requires c =
    let t = c.args.decoder.now.table.now in
    let d = entry_at t c.args.entry in
    let uses : IsTrue (kind_is uses_ordinals d) = ap (λ (o : Option EntryKind). option_map_or uses_ordinals o false) c.requires.kind in
    let within = lies_within t c.entry-e.ensures.well_formed c.args.entry c.requires.entry uses d refl in
    let few = c.loop-count.invariant.few in
    omega (arith, within, few, c.loop-count-test.true, ap (λ (d : Entry). d.first) c.entry-e.ensures.value, ap (λ (d : Entry). d.count) c.entry-e.ensures.value)

pub loop-count-preserved : goal.loop-count-preserved
loop-count-preserved c =
    let t = c.args.decoder.now.table.now in
    let m = message c.args.decoder.now in
    let d = entry_at t c.args.entry in
    let is = c.entry-e.ensures.value in
    let uses : IsTrue (kind_is uses_ordinals d) = ap (λ (o : Option EntryKind). option_map_or uses_ordinals o false) c.requires.kind in
    let i = c.loop-count.invariant in
    let n = c.loop-count.count in
    let few = i.few in
    let long = i.long in
    let row = c.row-row.result in
    let more : n < d.count = omega (arith, few, c.loop-count-test.true, ap (λ (d : Entry). d.count) is) in
    let there : row ≡ row_at t (header_of t) (d.first + n) = c.row-row.ensures.value ∙ ap (λ (d : Entry). row_at t (header_of t) (d.first + n)) is in
    let new : Member = record { entry = row.entry; passage = c.passage_of.result } in
    let noted : IsMember t m c.args.entry n new = record {
      entry = c.row-row.ensures.entry;
      found = if_some t c.entry-e.ensures.well_formed c.args.entry c.requires.entry uses d refl (suc n) (Some row) (n, more, there, c.if-row-count.false ∙ add-one n);
      passage = c.passage_of.ensures;
    } in
    record {
      few = omega (arith, more, ap (λ (d : Entry). d.count) is);
      long = length-set c.loop-count.members n new ∙ long;
      each = λ k less. elim (cases_eq k n) [
        | inl same ↦ subst (λ j. IsMember t m c.args.entry j (slice_index_or (slice_set c.loop-count.members n new) j unnoted)) (sym same)
            (subst (IsMember t m c.args.entry n) (sym (get_or-set_same c.loop-count.members n new unnoted (omega (arith, long, few, c.if-e-gt-MOST_MEMBERS.false, c.loop-count-test.true)))) noted)
        | inr other ↦ subst (IsMember t m c.args.entry k) (sym (get_or-set_other c.loop-count.members n k new unnoted other)) (i.each k (omega (arith, less, other)))
      ];
    }
