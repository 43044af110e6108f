use Rattle.std.proofs.Common.{◌≡◌, ℕ, ◌*◌, ◌<◌, List, refl, ap, sym, subst, ◌∙◌, arith}
use Rattle.std.proofs.Math.Logic.{∥∥₁_map}
use Rattle.fidl_table_format.specs.declared.record.Entry.{Entry}
use Rattle.fidl_table_format.specs.Section.{header_of, entry_at}
use Rattle.fidl_table_format.specs.WellFormed.{WellFormed}
use Rattle.fidl_view.proofs.Lists as lists
use Rattle.fidl_view.proofs.view.View.array_elements.Goals as goal

pub entry-element-requires : goal.entry-element-requires
entry-element-requires c =
    let d = c.args.self.decoded.now in
    let i = c.args.self.index in
    let p = c.args.self.place in
    let lt = c.args.self.in_range in
    let is = c.requires in
    let w : WellFormed d.table = subst (λ (b : List ℕ). WellFormed b) c.table.ensures c.entry-array.ensures.well_formed in
    let same : c.entry-array.result ≡ entry_at d.table i = c.entry-array.ensures.value ∙ ap (λ (b : List ℕ). entry_at b i) c.table.ensures in
    let begun : c.entry-array.result.first ≡ (entry_at d.table i).first = ap (λ (e : Entry). e.first) same in
    subst (λ (b : List ℕ). c.entry-array.result.first < (header_of b).entries) (sym c.table-2.ensures)
    (subst (λ k. k < (header_of d.table).entries) (sym begun) (lists.array_element d w i p lt is))

pub invariant_of-result : goal.invariant_of-result
invariant_of-result c =
    let d = c.args.self.decoded.now in
    let i = c.args.self.index in
    let p = c.args.self.place in
    let lt = c.args.self.in_range in
    let is = c.requires in
    let w : WellFormed d.table = subst (λ (b : List ℕ). WellFormed b) c.table.ensures c.entry-array.ensures.well_formed in
    let same : c.entry-array.result ≡ entry_at d.table i = c.entry-array.ensures.value ∙ ap (λ (b : List ℕ). entry_at b i) c.table.ensures in
    let begun : c.entry-array.result.first ≡ (entry_at d.table i).first = ap (λ (e : Entry). e.first) same in
    let own : c.entry-element.result ≡ entry_at d.table c.entry-array.result.first = c.entry-element.ensures.value ∙ ap (λ (b : List ℕ). entry_at b c.entry-array.result.first) c.table-2.ensures in
    let sized : c.entry-element.result.size ≡ (entry_at d.table c.entry-array.result.first).size = ap (λ (e : Entry). e.size) own in
    let counted : c.entry-array.result.count ≡ (entry_at d.table i).count = ap (λ (e : Entry). e.count) same in
    let all : c.entry-element.result.size * c.entry-array.result.count ≡ (entry_at d.table i).size =
    ap (λ n. n * c.entry-array.result.count) (sized ∙ ap (λ k. (entry_at d.table k).size) begun)
    ∙ ap (λ (e : Entry). (entry_at d.table (entry_at d.table i).first).size * e.count) same
    ∙ lists.array_size d w i p lt is in
    record {
      in_range = subst (λ k. k < (header_of d.table).entries) (sym begun) (lists.array_element d w i p lt is);
      sized = sized;
      room = omega (arith, all, c.args.self.room);
      short = c.args.self.short;
      shown = ∥∥₁_map c.args.self.shown (λ h. let x = lists.array_read d w i p lt is c.entry-array.result.first c.entry-element.result.size c.entry-array.result.count begun sized counted h.0 h.1 in (x.0, x.2));
    }

pub returns-clause-run : goal.returns-clause-run
returns-clause-run c =
    let d = c.args.self.decoded.now in
    let i = c.args.self.index in
    let p = c.args.self.place in
    let lt = c.args.self.in_range in
    let is = c.requires in
    let w : WellFormed d.table = subst (λ (b : List ℕ). WellFormed b) c.table.ensures c.entry-array.ensures.well_formed in
    let same : c.entry-array.result ≡ entry_at d.table i = c.entry-array.ensures.value ∙ ap (λ (b : List ℕ). entry_at b i) c.table.ensures in
    let begun : c.entry-array.result.first ≡ (entry_at d.table i).first = ap (λ (e : Entry). e.first) same in
    let counted : c.entry-array.result.count ≡ (entry_at d.table i).count = ap (λ (e : Entry). e.count) same in
    record {
      message = refl;
      typed = lists.array_typed d w i p lt is c.entry-array.result.first begun;
      counted = lists.array_counted d w i p lt is c.entry-array.result.count counted;
      placed = λ less. lists.array_placed d w i p lt is;
    }

pub returns-clause-parts : goal.returns-clause-parts
returns-clause-parts c v s =
    let d = c.args.self.decoded.now in
    let i = c.args.self.index in
    let p = c.args.self.place in
    let lt = c.args.self.in_range in
    let is = c.requires in
    let w : WellFormed d.table = subst (λ (b : List ℕ). WellFormed b) c.table.ensures c.entry-array.ensures.well_formed in
    let same : c.entry-array.result ≡ entry_at d.table i = c.entry-array.ensures.value ∙ ap (λ (b : List ℕ). entry_at b i) c.table.ensures in
    let begun : c.entry-array.result.first ≡ (entry_at d.table i).first = ap (λ (e : Entry). e.first) same in
    let own : c.entry-element.result ≡ entry_at d.table c.entry-array.result.first = c.entry-element.ensures.value ∙ ap (λ (b : List ℕ). entry_at b c.entry-array.result.first) c.table-2.ensures in
    let sized : c.entry-element.result.size ≡ (entry_at d.table c.entry-array.result.first).size = ap (λ (e : Entry). e.size) own in
    let counted : c.entry-array.result.count ≡ (entry_at d.table i).count = ap (λ (e : Entry). e.count) same in
    lists.array_read d w i p lt is c.entry-array.result.first c.entry-element.result.size c.entry-array.result.count begun sized counted v s
