use Rattle.fidl_view.proofs.Types.{each_typed}
use Rattle.fidl_view.specs.Shows.{type_of}
use Rattle.fidl_decode_model.specs.Model.{Shown}
use Rattle.std.proofs.Common.{◌≡◌, ℕ, ◌*◌, List, ap, sym, subst, ◌∙◌, arith}
use Rattle.fidl_wire.specs.Value.{Value, none}
use Rattle.fidl_table_format.specs.declared.record.Entry.{Entry}
use Rattle.fidl_table_format.specs.Section.{entry_at}
use Rattle.fidl_view.specs.Parts.{elements_of}
use Rattle.fidl_view.specs.Elements.{ShowEach}
use Rattle.fidl_view.specs.Views.{parts_left, element_type}
use Rattle.fidl_view.proofs.Lists as lists
use Rattle.fidl_view.proofs.view.View.elements.Goals as goal

pub returns-in-Some-clause-parts : goal.returns-in-Some-clause-parts
returns-in-Some-clause-parts c v h =
    let x = c.in-Some.ensures.parts v h in
    subst (λ (u : Value). ShowEach (parts_left c.in-Some.elements) (elements_of u)) (sym x.1) x.2

pub invariant_of-result : goal.invariant_of-result
invariant_of-result c =
    let d = c.args.self.decoded.now in
    let i = c.args.self.index in
    let own : c.entry-entry.result ≡ entry_at d.table i = c.entry-entry.ensures.value ∙ ap (λ (b : List ℕ). entry_at b i) c.table.ensures in
    let none' : c.entry-entry.result.size * 0 ≡ 0 = omega arith in
    record {
      in_range = c.args.self.in_range;
      sized = ap (λ (e : Entry). e.size) own;
      room = omega (arith, none', c.args.self.room);
      short = c.args.self.short;
      shown = ∣ (none, tt) ∣₁;
    }

pub returns-clause-parts : goal.returns-clause-parts
returns-clause-parts c v h = lists.no_elements v (c.in_default.ensures.parts v h)

pub returns-in-Some-clause-typed : goal.returns-in-Some-clause-typed
returns-in-Some-clause-typed c =
    let s = c.in-Some.elements in
    let r = c.in-Some.ensures.run in
    each_typed s.decoded.now s.index s.size s.place s.left (element_type c.args.self) (ap (λ (d : Shown). type_of d s.index) r.message ∙ sym r.typed)
