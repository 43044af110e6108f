use Rattle.std.proofs.Common.{◌≡◌, ℕ, ◌+◌, ◌*◌, List, length, ap, sym, subst, ◌∙◌, arith}
use Rattle.std.specs.Prelude.{Some, slice_range}
use Rattle.fidl_wire.specs.Value.{Value}
use Rattle.fidl_wire.specs.Term.{Term}
use Rattle.fidl_table_format.specs.declared.kind.EntryKind.TheVariants.{Uint8}
use Rattle.fidl_table_format.specs.Section.{header_of, entry_at}
use Rattle.fidl_decode_model.specs.Model.{Shown}
use Rattle.fidl_decode_model.specs.Placed.{content_at}
use Rattle.fidl_view.specs.Parts.{bytes_if, bytes_of}
use Rattle.fidl_view.specs.Shows.{type_of}
use Rattle.fidl_view.specs.Elements.{parts_from, ShowEach}
use Rattle.fidl_view.specs.Views.{type_shown, types_shown, count_at}
use Rattle.fidl_view.proofs.Lists as lists
use Rattle.std.proofs.Math.Logic.{∥∥₁_elim}
use denote.Struct.Props.{props}
use Rattle.fidl_view.proofs.Unlinked as unlinked
use Rattle.fidl_view.proofs.view.View.octets.Goals as goal

pub overflow_add-elements : goal.overflow_add-elements
overflow_add-elements c =
    let s = c.in-Some.elements in
    let one : s.size ≡ 1 = s.sized ∙ sym (lists.octet_size s.decoded.now c.entry_kind.ensures.well_formed s.index s.in_range c.in-Uint8.ensures.of) in
    let all : s.size * s.left ≡ 1 * s.left = ap (λ n. n * s.left) one in
    record { fits = omega (arith, all, s.room, s.short) }

pub part-requires : goal.part-requires
part-requires c =
    let s = c.in-Some.elements in
    let d = s.decoded.now in
    let w = c.entry_kind.ensures.well_formed in
    let of = c.in-Uint8.ensures.of in
    let one : s.size ≡ 1 = s.sized ∙ sym (lists.octet_size d w s.index s.in_range of) in
    let all : s.size * s.left ≡ 1 * s.left = ap (λ n. n * s.left) one in
    let long = ap length c.links.ensures.came in
    record {
      order = omega arith;
      room = omega (arith, all, s.room, long);
      free = ∥∥₁_elim s.shown (hlevel props) (λ h. unlinked.free c.links.result.now d.bytes d.links c.links.ensures.came c.links.ensures.noted s.place (s.place + s.left)
          (lists.octets_free d w s.index s.place s.left h.0 s.in_range of (subst (λ n. ShowEach (parts_from d s.index n s.place s.left) h.0) one h.1)));
    }

pub returns-in-Uint8-clause-value : goal.returns-in-Uint8-clause-value
returns-in-Uint8-clause-value c v h other =
    let s = c.in-Some.elements in
    let d = s.decoded.now in
    let w = c.entry_kind.ensures.well_formed in
    let of = c.in-Uint8.ensures.of in
    let one : s.size ≡ 1 = s.sized ∙ sym (lists.octet_size d w s.index s.in_range of) in
    let x = c.in-Some.ensures.parts v h in
    let parts = subst (λ n. ShowEach (parts_from d s.index n s.place s.left) x.0) one x.2 in
    ap (λ (b : List ℕ). Some b) (c.part.ensures ∙ ap (λ (b : List ℕ). slice_range b s.place (s.place + s.left)) c.links.ensures.came)
    ∙ ap (λ (b : List ℕ). Some b) (lists.octets_shown d w s.index s.place s.left x.0 s.in_range of parts)
    ∙ sym (ap (λ (t : Term). bytes_if t x.0) (c.in-Some.ensures.run.typed ∙ ap (λ (m : Shown). type_of m s.index) (sym c.in-Some.ensures.run.message) ∙ lists.own_term d w s.index Uint8 s.in_range of))
    ∙ sym (ap (λ (u : Value). bytes_of (types_shown c.args.self) (type_shown c.args.self) u) x.1)

pub returns-in-Uint8-clause-slice : goal.returns-in-Uint8-clause-slice
returns-in-Uint8-clause-slice c =
    let s = c.in-Some.elements in
    let d = c.args.self.decoded.now in
    let t = type_shown c.args.self in
    c.part.ensures ∙ ap (λ (b : List ℕ). slice_range b s.place (s.place + s.left)) (c.links.ensures.came ∙ ap (λ (m : Shown). m.bytes) c.in-Some.ensures.run.message)
    ∙ lists.same_slice d.bytes s.place (content_at d.links t c.args.self.place) s.left (count_at t d.bytes c.args.self.place) c.in-Some.ensures.run.counted c.in-Some.ensures.run.placed

pub returns-in_default-entry_kind : goal.returns-in_default-entry_kind
returns-in_default-entry_kind c =
    let s = c.in-Some.elements in
    let d = s.decoded.now in
    let w = c.entry_kind.ensures.well_formed in
    record {
      value = λ v h other.
          let x = c.in-Some.ensures.parts v h in
          lists.no_octets d.table (header_of d.table) (entry_at d.table s.index) c.entry_kind.result c.in_default-entry_kind.not-Uint8 x.0
          ∙ sym (ap (λ (t : Term). bytes_if t x.0) (c.in-Some.ensures.run.typed ∙ ap (λ (m : Shown). type_of m s.index) (sym c.in-Some.ensures.run.message) ∙ lists.own_term d w s.index c.entry_kind.result s.in_range c.entry_kind.ensures.of))
          ∙ sym (ap (λ (u : Value). bytes_of (types_shown c.args.self) (type_shown c.args.self) u) x.1);
      slice = tt;
    }
