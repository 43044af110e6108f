use Rattle.std.proofs.Common.{ℕ, ◌+◌, List, ap, sym, ◌∙◌, length, arith}
use Rattle.std.specs.Int.{w64}
use Rattle.fidl_table_format.specs.Section.{header_of, entry_at}
use Rattle.fidl_wire.specs.Field.{number_at}
use Rattle.fidl_table_format.specs.Terms.{declarations_of}
use Rattle.fidl_view.proofs.Viewing as viewing
use Rattle.fidl_view.proofs.Keyed as keyed
use Rattle.std.specs.Prelude.{Some}
use Rattle.fidl_wire.specs.Value.{Value}
use Rattle.fidl_view.specs.Parts.{length_of}
use Rattle.fidl_view.proofs.Lists as lists
use Rattle.std.proofs.Math.Logic.{∥∥₁_elim}
use denote.Struct.Props.{props}
use Rattle.fidl_view.proofs.Unlinked as unlinked
use Rattle.fidl_view.proofs.view.View.len.Goals as goal

pub returns-in-Some : goal.returns-in-Some
returns-in-Some c v h =
    let s = c.in-Some.elements in
    let x = c.in-Some.ensures.parts v h in
    ap (λ n. Some n) (lists.shown_count s.decoded.now s.index s.size s.place s.left x.0 x.2) ∙ sym (ap (λ (u : Value). length_of u) x.1)

pub returns-in-Some-as_str : goal.returns-in-Some-as_str
returns-in-Some-as_str c v h = lists.text_long v (c.in_default.ensures.parts v h) c.in-Some-as_str.text.now (c.in-Some-as_str.ensures v h)

pub returns-in-Table : goal.returns-in-Table
returns-in-Table c v h =
    let d = c.args.self.decoded.now in
    let i = c.args.self.index in
    let p = c.args.self.place in
    let lt = c.args.self.in_range in
    let w = c.kind.ensures.well_formed in
    let x = keyed.table_shown d w i p lt c.in-Table.ensures.of v h in
    ap (λ n. Some n) (c.u64_at.ensures ∙ ap (λ (b : List ℕ). number_at w64 b p) c.links.ensures.came ∙ x.counted) ∙ sym (ap (λ (u : Value). length_of u) x.is)

pub returns-in_default-kind : goal.returns-in_default-kind
returns-in_default-kind c v h =
    let d = c.args.self.decoded.now in
    let i = c.args.self.index in
    let p = c.args.self.place in
    let lt = c.args.self.in_range in
    let w = c.kind.ensures.well_formed in
    lists.no_length v (c.in_default.ensures.parts v h) (c.in_default-as_str.ensures v h)
    (lists.no_table_of (declarations_of d.table) d.table (header_of d.table) (entry_at d.table i) c.kind.result c.in_default-kind.not-Table v (viewing.lies d w i p lt c.kind.result c.kind.ensures.of v h).0)

pub u64_at-requires : goal.u64_at-requires
u64_at-requires c =
    let d = c.args.self.decoded.now in
    let i = c.args.self.index in
    let p = c.args.self.place in
    let lt = c.args.self.in_range in
    let w = c.kind.ensures.well_formed in
    let is = c.in-Table.ensures.of in
    let wide = keyed.table_size d w i p lt is in
    let long = ap length c.links.ensures.came in
    record {
      room = omega (arith, wide, long, c.args.self.room);
      free = ∥∥₁_elim c.args.self.shown (hlevel props) (λ h. unlinked.free c.links.result.now d.bytes d.links c.links.ensures.came c.links.ensures.noted p (p + 8) (viewing.table_count_free d w i p lt is h.0 h.1));
    }
