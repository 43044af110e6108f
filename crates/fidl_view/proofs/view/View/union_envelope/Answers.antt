use Rattle.std.proofs.Common.{◌≡◌, ℕ, ◌+◌, List, refl, ap, sym, subst, ◌∙◌, length, arith}
use Rattle.std.specs.Int.{w64}
use Rattle.std.specs.Prelude.{Some}
use Rattle.std.proofs.Math.Logic.{∥∥₁_map, ∥∥₁_elim}
use Rattle.fidl_table_format.specs.declared.kind.EntryKind.TheVariants.{Union}
use Rattle.fidl_wire.specs.Field.{number_at}
use Rattle.fidl_table_format.specs.WellFormed.{WellFormed}
use Rattle.fidl_view.specs.Members.{ShowMember}
use Rattle.fidl_view.specs.Parts.{variant_of}
use Rattle.fidl_view.proofs.Viewing as viewing
use Rattle.fidl_view.proofs.Keyed as keyed
use denote.Struct.Props.{props}
use Rattle.fidl_view.proofs.Unlinked as unlinked
use Rattle.fidl_view.proofs.view.View.union_envelope.Goals as goal

pub returns-then-ordinal-eq0-clause-held : goal.returns-then-ordinal-eq0-clause-held
returns-then-ordinal-eq0-clause-held c v h =
    let d = c.args.self.decoded.now in
    let i = c.args.self.index in
    let p = c.args.self.place in
    let lt = c.args.self.in_range in
    let is = c.requires in
    let w = subst (λ (b : List ℕ). WellFormed b) c.table.ensures c.rows-rows.ensures.well_formed in
    let read : c.u64_at-ordinal.result ≡ number_at w64 d.bytes p = c.u64_at-ordinal.ensures ∙ ap (λ (b : List ℕ). number_at w64 b p) c.links.ensures.came in
    (keyed.union_found d w i p lt is v h).0 (sym read ∙ c.if-ordinal-eq0.true)

pub invariant_of-result : goal.invariant_of-result
invariant_of-result c =
    let d = c.args.self.decoded.now in
    let i = c.args.self.index in
    let p = c.args.self.place in
    let lt = c.args.self.in_range in
    let is = c.requires in
    let w = subst (λ (b : List ℕ). WellFormed b) c.table.ensures c.rows-rows.ensures.well_formed in
    let read : c.u64_at-ordinal.result ≡ number_at w64 d.bytes p = c.u64_at-ordinal.ensures ∙ ap (λ (b : List ℕ). number_at w64 b p) c.links.ensures.came in
    let some = λ (e : number_at w64 d.bytes p ≡ 0). c.if-ordinal-eq0.false (read ∙ e) in
    record {
      in_range = lt;
      of_ordinals = keyed.has_ordinals d w i Union refl is;
      room = omega (arith, viewing.union_size d w i p lt is, c.args.self.room);
      short = c.args.self.short;
      few = c.entry-entry.ensures.encoding.1.few;
      shown = ∥∥₁_map c.args.self.shown (λ h. let x = (keyed.union_found d w i p lt is h.0 h.1).1 some in (x.0, subst (λ k. ShowMember d i k (p + 8) x.0) (sym read) x.2));
    }

pub returns-clause-held : goal.returns-clause-held
returns-clause-held c v h =
    let d = c.args.self.decoded.now in
    let i = c.args.self.index in
    let p = c.args.self.place in
    let lt = c.args.self.in_range in
    let is = c.requires in
    let w = subst (λ (b : List ℕ). WellFormed b) c.table.ensures c.rows-rows.ensures.well_formed in
    let read : c.u64_at-ordinal.result ≡ number_at w64 d.bytes p = c.u64_at-ordinal.ensures ∙ ap (λ (b : List ℕ). number_at w64 b p) c.links.ensures.came in
    let some = λ (e : number_at w64 d.bytes p ≡ 0). c.if-ordinal-eq0.false (read ∙ e) in
    let x = (keyed.union_found d w i p lt is v h).1 some in
    (x.0, subst (λ k. variant_of v ≡ Some (k, x.0)) (sym read) x.1, subst (λ k. ShowMember d i k (p + 8) x.0) (sym read) x.2)

pub u64_at-ordinal-requires : goal.u64_at-ordinal-requires
u64_at-ordinal-requires c =
    let d = c.args.self.decoded.now in
    let i = c.args.self.index in
    let p = c.args.self.place in
    let lt = c.args.self.in_range in
    let is = c.requires in
    let w = subst (λ (b : List ℕ). WellFormed b) c.table.ensures c.rows-rows.ensures.well_formed in
    let wide = viewing.union_size d w i p lt is in
    let long = ap length c.links.ensures.came in
    record {
      room = omega (arith, wide, long, c.args.self.room);
      free = ∥∥₁_elim c.args.self.shown (hlevel props) (λ h. unlinked.free c.links.result.now d.bytes d.links c.links.ensures.came c.links.ensures.noted p (p + 8) (viewing.ordinal_free d w i p lt is h.0 h.1));
    }
