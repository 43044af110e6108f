use Rattle.fidl_view.specs.Members.{struct_of}
use Rattle.fidl_wire.specs.Term.{Term, fields_of}
use Rattle.std.proofs.Common.{ℕ, List, ap, subst}
use Rattle.std.proofs.Math.Logic.{∥∥₁_map}
use Rattle.fidl_table_format.specs.declared.kind.EntryKind.TheVariants.{Struct}
use Rattle.fidl_table_format.specs.Terms.{declarations_of}
use Rattle.fidl_table_format.specs.WellFormed.{WellFormed}
use Rattle.fidl_view.proofs.Viewing as viewing
use Rattle.fidl_view.proofs.MemberPlaces as places
use Rattle.fidl_view.proofs.view.View.struct_members.Goals as goal

pub invariant_of-result : goal.invariant_of-result
invariant_of-result c =
    let v = c.args.self in
    let d = v.decoded.now in
    let w = subst (λ (b : List ℕ). WellFormed b) c.table.ensures c.rows-rows.ensures.well_formed in
    record {
      in_range = v.in_range;
      of_struct = c.requires;
      short = v.short;
      shown = ∥∥₁_map v.shown (λ h. let x = places.struct_shown d w v.index v.place v.in_range c.requires h.0 h.1 in (x.0, x.2));
    }

pub returns-clause-of : goal.returns-clause-of
returns-clause-of c =
    let s = c.args.self in
    let d = s.decoded.now in
    let w = subst (λ (b : List ℕ). WellFormed b) c.table.ensures c.rows-rows.ensures.well_formed in
    ap (λ (t : Term). fields_of (struct_of (declarations_of d.table) t)) (viewing.own_type d w s.index s.place s.in_range Struct c.requires)

pub returns-clause-members : goal.returns-clause-members
returns-clause-members c v h =
    let s = c.args.self in
    let w = subst (λ (b : List ℕ). WellFormed b) c.table.ensures c.rows-rows.ensures.well_formed in
    places.struct_shown s.decoded.now w s.index s.place s.in_range c.requires v h
