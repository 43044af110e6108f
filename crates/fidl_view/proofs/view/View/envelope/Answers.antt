use Rattle.std.proofs.Common.{◌≡◌, subst}
use Rattle.std.specs.Prelude.{Some}
use Rattle.fidl_table_format.specs.declared.kind.EntryKind.TheVariants.{Union}
use Rattle.fidl_table_format.specs.Section.{header_of, entry_at}
use Rattle.fidl_table_format.specs.Terms.{declarations_of}
use Rattle.fidl_view.specs.Parts.{variant_of}
use Rattle.fidl_view.proofs.Viewing as viewing
use Rattle.fidl_view.proofs.Lists as lists
use Rattle.fidl_view.proofs.Keyed as keyed
use Rattle.fidl_view.proofs.view.View.envelope.Goals as goal

pub returns-in_default-union_envelope : goal.returns-in_default-union_envelope
returns-in_default-union_envelope c =
    let d = c.args.self.decoded.now in
    let i = c.args.self.index in
    let p = c.args.self.place in
    let lt = c.args.self.in_range in
    let w = c.kind.ensures.well_formed in
    record {
      held = λ v h. keyed.absent_holds_none v (c.in_default-union_envelope.ensures.held v h) c.args.ordinal
          (λ ms k. lists.no_table_of (declarations_of d.table) d.table (header_of d.table) (entry_at d.table i) Union keyed.union_no_table v (viewing.lies d w i p lt Union c.in-Union.ensures.of v h).0 k ms);
    }

pub returns-then-envelope-ordinal : goal.returns-then-envelope-ordinal
returns-then-envelope-ordinal c =
    record {
      held = λ v h. let x = c.in-Some.ensures.held v h in
          (x.0, keyed.held_variant v c.args.ordinal x.0 (subst (λ k. variant_of v ≡ Some (k, x.0)) c.if-envelope-ordinal.true x.1), x.2);
    }

pub returns-else-envelope-ordinal : goal.returns-else-envelope-ordinal
returns-else-envelope-ordinal c =
    record {
      held = λ v h. let x = c.in-Some.ensures.held v h in keyed.held_no_variant v c.in-Some.envelope.ordinal c.args.ordinal x.0 x.1 c.if-envelope-ordinal.false;
    }

pub returns-in_default : goal.returns-in_default
returns-in_default c =
    let d = c.args.self.decoded.now in
    let i = c.args.self.index in
    let p = c.args.self.place in
    let lt = c.args.self.in_range in
    let w = c.kind.ensures.well_formed in
    record {
      held = λ v h. keyed.no_held (declarations_of d.table) d.table (header_of d.table) (entry_at d.table i) c.kind.result c.in_default.not-Table c.in_default.not-Union v (viewing.lies d w i p lt c.kind.result c.kind.ensures.of v h).0 c.args.ordinal;
    }
