use Rattle.std.proofs.Common.{rules, ◌≡◌, ◌∙◌, Some, None, sym, arith}
use Rattle.std.specs.Prelude.{slice_get}
use Rattle.std.proofs.Math.ListN.{length-map}
use Rattle.fidl_ir.specs.Terms.{definitions_view}
use Rattle.fidl_reachable_types.specs.Growing.{reference_view, types_of}
use Rattle.fidl_reachable_types.proofs.Reaching.{whole, begin, next, roots_past, held_past, past_end}
use Rattle.fidl_reachable_types.proofs.reach.reached_types.Goals as goal

pub returns-in_err-add_roots-clause-fault_is_true :
    goal.returns-in_err-add_roots-clause-fault_is_true
returns-in_err-add_roots-clause-fault_is_true c =
    let h = roots_past (definitions_view c.args.definitions.now) c.args.roots.now c.args.limit c.new-list.result c.new-list.ensures.limit c.new-list.ensures.empty c.in_err-add_roots.field-0.0 c.in_err-add_roots.ensures.full in
    search (rules, h)

pub loop-place-init : goal.loop-place-init
loop-place-init c =
    let grown = c.in_ok-add_roots.ensures.ok in
    record {
      kept = grown.kept;
      limit = grown.limit ∙ c.new-list.ensures.limit;
      reaching = begin (definitions_view c.args.definitions.now) c.args.roots.now (types_of c.new-list.result) c.new-list.ensures.empty (types_of c.add_roots.new.list) grown.joined;
    }

pub returns-in_default-clause-ok : goal.returns-in_default-clause-ok
returns-in_default-clause-ok c =
    let types = types_of c.loop-place.list in
    let none : slice_get types c.loop-place.place ≡ None = sym c.in_default.ensures in
    whole (definitions_view c.args.definitions.now) c.args.roots.now types c.loop-place.place (past_end (definitions_view c.args.definitions.now) c.args.roots.now types c.loop-place.place none) c.loop-place.invariant.reaching

pub returns-in_err-add_held-clause-fault_is_true : goal.returns-in_err-add_held-clause-fault_is_true
returns-in_err-add_held-clause-fault_is_true c =
    let types = types_of c.loop-place.list in
    let at : slice_get types c.loop-place.place ≡ Some (reference_view c.in-Some.of) = sym c.in-Some.ensures in
    let h = held_past (definitions_view c.args.definitions.now) c.args.roots.now c.args.limit c.loop-place.list c.loop-place.invariant.limit c.loop-place.place (reference_view c.in-Some.of) at c.loop-place.invariant.reaching c.in_err-add_held.field-0.0 c.in_err-add_held.ensures.full in
    search (rules, h)

pub loop-place-preserved : goal.loop-place-preserved
loop-place-preserved c =
    let types = types_of c.loop-place.list in
    let at : slice_get types c.loop-place.place ≡ Some (reference_view c.in-Some.of) = sym c.in-Some.ensures in
    let grown = c.in_ok-add_held.ensures.ok in
    record {
      kept = grown.kept;
      limit = grown.limit ∙ c.loop-place.invariant.limit;
      reaching = next (definitions_view c.args.definitions.now) c.args.roots.now types c.loop-place.place (reference_view c.in-Some.of) at c.loop-place.invariant.reaching (types_of c.add_held.new.list) grown.joined;
    }

pub returns-clause-ok : goal.returns-clause-ok
returns-clause-ok c =
    let list = c.loop-place.list in
    let types = types_of list in
    let within = c.loop-place.invariant.kept.within in
    let limit = c.loop-place.invariant.limit in
    let over = c.loop-place-test.false in
    let long = length-map list.types.items reference_view in
    whole (definitions_view c.args.definitions.now) c.args.roots.now types c.loop-place.place (omega (arith, within, limit, over, long)) c.loop-place.invariant.reaching
