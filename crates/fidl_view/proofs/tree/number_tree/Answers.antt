use Rattle.std.proofs.Common.{ℤ, ap, ◌∙◌}
use Rattle.std.specs.Int.{w64, w128}
use Rattle.std.proofs.lemmas.Int.{to_z-of_z}
use Rattle.fidl_wire.specs.Value.{number}
use Rattle.std.proofs.Math.Logic.{∥∥₁_elim}
use Rattle.fidl_view.proofs.Owned.{number_is}
use Rattle.fidl_view.proofs.Truncated.{is_some_prop}
use Rattle.fidl_view.proofs.Numbered.{wants_signed, unsigned_is, signed_is}
use Rattle.fidl_view.proofs.tree.number_tree.Goals as goal

pub unwrap-requires : goal.unwrap-requires
unwrap-requires c = ∥∥₁_elim c.requires.part (is_some_prop _) (λ q.
    let p = q.3.1 in
    let v = q.3.0 in
    wants_signed c.args.view.decoded.now.table c.requires.well_formed c.args.view.index c.args.view.in_range q.0 q.1 q.2 v p.typed p.shown.typed
    c.as_u64.result c.as_i64.result (c.as_u64.ensures v p.shown) c.in-None.is (c.as_i64.ensures v p.shown))

pub returns-in-Some : goal.returns-in-Some
returns-in-Some c ds t is v p =
    number_is _ ∙ ap (λ (z : ℤ). number z) (to_z-of_z w128 c.from.result (record { sfits = c.from.type_inv }) ∙ c.from.ensures)
    ∙ unsigned_is c.args.view.decoded.now.table c.requires.well_formed c.args.view.index c.args.view.in_range ds t is v p.typed p.shown.typed c.as_u64.result c.in-Some.number (c.as_u64.ensures v p.shown) c.in-Some.is

pub returns-in-None : goal.returns-in-None
returns-in-None c ds t is v p =
    let same = to_z-of_z w64 c.unwrap.result (record { sfits = c.unwrap.type_inv }) in
    number_is _ ∙ ap (λ (z : ℤ). number z) (to_z-of_z w128 c.from-in-None.result (record { sfits = c.from-in-None.type_inv }) ∙ c.from-in-None.ensures ∙ same)
    ∙ signed_is c.args.view.decoded.now.table c.requires.well_formed c.args.view.index c.args.view.in_range ds t is v p.typed p.shown.typed
    c.as_u64.result c.as_i64.result c.unwrap.result (c.as_u64.ensures v p.shown) c.in-None.is (c.as_i64.ensures v p.shown) c.unwrap.ensures
