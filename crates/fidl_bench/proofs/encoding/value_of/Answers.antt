use Rattle.std.proofs.Common.{ℕ, List, [], subst, ◌∙◌}
use Rattle.fidl_wire.specs.Term as ty
use Rattle.fidl_wire.specs.Message.{Encodes}
use Rattle.fidl_table_format.specs.Terms.{declarations_of}
use Rattle.fidl_wire.specs.Views.{value_view}
use Rattle.fidl_bench.proofs.Writing.{as_decoded, of_equal}
use Rattle.fidl_bench.proofs.encoding.value_of.Goals as goal

pub returns-in-Ok-to_value-clause-ok : goal.returns-in-Ok-to_value-clause-ok
returns-in-Ok-to_value-clause-ok c =
    let d = c.in-Ok-decode.ensures in
    let shown = c.view.ensures.shows d.ok.0 (as_decoded _ _ _ _ _ _ _ _ _ d.table d.entry d.bytes d.handles d.ok.1) in
    let same = c.deref_mut.ensures.value ∙ c.in-Ok.ensures in
    let here = subst (λ (b : List ℕ). Encodes (declarations_of c.args.table.now) (ty.named c.args.entry) d.ok.0 b []) same d.ok.1 in
    of_equal c.args.table.now c.args.entry d.ok.0 (value_view c.in-Ok-to_value.value) c.args.message.now (c.in-Ok-to_value.ensures d.ok.0 shown) here
