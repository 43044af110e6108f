use Rattle.std.proofs.Common.{◌≡◌, ℕ, ◌<◌, true, false, IsTrue, get_or}
use Rattle.fidl_wire.specs.Term.{nothing}
use Rattle.fidl_ir.specs.Terms.{definitions_view}
use Rattle.fidl_type_shape.specs.Views.{figures_view}
use Rattle.fidl_type_shape.specs.Solutions.{is_settled}
use Rattle.fidl_type_shape.specs.Progress.{AreFound}
use Rattle.fidl_type_shape.proofs.rounds.visit_all.Given as goal

-- the known figures are right; those visited that aren't known waited before
abbrev pub invariant-loop-number : goal.invariant-loop-number
invariant-loop-number l = record {
  right : AreFound (definitions_view l.definitions) (figures_view l.figures) l.known;
  grows : (i : ℕ) → IsTrue (get_or l.initial.known i true) → IsTrue (get_or l.known i true);
  wait : (i : ℕ) → i < l.number → get_or l.known i true ≡ false → is_settled l.initial.known (get_or (definitions_view l.definitions) i nothing) ≡ false;
}
