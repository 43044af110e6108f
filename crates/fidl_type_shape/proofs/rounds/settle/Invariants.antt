use Rattle.std.proofs.Common.{◌≡◌, ℕ, true, false, get_or}
use Rattle.fidl_wire.specs.Term.{nothing}
use Rattle.fidl_ir.specs.Terms.{definitions_view}
use Rattle.fidl_type_shape.specs.Nesting.{Nested}
use Rattle.fidl_type_shape.specs.Views.{figures_view}
use Rattle.fidl_type_shape.specs.Progress.{AreFound}
use Rattle.fidl_type_shape.proofs.rounds.settle.Given as goal

-- the known figures are right; from the others on, as many stand in one another as turns were made
abbrev pub invariant-loop-turn : goal.invariant-loop-turn
invariant-loop-turn l = record {
  right : AreFound (definitions_view l.definitions) (figures_view l.figures) l.known;
  nested : (i : ℕ) → get_or l.known i true ≡ false → Nested (definitions_view l.definitions) l._turn (get_or (definitions_view l.definitions) i nothing);
}
