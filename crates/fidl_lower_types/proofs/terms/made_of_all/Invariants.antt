use Rattle.std.proofs.Common.{◌≡◌, ◌-◌, length, drop}
use Rattle.fidl_ir.specs.Terms.{term_view}
use Rattle.fidl_lower_types.specs.TermViews.{made_of_all}
use Rattle.fidl_lower_types.proofs.terms.made_of_all.Given as goal

-- the last shapes are made
abbrev pub invariant-loop-behind : goal.invariant-loop-behind
invariant-loop-behind l = term_view l.made ≡ made_of_all (drop (length l.shapes - l.behind) l.shapes) (term_view l.fn.of)
