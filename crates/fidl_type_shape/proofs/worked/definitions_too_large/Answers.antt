use Rattle.std.proofs.Common.{rules, ◌≡◌, zero, suc, IsTrue, false, [], ◌∷◌, refl, sym, subst, arith}
use Rattle.std.proofs.lemmas.Option.{same_Some}
use Rattle.std.specs.List.{Contains}
use Rattle.fidl_type_shape.specs.Limits.{parts}
use Rattle.std.specs.Prelude.{codes}
use Rattle.fidl_wire.specs.Term.{Term, row, no_rows}
use Rattle.fidl_wire.specs.Term as ty
use Rattle.fidl_wire.specs.Figure.{Figure, figure, figure_of}
use Rattle.fidl_type_shape.specs.declared.fault.FigureFault.TheVariants.{TooLarge}
use Rattle.fidl_type_shape.specs.Solutions.{is_settled, Solve}
use Rattle.fidl_type_shape.proofs.Lists.{among_more}
use Rattle.fidl_type_shape.proofs.Nests.{itself}
use Rattle.fidl_type_shape.specs.Samples.{holding, bytes}
use Rattle.fidl_type_shape.proofs.Excluded.{excluded_terms, one_no_name}
use Rattle.fidl_type_shape.proofs.Holders.{Holder, little}
use Rattle.fidl_type_shape.proofs.worked.definitions_too_large.Goals as goal

-- the figure of one definition
solve_one : (t : Term) (f : Figure) → IsTrue (is_settled [] t) → figure_of (f ∷ []) t ≡ f → Solve (t ∷ []) (f ∷ []) []
solve_one t f settled solves zero h = record { settled = settled; solves = solves }
solve_one t f settled solves (suc i) h = record { settled = refl; solves = refl }

pub returns-clause-refused : goal.returns-clause-refused
returns-clause-refused c = record {
  definition = holding (bytes 65536);
  part = bytes 65536;
  stands = refl;
  among = among_more (holding (bytes 65536)) (bytes 65536) (bytes 65536 ∷ ty.number ty.uint8 ∷ []) (itself (bytes 65536));
  own = tt;
  figures = figure 65536 1 2 ∷ [];
  chosen = [];
  solve = solve_one (holding (bytes 65536)) (figure 65536 1 2) refl refl;
  settled = refl;
  large = omega arith;
}

pub returns-clause-in_a_table : goal.returns-clause-in_a_table
returns-clause-in_a_table c =
    let table = ty.table (row 1 (codes "a") (bytes 65536) no_rows) in
    record {
      definition = table;
      part = bytes 65536;
      stands = refl;
      among = among_more table (bytes 65536) (bytes 65536 ∷ ty.number ty.uint8 ∷ []) (itself (bytes 65536));
      own = tt;
      figures = figure 16 8 0 ∷ [];
      chosen = [];
      solve = solve_one table (figure 16 8 0) refl refl;
      settled = refl;
      large = omega arith;
    }

pub returns-clause-last : goal.returns-clause-last
returns-clause-last c h = excluded_terms (holding (bytes 65535) ∷ []) (one_no_name (holding (bytes 65535)) tt) (figure 65535 1 2 ∷ []) (TooLarge 0) (λ e. cc e) h refl (search rules)

pub returns-clause-holder : goal.returns-clause-holder
returns-clause-holder c h =
    let among = subst (λ (t : Term). Contains (parts t) h.part) (sym (same_Some Holder h.definition h.stands)) h.among in
    let small = (little h.figures h.part among h.own).small in
    omega (arith, small, h.large)

pub returns-clause-in_a_vector : goal.returns-clause-in_a_vector
returns-clause-in_a_vector c =
    let vector = ty.vector false 2 (bytes 65536) in
    record {
      definition = holding vector;
      part = bytes 65536;
      stands = refl;
      among = among_more (holding vector) (bytes 65536) (parts vector) (among_more vector (bytes 65536) (parts (bytes 65536)) (itself (bytes 65536)));
      own = tt;
      figures = figure 16 8 1 ∷ [];
      chosen = [];
      solve = solve_one (holding vector) (figure 16 8 1) refl refl;
      settled = refl;
      large = omega arith;
    }
