use Rattle.std.proofs.Common.{◌<◌, List, [], rules, arith, refl}
use Rattle.std.proofs.lemmas.Option.{none-some}
use Rattle.fidl_wire.specs.Term.{Term}
use Rattle.fidl_wire.specs.Figure.{no_declarations}
use Rattle.fidl_cycles.specs.Cycles.{Leads, step, further}
use Rattle.fidl_reachable_types.specs.Reached.{IsReached, AreReached, with_none, root, part}
use Rattle.fidl_composition.proofs.Lists.{nothing_there}
use Rattle.fidl_layout.specs.Laid.{AreLaidOut}
use Rattle.fidl_table.proofs.Small.{left_out, surplus}
use Rattle.fidl_table.proofs.worked.tables_of_files.Goals as goal

none_leads : {X : Type 0} (R : X → X → Type 0) → ((x y : X) → R x y → ⊥) → (x y : X) → Leads R x y → ⊥
none_leads R none x y (step a b h) = none a b h
none_leads R none x y (further a b c h k) = none a b h

none_reached : (terms : List Term) (t : Term) → IsReached terms [] t → ⊥
none_reached terms t (root i h) = nothing_there i h
none_reached terms u (part t v h k) = none_reached terms t h

reach_none : (terms : List Term) → AreReached terms [] []
reach_none terms = record {
  distinct = λ i j d lt within. absurd (omega (arith, within));
  sound = λ t h. absurd (nothing_there t h);
  complete = λ t h. absurd (none_reached terms t h);
  order = with_none [];
}

laid_out : AreLaidOut [] no_declarations
laid_out = record {
  checked = record {
    layouts = tt;
    numbers = tt;
    resources = λ number f at. absurd (none-some f at);
    uses = λ number f at. absurd (none-some f at);
    definitions = tt;
    kept = record { marked = λ i. tt; apart = λ i. none_leads _ (λ a b h. omega (arith, h.1)) i i };
  };
  laid_out = refl;
  limits = record { figures = tt; members = tt };
  values = tt;
  uses = λ number f at. absurd (none-some f at);
  types = record {
    roots = [];
    are = record { sound = λ i h. absurd (nothing_there i h); complete = λ i r. absurd (none-some r.form r.at) };
    types = [];
    reached = reach_none [];
    few = omega arith;
  };
}

pub returns-clause-none : goal.returns-clause-none
returns-clause-none c = record {
  declarations = no_declarations;
  laid_out = laid_out;
  roots = record { sound = λ root lt. absurd (omega (arith, lt)); complete = λ i r. absurd (none-some r.form r.at) };
  protocols = record {
    protocols = [];
    are = record {
      protocols = record {
        entries = λ p h. absurd (nothing_there p h);
        all = λ p is. absurd (none-some is.1.file is.1.is.at.file_at);
        rise = search rules;
      };
      methods = tt;
    };
    sound = λ number lt. absurd (omega (arith, lt));
    complete = λ p h. absurd (nothing_there p h);
  };
  entries = record {
    roots = [];
    roots_are = record { count = refl; each = λ root definition at. absurd (none-some definition at) };
    protocols = [];
    protocols_are = record { count = refl; each = λ number p at. absurd (none-some p at) };
    types = [];
    reached = reach_none [];
    entries = record { count = refl; levels = λ number t at. absurd (none-some t at) };
  };
}

pub returns-clause-fewer_roots : goal.returns-clause-fewer_roots
returns-clause-fewer_roots c = λ files i at h.
    let r = h.roots.complete i at in
    let lt : r.0 < 0 = r.1 in
    omega (arith, lt)

pub returns-clause-fewer_protocols : goal.returns-clause-fewer_protocols
returns-clause-fewer_protocols c = λ files id is h. left_out files h.declarations id is h.protocols

pub returns-clause-more_protocols : goal.returns-clause-more_protocols
returns-clause-more_protocols c = λ h. surplus h.declarations h.protocols
