use Rattle.std.proofs.Common.{rules, arith, refl, below_none, below_more}
use Rattle.fidl_table_format.proofs.worked.ordinals.tables_with_tables_and_unions.Goals as goal

pub returns-clause-well_formed : goal.returns-clause-well_formed
returns-clause-well_formed c = record {
  header = search rules;
  entries = below_more _ 2 (below_more _ 1 (below_more _ 0 (below_none _) (record {
    shape = search rules;
    children = search rules;
    rows = search rules;
    values = search rules;
    offsets = search rules;
    size = search rules;
    nest = search rules;
    sorted = search rules;
    names = search rules;
  })) (record {
    shape = search rules;
    children = record { elements = search rules; content = search rules; within = search rules; members = λ is. below_more _ 1 (below_more _ 0 (below_none _) (omega arith)) (omega arith); values = search rules };
    rows = search rules;
    values = search rules;
    offsets = search rules;
    size = search rules;
    nest = search rules;
    sorted = record {
      ordinals = λ is. below_more _ 1 (below_more _ 0 (below_none _) (record { some = search rules; limit = search rules; rises = search rules })) (record { some = search rules; limit = search rules; rises = search rules });
      values = search rules;
    };
    names = record { own = search rules; members = λ is. below_more _ 1 (below_more _ 0 (below_none _) (search rules)) (search rules) };
  }))
      (record {
        shape = search rules;
        children = record { elements = search rules; content = search rules; within = search rules; members = λ is. below_more _ 1 (below_more _ 0 (below_none _) (omega arith)) (omega arith); values = search rules };
        rows = search rules;
        values = search rules;
        offsets = search rules;
        size = search rules;
        nest = search rules;
        sorted = record {
          ordinals = λ is. below_more _ 1 (below_more _ 0 (below_none _) (record { some = search rules; limit = search rules; rises = search rules })) (record { some = search rules; limit = search rules; rises = search rules });
          values = search rules;
        };
        names = record { own = search rules; members = λ is. below_more _ 1 (below_more _ 0 (below_none _) (search rules)) (search rules) };
      });
  covered = refl;
  values_covered = refl;
  roots = λ index p. absurd (omega (arith, p));
  protocols = λ index p. absurd (omega (arith, p));
  methods_covered = refl;
  methods = λ index p. absurd (omega (arith, p));
}
