use Rattle.std.proofs.Common.{rules, arith, refl, below_none, below_more}
use Rattle.fidl_table_format.proofs.worked.ranges.tables_of_both_versions.Goals as goal

pub returns-clause-two : goal.returns-clause-two
returns-clause-two c = record {
  header = search rules;
  entries = below_more _ 0 (below_none _) (record {
    shape = search rules;
    children = search rules;
    rows = search rules;
    values = search rules;
    offsets = search rules;
    size = search rules;
    nest = search rules;
    sorted = record {
      ordinals = search rules;
      values = λ is. below_more _ 1 (below_more _ 0 (below_none _) (record {
        lowest = search rules;
        highest = search rules;
        order = search rules;
        rises = λ p. search rules;
        apart = λ on p. search rules;
      })) (record {
        lowest = search rules;
        highest = search rules;
        order = search rules;
        rises = λ p. search rules;
        apart = λ on p. search rules;
      });
    };
    names = search rules;
  });
  covered = refl;
  values_covered = refl;
  roots = below_more _ 0 (below_none _) (search rules);
  protocols = λ index p. absurd (omega (arith, p));
  methods_covered = refl;
  methods = λ index p. absurd (omega (arith, p));
}

pub returns-clause-one : goal.returns-clause-one
returns-clause-one c = record {
  header = search rules;
  entries = below_more _ 0 (below_none _) (record {
    shape = search rules;
    children = search rules;
    rows = search rules;
    values = search rules;
    offsets = search rules;
    size = search rules;
    nest = search rules;
    sorted = record {
      ordinals = search rules;
      values = λ is. below_more _ 2 (below_more _ 1 (below_more _ 0 (below_none _) (record {
        lowest = search rules;
        highest = search rules;
        order = search rules;
        rises = λ p. search rules;
        apart = λ on p. search rules;
      })) (record {
        lowest = search rules;
        highest = search rules;
        order = search rules;
        rises = λ p. search rules;
        apart = λ on p. search rules;
      })) (record {
        lowest = search rules;
        highest = search rules;
        order = search rules;
        rises = λ p. search rules;
        apart = λ on p. search rules;
      });
    };
    names = search rules;
  });
  covered = refl;
  values_covered = refl;
  roots = below_more _ 0 (below_none _) (search rules);
  protocols = λ index p. absurd (omega (arith, p));
  methods_covered = refl;
  methods = λ index p. absurd (omega (arith, p));
}
