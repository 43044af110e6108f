use Rattle.std.proofs.Common.{◌≡◌, rules, arith, refl, below_none, below_more}
use Rattle.fidl_table_format.proofs.worked.tables.enums_cover_the_values.Goals as goal

pub returns-clause-whole : goal.returns-clause-whole
returns-clause-whole c = record {
  header = search rules;
  entries = below_more _ 2 (
      below_more _ 1 (
      below_more _ 0 (below_none _) (record {
        shape = search rules;
        children = search rules;
        rows = search rules;
        values = search rules;
        offsets = search rules;
        size = search rules;
        nest = search rules;
        sorted = record {
          ordinals = search rules;
          values = λ is. below_more _ 1 (below_more _ 0 (below_none _) (record {
            lowest = search rules;
            highest = search rules;
            order = search rules;
            rises = λ p. search rules;
            apart = λ on p. search rules;
          })) (record {
            lowest = search rules;
            highest = search rules;
            order = search rules;
            rises = λ p. search rules;
            apart = λ on p. search rules;
          });
        };
        names = search rules;
      })
      ) (record {
        shape = search rules;
        children = search rules;
        rows = search rules;
        values = search rules;
        offsets = search rules;
        size = search rules;
        nest = search rules;
        sorted = record { ordinals = search rules; values = λ is. below_none _ };
        names = search rules;
      })
      ) (record {
        shape = search rules;
        children = search rules;
        rows = search rules;
        values = search rules;
        offsets = search rules;
        size = search rules;
        nest = search rules;
        sorted = record {
          ordinals = search rules;
          values = λ is. below_more _ 0 (below_none _) (record {
            lowest = search rules;
            highest = search rules;
            order = search rules;
            rises = λ p. search rules;
            apart = λ on p. search rules;
          });
        };
        names = search rules;
      });
  covered = refl;
  values_covered = refl;
  roots = λ index p. absurd (omega (arith, p));
  protocols = λ index p. absurd (omega (arith, p));
  methods_covered = refl;
  methods = λ index p. absurd (omega (arith, p));
}

pub returns-clause-uncovered : goal.returns-clause-uncovered
returns-clause-uncovered c = λ w. let never : 3 ≡ 4 = w.values_covered in absurd (omega (arith, never))

pub returns-clause-surplus : goal.returns-clause-surplus
returns-clause-surplus c = λ w. let never : 185 ≡ 184 = w.header.whole in absurd (omega (arith, never))

pub returns-clause-elsewhere : goal.returns-clause-elsewhere
returns-clause-elsewhere c = λ w. let never : 0 ≡ 2 = (w.entries 1 (omega arith)).values refl in absurd (omega (arith, never))
