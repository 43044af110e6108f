use Rattle.std.proofs.Common.{rules, below_none, below_more}
use Rattle.fidl_table_format.proofs.worked.ranges.ends_fit.Goals as goal

pub returns-clause-signed : goal.returns-clause-signed
returns-clause-signed c = record {
  ordinals = search rules;
  values = λ is. below_more _ 1 (below_more _ 0 (below_none _) (record {
    lowest = search rules;
    highest = search rules;
    order = search rules;
    rises = λ p. search rules;
    apart = λ on p. search rules;
  })) (record {
    lowest = search rules;
    highest = search rules;
    order = search rules;
    rises = λ p. search rules;
    apart = λ on p. search rules;
  });
}

pub returns-clause-widest : goal.returns-clause-widest
returns-clause-widest c = record {
  ordinals = search rules;
  values = λ is. below_more _ 1 (below_more _ 0 (below_none _) (record {
    lowest = search rules;
    highest = search rules;
    order = search rules;
    rises = λ p. search rules;
    apart = λ on p. search rules;
  })) (record {
    lowest = search rules;
    highest = search rules;
    order = search rules;
    rises = λ p. search rules;
    apart = λ on p. search rules;
  });
}
