use Rattle.std.proofs.Common.{rules, below_none, below_more}
use Rattle.fidl_table_format.proofs.worked.ordinals.ordinals_of_tables.Goals as goal

pub returns-clause-ends : goal.returns-clause-ends
returns-clause-ends c = record {
  ordinals = λ is. below_more _ 1 (below_more _ 0 (below_none _) (record { some = search rules; limit = search rules; rises = search rules })) (record { some = search rules; limit = search rules; rises = search rules });
  values = search rules;
}
