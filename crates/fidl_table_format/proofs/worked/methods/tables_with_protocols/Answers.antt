use Rattle.std.proofs.Common.{rules, arith, refl, below_none, below_more}
use Rattle.fidl_table_format.proofs.worked.methods.tables_with_protocols.Goals as goal

pub returns-clause-two : goal.returns-clause-two
returns-clause-two c = record {
  header = search rules;
  entries = λ index p. absurd (omega (arith, p));
  covered = refl;
  values_covered = refl;
  roots = λ index p. absurd (omega (arith, p));
  protocols = below_more _ 1 (below_more _ 0 (below_none _) (record { openness = search rules; name = search rules; rises = search rules; methods = search rules })) (record { openness = search rules; name = search rules; rises = search rules; methods = search rules });
  methods_covered = refl;
  methods = below_more _ 1 (below_more _ 0 (below_none _) (record { shape = search rules; name = search rules; rises = search rules })) (record { shape = search rules; name = search rules; rises = search rules });
}
