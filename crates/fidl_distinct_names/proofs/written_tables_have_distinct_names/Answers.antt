use Rattle.fidl_distinct_names.proofs.Tables.{tables_differ}
use Rattle.fidl_distinct_names.proofs.written_tables_have_distinct_names.Goals as goal

pub returns : goal.returns
returns c = λ files bytes resolved shows w. tables_differ files bytes resolved shows w
