use Rattle.fidl_table_format.proofs.Spans.{span_has}
use Rattle.fidl_table_format.proofs.laws.ranges_have_their_numbers.Goals as goal

pub returns : goal.returns
returns c = span_has
