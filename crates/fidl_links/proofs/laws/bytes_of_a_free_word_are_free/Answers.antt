use Rattle.fidl_links.proofs.Free.{free_in}
use Rattle.fidl_links.proofs.laws.bytes_of_a_free_word_are_free.Goals as goal

pub returns : goal.returns
returns c = λ m place k aligned free from to. free_in m place aligned free k from to
