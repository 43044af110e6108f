use Rattle.std.proofs.Common.{refl}
use Rattle.std.specs.Fmt.{digits}
use Rattle.hex.specs.Hex.{encode_with}
use Rattle.fidl_commands.proofs.worked.the_lines_of_a_message.Goals as goal

pub returns-clause-bytes : goal.returns-clause-bytes
unfolding encode_with
returns-clause-bytes c = refl

pub returns-clause-handles : goal.returns-clause-handles
unfolding digits encode_with
returns-clause-handles c = refl
