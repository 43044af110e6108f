use Rattle.fidl_script.proofs.Refused.{refused}
use Rattle.fidl_stream_commands.proofs.laws.refused_texts_are_not_served.Goals as goal

pub returns : goal.returns
returns c = λ table text f h other has. refused table text f h other has.protocol has.of_table has.script has.is
