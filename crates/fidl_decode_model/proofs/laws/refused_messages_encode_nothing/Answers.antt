use Rattle.fidl_verify.proofs.Declared.{sound}
use Rattle.fidl_decode_model.proofs.Bridge.{fine_of}
use Rattle.fidl_decode_model.proofs.Excluding.{told_excluded}
use Rattle.fidl_decode_model.proofs.laws.refused_messages_encode_nothing.Goals as goal

pub returns : goal.returns
returns c table well entry lt bytes handles fault told y = told_excluded table (fine_of table well) (sound table well) entry lt bytes handles y fault told
