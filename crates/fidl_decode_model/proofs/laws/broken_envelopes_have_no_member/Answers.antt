use Rattle.fidl_decode_model.proofs.Enveloped.{envelope_excluded}
use Rattle.fidl_decode_model.proofs.laws.broken_envelopes_have_no_member.Goals as goal

pub returns : goal.returns
returns c ds laid m within held t envelope from to fault b x = envelope_excluded ds laid m within held envelope from t to fault b x
