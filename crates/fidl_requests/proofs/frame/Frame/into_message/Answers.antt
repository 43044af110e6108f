use Rattle.fidl_requests.proofs.Framed.{its_message}
use Rattle.fidl_requests.proofs.frame.Frame.into_message.Goals as goal

pub returns-clause-value : goal.returns-clause-value
returns-clause-value c = its_message _ _ _ c.self.view_is c.message_length-end.ensures.value
