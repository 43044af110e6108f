use Rattle.fidl_requests.proofs.Framed.{its_handles}
use Rattle.fidl_requests.proofs.frame.Frame.handles.Goals as goal

pub returns : goal.returns
returns c = its_handles _ _ _ _ _ c.self.view_is c.message_length.ensures.value c.handle_count.ensures.value c.read_handles.ensures
