use Rattle.std.proofs.Common.{◌∙◌, ap, List, ℕ, drop}
use Rattle.std.proofs.lemmas.List.{take_rest}
use Rattle.fidl_verify.specs.Lookups.{request_of}
use Rattle.fidl_requests.specs.Methods.{record_of}
use Rattle.fidl_requests.proofs.Asked.{carried_as}
use Rattle.fidl_requests.proofs.verdict.is_body.Goals as goal

pub returns : goal.returns
returns c =
    carried_as c.is_carried.result c.args.table.now _ _ _ _ _ _
    (c.request.ensures.value ∙ ap (λ (t : List ℕ). request_of (record_of t c.args.method.now.number)) c.requires.table)
    (take_rest c.into_message-message.result.now 16 ∙ ap (λ (l : List ℕ). drop 16 l) c.into_message-message.ensures.value)
    c.handles-handles.ensures
    c.is_carried.ensures
