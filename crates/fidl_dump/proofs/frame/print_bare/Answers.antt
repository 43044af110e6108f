use Rattle.std.proofs.Common.{◌≡◌, length, arith, refl}
use Rattle.std.proofs.lemmas.Grind.{common_steps}
use Rattle.fidl_dump.proofs.Values.{is_bare}
use Rattle.fidl_dump.proofs.frame.print_bare.Goals as goal

pub returns-in-Ok-clause-prints : goal.returns-in-Ok-clause-prints
returns-in-Ok-clause-prints g c =
    let none : length c.handles-handles.result.now ≡ 0 = grind (arith, common_steps) in
    let bare = is_bare c.args.named.now.frame _ _ c.message.ensures.value c.handles-handles.ensures c.if-message-ne-HEADER_BYTES.false none in
    (_, (bare, refl), c.in-Ok.ensures.text)

pub returns-in-Err-clause-prints : goal.returns-in-Err-clause-prints
returns-in-Err-clause-prints g c =
    let none : length c.handles-handles.result.now ≡ 0 = grind (arith, common_steps) in
    let bare = is_bare c.args.named.now.frame _ _ c.message.ensures.value c.handles-handles.ensures c.if-message-ne-HEADER_BYTES.false none in
    (_, (bare, refl), c.in-Err.ensures.text)
