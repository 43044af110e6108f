use Rattle.fidl_command_line.proofs.HexText.{hex_cases}
use Rattle.fidl_command_line.proofs.content.is_hex.Goals as goal

pub returns-then-text-eq0 : goal.returns-then-text-eq0
returns-then-text-eq0 c = hex_cases c.args.text.now c.are_hex_digits.result c.if-text-eq0.true c.are_hex_digits.ensures
