use Rattle.std.proofs.Common.{◌≡◌, ap, ◌∙◌}
use Rattle.clap.specs.Words.{App, Shape, with_subcommand}
use Rattle.fidl_command_line.specs.CommandLine as spec
use Rattle.fidl_command_line.proofs.Commands.{if_ok}
use Rattle.fidl_command_line.proofs.command_line.command_line.Goals as goal

-- a shape is added on both sides
more : (shape : Shape) (x y : App) → x ≡ y → with_subcommand x shape ≡ with_subcommand y shape
more shape x y = ap (λ (z : App). with_subcommand z shape)

pub returns : goal.returns
returns c =
    let none = c.in_ok-program.ensures in
    let one = c.in_ok-program-2.ensures spec.compile_command c.compile_command.ensures ∙ more spec.compile_command _ _ none in
    let two = c.in_ok-program-3.ensures spec.migrate_command c.migrate_command.ensures ∙ more spec.migrate_command _ _ one in
    let three = c.in_ok-program-4.ensures spec.decode_command c.decode_command.ensures ∙ more spec.decode_command _ _ two in
    let four = c.in_ok-program-5.ensures spec.encode_command c.encode_command.ensures ∙ more spec.encode_command _ _ three in
    let five = c.in_ok-program-6.ensures spec.table_command c.table_command.ensures ∙ more spec.table_command _ _ four in
    let six = c.in_ok-program-7.ensures spec.dump_command c.dump_command.ensures ∙ more spec.dump_command _ _ five in
    let seven = c.in_ok-program-8.ensures spec.serve_command c.serve_command.ensures ∙ more spec.serve_command _ _ six in
    if_ok _ _ c.added-8.result (λ r h. h ∙ more spec.explain_command _ _ seven) (c.added-8.ensures spec.explain_command c.explain_command.ensures)
