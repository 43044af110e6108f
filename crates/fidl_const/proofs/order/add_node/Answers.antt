use Rattle.std.proofs.Common.{◌≡◌, ℕ, List, ap, ◌∙◌}
use Rattle.std.specs.Global.{Vec}
use Rattle.fidl_consts.specs.Tables.{number_of}
use Rattle.fidl_const.specs.Columns.{with_values, with_limits}
use Rattle.fidl_const.proofs.Filling.{extends, one_done, true_with}
use Rattle.fidl_const.proofs.order.add_node.Goals.{After-set_found}
use Rattle.fidl_const.proofs.order.add_node.Goals as goal

number : (c : After-set_found) → c.node_number-number.result ≡ number_of c.args.consts.now.starts.items c.args.meaning
number c = c.node_number-number.ensures ∙ ap (λ (l : List (Vec ℕ)). number_of l c.args.meaning) c.deref.ensures.value

values : (c : After-set_found) → c.set_found.new.consts.values.items ≡ with_values c.args.consts.now.values.items (number_of c.args.consts.now.starts.items c.args.meaning) c.in_ok-found.found
values c = c.set_found.ensures.values ∙ ap (λ n. with_values c.args.consts.now.values.items n c.in_ok-found.found) (number c)

limits : (c : After-set_found) → c.set_found.new.consts.limits.items ≡ with_limits c.args.consts.now.limits.items (number_of c.args.consts.now.starts.items c.args.meaning) c.in_ok-found.found
limits c = c.set_found.ensures.limits ∙ ap (λ n. with_limits c.args.consts.now.limits.items n c.in_ok-found.found) (number c)

pub returns-clause-known : goal.returns-clause-known
returns-clause-known c =
    true_with c.args.named.now c.requires.room.0 c.args.meaning c.requires.node c.in_ok-found.found c.in_ok-found.ensures.ok c.args.consts.now c.set_found.new.consts c.requires.room.1 c.set_found.ensures.starts (values c) (limits c)
    c.requires.known

pub returns-clause-extends : goal.returns-clause-extends
returns-clause-extends c =
    extends c.args.named.now c.requires.room.0 c.args.meaning c.requires.node c.in_ok-found.found c.in_ok-found.ensures.ok c.args.consts.now c.set_found.new.consts c.requires.room.1 c.set_found.ensures.starts (values c) (limits c)

pub returns-clause-done : goal.returns-clause-done
returns-clause-done c =
    one_done c.args.named.now c.requires.room.0 c.args.meaning c.requires.node c.in_ok-found.found c.in_ok-found.ensures.ok c.args.consts.now c.set_found.new.consts c.requires.room.1 c.set_found.ensures.starts (values c) (limits c)
