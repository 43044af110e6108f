use Rattle.fidl_view.specs.Views.{IsShownBy}
use Rattle.fidl_view.proofs.Viewing as viewing
use Rattle.fidl_view.proofs.laws.views_read_as_the_one_value.Goals as goal

pub returns : goal.returns
returns c = viewing.value_of c.args.decoded.now c.args.table.now c.args.entry c.args.bytes.now c.args.handles.now c.requires.table c.requires.entry c.requires.bytes c.requires.handles (IsShownBy c.view.result) c.view.ensures.value
