use Rattle.fidl_types.proofs.Made.{definitions_exist}
use Rattle.fidl_types.proofs.ShapedFiles.{file_shaped}
use Rattle.fidl_types.proofs.laws.definitions_exist.Goals as goal

pub returns : goal.returns
returns c = λ files evaluates holds numbers uses few. definitions_exist files evaluates.places holds numbers uses few file_shaped
