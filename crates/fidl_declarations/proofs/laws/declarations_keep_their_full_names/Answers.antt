use Rattle.fidl_declarations.proofs.DeclaredNames.{full_names_same}
use Rattle.fidl_declarations.proofs.laws.declarations_keep_their_full_names.Goals as goal

pub returns : goal.returns
returns c = full_names_same
