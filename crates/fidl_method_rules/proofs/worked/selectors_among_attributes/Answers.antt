use Rattle.std.proofs.Common.{[], refl}
use Rattle.fidl_method_rules.specs.Selectors.{SelectorsBreak}
use Rattle.fidl_method_rules.proofs.Small as small
use Rattle.fidl_method_rules.proofs.worked.selectors_among_attributes.Goals as goal

pub returns-clause-selector : goal.returns-clause-selector
returns-clause-selector c = small.is_one

pub returns-clause-other : goal.returns-clause-other
returns-clause-other c = small.is_none

pub returns-clause-second : goal.returns-clause-second
returns-clause-second c = λ src a b two. SelectorsBreak.by_number a b [] two refl

pub returns-clause-not_the_first : goal.returns-clause-not_the_first
returns-clause-not_the_first c = small.not_the_first

pub returns-clause-no_argument : goal.returns-clause-no_argument
returns-clause-no_argument c = small.nothing_given
