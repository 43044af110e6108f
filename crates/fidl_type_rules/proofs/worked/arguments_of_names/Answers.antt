use Rattle.std.proofs.Common.{[]}
use Rattle.fidl_named.specs.declared.meaning.Predeclared.TheVariants as name
use Rattle.fidl_type_rules.specs.Words.{ArgumentsSuit}
use Rattle.fidl_type_rules.proofs.Small.{word_is}
use Rattle.fidl_type_rules.proofs.worked.arguments_of_names.Goals as goal

pub returns-clause-word : goal.returns-clause-word
returns-clause-word c = λ files n path given h. ArgumentsSuit.of_word name.Vector (word_is files n path given [] name.Vector h)
