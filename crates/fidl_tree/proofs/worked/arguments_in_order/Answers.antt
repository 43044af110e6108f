use Rattle.std.proofs.Common.{rules}
use Rattle.fidl_tree.specs.declared.type_constructor.NamedType as named
use Rattle.fidl_tree.specs.declared.type_constructor.TypeArguments as arguments
use Rattle.fidl_tree.specs.declared.type_constructor.TypeArgument as argument
use Rattle.fidl_tree.specs.declared.type_constructor.NextTypeArgument as next
use Rattle.fidl_tree.proofs.worked.arguments_in_order.Goals as goal

pub returns-clause-seen : goal.returns-clause-seen
returns-clause-seen c p t first n rest cs one more =
    search (rules, named.the_lemmas, arguments.the_lemmas, one, more, argument.the_lemmas, next.the_lemmas)

pub returns-clause-other : goal.returns-clause-other
returns-clause-other c p t first n rest cs one more e = let seen = returns-clause-seen c p t first n rest cs one more in cc
