-- Small types, for the worked facts.
use Rattle.std.specs.Prelude.{ℕ, List}
use Rattle.fidl_tree.specs.Syntax.{Path, Value, TypeUse, named_type, no_arguments}
use Rattle.fidl_named.specs.declared.meaning.Predeclared.{Predeclared}
use Rattle.fidl_constraints.specs.Behind.{Head, word_head, Given, Core}

-- a name with these constraints
abbrev pub named_with : Path → List Value → TypeUse
named_with path cs = named_type path no_arguments cs

-- a predeclared type without arguments
abbrev pub plain_word : Predeclared → Head
plain_word w = word_head w no_arguments

abbrev pub list_in : (number : ℕ) → List Value → Given
list_in number cs = record { file = number; values = cs }

abbrev pub core_of : (number : ℕ) → Head → List Given → Core
core_of number head given = record { file = number; head = head; given = given }
