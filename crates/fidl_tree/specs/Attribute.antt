-- Attributes and their arguments (docs/language.md, "Grammar").
use Rattle.std.specs.Prelude.{List, ◌++◌, map}
use Rattle.fidl_span.specs.declared.words.WordKind.TheVariants as kind
use Rattle.fidl_tree.specs.Leaf.{Leaf, symbol, name, optional, joined}
use Rattle.fidl_tree.specs.Value.{value_leaves}
use Rattle.fidl_tree.specs.declared.attribute.Attribute.{Attribute}
use Rattle.fidl_tree.specs.declared.attribute.Arguments.{Arguments}
use Rattle.fidl_tree.specs.declared.attribute.ArgumentList.{ArgumentList}
use Rattle.fidl_tree.specs.declared.attribute.NextArgument.{NextArgument}
use Rattle.fidl_tree.specs.declared.attribute.Argument.{Argument}
use Rattle.fidl_tree.specs.declared.attribute.ArgumentName.{ArgumentName}

-- argument_name = ident "="
abbrev pub argument_name_leaves : ArgumentName → List Leaf
argument_name_leaves n = name n.name ++ symbol kind.Equals n.equals

-- argument = [argument_name] value
abbrev pub argument_leaves : Argument → List Leaf
argument_leaves a = optional argument_name_leaves a.name ++ value_leaves a.value

-- next_argument = "," argument
abbrev pub next_argument_leaves : NextArgument → List Leaf
next_argument_leaves n = symbol kind.Comma n.comma ++ argument_leaves n.argument

-- argument_list = argument { next_argument }
abbrev pub argument_list_leaves : ArgumentList → List Leaf
argument_list_leaves l = argument_leaves l.first ++ joined (map next_argument_leaves l.rest.items)

-- arguments = "(" [argument_list] ")"
abbrev pub arguments_leaves : Arguments → List Leaf
arguments_leaves a =
    symbol kind.LeftParenthesis a.left ++ optional argument_list_leaves a.list
    ++ symbol kind.RightParenthesis a.right

-- attribute = "@" ident [arguments]
abbrev pub attribute_leaves : Attribute → List Leaf
attribute_leaves a = symbol kind.At a.at ++ name a.name ++ optional arguments_leaves a.arguments

-- attributes = { attribute }
abbrev pub attributes_leaves : List Attribute → List Leaf
attributes_leaves as' = joined (map attribute_leaves as')
