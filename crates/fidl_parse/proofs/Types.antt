-- A named type with parts that may be left out.
use Rattle.std.proofs.Common.{◌≡◌, ℕ, ◌++◌, Option, None, Some, sym, subst}
use Rattle.fidl_tree.specs.Leaf.{none_of, optional}
use Rattle.fidl_tree.specs.Path.{path_from}
use Rattle.fidl_tree.specs.Constraint.{constraints_leaves}
use Rattle.fidl_tree.specs.TypeConstructor.{named_leaves, type_arguments_leaves}
use Rattle.fidl_tree.specs.declared.path.Path.{Path}
use Rattle.fidl_tree.specs.declared.constraint.Constraints.{Constraints}
use Rattle.fidl_tree.specs.declared.type_constructor.TypeArguments.{TypeArguments}
use Rattle.fidl_tree.specs.declared.type_constructor.NamedType.{roll-NamedType}
use Rattle.fidl_tree.specs.declared.type_constructor.LayoutBody.TheFolds.{fold-roll-NamedType}
use Rattle.fidl_parse.specs.declared.parser.Parser.{Parser}
use Rattle.fidl_parse.specs.Choices.{layout_words}
use Rattle.fidl_parse.specs.Reading.{Reads}
use Rattle.fidl_parse.proofs.Joins.{reads_join}

pub named_built : (path : Path) (arguments : Option TypeArguments) (constraints : Option Constraints)
    → named_leaves (roll-NamedType record { path = path; arguments = arguments; constraints = constraints })
    ≡ path_from (none_of layout_words) path ++ optional type_arguments_leaves arguments ++ optional constraints_leaves constraints
named_built path None constraints = rw fold-roll-NamedType
named_built path (Some x) constraints = rw fold-roll-NamedType

pub named_reads : (p : Parser) (a b c d : ℕ) (path : Path) (arguments : Option TypeArguments) (constraints : Option Constraints)
    → Reads p a b (path_from (none_of layout_words) path) → Reads p b c (optional type_arguments_leaves arguments)
    → Reads p c d (optional constraints_leaves constraints)
    → Reads p a d (named_leaves (roll-NamedType record { path = path; arguments = arguments; constraints = constraints }))
named_reads p a b c d path arguments constraints r s t =
    subst (λ l. Reads p a d l) (sym (named_built path arguments constraints))
    (reads_join p a c d (path_from (none_of layout_words) path ++ optional type_arguments_leaves arguments) (optional constraints_leaves constraints)
    (reads_join p a b c (path_from (none_of layout_words) path) (optional type_arguments_leaves arguments) r s) t)
