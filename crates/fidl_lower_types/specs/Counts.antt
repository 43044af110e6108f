-- The number of elements of an array (docs/language.md, "Terms of types").
use Rattle.std.specs.Prelude.{ℕ, ◌≡◌, ◌<◌, ◌≤◌, ◌^◌, pos, List, []}
use Rattle.fidl_span.specs.declared.words.Span.{Span}
use Rattle.fidl_tree.specs.Leaf.{text_at}
use Rattle.fidl_tree.specs.Syntax.{Path, named_type, no_arguments, Argument, number_argument}
use Rattle.fidl_tree.specs.Syntax.{type_argument}
use Rattle.fidl_tree.specs.declared.file.File.{File}
use Rattle.fidl_consts.specs.declared.const_type.NumberKind.TheVariants.{Uint32}
use Rattle.fidl_consts.specs.declared.const_type.ConstType.TheVariants as const
use Rattle.fidl_consts.specs.Literals.{number_of}
use Rattle.fidl_consts.specs.PlainValues.{a_number}
use Rattle.fidl_consts.specs.Values.{NameGives}

-- an argument of a type in a file is this number: a number word, or a name that stands for a
-- number. It is at least 1 and has 32 bits. A name with arguments or constraints is none
pub data CountIs (files : List File) (f : File) : Argument → ℕ → Type 0 where
  of_word : (s : Span) (n : ℕ) → n ≡ number_of (text_at f.src.now s) → 1 ≤ n → n < 2 ^ 32
      → CountIs files f (number_argument s) n
  of_name : (path : Path) (n : ℕ) → NameGives files f path (const.Number Uint32) (a_number (pos n))
      → 1 ≤ n → CountIs files f (type_argument (named_type path no_arguments [])) n
