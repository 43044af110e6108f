-- A predeclared name and what it is, for the worked facts.
use Rattle.std.proofs.Common.{◌≡◌, ℕ, List, [], ◌∷◌, Some, refl}
use Rattle.fidl_tree.specs.Syntax.{Path, no_arguments}
use Rattle.fidl_tree.specs.declared.file.File.{File}
use Rattle.fidl_named.specs.declared.meaning.Predeclared.{Predeclared}
use Rattle.fidl_named.specs.declared.meaning.Meaning.TheVariants as meaning
use Rattle.fidl_constraints.specs.Behind.{MeansType, Core, ends, RefersTo, Behind}
use Rattle.fidl_constraints.specs.AliasExamples.{named_with, plain_word, core_of}
use Rattle.fidl_wire.specs.Term.{Term}
use Rattle.fidl_lower_types.specs.Terms.{word_term, HeadIs, TermIs}

module _ (files : List File) (n : ℕ) (path : Path) (w : Predeclared) where
  abbrev pub word_core : Core
  word_core = core_of n (plain_word w) []

  pub word_behind : MeansType files n path (meaning.Predeclared w) → Behind files n (named_with path []) word_core
  word_behind h = Behind.no_alias n (named_with path []) n (plain_word w) (RefersTo.by_name path no_arguments [] (meaning.Predeclared w) (ends n (plain_word w)) h refl)

  pub word_is : (e : Term) → word_term w [] ≡ Some e → MeansType files n path (meaning.Predeclared w) → TermIs files n (named_with path []) e
  word_is e term h = TermIs.alone n (named_with path []) e (record {
    core = word_core;
    parts = [];
    gathered = record { behind = word_behind h; gives = tt; once = tt };
    is = HeadIs.word w e term;
  })
