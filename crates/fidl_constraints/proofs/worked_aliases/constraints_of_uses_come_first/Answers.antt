use Rattle.std.proofs.Common.{[], ◌∷◌, refl}
use Rattle.fidl_tree.specs.Syntax.{no_arguments}
use Rattle.fidl_named.specs.declared.meaning.Predeclared.TheVariants as name
use Rattle.fidl_named.specs.declared.meaning.Meaning.TheVariants as meaning
use Rattle.fidl_constraints.specs.Behind.{ends, follows, RefersTo, Behind}
use Rattle.fidl_constraints.specs.AliasExamples.{named_with, plain_word, list_in, core_of}
use Rattle.fidl_constraints.proofs.worked_aliases.constraints_of_uses_come_first.Goals as goal

pub returns-clause-string : goal.returns-clause-string
returns-clause-string c = λ files n path q p x y xs ys alias declared string.
    let cs = x ∷ xs in
    let ds = y ∷ ys in
    let word = plain_word name.String in
    let inner = Behind.no_alias p.file (named_with q ds) p.file word (RefersTo.by_name q no_arguments ds (meaning.Predeclared name.String) (ends p.file word) string refl) in
    Behind.an_alias n (named_with path cs) p.file (named_with q ds) (core_of p.file word (list_in p.file ds ∷ []))
    (RefersTo.by_name path no_arguments cs (meaning.Declared p) (follows p.file (named_with q ds)) alias declared) inner

pub returns-clause-bare : goal.returns-clause-bare
returns-clause-bare c = λ files n path q p x xs alias declared string.
    let cs = x ∷ xs in
    let word = plain_word name.String in
    let inner = Behind.no_alias p.file (named_with q []) p.file word (RefersTo.by_name q no_arguments [] (meaning.Predeclared name.String) (ends p.file word) string refl) in
    Behind.an_alias n (named_with path cs) p.file (named_with q []) (core_of p.file word [])
    (RefersTo.by_name path no_arguments cs (meaning.Declared p) (follows p.file (named_with q [])) alias declared) inner
