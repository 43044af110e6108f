-- A source with a word at a place: how long it is, and what its reading says.
use Rattle.std.proofs.Common.{◌≡◌, ℕ, ◌+◌, ◌-◌, ◌<◌, ◌≤◌, List, ◌++◌, length, take, drop, subst, ◌∙◌, arith, length-append, length-drop}
use Rattle.std.specs.Prelude.{codes}
use Rattle.std.proofs.lemmas.List.{length-take-le}
use Rattle.fidl_span.specs.declared.words.Span.{Span}
use Rattle.fidl_span.specs.declared.words.Word.{Word}
use Rattle.fidl_span.specs.Words.{Words}
use Rattle.fidl_tree.specs.declared.file.File.{File}
use Rattle.fidl_tree.specs.File.{yield_of, IsProper}
use Rattle.fidl_tree.specs.Brackets.{IsWithinLimit}
use Rattle.fidl_parse.specs.Trees.{HasTree}
use Rattle.fidl_parse.specs.Faults.{IsTrueOf}
use Rattle.fidl_parse.specs.declared.fault.ParseFault.TheVariants.{Unexpected}
use Rattle.fidl_expected.specs.Expected.{inserted, GoesOn, read, later}

pub length-inserted : (src : List ℕ) (at : ℕ) (word : List ℕ) → at ≤ length src → length (inserted src at word) ≡ at + length word + 2 + (length src - at)
length-inserted src at word within =
    omega (
      arith,
      length-append (take at src ++ codes " " ++ word ++ codes " ") (drop at src),
      length-append (take at src ++ codes " " ++ word) (codes " "),
      length-append (take at src ++ codes " ") word,
      length-append (take at src) (codes " "),
      length-take-le at src within,
      length-drop at src,
    )

pub read_with : (src : List ℕ) (at : ℕ) (word text other : List ℕ) (ws : List Word) (tree : File) → text ≡ inserted src at word → other ≡ inserted src at word → Words text ws
    → tree.src.now ≡ other → IsProper tree → yield_of tree ≡ ws → IsWithinLimit ws → GoesOn src at word
read_with src at word text other ws tree e f w s p y l = read ws (subst (λ (t : List ℕ). Words t ws) e w) (tree, s ∙ f, p, y, l)

pub later_with : (src : List ℕ) (at : ℕ) (word text other : List ℕ) (ws : List Word) (span : Span) → text ≡ inserted src at word → other ≡ inserted src at word → Words text ws
    → (HasTree ws other → ⊥) → IsTrueOf ws other (Unexpected span) → at + length word + 2 < span.from → GoesOn src at word
later_with src at word text other ws span e f w none true_of lt =
    later ws span (subst (λ (t : List ℕ). Words t ws) e w) (subst (λ (t : List ℕ). HasTree ws t → ⊥) f none) (subst (λ (t : List ℕ). IsTrueOf ws t (Unexpected span)) f true_of) lt
