-- A tree of the words, seen from the parser's first place.
use Rattle.std.proofs.Common.{◌≡◌, ℕ, ◌+◌, ◌<◌, ◌≤◌, List, [], ◌++◌, length, take, sym, subst, append-nil, ◌∙◌, arith}
use Rattle.std.specs.List.{AllByRecursion}
use Rattle.std.proofs.lemmas.List.{take_all}
use Rattle.fidl_span.specs.declared.words.Word.{Word}
use Rattle.fidl_tree.specs.Leaf.{MeetsText}
use Rattle.fidl_tree.specs.Brackets.{IsWithinLimit}
use Rattle.fidl_tree.specs.File.{file_leaves, yield_of, IsProper}
use Rattle.fidl_tree.specs.declared.file.File.{File}
use Rattle.fidl_parse.specs.declared.parser.Parser.{Parser}
use Rattle.fidl_parse.specs.Nesting.{IsTooDeepAt}
use Rattle.fidl_parse.specs.Completeness.{Ahead}

-- words within the limit are read to their end
pub whole : (ws : List Word) (end : ℕ) → IsWithinLimit ws → (end < length ws → IsTooDeepAt ws end) → length ws ≤ end
whole ws end h d = grind (arith, h (end + 1), d)

pub tree_ahead : (p : Parser) (ws : List Word) (src : List ℕ) (n : ℕ) (tree : File) → p.words.now ≡ take n ws → p.src.now ≡ src → length ws ≤ n
    → tree.src.now ≡ src → IsProper tree → yield_of tree ≡ ws → Ahead p 0 (file_leaves tree ++ [])
tree_ahead p ws src n tree e f l g proper y = subst (λ l. Ahead p 0 l) (sym (append-nil (file_leaves tree))) (record {
  stand = e ∙ (take_all n ws l ∙ sym y);
  texts = subst (λ s. AllByRecursion (MeetsText s) (file_leaves tree)) (g ∙ sym f) proper;
})
