-- The attribute `@selector`, and when it is wrong (docs/language.md, "Methods").
use Rattle.std.specs.Prelude.{ℕ, ◌≡◌, Bool, List, [], ◌∷◌, Some, codes, bytes_eq}
use Rattle.std.specs.List.{filter}
use Rattle.fidl_span.specs.declared.words.Span.{Span}
use Rattle.fidl_tree.specs.Leaf.{text_at}
use Rattle.fidl_tree.specs.Syntax.{Attribute}
use Rattle.fidl_consts.specs.Literals.{string_of}
use Rattle.fidl_member_rules.specs.Profile.{only_string}
use Rattle.fidl_method_rules.specs.Texts.{MaySelect}

-- whether an attribute is called `selector`
abbrev pub is_selector : (src : List ℕ) → Attribute → Bool
is_selector src a = bytes_eq (text_at src a.name) (codes "selector")

-- the attributes that are, in order
abbrev pub selectors : (src : List ℕ) → List Attribute → List Attribute
selectors src attributes = filter (is_selector src) attributes

-- an attribute has one argument, a string literal without a name, which writes this text
pub record Gives (src : List ℕ) (a : Attribute) (text : List ℕ) : Type 0 where
  pub word : Span
  pub alone : only_string a.arguments ≡ Some word
  pub writes : string_of (text_at src word) ≡ text

-- the selectors among attributes are wrong, at this span: the only one gives no text that it may
-- give, or there is a second one
pub data SelectorsBreak (src : List ℕ) (attributes : List Attribute) (span : Span) : Type 0 where
  by_text : (a : Attribute) → selectors src attributes ≡ a ∷ []
      → ((text : List ℕ) → Gives src a text → MaySelect text → ⊥) → span ≡ a.name
      → SelectorsBreak src attributes span
  by_number : (first second : Attribute) (rest : List Attribute)
      → selectors src attributes ≡ first ∷ second ∷ rest → span ≡ second.name
      → SelectorsBreak src attributes span
