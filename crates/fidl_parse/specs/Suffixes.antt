-- The parts of the tree that stand behind a front which is read before it is known what it belongs
-- to.
use Rattle.std.specs.Prelude.{◌≡◌, ℕ, Bool, true, false, Result, IfOk, List, ◌++◌, Option, is_some}
use Rattle.std.specs.Prelude.{codes}
use Rattle.fidl_span.specs.declared.words.Span.{Span}
use Rattle.fidl_span.specs.declared.words.WordKind.TheVariants as kind
use Rattle.fidl_tree.specs.Leaf.{Leaf, symbol, keyword, optional, braced}
use Rattle.fidl_tree.specs.Path.{path_leaves}
use Rattle.fidl_tree.specs.Keyword.{values_keyword_leaves, union_modifiers_leaves}
use Rattle.fidl_tree.specs.ValueMember.{value_member_leaves}
use Rattle.fidl_tree.specs.TypeConstructor.{underlying_leaves}
use Rattle.fidl_tree.specs.Declaration.{declaration_body_leaves}
use Rattle.fidl_tree.specs.File.{import_alias_leaves}
use Rattle.fidl_tree.specs.declared.keyword.ValuesKeyword.{ValuesKeyword}
use Rattle.fidl_tree.specs.declared.keyword.UnionModifiers.{UnionModifiers}
use Rattle.fidl_tree.specs.declared.keyword.UnionModifiers.TheVariants.{StrictnessFirst}
use Rattle.fidl_tree.specs.declared.keyword.UnionModifiers.TheVariants.{ResourceFirst}
use Rattle.fidl_tree.specs.declared.value_member.ValueMember.{ValueMember}
use Rattle.fidl_tree.specs.declared.type_constructor.Underlying.{Underlying}
use Rattle.fidl_tree.specs.declared.declaration.Declaration.{Declaration}
use Rattle.fidl_tree.specs.declared.file.Import.{Import}
use Rattle.fidl_parse.specs.declared.parser.Parser.{Parser}
use Rattle.fidl_parse.specs.declared.fault.Stop.{Stop}
use Rattle.fidl_parse.specs.Completeness.{Ahead, row}
use Rattle.fidl_parse.specs.FollowSets.{NotWord, modifier_words}

-- `strict` or `flexible` is among the modifiers
abbrev pub has_strictness : UnionModifiers → Bool
has_strictness (StrictnessFirst strictness resource) = is_some strictness
has_strictness (ResourceFirst resource strictness) = true

-- `resource` is among the modifiers
abbrev pub has_resource : UnionModifiers → Bool
has_resource (StrictnessFirst strictness resource) = is_some resource
has_resource (ResourceFirst resource strictness) = true

-- Where the modifiers that stand ahead have none of these words, those that are read have none.
abbrev pub Lacks : (UnionModifiers → Bool) → Parser → ℕ → Result UnionModifiers Stop → Type 0
Lacks has p from result =
    (x : UnionModifiers) → (rest : List Leaf) → NotWord modifier_words rest
    → Ahead p from (union_modifiers_leaves x ++ rest)
    → has x ≡ false
    → IfOk result (λ modifiers. has modifiers ≡ false)

-- a layout's keyword and its members in braces
pub record Block (M : Type 0) : Type 0 where
  pub word : Span
  pub left : Span
  pub members : List M
  pub right : Span

-- its leaves
abbrev pub block : {M : Type 0} → List ℕ → (M → List Leaf) → Block M → List Leaf
block text f b = keyword text b.word ++ braced b.left (row f b.members) b.right

-- the same of bits and enums
pub record ValuesBlock : Type 0 where
  pub word : ValuesKeyword
  pub underlying : Option Underlying
  pub left : Span
  pub members : List ValueMember
  pub right : Span

-- its leaves
abbrev pub values_block : ValuesBlock → List Leaf
values_block b =
    values_keyword_leaves b.word ++ optional underlying_leaves b.underlying
    ++ braced b.left (row value_member_leaves b.members) b.right

-- a declaration behind its attributes
abbrev pub behind_attributes : Declaration → List Leaf
behind_attributes d = declaration_body_leaves d.body ++ symbol kind.Semicolon d.semicolon

-- an import behind its attributes
abbrev pub import_behind_attributes : Import → List Leaf
import_behind_attributes i =
    keyword (codes "using") i.keyword ++ path_leaves i.path ++ optional import_alias_leaves i.alias
    ++ symbol kind.Semicolon i.semicolon
