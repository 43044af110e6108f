-- The bodies of layouts that stand ahead: their modifiers, and what is behind them.
use Rattle.std.proofs.Common.{◌≡◌, ℕ, false, List, ◌++◌, None, codes, append_assoc, append-nil, refl, ap, sym, subst, ◌∙◌}
use Rattle.fidl_span.specs.declared.words.WordKind.TheVariants as kind
use Rattle.fidl_tree.specs.Leaf.{Leaf, symbol, keyword, optional}
use Rattle.fidl_tree.specs.Keyword.{strictness_leaves, resource_leaves, values_keyword_leaves, union_modifiers_leaves}
use Rattle.fidl_tree.specs.ValueMember.{value_member_leaves}
use Rattle.fidl_tree.specs.TypeConstructor.{layout_body_leaves, values_layout_leaves, struct_layout_leaves, table_layout_leaves, union_layout_leaves, underlying_leaves, member_leaves, ordinal_member_leaves}
use Rattle.fidl_tree.specs.declared.keyword.ValuesKeyword.{ValuesKeyword}
use Rattle.fidl_tree.specs.declared.keyword.ValuesKeyword.TheVariants.{Bits, Enum}
use Rattle.fidl_tree.specs.declared.keyword.UnionModifiers.{UnionModifiers}
use Rattle.fidl_tree.specs.declared.keyword.UnionModifiers.TheVariants.{StrictnessFirst}
use Rattle.fidl_tree.specs.declared.type_constructor.LayoutBody.{LayoutBody, out-LayoutBody}
use Rattle.fidl_tree.specs.declared.type_constructor.ValuesLayout.{ValuesLayout, out-ValuesLayout}
use Rattle.fidl_tree.specs.declared.type_constructor.StructLayout.{StructLayout, out-StructLayout}
use Rattle.fidl_tree.specs.declared.type_constructor.TableLayout.{TableLayout, out-TableLayout}
use Rattle.fidl_tree.specs.declared.type_constructor.UnionLayout.{UnionLayout, out-UnionLayout}
use Rattle.fidl_tree.specs.declared.type_constructor.Member.{Member}
use Rattle.fidl_tree.specs.declared.type_constructor.OrdinalMember.{OrdinalMember}
use Rattle.fidl_tree.specs.declared.type_constructor.LayoutBody.TheOpen.{LayoutBody-F}
use Rattle.fidl_parse.specs.declared.parser.Parser.{Parser}
use Rattle.fidl_parse.specs.Reading.{IsTextAt}
use Rattle.fidl_parse.specs.Completeness.{Ahead, row}
use Rattle.fidl_parse.specs.Suffixes.{Block, block, ValuesBlock, values_block, has_strictness, has_resource}
use Rattle.fidl_parse.specs.FollowSets.{NotWord, same_text, modifier_words}
use Rattle.fidl_parse.proofs.Ahead.{group}
use Rattle.fidl_parse.proofs.Words.{differ, text_ahead}
use Rattle.fidl_parse.proofs.TypeParts.{Open, struct_parts, table_parts, union_parts, values_parts, layout_body_level, layout_body_parts}

-- the body of a layout: its modifiers, and what is behind them

pub data Tail : Type 0 where
  struct_tail : Block Member → Tail
  table_tail : Block OrdinalMember → Tail
  union_tail : Block OrdinalMember → Tail
  values_tail : ValuesBlock → Tail

abbrev pub tail_leaves : Tail → List Leaf
tail_leaves (struct_tail b) = block (codes "struct") member_leaves b
tail_leaves (table_tail b) = block (codes "table") ordinal_member_leaves b
tail_leaves (union_tail b) = block (codes "union") ordinal_member_leaves b
tail_leaves (values_tail b) = values_block b

-- the modifiers are such as may stand before the tail
abbrev pub Fits : Tail → UnionModifiers → Type 0
Fits (struct_tail b) m = has_strictness m ≡ false
Fits (table_tail b) m = has_strictness m ≡ false
Fits (union_tail b) m = Unit {0}
Fits (values_tail b) m = has_resource m ≡ false

pub record Body (leaves : List Leaf) : Type 0 where
  pub modifiers : UnionModifiers
  pub tail : Tail
  pub fits : Fits tail modifiers
  pub same : leaves ≡ union_modifiers_leaves modifiers ++ tail_leaves tail

struct_body : (x : StructLayout) → Body (struct_layout_leaves x)
struct_body x =
    let y = out-StructLayout x in
    record {
      modifiers = StrictnessFirst None y.resource;
      tail = struct_tail (record { word = y.keyword; left = y.left; members = y.members.items; right = y.right });
      fits = refl;
      same = struct_parts x ∙ append_assoc (optional resource_leaves y.resource) (keyword (codes "struct") y.keyword) _;
    }

table_body : (x : TableLayout) → Body (table_layout_leaves x)
table_body x =
    let y = out-TableLayout x in
    record {
      modifiers = StrictnessFirst None y.resource;
      tail = table_tail (record { word = y.keyword; left = y.left; members = y.members.items; right = y.right });
      fits = refl;
      same = table_parts x ∙ append_assoc (optional resource_leaves y.resource) (keyword (codes "table") y.keyword) _;
    }

union_body : (x : UnionLayout) → Body (union_layout_leaves x)
union_body x =
    let y = out-UnionLayout x in
    record {
      modifiers = y.modifiers;
      tail = union_tail (record { word = y.keyword; left = y.left; members = y.members.items; right = y.right });
      fits = tt;
      same = union_parts x ∙ append_assoc (union_modifiers_leaves y.modifiers) (keyword (codes "union") y.keyword) _;
    }

values_body : (x : ValuesLayout) → Body (values_layout_leaves x)
values_body x =
    let y = out-ValuesLayout x in
    record {
      modifiers = StrictnessFirst y.strictness None;
      tail = values_tail (record { word = y.keyword; underlying = y.underlying; left = y.left; members = y.members.items; right = y.right });
      fits = refl;
      same = values_parts x ∙ (append_assoc (optional strictness_leaves y.strictness ++ values_keyword_leaves y.keyword) (optional underlying_leaves y.underlying) _
          ∙ (append_assoc (optional strictness_leaves y.strictness) (values_keyword_leaves y.keyword) _
          ∙ (ap (λ l. optional strictness_leaves y.strictness ++ l) (sym (append_assoc (values_keyword_leaves y.keyword) (optional underlying_leaves y.underlying) _))
          ∙ ap (λ l. l ++ values_block (record { word = y.keyword; underlying = y.underlying; left = y.left; members = y.members.items; right = y.right })) (sym (append-nil (optional strictness_leaves y.strictness))))));
    }

level_body : (y : Open LayoutBody-F) → Body (layout_body_level y)
level_body (LayoutBody-F.Values layout) = values_body layout
level_body (LayoutBody-F.Struct layout) = struct_body layout
level_body (LayoutBody-F.Table layout) = table_body layout
level_body (LayoutBody-F.Union layout) = union_body layout

pub body_of : (x : LayoutBody) → Body (layout_body_leaves x)
body_of x = subst Body (sym (layout_body_parts x)) (level_body (out-LayoutBody x))

pub body_ahead : (p : Parser) (at : ℕ) (x : LayoutBody) (rest : List Leaf) → Ahead p at (layout_body_leaves x ++ rest)
    → Ahead p at (union_modifiers_leaves (body_of x).modifiers ++ (tail_leaves (body_of x).tail ++ rest))
body_ahead p at x rest a = group p at _ _ rest (subst (λ l. Ahead p at (l ++ rest)) (body_of x).same a)

pub tail_may : (t : Tail) (rest : List Leaf) → NotWord modifier_words (tail_leaves t ++ rest)
tail_may (struct_tail b) rest = refl
tail_may (table_tail b) rest = refl
tail_may (union_tail b) rest = refl
tail_may (values_tail b) rest = values_may b.word where
  values_may : (w : ValuesKeyword) → NotWord modifier_words (((values_keyword_leaves w ++ optional underlying_leaves b.underlying) ++ ((symbol kind.LeftBrace b.left ++ row value_member_leaves b.members) ++ symbol kind.RightBrace b.right)) ++ rest)
  values_may (Bits s) = refl
  values_may (Enum s) = refl

values_word : (p : Parser) (at : ℕ) (t : List ℕ) (w : ValuesKeyword) (ls : List Leaf) → same_text t (codes "bits") ≡ false → same_text t (codes "enum") ≡ false → IsTextAt p at t → Ahead p at (values_keyword_leaves w ++ ls) → ⊥
values_word p at t (Bits s) ls e f i a = differ p at t (codes "bits") s ls e i a
values_word p at t (Enum s) ls e f i a = differ p at t (codes "enum") s ls f i a

pub values_ahead : (p : Parser) (at : ℕ) (b : ValuesBlock) (rest : List Leaf) → Ahead p at (values_block b ++ rest)
    → Ahead p at (values_keyword_leaves b.word ++ (optional underlying_leaves b.underlying ++ (symbol kind.LeftBrace b.left ++ (row value_member_leaves b.members ++ (symbol kind.RightBrace b.right ++ rest)))))
values_ahead p at b rest a = simp append_assoc at a

pub struct_tail_ahead : (p : Parser) (at : ℕ) (t : Tail) (m : UnionModifiers) (rest : List Leaf) → IsTextAt p at (codes "struct") → Fits t m → Ahead p at (tail_leaves t ++ rest)
    → (b : Block Member) × (has_strictness m ≡ false) × Ahead p at (block (codes "struct") member_leaves b ++ rest)
struct_tail_ahead p at (struct_tail b) m rest i f a = (b, f, a)
struct_tail_ahead p at (table_tail b) m rest i f a = absurd (differ p at (codes "struct") (codes "table") b.word _ refl i a)
struct_tail_ahead p at (union_tail b) m rest i f a = absurd (differ p at (codes "struct") (codes "union") b.word _ refl i a)
struct_tail_ahead p at (values_tail b) m rest i f a = absurd (values_word p at (codes "struct") b.word _ refl refl i (values_ahead p at b rest a))

pub table_tail_ahead : (p : Parser) (at : ℕ) (t : Tail) (m : UnionModifiers) (rest : List Leaf) → IsTextAt p at (codes "table") → Fits t m → Ahead p at (tail_leaves t ++ rest)
    → (b : Block OrdinalMember) × (has_strictness m ≡ false) × Ahead p at (block (codes "table") ordinal_member_leaves b ++ rest)
table_tail_ahead p at (struct_tail b) m rest i f a = absurd (differ p at (codes "table") (codes "struct") b.word _ refl i a)
table_tail_ahead p at (table_tail b) m rest i f a = (b, f, a)
table_tail_ahead p at (union_tail b) m rest i f a = absurd (differ p at (codes "table") (codes "union") b.word _ refl i a)
table_tail_ahead p at (values_tail b) m rest i f a = absurd (values_word p at (codes "table") b.word _ refl refl i (values_ahead p at b rest a))

pub union_tail_ahead : (p : Parser) (at : ℕ) (t : Tail) (rest : List Leaf) → IsTextAt p at (codes "union") → Ahead p at (tail_leaves t ++ rest)
    → (b : Block OrdinalMember) × Ahead p at (block (codes "union") ordinal_member_leaves b ++ rest)
union_tail_ahead p at (struct_tail b) rest i a = absurd (differ p at (codes "union") (codes "struct") b.word _ refl i a)
union_tail_ahead p at (table_tail b) rest i a = absurd (differ p at (codes "union") (codes "table") b.word _ refl i a)
union_tail_ahead p at (union_tail b) rest i a = (b, a)
union_tail_ahead p at (values_tail b) rest i a = absurd (values_word p at (codes "union") b.word _ refl refl i (values_ahead p at b rest a))

pub values_tail_ahead : (p : Parser) (at : ℕ) (t : Tail) (m : UnionModifiers) (rest : List Leaf)
    → (IsTextAt p at (codes "struct") → ⊥) → (IsTextAt p at (codes "table") → ⊥) → (IsTextAt p at (codes "union") → ⊥) → Fits t m → Ahead p at (tail_leaves t ++ rest)
    → (b : ValuesBlock) × (has_resource m ≡ false) × Ahead p at (values_block b ++ rest)
values_tail_ahead p at (struct_tail b) m rest i j k f a = absurd (i (text_ahead p at (codes "struct") b.word _ a))
values_tail_ahead p at (table_tail b) m rest i j k f a = absurd (j (text_ahead p at (codes "table") b.word _ a))
values_tail_ahead p at (union_tail b) m rest i j k f a = absurd (k (text_ahead p at (codes "union") b.word _ a))
values_tail_ahead p at (values_tail b) m rest i j k f a = (b, f, a)

pub block_ahead : {M : Type 0} (p : Parser) (at : ℕ) (text : List ℕ) (f : M → List Leaf) (b : Block M) (rest : List Leaf) → Ahead p at (block text f b ++ rest)
    → Ahead p at (keyword text b.word ++ (symbol kind.LeftBrace b.left ++ (row f b.members ++ (symbol kind.RightBrace b.right ++ rest))))
block_ahead p at text f b rest a = simp append_assoc at a
