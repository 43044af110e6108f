-- What types and layouts begin with, and which of them stands ahead.
use Rattle.std.proofs.Common.{◌≡◌, ℕ, ◌+◌, Bool, true, false, List, [], ◌∷◌, ◌++◌, ◌⊎◌, inl, inr, Option, None, Some, codes, append_assoc, refl, ap, sym, subst, ◌∙◌}
use Rattle.std.specs.List.{list_any}
use Rattle.std.proofs.lemmas.Bool.{false≢true}
use Rattle.fidl_span.specs.declared.words.Span.{Span}
use Rattle.fidl_span.specs.declared.words.WordKind.{WordKind}
use Rattle.fidl_span.specs.declared.words.WordKind.TheVariants as kind
use Rattle.fidl_tree.specs.Leaf.{Leaf, symbol, name, keyword, optional, none_of, leaf, Meets, text_at}
use Rattle.fidl_tree.specs.Attribute.{attributes_leaves}
use Rattle.fidl_tree.specs.Constraint.{constraints_leaves}
use Rattle.fidl_tree.specs.Keyword.{values_keyword_leaves, union_modifiers_leaves}
use Rattle.fidl_tree.specs.ValueMember.{value_member_leaves}
use Rattle.fidl_tree.specs.TypeConstructor.{type_leaves, named_leaves, type_argument_leaves, layout_leaves, layout_body_leaves, underlying_leaves, ordinal_body_leaves}
use Rattle.fidl_tree.specs.declared.attribute.Attribute.{Attribute}
use Rattle.fidl_tree.specs.declared.keyword.Strictness.TheVariants.{Strict, Flexible}
use Rattle.fidl_tree.specs.declared.keyword.ValuesKeyword.{ValuesKeyword}
use Rattle.fidl_tree.specs.declared.keyword.ValuesKeyword.TheVariants.{Bits, Enum}
use Rattle.fidl_tree.specs.declared.keyword.UnionModifiers.{UnionModifiers}
use Rattle.fidl_tree.specs.declared.keyword.UnionModifiers.TheVariants.{StrictnessFirst, ResourceFirst}
use Rattle.fidl_tree.specs.declared.constraint.Constraints.{Constraints}
use Rattle.fidl_tree.specs.declared.type_constructor.TypeConstructor.{TypeConstructor, out-TypeConstructor}
use Rattle.fidl_tree.specs.declared.type_constructor.NamedType.{NamedType}
use Rattle.fidl_tree.specs.declared.type_constructor.TypeArgument.{TypeArgument, out-TypeArgument}
use Rattle.fidl_tree.specs.declared.type_constructor.Layout.{Layout, out-Layout}
use Rattle.fidl_tree.specs.declared.type_constructor.LayoutBody.{LayoutBody}
use Rattle.fidl_tree.specs.declared.type_constructor.OrdinalBody.{OrdinalBody, out-OrdinalBody}
use Rattle.fidl_tree.specs.declared.type_constructor.LayoutBody.TheOpen.{TypeConstructor-F, TypeArgument-F, OrdinalBody-F}
use Rattle.fidl_parse.specs.declared.parser.Parser.{Parser}
use Rattle.fidl_parse.specs.Reading.{IsKindAt, IsTextAt}
use Rattle.fidl_parse.specs.Choices.{layout_words, IsLayoutWordAt}
use Rattle.fidl_parse.specs.Completeness.{Ahead, row}
use Rattle.fidl_parse.specs.FollowSets.{Begins, same_text, is_identifier}
use Rattle.fidl_parse.proofs.Ahead.{begins, next, step, word_at, same_word, kind_at, kind_same, group}
use Rattle.fidl_parse.proofs.Follow.{Starts, starts_other, begins_starts}
use Rattle.fidl_parse.proofs.Words.{text_ahead, none_among}
use Rattle.fidl_parse.proofs.TypeParts.{Open, named_parts, layout_parts, type_level, type_parts, type_argument_level, type_argument_parts, ordinal_body_level, ordinal_body_parts}
use Rattle.fidl_parse.proofs.TypeAhead.{named_ahead, layout_ahead}
use Rattle.fidl_parse.proofs.LayoutBodies.{Tail, struct_tail, table_tail, union_tail, values_tail, tail_leaves, body_of, body_ahead, values_ahead}

-- a layout begins with `@` or with a layout word

word_ahead : (p : Parser) (at : ℕ) (t : List ℕ) (s : Span) (ls : List Leaf) → list_any (same_text t) layout_words ≡ true → Ahead p at (keyword t s ++ ls) → IsLayoutWordAt p at
word_ahead p at t s ls e a =
    let i = text_ahead p at t s ls a in
    (i.0, i.1, i.2, λ none. none_among t layout_words e (subst (λ u. Meets (none_of layout_words) u) i.3 none))

tail_begins : (p : Parser) (at : ℕ) (t : Tail) (rest : List Leaf) → Ahead p at (tail_leaves t ++ rest) → IsLayoutWordAt p at
tail_begins p at (struct_tail b) rest a = word_ahead p at (codes "struct") b.word _ refl a
tail_begins p at (table_tail b) rest a = word_ahead p at (codes "table") b.word _ refl a
tail_begins p at (union_tail b) rest a = word_ahead p at (codes "union") b.word _ refl a
tail_begins p at (values_tail b) rest a = values_begin p at b.word _ (values_ahead p at b rest a) where
  values_begin : (p : Parser) (at : ℕ) (w : ValuesKeyword) (ls : List Leaf) → Ahead p at (values_keyword_leaves w ++ ls) → IsLayoutWordAt p at
  values_begin p at (Bits s) ls a = word_ahead p at (codes "bits") s ls refl a
  values_begin p at (Enum s) ls a = word_ahead p at (codes "enum") s ls refl a

modifiers_begin : (p : Parser) (at : ℕ) (m : UnionModifiers) (t : Tail) (rest : List Leaf) → Ahead p at (union_modifiers_leaves m ++ (tail_leaves t ++ rest)) → IsLayoutWordAt p at
modifiers_begin p at (StrictnessFirst None None) t rest a = tail_begins p at t rest a
modifiers_begin p at (StrictnessFirst None (Some r)) t rest a = word_ahead p at (codes "resource") r.keyword _ refl a
modifiers_begin p at (StrictnessFirst (Some (Strict s)) r) t rest a = word_ahead p at (codes "strict") s _ refl a
modifiers_begin p at (StrictnessFirst (Some (Flexible s)) r) t rest a = word_ahead p at (codes "flexible") s _ refl a
modifiers_begin p at (ResourceFirst r s) t rest a = word_ahead p at (codes "resource") r.keyword _ refl a

layout_begin : (p : Parser) (at : ℕ) (as' : List Attribute) (x : LayoutBody) (rest : List Leaf) → Ahead p at (attributes_leaves as' ++ (layout_body_leaves x ++ rest)) → IsKindAt p at kind.At ⊎ IsLayoutWordAt p at
layout_begin p at [] x rest a = inr (modifiers_begin p at (body_of x).modifiers (body_of x).tail rest (body_ahead p at x rest a))
layout_begin p at (y ∷ ys) x rest a = inl (kind_at p at _ _ a)

pub layout_begins : (p : Parser) (at : ℕ) (x : Layout) (rest : List Leaf) → Ahead p at (layout_leaves x ++ rest) → IsKindAt p at kind.At ⊎ IsLayoutWordAt p at
layout_begins p at x rest a = layout_begin p at (out-Layout x).attributes.items (out-Layout x).body rest (layout_ahead p at x rest a)

no_layout : (p : Parser) (at : ℕ) (s : Span) (ls : List Leaf) → Ahead p at (leaf kind.Identifier s (none_of layout_words) ++ ls) → IsKindAt p at kind.At ⊎ IsLayoutWordAt p at → ⊥
no_layout p at s ls a (inl i) = let e = kind_same p at kind.At _ ls i a in absurd (false≢true (ap is_identifier (sym e)))
no_layout p at s ls a (inr i) =
    let e = same_word i.0 (record { kind = kind.Identifier; span = s }) _ i.1 (word_at p at _ ls a) in
    i.3 (subst (λ w. Meets (none_of layout_words) (text_at p.src.now w.span)) (sym e) a.texts.0)

named_level : (p : Parser) (at : ℕ) (y : Open TypeConstructor-F) (rest : List Leaf) → (IsKindAt p at kind.At ⊎ IsLayoutWordAt p at → ⊥) → Ahead p at (type_level y ++ rest)
    → (n : NamedType) × Ahead p at (named_leaves n ++ rest)
named_level p at (TypeConstructor-F.Layout layout constraints) rest n a = absurd (n (layout_begins p at layout.value (optional constraints_leaves constraints ++ rest) (group p at (layout_leaves layout.value) (optional constraints_leaves constraints) rest a)))
named_level p at (TypeConstructor-F.Named named) rest n a = (named.value, a)

pub named_type_ahead : (p : Parser) (at : ℕ) (x : TypeConstructor) (rest : List Leaf) → (IsKindAt p at kind.At ⊎ IsLayoutWordAt p at → ⊥) → Ahead p at (type_leaves x ++ rest)
    → (n : NamedType) × Ahead p at (named_leaves n ++ rest)
named_type_ahead p at x rest n a = named_level p at (out-TypeConstructor x) rest n (subst (λ l. Ahead p at (l ++ rest)) (type_parts x) a)

layout_level : (p : Parser) (at : ℕ) (y : Open TypeConstructor-F) (rest : List Leaf) → IsKindAt p at kind.At ⊎ IsLayoutWordAt p at → Ahead p at (type_level y ++ rest)
    → (l : Layout) × (c : Option Constraints) × Ahead p at (layout_leaves l ++ (optional constraints_leaves c ++ rest))
layout_level p at (TypeConstructor-F.Layout layout constraints) rest i a = (layout.value, constraints, group p at _ _ rest a)
layout_level p at (TypeConstructor-F.Named named) rest i a = absurd (no_layout p at _ _ (named_ahead p at named.value rest a) i)

pub layout_type_ahead : (p : Parser) (at : ℕ) (x : TypeConstructor) (rest : List Leaf) → IsKindAt p at kind.At ⊎ IsLayoutWordAt p at → Ahead p at (type_leaves x ++ rest)
    → (l : Layout) × (c : Option Constraints) × Ahead p at (layout_leaves l ++ (optional constraints_leaves c ++ rest))
layout_type_ahead p at x rest i a = layout_level p at (out-TypeConstructor x) rest i (subst (λ l. Ahead p at (l ++ rest)) (type_parts x) a)

-- what a type begins with

abbrev pub starts_type : WordKind → Bool
starts_type kind.At = true
starts_type kind.Identifier = true
starts_type _ = false

tail_starts : (t : Tail) (rest : List Leaf) → Begins kind.Identifier (tail_leaves t ++ rest)
tail_starts (struct_tail b) rest = refl
tail_starts (table_tail b) rest = refl
tail_starts (union_tail b) rest = refl
tail_starts (values_tail b) rest = values_start b.word where
  values_start : (w : ValuesKeyword) → Begins kind.Identifier (((values_keyword_leaves w ++ optional underlying_leaves b.underlying) ++ ((symbol kind.LeftBrace b.left ++ row value_member_leaves b.members) ++ symbol kind.RightBrace b.right)) ++ rest)
  values_start (Bits s) = refl
  values_start (Enum s) = refl

modifiers_start : (m : UnionModifiers) (ls : List Leaf) → Begins kind.Identifier ls → Begins kind.Identifier (union_modifiers_leaves m ++ ls)
modifiers_start (StrictnessFirst None None) ls b = b
modifiers_start (StrictnessFirst None (Some r)) ls b = refl
modifiers_start (StrictnessFirst (Some (Strict s)) r) ls b = refl
modifiers_start (StrictnessFirst (Some (Flexible s)) r) ls b = refl
modifiers_start (ResourceFirst r s) ls b = refl

pub body_begins : (x : LayoutBody) (rest : List Leaf) → Begins kind.Identifier (layout_body_leaves x ++ rest)
body_begins x rest =
    let b = body_of x in
    subst (λ l. Begins kind.Identifier l) (sym (ap (λ l. l ++ rest) b.same ∙ append_assoc (union_modifiers_leaves b.modifiers) (tail_leaves b.tail) rest))
    (modifiers_start b.modifiers (tail_leaves b.tail ++ rest) (tail_starts b.tail rest))

attributes_type : (as' : List Attribute) (ls : List Leaf) → Starts starts_type ls → Starts starts_type (attributes_leaves as' ++ ls)
attributes_type [] ls s = s
attributes_type (x ∷ xs) ls s = refl

layout_starts : (x : Layout) (rest : List Leaf) → Starts starts_type (layout_leaves x ++ rest)
layout_starts x rest =
    subst (λ l. Starts starts_type l) (sym (ap (λ l. l ++ rest) (layout_parts x) ∙ append_assoc (attributes_leaves (out-Layout x).attributes.items) (layout_body_leaves (out-Layout x).body) rest))
    (attributes_type (out-Layout x).attributes.items _ (begins_starts starts_type kind.Identifier _ refl (body_begins (out-Layout x).body rest)))

named_starts : (x : NamedType) (rest : List Leaf) → Starts starts_type (named_leaves x ++ rest)
named_starts x rest = subst (λ l. Starts starts_type (l ++ rest)) (sym (named_parts x)) refl

type_level_starts : (y : Open TypeConstructor-F) (rest : List Leaf) → Starts starts_type (type_level y ++ rest)
type_level_starts (TypeConstructor-F.Layout layout constraints) rest =
    subst (λ l. Starts starts_type l) (sym (append_assoc (layout_leaves layout.value) (optional constraints_leaves constraints) rest)) (layout_starts layout.value (optional constraints_leaves constraints ++ rest))
type_level_starts (TypeConstructor-F.Named named) rest = named_starts named.value rest

pub type_starts : (x : TypeConstructor) (rest : List Leaf) → Starts starts_type (type_leaves x ++ rest)
type_starts x rest = subst (λ l. Starts starts_type (l ++ rest)) (sym (type_parts x)) (type_level_starts (out-TypeConstructor x) rest)

-- a number or a type

number_level : (p : Parser) (at : ℕ) (y : Open TypeArgument-F) (rest : List Leaf) → IsKindAt p at kind.Number → Ahead p at (type_argument_level y ++ rest) → (s : Span) × Ahead p at (symbol kind.Number s ++ rest)
number_level p at (TypeArgument-F.Number number) rest i a = (number, a)
number_level p at (TypeArgument-F.Type constructor) rest i a = absurd (starts_other starts_type kind.Number _ refl (type_starts constructor rest) (begins p at kind.Number _ i a))

pub number_argument_ahead : (p : Parser) (at : ℕ) (x : TypeArgument) (rest : List Leaf) → IsKindAt p at kind.Number → Ahead p at (type_argument_leaves x ++ rest) → (s : Span) × Ahead p at (symbol kind.Number s ++ rest)
number_argument_ahead p at x rest i a = number_level p at (out-TypeArgument x) rest i (subst (λ l. Ahead p at (l ++ rest)) (type_argument_parts x) a)

argument_level : (p : Parser) (at : ℕ) (y : Open TypeArgument-F) (rest : List Leaf) → (IsKindAt p at kind.Number → ⊥) → Ahead p at (type_argument_level y ++ rest) → (c : TypeConstructor) × Ahead p at (type_leaves c ++ rest)
argument_level p at (TypeArgument-F.Number number) rest n a = absurd (n (kind_at p at _ _ a))
argument_level p at (TypeArgument-F.Type constructor) rest n a = (constructor, a)

pub type_argument_ahead : (p : Parser) (at : ℕ) (x : TypeArgument) (rest : List Leaf) → (IsKindAt p at kind.Number → ⊥) → Ahead p at (type_argument_leaves x ++ rest) → (c : TypeConstructor) × Ahead p at (type_leaves c ++ rest)
type_argument_ahead p at x rest n a = argument_level p at (out-TypeArgument x) rest n (subst (λ l. Ahead p at (l ++ rest)) (type_argument_parts x) a)

-- a gap among the ordinals or a member

reserved_level : (p : Parser) (at : ℕ) (y : Open OrdinalBody-F) (rest : List Leaf) → IsTextAt p at (codes "reserved") → IsKindAt p (at + 1) kind.Semicolon → Ahead p at (ordinal_body_level y ++ rest)
    → (s : Span) × Ahead p at (keyword (codes "reserved") s ++ rest)
reserved_level p at (OrdinalBody-F.Reserved s) rest i j a = (s, a)
reserved_level p at (OrdinalBody-F.Typed s constructor) rest i j a =
    absurd (starts_other starts_type kind.Semicolon _ refl (type_starts constructor rest) (begins p (at + 1) kind.Semicolon _ j (step p at _ _ a)))

pub reserved_ahead : (p : Parser) (at : ℕ) (x : OrdinalBody) (rest : List Leaf) → IsTextAt p at (codes "reserved") → IsKindAt p (at + 1) kind.Semicolon → Ahead p at (ordinal_body_leaves x ++ rest)
    → (s : Span) × Ahead p at (keyword (codes "reserved") s ++ rest)
reserved_ahead p at x rest i j a = reserved_level p at (out-OrdinalBody x) rest i j (subst (λ l. Ahead p at (l ++ rest)) (ordinal_body_parts x) a)

typed_level : (p : Parser) (at : ℕ) (y : Open OrdinalBody-F) (rest : List Leaf) → Begins kind.Semicolon rest → (IsTextAt p at (codes "reserved") → IsKindAt p (at + 1) kind.Semicolon → ⊥) → Ahead p at (ordinal_body_level y ++ rest)
    → (s : Span) × (c : TypeConstructor) × Ahead p at (name s ++ (type_leaves c ++ rest))
typed_level p at (OrdinalBody-F.Reserved s) rest b n a = absurd (n (text_ahead p at (codes "reserved") s rest a) (next p (at + 1) kind.Semicolon rest b (step p at _ rest a)))
typed_level p at (OrdinalBody-F.Typed s constructor) rest b n a = (s, constructor, a)

pub typed_ahead : (p : Parser) (at : ℕ) (x : OrdinalBody) (rest : List Leaf) → Begins kind.Semicolon rest → (IsTextAt p at (codes "reserved") → IsKindAt p (at + 1) kind.Semicolon → ⊥) → Ahead p at (ordinal_body_leaves x ++ rest)
    → (s : Span) × (c : TypeConstructor) × Ahead p at (name s ++ (type_leaves c ++ rest))
typed_ahead p at x rest b n a = typed_level p at (out-OrdinalBody x) rest b n (subst (λ l. Ahead p at (l ++ rest)) (ordinal_body_parts x) a)
