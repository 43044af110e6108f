-- The leaves of a value part by part.
use Rattle.std.proofs.Common.{Box, Vec, Global, ◌≡◌, Bool, true, false, ℕ, List, [], ◌∷◌, ◌++◌, Option, None, Some, codes, append_assoc, refl, ap, sym, subst, ◌∙◌, ◌⊎◌, inl, inr}
use Rattle.fidl_span.specs.declared.words.Span.{Span}
use Rattle.fidl_span.specs.declared.words.WordKind.{WordKind}
use Rattle.fidl_span.specs.declared.words.WordKind.TheVariants as kind
use Rattle.fidl_tree.specs.Leaf.{Leaf, any, is, none_of, leaf, symbol, keyword, optional}
use Rattle.fidl_tree.specs.Path.{path_from, part_leaves}
use Rattle.fidl_tree.specs.Value.{value_leaves, or_operand_leaves, operand_leaves}
use Rattle.fidl_tree.specs.declared.path.Path.{Path}
use Rattle.fidl_tree.specs.declared.value.Value.{Value, out-Value, roll-Value}
use Rattle.fidl_tree.specs.declared.value.OrOperand.{OrOperand, out-OrOperand, roll-OrOperand}
use Rattle.fidl_tree.specs.declared.value.Operand.{Operand, out-Operand, roll-Operand, roll-out-Operand}
use Rattle.fidl_tree.specs.declared.value.Operand.TheVariants as variant
use Rattle.fidl_tree.specs.declared.value.Operand.TheOpen.{Operand-F}
use Rattle.fidl_tree.specs.declared.value.Operand.TheFolds.{fold_out-Value, fold_out-OrOperand, fold-roll-Operand, fold-roll-Value, fold-roll-OrOperand}
use Rattle.fidl_parse.specs.declared.parser.Parser.{Parser}
use Rattle.fidl_parse.specs.Reading.{Reads, IsKindAt, IsTextAt}
use Rattle.fidl_parse.specs.Choices.{literals}
use Rattle.fidl_parse.specs.Completeness.{Ahead, row}
use Rattle.fidl_parse.specs.FollowSets.{Begins, Not, NotNamed, EndsArgument, extends_path, extends_value, is_identifier}
use Rattle.fidl_parse.proofs.Ahead.{kind_at, kind_same, text_same, group}
use Rattle.fidl_parse.proofs.Follow.{Starts, path_of_value, not_row, argument_end}
use Rattle.fidl_parse.proofs.Joins.{reads_join}
use Rattle.fidl_parse.proofs.PathRest.{part_begins}
use Rattle.fidl_parse.proofs.Words.{differ, text_ahead}

value_parts : (x : Value) → value_leaves x ≡ operand_leaves (out-Value x).first ++ row or_operand_leaves (out-Value x).rest.items
value_parts x = rw fold_out-Value

or_operand_parts : (x : OrOperand) → or_operand_leaves x ≡ symbol kind.Bar (out-OrOperand x).bar ++ operand_leaves (out-OrOperand x).operand
or_operand_parts x = rw fold_out-OrOperand

abbrev operand_level : Operand-F Operand OrOperand Value → List Leaf
operand_level (Operand-F.Number minus number) = optional (symbol kind.Minus) minus ++ symbol kind.Number number
operand_level (Operand-F.String s) = symbol kind.String s
operand_level (Operand-F.True s) = keyword (codes "true") s
operand_level (Operand-F.False s) = keyword (codes "false") s
operand_level (Operand-F.Path p) = path_from (none_of literals) p
operand_level (Operand-F.Group left value right) = symbol kind.LeftParenthesis left ++ value_leaves value.value ++ symbol kind.RightParenthesis right

operand_rolled : (y : Operand-F Operand OrOperand Value) → operand_leaves (roll-Operand y) ≡ operand_level y
operand_rolled (Operand-F.Number minus number) = rw fold-roll-Operand
operand_rolled (Operand-F.String s) = rw fold-roll-Operand
operand_rolled (Operand-F.True s) = rw fold-roll-Operand
operand_rolled (Operand-F.False s) = rw fold-roll-Operand
operand_rolled (Operand-F.Path p) = rw fold-roll-Operand
operand_rolled (Operand-F.Group left value right) = rw fold-roll-Operand

operand_parts : (x : Operand) → operand_leaves x ≡ operand_level (out-Operand x)
operand_parts x = ap operand_leaves (sym (roll-out-Operand x)) ∙ operand_rolled (out-Operand x)

pub value_ahead : (p : Parser) (at : ℕ) (x : Value) (rest : List Leaf) → Ahead p at (value_leaves x ++ rest)
    → Ahead p at (operand_leaves (out-Value x).first ++ (row or_operand_leaves (out-Value x).rest.items ++ rest))
value_ahead p at x rest a = group p at _ _ rest (subst (λ l. Ahead p at (l ++ rest)) (value_parts x) a)

pub or_operand_ahead : (p : Parser) (at : ℕ) (x : OrOperand) (rest : List Leaf) → Ahead p at (or_operand_leaves x ++ rest)
    → Ahead p at (symbol kind.Bar (out-OrOperand x).bar ++ (operand_leaves (out-OrOperand x).operand ++ rest))
or_operand_ahead p at x rest a = subst (λ l. Ahead p at (l ++ rest)) (or_operand_parts x) a

pub or_operand_begins : (y : OrOperand) (ls : List Leaf) → Begins kind.Bar (or_operand_leaves y ++ ls)
or_operand_begins y ls = subst (λ l. Begins kind.Bar (l ++ ls)) (sym (or_operand_parts y)) refl

pub or_operands_end : (xs : List OrOperand) (rest : List Leaf) → Not extends_value rest → Not extends_path (row or_operand_leaves xs ++ rest)
or_operands_end xs rest n = not_row extends_path or_operand_leaves kind.Bar refl or_operand_begins xs rest (path_of_value rest n)

-- an operand that begins with a parenthesis
group_level : (p : Parser) (at : ℕ) (y : Operand-F Operand OrOperand Value) (rest : List Leaf) → IsKindAt p at kind.LeftParenthesis → Ahead p at (operand_level y ++ rest)
    → (left : Span) × (value : Value) × (right : Span) × Ahead p at (symbol kind.LeftParenthesis left ++ (value_leaves value ++ (symbol kind.RightParenthesis right ++ rest)))
group_level p at (Operand-F.Number None number) rest i a = absurd (let e = kind_same p at _ _ _ i a in cc)
group_level p at (Operand-F.Number (Some minus) number) rest i a = absurd (let e = kind_same p at _ _ _ i a in cc)
group_level p at (Operand-F.String s) rest i a = absurd (let e = kind_same p at _ _ _ i a in cc)
group_level p at (Operand-F.True s) rest i a = absurd (let e = kind_same p at _ _ _ i a in cc)
group_level p at (Operand-F.False s) rest i a = absurd (let e = kind_same p at _ _ _ i a in cc)
group_level p at (Operand-F.Path path) rest i a = absurd (let e = kind_same p at _ _ _ i a in cc)
group_level p at (Operand-F.Group left value right) rest i a =
    (left, value.value, right, subst (λ l. Ahead p at l) (ap (λ l. symbol kind.LeftParenthesis left ++ l) (append_assoc (value_leaves value.value) (symbol kind.RightParenthesis right) rest)) a)

pub group_ahead : (p : Parser) (at : ℕ) (x : Operand) (rest : List Leaf) → IsKindAt p at kind.LeftParenthesis → Ahead p at (operand_leaves x ++ rest)
    → (left : Span) × (value : Value) × (right : Span) × Ahead p at (symbol kind.LeftParenthesis left ++ (value_leaves value ++ (symbol kind.RightParenthesis right ++ rest)))
group_ahead p at x rest i a = group_level p at (out-Operand x) rest i (subst (λ l. Ahead p at (l ++ rest)) (operand_parts x) a)

-- an operand that begins with no parenthesis and no name
abbrev pub Literal : Parser → ℕ → List Leaf → Type 0
Literal p at rest = ((s : Span) × Ahead p at (symbol kind.String s ++ rest))
    ⊎ ((minus : Option Span) × (number : Span) × Ahead p at (optional (symbol kind.Minus) minus ++ (symbol kind.Number number ++ rest)))

literal_level : (p : Parser) (at : ℕ) (y : Operand-F Operand OrOperand Value) (rest : List Leaf) → (IsKindAt p at kind.LeftParenthesis → ⊥) → (IsKindAt p at kind.Identifier → ⊥)
    → Ahead p at (operand_level y ++ rest) → Literal p at rest
literal_level p at (Operand-F.Number None number) rest i j a = inr (None, number, a)
literal_level p at (Operand-F.Number (Some minus) number) rest i j a = inr (Some minus, number, a)
literal_level p at (Operand-F.String s) rest i j a = inl (s, a)
literal_level p at (Operand-F.True s) rest i j a = absurd (j (kind_at p at _ _ a))
literal_level p at (Operand-F.False s) rest i j a = absurd (j (kind_at p at _ _ a))
literal_level p at (Operand-F.Path path) rest i j a = absurd (j (kind_at p at _ _ a))
literal_level p at (Operand-F.Group left value right) rest i j a = absurd (i (kind_at p at _ _ a))

pub literal_ahead : (p : Parser) (at : ℕ) (x : Operand) (rest : List Leaf) → (IsKindAt p at kind.LeftParenthesis → ⊥) → (IsKindAt p at kind.Identifier → ⊥)
    → Ahead p at (operand_leaves x ++ rest) → Literal p at rest
literal_ahead p at x rest i j a = literal_level p at (out-Operand x) rest i j (subst (λ l. Ahead p at (l ++ rest)) (operand_parts x) a)

-- an operand that begins with a name
abbrev pub WordOperand : Parser → ℕ → List Leaf → Type 0
WordOperand p at rest = ((s : Span) × Ahead p at (keyword (codes "true") s ++ rest)) ⊎ (((s : Span) × Ahead p at (keyword (codes "false") s ++ rest))
    ⊎ ((path : Path) × Ahead p at (leaf kind.Identifier path.first (none_of literals) ++ (row part_leaves path.rest.items ++ rest))))

word_level : (p : Parser) (at : ℕ) (y : Operand-F Operand OrOperand Value) (rest : List Leaf) → IsKindAt p at kind.Identifier → Ahead p at (operand_level y ++ rest) → WordOperand p at rest
word_level p at (Operand-F.Number None number) rest i a = absurd (let e = kind_same p at _ _ _ i a in cc)
word_level p at (Operand-F.Number (Some minus) number) rest i a = absurd (let e = kind_same p at _ _ _ i a in cc)
word_level p at (Operand-F.String s) rest i a = absurd (let e = kind_same p at _ _ _ i a in cc)
word_level p at (Operand-F.True s) rest i a = inl (s, a)
word_level p at (Operand-F.False s) rest i a = inr (inl (s, a))
word_level p at (Operand-F.Path path) rest i a = inr (inr (path, a))
word_level p at (Operand-F.Group left value right) rest i a = absurd (let e = kind_same p at _ _ _ i a in cc)

pub word_ahead : (p : Parser) (at : ℕ) (x : Operand) (rest : List Leaf) → IsKindAt p at kind.Identifier → Ahead p at (operand_leaves x ++ rest) → WordOperand p at rest
word_ahead p at x rest i a = word_level p at (out-Operand x) rest i (subst (λ l. Ahead p at (l ++ rest)) (operand_parts x) a)

pub string_ahead : (p : Parser) (at : ℕ) (rest : List Leaf) → IsKindAt p at kind.String → Literal p at rest → (s : Span) × Ahead p at (symbol kind.String s ++ rest)
string_ahead p at rest i (inl s) = s
string_ahead p at rest i (inr (None, number, a)) = absurd (let e = kind_same p at _ _ _ i a in cc)
string_ahead p at rest i (inr (Some minus, number, a)) = absurd (let e = kind_same p at _ _ _ i a in cc)

pub number_ahead : (p : Parser) (at : ℕ) (rest : List Leaf) → (IsKindAt p at kind.String → ⊥) → Literal p at rest
    → (minus : Option Span) × (number : Span) × Ahead p at (optional (symbol kind.Minus) minus ++ (symbol kind.Number number ++ rest))
number_ahead p at rest n (inl (s, a)) = absurd (n (kind_at p at _ _ a))
number_ahead p at rest n (inr y) = y

pub true_ahead : (p : Parser) (at : ℕ) (rest : List Leaf) → IsTextAt p at (codes "true") → WordOperand p at rest → (s : Span) × Ahead p at (keyword (codes "true") s ++ rest)
true_ahead p at rest i (inl s) = s
true_ahead p at rest i (inr (inl (s, a))) = absurd (differ p at (codes "true") (codes "false") s rest refl i a)
true_ahead p at rest i (inr (inr (path, a))) = absurd (a.texts.0.0 (text_same p at (codes "true") _ _ i a).1)

pub false_ahead : (p : Parser) (at : ℕ) (rest : List Leaf) → IsTextAt p at (codes "false") → WordOperand p at rest → (s : Span) × Ahead p at (keyword (codes "false") s ++ rest)
false_ahead p at rest i (inl (s, a)) = absurd (differ p at (codes "false") (codes "true") s rest refl i a)
false_ahead p at rest i (inr (inl s)) = s
false_ahead p at rest i (inr (inr (path, a))) = absurd (a.texts.0.1.0 (text_same p at (codes "false") _ _ i a).1)

pub path_ahead : (p : Parser) (at : ℕ) (rest : List Leaf) → (IsTextAt p at (codes "true") → ⊥) → (IsTextAt p at (codes "false") → ⊥) → WordOperand p at rest
    → (path : Path) × Ahead p at (leaf kind.Identifier path.first (none_of literals) ++ (row part_leaves path.rest.items ++ rest))
path_ahead p at rest n m (inl (s, a)) = absurd (n (text_ahead p at (codes "true") s rest a))
path_ahead p at rest n m (inr (inl (s, a))) = absurd (m (text_ahead p at (codes "false") s rest a))
path_ahead p at rest n m (inr (inr y)) = y

-- an operand that is built of what was read
pub number_reads : (p : Parser) (a b c : ℕ) (minus : Option Span) (number : Span)
    → Reads p a b (optional (symbol kind.Minus) minus) → Reads p b c (symbol kind.Number number) → Reads p a c (operand_leaves (variant.Number minus number))
number_reads p a b c minus number r s =
    subst (λ l. Reads p a c l) (sym (ap operand_leaves (sym (variant.rolls-Number minus number)) ∙ operand_rolled (Operand-F.Number minus number)))
    (reads_join p a b c _ _ r s)

pub path_reads : (p : Parser) (a b c : ℕ) (path : Path)
    → Reads p a b (leaf kind.Identifier path.first (none_of literals)) → Reads p b c (row part_leaves path.rest.items) → Reads p a c (operand_leaves (variant.Path path))
path_reads p a b c path r s =
    subst (λ l. Reads p a c l) (sym (ap operand_leaves (sym (variant.rolls-Path path)) ∙ operand_rolled (Operand-F.Path path)))
    (reads_join p a b c _ _ r s)

pub group_reads : (p : Parser) (a b c d : ℕ) (left : Span) (inner : Value) (value : Box Value Global) (right : Span) → value.value ≡ inner
    → Reads p a b (symbol kind.LeftParenthesis left) → Reads p b c (value_leaves inner) → Reads p c d (symbol kind.RightParenthesis right)
    → Reads p a d (operand_leaves (variant.Group left value right))
group_reads p a b c d left inner value right e r s t =
    subst (λ l. Reads p a d l) (sym (ap operand_leaves (sym (variant.rolls-Group left value right)) ∙ operand_rolled (Operand-F.Group left value right)))
    (reads_join p a c d _ _ (reads_join p a b c _ _ r (subst (λ v. Reads p b c (value_leaves v)) (sym e) s)) t)

pub value_reads : (p : Parser) (a b c : ℕ) (first : Operand) (rest : Vec OrOperand Global) → Reads p a b (operand_leaves first) → Reads p b c (row or_operand_leaves rest.items)
    → Reads p a c (value_leaves (roll-Value record { first = first; rest = rest }))
value_reads p a b c first rest r s = rw fold-roll-Value (reads_join p a b c (operand_leaves first) (row or_operand_leaves rest.items) r s)

pub or_operand_reads : (p : Parser) (a b c : ℕ) (bar : Span) (operand : Operand) → Reads p a b (symbol kind.Bar bar) → Reads p b c (operand_leaves operand)
    → Reads p a c (or_operand_leaves (roll-OrOperand record { bar = bar; operand = operand }))
or_operand_reads p a b c bar operand r s = rw fold-roll-OrOperand (reads_join p a b c (symbol kind.Bar bar) (operand_leaves operand) r s)

-- what a value begins with
abbrev pub starts_value : WordKind → Bool
starts_value kind.Minus = true
starts_value kind.Number = true
starts_value kind.String = true
starts_value kind.Identifier = true
starts_value kind.LeftParenthesis = true
starts_value _ = false

start_level : (y : Operand-F Operand OrOperand Value) (rest : List Leaf) → Starts starts_value (operand_level y ++ rest)
start_level (Operand-F.Number None number) rest = refl
start_level (Operand-F.Number (Some minus) number) rest = refl
start_level (Operand-F.String s) rest = refl
start_level (Operand-F.True s) rest = refl
start_level (Operand-F.False s) rest = refl
start_level (Operand-F.Path path) rest = refl
start_level (Operand-F.Group left value right) rest = refl

pub value_starts : (x : Value) (rest : List Leaf) → Starts starts_value (value_leaves x ++ rest)
value_starts x rest =
    let t = start_level (out-Operand (out-Value x).first) (row or_operand_leaves (out-Value x).rest.items ++ rest) in
    let s = subst (λ l. Starts starts_value (l ++ (row or_operand_leaves (out-Value x).rest.items ++ rest))) (sym (operand_parts (out-Value x).first)) t in
    subst (λ l. Starts starts_value l) (sym (ap (λ l. l ++ rest) (value_parts x) ∙ append_assoc (operand_leaves (out-Value x).first) (row or_operand_leaves (out-Value x).rest.items) rest)) s

-- no value begins with a name and `=`, where what follows it doesn't begin with `=`
abbrev pub is_equals : WordKind → Bool
is_equals kind.Equals = true
is_equals _ = false

first_unnamed : (l : Leaf) (ls : List Leaf) → is_identifier l.word.kind ≡ false → NotNamed (l ∷ ls)
first_unnamed l [] n = tt
first_unnamed l (m ∷ ls) n = λ i e. let f = ap is_identifier i in cc

second_unnamed : (l : Leaf) (ls : List Leaf) → Not is_equals ls → NotNamed (l ∷ ls)
second_unnamed l [] n = tt
second_unnamed l (m ∷ ls) n = λ i e. let f = ap is_equals e in cc

unnamed_level : (y : Operand-F Operand OrOperand Value) (rest : List Leaf) → Not is_equals rest → NotNamed (operand_level y ++ rest)
unnamed_level (Operand-F.Number None number) rest n = first_unnamed (record { word = record { kind = kind.Number; span = number }; text = any }) rest refl
unnamed_level (Operand-F.Number (Some minus) number) rest n = first_unnamed (record { word = record { kind = kind.Minus; span = minus }; text = any }) (symbol kind.Number number ++ rest) refl
unnamed_level (Operand-F.String s) rest n = first_unnamed (record { word = record { kind = kind.String; span = s }; text = any }) rest refl
unnamed_level (Operand-F.True s) rest n = second_unnamed (record { word = record { kind = kind.Identifier; span = s }; text = is (codes "true") }) rest n
unnamed_level (Operand-F.False s) rest n = second_unnamed (record { word = record { kind = kind.Identifier; span = s }; text = is (codes "false") }) rest n
unnamed_level (Operand-F.Path path) rest n =
    second_unnamed (record { word = record { kind = kind.Identifier; span = path.first }; text = none_of literals }) (row part_leaves path.rest.items ++ rest)
    (not_row is_equals part_leaves kind.Dot refl part_begins path.rest.items rest n)
unnamed_level (Operand-F.Group left value right) rest n =
    first_unnamed (record { word = record { kind = kind.LeftParenthesis; span = left }; text = any }) ((value_leaves value.value ++ symbol kind.RightParenthesis right) ++ rest) refl

pub value_unnamed : (x : Value) (rest : List Leaf) → EndsArgument rest → NotNamed (value_leaves x ++ rest)
value_unnamed x rest m =
    let n = not_row is_equals or_operand_leaves kind.Bar refl or_operand_begins (out-Value x).rest.items rest (argument_end is_equals refl refl rest m) in
    let t = unnamed_level (out-Operand (out-Value x).first) (row or_operand_leaves (out-Value x).rest.items ++ rest) n in
    let s = subst (λ l. NotNamed (l ++ (row or_operand_leaves (out-Value x).rest.items ++ rest))) (sym (operand_parts (out-Value x).first)) t in
    subst (λ l. NotNamed l) (sym (ap (λ l. l ++ rest) (value_parts x) ∙ append_assoc (operand_leaves (out-Value x).first) (row or_operand_leaves (out-Value x).rest.items) rest)) s
