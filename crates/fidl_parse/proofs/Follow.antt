-- What may follow one part may follow another, and what may follow parts that can be left out.
use Rattle.std.proofs.Common.{◌≡◌, Bool, true, false, List, [], ◌∷◌, ◌++◌, Option, None, Some, append_assoc, refl, sym, ap, subst, ◌∙◌, inl, inr}
use Rattle.fidl_span.specs.declared.words.WordKind.{WordKind}
use Rattle.fidl_span.specs.declared.words.WordKind.TheVariants as kind
use Rattle.fidl_tree.specs.Leaf.{Leaf, optional}
use Rattle.fidl_parse.specs.Completeness.{row}
use Rattle.fidl_parse.specs.FollowSets.{Begins, Not, extends_path, extends_value, extends_name, extends_type, extends_attribute, extends_attributes, EndsArgument}
use Rattle.fidl_parse.proofs.Ahead.{begins_not, not_begins}

narrow : (wide slim : WordKind → Bool) → ((k : WordKind) → wide k ≡ false → slim k ≡ false) → (ls : List Leaf) → Not wide ls → Not slim ls
narrow wide slim h [] n = tt
narrow wide slim h (l ∷ ls) n = h l.word.kind n

value_kinds : (k : WordKind) → extends_value k ≡ false → extends_path k ≡ false
value_kinds kind.Dot e = e
value_kinds _ e = refl

type_kinds : (k : WordKind) → extends_type k ≡ false → extends_value k ≡ false
type_kinds kind.Dot e = e
type_kinds kind.Bar e = e
type_kinds _ e = refl

name_kinds : (k : WordKind) → extends_type k ≡ false → extends_name k ≡ false
name_kinds kind.Less e = e
name_kinds _ e = refl

attribute_kinds : (k : WordKind) → extends_attributes k ≡ false → extends_attribute k ≡ false
attribute_kinds kind.LeftParenthesis e = e
attribute_kinds _ e = refl

pub path_of_value : (ls : List Leaf) → Not extends_value ls → Not extends_path ls
path_of_value = narrow extends_value extends_path value_kinds

pub value_of_type : (ls : List Leaf) → Not extends_type ls → Not extends_value ls
value_of_type = narrow extends_type extends_value type_kinds

pub name_of_type : (ls : List Leaf) → Not extends_type ls → Not extends_name ls
name_of_type = narrow extends_type extends_name name_kinds

pub attribute_of_attributes : (ls : List Leaf) → Not extends_attributes ls → Not extends_attribute ls
attribute_of_attributes = narrow extends_attributes extends_attribute attribute_kinds

-- `,` and `)` go on with nothing
pub argument_end : (picks : WordKind → Bool) → picks kind.Comma ≡ false → picks kind.RightParenthesis ≡ false → (ls : List Leaf) → EndsArgument ls → Not picks ls
argument_end picks c r [] e = tt
argument_end picks c r (l ∷ ls) (inl e) = subst (λ k. picks k ≡ false) (sym e) c
argument_end picks c r (l ∷ ls) (inr e) = subst (λ k. picks k ≡ false) (sym e) r

pub begins_row : {X : Type 0} (f : X → List Leaf) (k : WordKind) → ((y : X) (ls : List Leaf) → Begins k (f y ++ ls)) → (y : X) (ys : List X) (rest : List Leaf) → Begins k (row f (y ∷ ys) ++ rest)
begins_row f k s y ys rest = subst (λ l. Begins k l) (sym (append_assoc (f y) (row f ys) rest)) (s y (row f ys ++ rest))

pub not_row : {X : Type 0} (picks : WordKind → Bool) (f : X → List Leaf) (k : WordKind) → picks k ≡ false → ((y : X) (ls : List Leaf) → Begins k (f y ++ ls))
    → (xs : List X) (rest : List Leaf) → Not picks rest → Not picks (row f xs ++ rest)
not_row picks f k e s [] rest n = n
not_row picks f k e s (y ∷ ys) rest n = begins_not picks k (row f (y ∷ ys) ++ rest) e (begins_row f k s y ys rest)

pub not_optional : {X : Type 0} (picks : WordKind → Bool) (f : X → List Leaf) (k : WordKind) → picks k ≡ false → ((y : X) (ls : List Leaf) → Begins k (f y ++ ls))
    → (o : Option X) (rest : List Leaf) → Not picks rest → Not picks (optional f o ++ rest)
not_optional picks f k e s None rest n = n
not_optional picks f k e s (Some y) rest n = begins_not picks k (f y ++ rest) e (s y rest)

-- what begins with one kind of word doesn't begin with another
pub other_begins : (picks : WordKind → Bool) (k j : WordKind) (ls : List Leaf) → picks k ≡ true → picks j ≡ false → Begins j ls → Begins k ls → ⊥
other_begins picks k j ls e f b c = not_begins picks k ls e (begins_not picks j ls f b) c

abbrev pub is_minus : WordKind → Bool
is_minus kind.Minus = true
is_minus _ = false

abbrev pub is_comma : WordKind → Bool
is_comma kind.Comma = true
is_comma _ = false

-- a word of a kind that this test picks out
abbrev pub Starts : (WordKind → Bool) → List Leaf → Type 0
Starts picks [] = ⊥
Starts picks (l ∷ rest) = picks l.word.kind ≡ true

pub starts_other : (picks : WordKind → Bool) (k : WordKind) (ls : List Leaf) → picks k ≡ false → Starts picks ls → Begins k ls → ⊥
starts_other picks k [] e s b = b
starts_other picks k (l ∷ ls) e s b = let f = ap picks b in cc

pub begins_starts : (picks : WordKind → Bool) (k : WordKind) (ls : List Leaf) → picks k ≡ true → Begins k ls → Starts picks ls
begins_starts picks k [] e b = b
begins_starts picks k (l ∷ ls) e b = ap picks b ∙ e

abbrev pub is_arrow : WordKind → Bool
is_arrow kind.Arrow = true
is_arrow _ = false
