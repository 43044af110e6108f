-- What stands in a member's type is no table and no union itself: these are named by numbers.
use Rattle.std.proofs.Common.{◌≡◌, ℕ, List, [], ◌∷◌, sym, subst}
use Rattle.std.specs.Prelude.{Bool, true, false, Option, Some, None}
use Rattle.std.specs.List.{AllByRecursion}
use Rattle.fidl_tree.specs.Syntax.{TypeUse, Response, Member}
use Rattle.fidl_tree.specs.declared.file.File.{File}
use Rattle.fidl_named.specs.declared.meaning.Predeclared.{Predeclared}
use Rattle.fidl_named.specs.declared.meaning.Predeclared.TheVariants as name
use Rattle.fidl_constraints.specs.Behind.{Head}
use Rattle.fidl_constraints.specs.declared.parts.Part.{Part}
use Rattle.fidl_wire.specs.Term as ty
use Rattle.fidl_wire.specs.Term.{Kind, Term, Fields, no_fields, field, Rows, no_rows, row}
use Rattle.fidl_ir.specs.Members.{field_types, row_types}
use Rattle.fidl_lower_types.specs.declared.node.Shape.{Shape}
use Rattle.fidl_lower_types.specs.declared.node.Shape.TheVariants as shape
use Rattle.fidl_lower_types.specs.Terms.{Node, leaf, holds, made_of, word_kind, other_term, number_or, word_term, HeadIs, TermIs}
use Rattle.fidl_lower_layouts.specs.Members.{FieldIs, FieldsAre, RowIs, EachRow}
use Rattle.fidl_lower_layouts.specs.Results.{ResponseIs, ErrorIs, framework_rows, error_rows, result_rows}

-- no table and no union, nor made of such
abbrev pub IsPlain : Term → Type 0
IsPlain (ty.vector optional bound t) = IsPlain t
IsPlain (ty.array t n) = IsPlain t
IsPlain (ty.box t) = IsPlain t
IsPlain (ty.struct fs) = Unit {0}
IsPlain (ty.table rows) = ⊥
IsPlain (ty.union optional strict rows) = ⊥
IsPlain _ = Unit {0}

abbrev pub ArePlain : List Term → Type 0
ArePlain = AllByRecursion IsPlain

abbrev IfPlain : Option Term → Type 0
IfPlain None = Unit {0}
IfPlain (Some t) = IsPlain t

other_plain : (w : Predeclared) (parts : List Part) → IfPlain (other_term w parts)
other_plain name.Bool parts = tt
other_plain name.String parts = tt
other_plain name.Bytes parts = tt
other_plain name.ClientEnd parts = tt
other_plain name.ServerEnd parts = tt
other_plain _ parts = tt

number_plain : (kind : Option Kind) (other : Option Term) → IfPlain other → IfPlain (number_or kind other)
number_plain None other h = h
number_plain (Some kind) other h = tt

word_plain : (w : Predeclared) (parts : List Part) (e : Term) → word_term w parts ≡ Some e → IsPlain e
word_plain w parts e is = subst IfPlain is (number_plain (word_kind w) (other_term w parts) (other_plain w parts))

abbrev IfLeaf : Node → Type 0
IfLeaf (leaf e) = IsPlain e
IfLeaf (holds number t s) = Unit {0}

head_plain : (files : List File) (number : ℕ) (parts : List Part) (head : Head) (n : Node) → HeadIs files number parts head n → IfLeaf n
head_plain files number parts _ _ (HeadIs.word w e is) = word_plain w parts e is
head_plain files number parts _ _ (HeadIs.handle p) = tt
head_plain files number parts _ _ (HeadIs.layout l i is) = tt
head_plain files number parts _ _ (HeadIs.box t i is) = tt
head_plain files number parts _ _ (HeadIs.vector t) = tt
head_plain files number parts _ _ (HeadIs.array t a n is) = tt

made_plain : (s : Shape) (e : Term) → IsPlain e → IsPlain (made_of s e)
made_plain (shape.Vector optional bound) e h = h
made_plain (shape.Array count) e h = h

-- the terms of types are plain
pub term_plain : (files : List File) (number : ℕ) (t : TypeUse) (e : Term) → TermIs files number t e → IsPlain e
term_plain files _ _ _ (TermIs.alone number t e h) = head_plain files h.core.file h.parts h.core.head (leaf e) h.is
term_plain files _ _ _ (TermIs.of_elements number t of elements s e h k) = made_plain s e (term_plain files of elements e k)

field_plain : (files : List File) (number : ℕ) (f : File) (m : Member) (name : List ℕ) (e : Term) → FieldIs files number f m name e → IsPlain e
field_plain files number f _ _ _ (FieldIs.named attributes name t e h) = term_plain files number t e h

-- those of a struct's members
pub fields_plain : (files : List File) (number : ℕ) (f : File) (ms : List Member) (fs : Fields) → FieldsAre files number f ms fs → ArePlain (field_types fs)
fields_plain files number f [] no_fields h = tt
fields_plain files number f [] (field name e fs) h = absurd h
fields_plain files number f (m ∷ ms) no_fields h = absurd h
fields_plain files number f (m ∷ ms) (field name e fs) h = (field_plain files number f m name e h.0, fields_plain files number f ms fs h.1)

row_plain : (files : List File) (number : ℕ) (f : File) (m : Member) (n : ℕ) (name : List ℕ) (e : Term) → RowIs files number f m n name e → IsPlain e
row_plain files number f _ _ _ _ (RowIs.at attributes ordinal name t e low h) = term_plain files number t e h

-- those of a table's or a union's members
pub rows_plain : (files : List File) (number : ℕ) (f : File) (ms : List Member) (rows : Rows) → EachRow files number f ms rows → ArePlain (row_types rows)
rows_plain files number f [] no_rows h = tt
rows_plain files number f [] (row n name e rows) h = absurd h
rows_plain files number f (m ∷ ms) no_rows h = absurd h
rows_plain files number f (m ∷ ms) (row n name e rows) h = (row_plain files number f m n name e h.0, rows_plain files number f ms rows h.1)

response_plain : (files : List File) (number : ℕ) (path : _) (payload : Option TypeUse) (e : Term) → ResponseIs files number path payload e → IsPlain e
response_plain files number path (Some t) e h = term_plain files number t e h
response_plain files number path None e h = subst IsPlain (sym h.2) tt

error_plain : (files : List File) (number : ℕ) (error : Option TypeUse) (e : Option Term) → ErrorIs files number error e → IfPlain e
error_plain files number (Some t) (Some e) h = term_plain files number t e h
error_plain files number None None h = tt
error_plain files number (Some t) None h = absurd h
error_plain files number None (Some e) h = absurd h

framework_plain : (strict : Bool) → ArePlain (row_types (framework_rows strict))
framework_plain true = tt
framework_plain false = (tt, tt)

with_error : (error : Option Term) (rest : Rows) → IfPlain error → ArePlain (row_types rest) → ArePlain (row_types (error_rows error rest))
with_error None rest h k = k
with_error (Some e) rest h k = (h, k)

-- those of a result's members
pub result_plain : (files : List File) (number : ℕ) (path : _) (r : Response) (strict : Bool) (response : Term) (error : Option Term) → ResponseIs files number path r.payload response → ErrorIs files number r.error error
    → ArePlain (row_types (result_rows strict response error))
result_plain files number path r strict response error h k =
    (response_plain files number path r.payload response h, with_error error (framework_rows strict) (error_plain files number r.error error k) (framework_plain strict))
