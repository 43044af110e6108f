-- The numbers of forms as the code has them: by what each form is known by.
use Rattle.std.specs.Prelude.{ℕ, ◌≡◌, ◌<◌, ◌^◌, ◌&&◌, Bool, List, Option, Some, None, IfSome}
use Rattle.std.specs.Prelude.{IsNone, slice_get, nat_eq}
use Rattle.std.specs.Bool.{beq}
use Rattle.indexmap.specs.IndexMap.{get}
use Rattle.fidl_span.specs.declared.words.Span.{Span}
use Rattle.fidl_declarations.specs.Keywords.{layout_keyword}
use Rattle.fidl_declarations.specs.Forms.{Form, FormKind, layout_form, result_form, empty_response_form}
use Rattle.fidl_lower_types.specs.declared.numbers.LayoutNumbers.{LayoutNumbers}
use Rattle.fidl_lower_types.specs.Numbers.{IsFirst, IsAnswerAt}

-- what a layout is known by: the number of its file, whether it is numbered for where it may be
-- absent, and where its keyword begins and ends
abbrev pub LayoutKey : Type 0
LayoutKey = ℕ × Bool × ℕ × ℕ

abbrev pub layout_key : (number : ℕ) → (optional : Bool) → (keyword : Span) → LayoutKey
layout_key number optional keyword = (number, optional, keyword.from, keyword.to)

abbrev pub kind_key : (number : ℕ) → FormKind → Option LayoutKey
kind_key number (layout_form optional l) = Some (layout_key number optional (layout_keyword l))
kind_key number (result_form strict r) = None
kind_key number empty_response_form = None

-- what the layout of a form is known by
abbrev pub form_key : Form → Option LayoutKey
form_key form = kind_key form.file form.kind

-- this is what the layout of a form is known by
abbrev pub IsLayoutKey : LayoutKey → (form : Form) → Type 0
IsLayoutKey key form = form_key form ≡ Some key

-- two are the same, by the test of a map
abbrev pub same_key : LayoutKey → LayoutKey → Bool
same_key x y = ((nat_eq x.0 y.0 && beq x.1 y.1) && nat_eq x.2 y.2) && nat_eq x.3 y.3

-- what a result or an empty response is known by: the number of its file, whether it is the latter,
-- and where the names of its protocol and of its method begin and end
abbrev pub AnswerKey : Type 0
AnswerKey = ℕ × Bool × ℕ × ℕ × ℕ × ℕ

abbrev pub answer_key : (number : ℕ) → (empty : Bool) → (protocol method : Span) → AnswerKey
answer_key number empty protocol method =
    (number, empty, protocol.from, protocol.to, method.from, method.to)

-- this is what a form is known by that is one
pub record IsAnswerKey (key : AnswerKey) (form : Form) : Type 0 where
  pub empty : Bool
  pub protocol : Span
  pub method : Span
  pub at : IsAnswerAt form.file empty protocol method form
  pub key_is : key ≡ answer_key form.file empty protocol method

-- two are the same, by the test of a map
abbrev pub same_answer : AnswerKey → AnswerKey → Bool
same_answer x y =
    ((((nat_eq x.0 y.0 && beq x.1 y.1) && nat_eq x.2 y.2) && nat_eq x.3 y.3) && nat_eq x.4 y.4)
    && nat_eq x.5 y.5

-- Of each key the number of the first form that is known by it is held, and nothing where there is
-- none.
pub record AreHeld {K : Type 0} (Of : K → Form → Type 0) (held : K → Option ℕ) (forms : List Form)
    : Type 0 where
  pub found : (key : K) → IfSome (held key) (IsFirst forms (Of key))
  pub none : (key : K) → IsNone (held key) → (i : ℕ) → IsFirst forms (Of key) i → ⊥

-- the same of the forms before this place
pub record AreHeldBefore {K : Type 0} (Of : K → Form → Type 0) (held : K → Option ℕ)
    (forms : List Form) (place : ℕ) : Type 0 where
  pub found : (key : K) → IfSome (held key) (IsFirst forms (Of key))
  pub none : (key : K) → IsNone (held key) → (i : ℕ) (form : Form) → i < place → i < 2 ^ 32
      → slice_get forms i ≡ Some form → Of key form → ⊥

-- these are the numbers of forms
pub record AreNumbers (forms : List Form) (numbers : LayoutNumbers) : Type 0 where
  pub layouts : AreHeld IsLayoutKey (get same_key numbers.known) forms
  pub answers : AreHeld IsAnswerKey (get same_answer numbers.answers) forms
