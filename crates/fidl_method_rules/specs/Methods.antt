-- What a method of a protocol is, where it may stand, its text and its ordinal (docs/language.md,
-- "Methods" and "Ordinals").
use Rattle.std.specs.Prelude.{ℕ, ◌≡◌, Bool, false, List, [], ◌∷◌, ◌++◌, Option, Some, None}
use Rattle.std.specs.Prelude.{IsTrue, is_some, codes}
use Rattle.fidl_span.specs.declared.words.Span.{Span}
use Rattle.fidl_tree.specs.Syntax.{Attribute, File, Openness, open_protocol, ajar_protocol}
use Rattle.fidl_tree.specs.Syntax.{closed_protocol, ProtocolMember, compose_member, method_member}
use Rattle.fidl_tree.specs.Syntax.{event_member}
use Rattle.fidl_ordinal.specs.Ordinal.{ordinal}
use Rattle.fidl_declarations.specs.declared.step.Step.TheVariants as step
use Rattle.fidl_declarations.specs.Forms.{name_by_path}
use Rattle.fidl_method_rules.specs.Texts.{IsIdentifier, IsFullName}
use Rattle.fidl_method_rules.specs.Selectors.{selectors, Gives}

-- a method or an event, without its payloads
pub record Method : Type 0 where
  pub attributes : List Attribute
  pub name : Span
  pub is_strict : Bool
  pub is_two_way : Bool

-- the one that a member of a protocol is, where it is one
abbrev pub method_of : ProtocolMember → Option Method
method_of (compose_member attributes path) = None
method_of (method_member attributes strict name request response) = Some record {
  attributes = attributes;
  name = name;
  is_strict = strict;
  is_two_way = is_some response;
}
method_of (event_member attributes strict name payload) =
    Some record { attributes = attributes; name = name; is_strict = strict; is_two_way = false }

-- an open protocol has any method, an ajar one no flexible two-way method, and a closed one no
-- flexible method
abbrev pub MayStand : Openness → Method → Type 0
MayStand open_protocol m = Unit {0}
MayStand ajar_protocol m = IsTrue m.is_two_way → IsTrue m.is_strict
MayStand closed_protocol m = IsTrue m.is_strict

-- the full name of what is called by this text in the protocol of this name
abbrev pub named_in : File → (protocol : Span) → List ℕ → List ℕ
named_in f protocol name = name_by_path f (step.Name protocol ∷ []) ++ codes "." ++ name

-- the text that a selector in the protocol of this name makes of the text that it gives
pub data Selects (f : File) (protocol : Span) (given text : List ℕ) : Type 0 where
  by_identifier : IsIdentifier given → text ≡ named_in f protocol given
      → Selects f protocol given text
  by_full_name : IsFullName given → text ≡ given → Selects f protocol given text

-- the one that this selector makes
pub record SelectedBy (f : File) (protocol : Span) (a : Attribute) (text : List ℕ) : Type 0 where
  pub given : List ℕ
  pub gives : Gives f.source a given
  pub selects : Selects f protocol given text

-- the text of a method of the protocol of this name: its full name, or what its selector makes
pub data TextIs (f : File) (protocol : Span) (m : Method) (text : List ℕ) : Type 0 where
  by_name : selectors f.source m.attributes ≡ []
      → text ≡ name_by_path f (step.Name protocol ∷ step.Name m.name ∷ [])
      → TextIs f protocol m text
  by_selector : (a : Attribute) → selectors f.source m.attributes ≡ a ∷ []
      → SelectedBy f protocol a text → TextIs f protocol m text

-- the ordinal of a method is that of its text
pub record OrdinalIs (f : File) (protocol : Span) (m : Method) (n : ℕ) : Type 0 where
  pub text : List ℕ
  pub text_is : TextIs f protocol m text
  pub number : n ≡ ordinal text
