-- The texts that `@selector` may give (docs/language.md, "Methods").
use Rattle.std.specs.Prelude.{ℕ, ◌≡◌, ◌⊎◌, ◌==◌, List, [], ◌∷◌, IsTrue}
use Rattle.std.specs.List.{AllByRecursion, list_all, slice_split}
use Rattle.fidl_span.specs.Bytes.{is_word_byte, slash}
use Rattle.fidl_span.specs.Names.{is_identifier}

-- an identifier and nothing else: letters, digits and `_`, of which the first is a letter and the
-- last no `_`
pub record IsIdentifier (text : List ℕ) : Type 0 where
  pub word_bytes : IsTrue (list_all is_word_byte text)
  pub ends : IsTrue (is_identifier text)

-- what stands between the bytes of this number: one part more than there are such bytes
abbrev pub parts : (byte : ℕ) → List ℕ → List (List ℕ)
parts byte text = slice_split (λ b. b == byte) text

abbrev pub dot : ℕ
dot = 46

-- identifiers, one or more, with dots between
abbrev pub AreDotted : List ℕ → Type 0
AreDotted text = AllByRecursion IsIdentifier (parts dot text)

-- two identifiers with a dot between
pub record AreTwoNames (text : List ℕ) : Type 0 where
  pub protocol : List ℕ
  pub method : List ℕ
  pub cut : parts dot text ≡ protocol ∷ method ∷ []
  pub protocol_is : IsIdentifier protocol
  pub method_is : IsIdentifier method

-- a full name, as `some.library/Protocol.Method`
pub record IsFullName (text : List ℕ) : Type 0 where
  pub library : List ℕ
  pub names : List ℕ
  pub cut : parts slash text ≡ library ∷ names ∷ []
  pub library_is : AreDotted library
  pub names_are : AreTwoNames names

-- `@selector` may give either
abbrev pub MaySelect : List ℕ → Type 0
MaySelect text = IsIdentifier text ⊎ IsFullName text
