-- What the place of a type asks of it (docs/language.md, "Uses of types").
use Rattle.std.specs.Prelude.{ℕ, Bool, true, false, if◌then◌else◌, List, []}
use Rattle.fidl_tree.specs.Syntax.{TypeUse, named_type, layout_type, no_arguments}
use Rattle.fidl_tree.specs.declared.file.File.{File}
use Rattle.fidl_named.specs.declared.meaning.Predeclared.TheVariants as name
use Rattle.fidl_named.specs.declared.meaning.Meaning.TheVariants as meaning
use Rattle.fidl_constraints.specs.Behind.{Head, word_head, MeansType}
use Rattle.fidl_constraints.specs.declared.parts.Part.{Part}
use Rattle.fidl_constraints.specs.Parts.{optional_in, protocol_in}
use Rattle.fidl_declarations.specs.Sites.{Role, aliased_type, bare_type, present_type}
use Rattle.fidl_declarations.specs.Sites.{service_type, second_argument}

-- a type is wanted there, and no number: the second argument of `array` is a number
abbrev pub WantsType : List File → (number : ℕ) → Role → Type 0
WantsType files number (second_argument head) =
    MeansType files number head (meaning.Predeclared name.Array) → ⊥
WantsType files number role = Unit {0}

-- an end has its protocol
abbrev pub is_complete : Head → List Part → Bool
is_complete (word_head name.ClientEnd _) parts = protocol_in parts
is_complete (word_head name.ServerEnd _) parts = protocol_in parts
is_complete head parts = true

-- it is written with neither arguments nor constraints
abbrev pub is_bare : TypeUse → Bool
is_bare (named_type path no_arguments []) = true
is_bare (layout_type attributes l []) = true
is_bare t = false

-- a member of a service is the client end of a protocol, and never absent
abbrev pub is_served : Head → List Part → Bool
is_served (word_head name.ClientEnd _) parts =
    if optional_in parts then false else protocol_in parts
is_served head parts = false

-- a type suits its place, by what it is behind its aliases and what its constraints give: what an
-- alias stands for may leave open what other places ask for
abbrev pub role_suits : Role → TypeUse → Head → List Part → Bool
role_suits aliased_type t head parts = true
role_suits bare_type t head parts = if is_bare t then is_complete head parts else false
role_suits service_type t head parts = is_served head parts
role_suits role t head parts = is_complete head parts

-- a type is never absent: it is neither a box nor optional
abbrev pub is_present : Head → List Part → Bool
is_present (word_head name.Box _) parts = false
is_present head parts = if optional_in parts then false else true

-- it is present where its place asks for that
abbrev pub presence_suits : Role → Head → List Part → Bool
presence_suits present_type head parts = is_present head parts
presence_suits role head parts = true
