-- The definitions from which the types of a table are reached: those of declared types, and those
-- of payloads (docs/language.md, "Checked protocols").
use Rattle.std.specs.Prelude.{ℕ, ◌≡◌, ◌≤◌, ◌⊎◌, List, length}
use Rattle.std.specs.List.{Contains}
use Rattle.fidl_limits.specs.declared.limits.TheConstants.{MAX_ENTRIES}
use Rattle.fidl_tree.specs.declared.file.File.{File}
use Rattle.fidl_wire.specs.Term.{Term}
use Rattle.fidl_reachable_types.specs.Reached.{AreReached}
use Rattle.fidl_layout.specs.Roots.{RootAt}
use Rattle.fidl_payloads.specs.declared.payload.Payload.TheVariants as payload
use Rattle.fidl_protocol.specs.declared.method.Method.{Method}
use Rattle.fidl_protocol.specs.Methods.{IsDeclared}

-- a message of a method carries the definition of this number
abbrev pub Carries : Method → (i : ℕ) → Type 0
Carries m i =
    (m.payloads.request ≡ payload.«Type» i) ⊎ (m.payloads.response ≡ payload.«Type» i)

-- some declared method does
pub record IsCarried (files : List File) (i : ℕ) : Type 0 where
  pub method : Method
  pub declared : IsDeclared files method
  pub carries : Carries method i

-- a list has the numbers of all declared types and of all payloads, and no other
pub record AreStarts (files : List File) (starts : List ℕ) : Type 0 where
  pub sound : (i : ℕ) → Contains starts i → RootAt files i ⊎ IsCarried files i
  pub roots : (i : ℕ) → RootAt files i → Contains starts i
  pub payloads : (i : ℕ) → IsCarried files i → Contains starts i

-- they reach few enough types for a table
pub record StartsFit (files : List File) (terms : List Term) : Type 0 where
  pub starts : List ℕ
  pub are : AreStarts files starts
  pub types : List Term
  pub reached : AreReached terms starts types
  pub few : length types ≤ MAX_ENTRIES
