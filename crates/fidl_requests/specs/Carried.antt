-- Which bytes and handles are a message of what a method carries (docs/service.md, "Answers").
use Rattle.std.specs.Prelude.{◌≡◌, ℕ, List, []}
use Rattle.fidl_wire.specs.declared.handle.HandleInfo.{HandleInfo}
use Rattle.fidl_wire.specs.Term as ty
use Rattle.fidl_wire.specs.Message.{IsEncoding}
use Rattle.fidl_table_format.specs.Terms.{declarations_of}
use Rattle.fidl_verify.specs.declared.method.Payload.{Payload}
use Rattle.fidl_verify.specs.declared.method.Payload.TheVariants.{Missing, Empty, Entry}

-- bytes and handles are a message of what a method carries: none is where there is no such message,
-- only nothing is where it has no payload, and else it is the encoding of a value
abbrev pub IsCarried : (table : List ℕ) → Payload → List ℕ → List HandleInfo → Type 0
IsCarried table Missing bytes handles = ⊥
IsCarried table Empty bytes handles = (bytes ≡ []) × (handles ≡ [])
IsCarried table (Entry e) bytes handles =
    IsEncoding (declarations_of table) (ty.named e) bytes handles
