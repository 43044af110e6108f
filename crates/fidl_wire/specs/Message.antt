-- The message of a value, and which messages encode a value (docs/wire.md, "Messages").
use Rattle.std.specs.Prelude.{◌≡◌, ◌≤◌, ℕ, List, length}
use Rattle.fidl_wire.specs.declared.handle.HandleInfo.{HandleInfo}
use Rattle.fidl_limits.specs.declared.limits.TheConstants.{MAX_MESSAGE_BYTES, MAX_MESSAGE_HANDLES}
use Rattle.fidl_limits.specs.declared.limits.TheConstants.{MAX_DEPTH}
use Rattle.fidl_wire.specs.Value.{Value}
use Rattle.fidl_wire.specs.Term.{Term}
use Rattle.fidl_wire.specs.Figure.{Declarations}
use Rattle.fidl_wire.specs.Typed.{Typed}
use Rattle.fidl_wire.specs.Encoding.{Enc, object}
use Rattle.fidl_wire.specs.Depth.{Depth}

-- the bytes of the value's message, the primary object first, and its handles
abbrev pub Message : Declarations → Term → Value → List ℕ × List HandleInfo
Message ds t v = (object (Enc ds t v), (Enc ds t v).handles)

-- the value is one of the term, not too deep, and has this message, which is within the limits
pub record Encodes (ds : Declarations) (t : Term) (v : Value) (bytes : List ℕ)
    (handles : List HandleInfo) : Type 0 where
  pub typed : Typed ds t v
  pub shallow : Depth ds t v ≤ MAX_DEPTH
  pub message : Message ds t v ≡ (bytes, handles)
  pub short : length bytes ≤ MAX_MESSAGE_BYTES
  pub few : length handles ≤ MAX_MESSAGE_HANDLES

-- some value of the term has this message
abbrev pub IsEncoding : Declarations → Term → List ℕ → List HandleInfo → Type 0
IsEncoding ds t bytes handles = (v : Value) × Encodes ds t v bytes handles
