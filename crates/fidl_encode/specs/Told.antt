-- What each refusal says of a value (docs/encoding.md, "Refusals").
use Rattle.std.specs.Prelude.{◌<◌, length}
use Rattle.fidl_limits.specs.declared.limits.TheConstants.{MAX_DEPTH, MAX_MESSAGE_BYTES}
use Rattle.fidl_limits.specs.declared.limits.TheConstants.{MAX_MESSAGE_HANDLES}
use Rattle.fidl_wire.specs.Value.{Value}
use Rattle.fidl_wire.specs.Term.{Term, resolve}
use Rattle.fidl_wire.specs.Figure.{Declarations}
use Rattle.fidl_wire.specs.Typed.{Typed}
use Rattle.fidl_wire.specs.Depth.{Depth}
use Rattle.fidl_wire.specs.Message.{Message}
use Rattle.fidl_encode.specs.declared.fault.EncodeFault.{EncodeFault}
use Rattle.fidl_encode.specs.declared.fault.EncodeFault.TheVariants.{TooDeep, TooLong, TooManyHandles}
use Rattle.fidl_encode.specs.declared.fault.EncodeFault.TheVariants.{Memory, WrongShape, OverBound}
use Rattle.fidl_encode.specs.declared.fault.EncodeFault.TheVariants.{NotUtf8, UnknownValue, WrongHandle}
use Rattle.fidl_encode.specs.Broken.{Breaks}

-- the refusal is true of the value: it is none of the type, or breaks the rule that the refusal
-- names, which is what a value of the type does nowhere; or, if it is one, it is over the limit of
-- depth, bytes or handles. Memory says nothing
abbrev pub IsTold : Declarations → Term → Value → EncodeFault → Type 0
IsTold ds t v TooDeep = Typed ds t v → MAX_DEPTH < Depth ds t v
IsTold ds t v TooLong = Typed ds t v → MAX_MESSAGE_BYTES < length (Message ds t v).0
IsTold ds t v TooManyHandles = Typed ds t v → MAX_MESSAGE_HANDLES < length (Message ds t v).1
IsTold ds t v Memory = Unit {0}
IsTold ds t v WrongShape = ¬ (Typed ds t v)
IsTold ds t v OverBound = Breaks ds (resolve ds.terms t) v OverBound
IsTold ds t v NotUtf8 = Breaks ds (resolve ds.terms t) v NotUtf8
IsTold ds t v UnknownValue = Breaks ds (resolve ds.terms t) v UnknownValue
IsTold ds t v WrongHandle = Breaks ds (resolve ds.terms t) v WrongHandle
