use Rattle.std.proofs.Common.{subst}
use Rattle.std.specs.Prelude.{ℕ, List, Option, IfNone}
use Rattle.fidl_wire.specs.declared.bytes.Bytes.{Bytes}
use Rattle.fidl_spelling.specs.Words.{IsQuoted}
use Rattle.fidl_reading.specs.Cuts.{texts_of}
use Rattle.fidl_reading.proofs.Leaves.{no_string}
use Rattle.fidl_reading.proofs.reader.Reader.read_string.Goals as goal

pub returns-in-None-clause-fault_is_true : goal.returns-in-None-clause-fault_is_true
returns-in-None-clause-fault_is_true c =
    no_string c.in_ok-word.word.text.now (texts_of c.args.words.now) (texts_of c.in_ok-word.rest.now) c.in_ok-word.ensures.ok
    (subst (λ (o : Option Bytes). IfNone o ((bytes : List ℕ) → ¬ (IsQuoted c.in_ok-word.word.text.now bytes))) c.in-None.is c.in_ok-bytes.ensures.none)
