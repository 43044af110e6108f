use Rattle.std.proofs.Common.{◌<◌, ◌^◌, List, length}
use Rattle.std.specs.Prelude.{IsNone}
use Rattle.std.proofs.lemmas.Result.{IfOk-weaker}
use Rattle.fidl_wire.specs.Term.{Term}
use Rattle.fidl_lower_types.specs.Numbers.{all_forms}
use Rattle.fidl_lower_layouts.specs.Definitions.{DefinitionsAre}
use Rattle.fidl_types.proofs.Counted.{too_many}
use Rattle.fidl_types.proofs.definitions.all_definitions.Goals as goal

pub returns-clause-none : goal.returns-clause-none
returns-clause-none c =
    let files = c.args.sources.now.named.now in
    IfOk-weaker c.definitions.result
    (λ found. IsNone found → (ts : List Term) → DefinitionsAre files ts → ⊥)
    (λ found. IsNone found → 2 ^ 32 < length (all_forms files))
    (λ found h none. too_many files (h none) c.requires.evaluated c.requires.layouts c.requires.numbers c.requires.uses)
    c.definitions.ensures.none
