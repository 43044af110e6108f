-- Files of which a refusal is true break a rule of compositions.
use Rattle.std.proofs.Common.{List, refl}
use Rattle.std.specs.Prelude.{◌≢◌}
use Rattle.fidl_tree.specs.declared.file.File.{File}
use Rattle.fidl_cycles.proofs.Firsts.{leads_by}
use Rattle.fidl_composition.specs.declared.fault.ComposeFault.{ComposeFault}
use Rattle.fidl_composition.specs.declared.fault.ComposeFault.TheVariants.{BadCompose, ComposeCycle, Memory}
use Rattle.fidl_composition.specs.Compositions.{Composes, ComposesFrom, ComposesHold, IsTrueOfCompositions}

pub refused_not : (files : List File) (fault : ComposeFault) → fault ≢ Memory → IsTrueOfCompositions files fault → ComposesHold files → ⊥
refused_not files (BadCompose place) other h holds = h.wrong (holds.openness h.composing h.composed h.one h.other (place.span, h.composes) h.one_is h.other_is)
refused_not files (ComposeCycle place) other h holds = holds.no_cycle h.id (leads_by (ComposesFrom files h.id) (Composes files) (λ p q e. e.0) h.id h.id h.back)
refused_not files Memory other h holds = other refl
