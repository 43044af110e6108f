use Rattle.fidl_lower_layouts.specs.Members.{FieldIs}
use Rattle.fidl_lower_layouts.proofs.worked.fields_of_structs.Goals as goal

pub returns-clause-one : goal.returns-clause-one
returns-clause-one c = λ files n f attributes name t e h. (FieldIs.named attributes name t e h, tt)

pub returns-clause-two : goal.returns-clause-two
returns-clause-two c = λ files n f attributes name other t u e d h k. (FieldIs.named attributes name t e h, (FieldIs.named attributes other u d k, tt))
