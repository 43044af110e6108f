use Rattle.std.proofs.lemmas.Option.{none-some}
use Rattle.fidl_layout.proofs.worked.what_is_no_root.Goals as goal

pub returns-clause-optional : goal.returns-clause-optional
returns-clause-optional c = λ files form l is root. absurd (cc)

pub returns-clause-result : goal.returns-clause-result
returns-clause-result c = λ files form strict r is root. absurd (cc)

pub returns-clause-inner : goal.returns-clause-inner
returns-clause-inner c = λ files form s t path is root. absurd (cc)

pub returns-clause-nowhere : goal.returns-clause-nowhere
returns-clause-nowhere c = λ form root. none-some root.f root.file_at
