use Rattle.std.proofs.Common.{◌∙◌, ap, sym}
use Rattle.std.proofs.lemmas.Option.{same_Some, none-some}
use Rattle.fidl_method_rules.specs.Methods as plain
use Rattle.fidl_method_rules.proofs.worked.what_entries_say.Goals as goal

pub returns-clause-composition : goal.returns-clause-composition
returns-clause-composition c = λ f p own path entry h. none-some h.method h.is

pub returns-clause-own : goal.returns-clause-own
returns-clause-own c = λ f p member m entry is name strict ordinal. record { method = m; is = is; name = name; strict = strict; ordinal = ordinal }

pub returns-clause-other_name : goal.returns-clause-other_name
returns-clause-other_name c = λ f p member m entry is apart h. apart (h.name ∙ ap (λ (x : plain.Method). x.name) (same_Some h.method m (sym h.is ∙ is)))

pub returns-clause-past : goal.returns-clause-past
returns-clause-past c = λ f p entry h. none-some h.member h.stands
