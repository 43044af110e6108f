use Rattle.std.proofs.Common.{◌∙◌, sym, refl}
use Rattle.std.specs.Prelude.{nat_eq}
use Rattle.std.proofs.lemmas.Bool.Decides.{Decides-eqb}
use Rattle.indexmap.proofs.CallerLemmas.{Contains-list_any}
use Rattle.fidl_member_rules.proofs.ordinals.add_number.Goals as goal

pub returns-then-contains-clause-fault_is_true : goal.returns-then-contains-clause-fault_is_true
returns-then-contains-clause-fault_is_true c = (refl, refl, Contains-list_any nat_eq (λ x y e. (Decides-eqb x y).0 e) c.args.numbers.now.keys c.args.number (sym c.contains.ensures ∙ c.if-contains.true))
