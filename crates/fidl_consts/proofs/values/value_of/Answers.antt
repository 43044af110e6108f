use Rattle.std.proofs.Common.{◌≡◌, false, true, sym, subst}
use Rattle.fidl_named.specs.declared.meaning.Meaning.{Meaning}
use Rattle.fidl_named.specs.declared.meaning.Meaning.TheVariants as meaning
use Rattle.fidl_named.specs.declared.meaning.Predeclared.TheVariants as name
use Rattle.fidl_consts.specs.declared.const_type.ConstType.{ConstType}
use Rattle.fidl_consts.specs.PlainValues.{seen}
use Rattle.fidl_consts.specs.Values.{Offers}
use Rattle.fidl_consts.proofs.Entries.{known_with_value}
use Rattle.fidl_consts.proofs.values.value_of.Goals as goal

pub returns-then-is_maximum-clause-found : goal.returns-then-is_maximum-clause-found
returns-then-is_maximum-clause-found c =
    let files = c.args.scope.now.named.now in
    let maximum = meaning.Predeclared name.Max in
    let k = seen c.greatest.result.value in
    let its_own = subst (Offers files maximum _) (sym c.greatest.ensures.value) Offers.maximum in
    let whole : Offers files maximum c.greatest.result.own k = subst (λ (t : ConstType). Offers files maximum t k) (sym c.greatest.ensures.own) its_own in
    subst (λ (m : Meaning). Offers files m c.greatest.result.own k) (sym (c.is_maximum.ensures.0 c.if-is_maximum.true)) whole

pub returns-then-not-is_node-clause-none : goal.returns-then-not-is_node-clause-none
returns-then-not-is_node-clause-none c none has =
    let files = c.args.scope.now.named.now in
    let known = known_with_value files c.args.meaning has (λ is. let bad : false ≡ true = c.if-is_maximum.ensures.1 is in cc) in
    let bad : false ≡ true = c.if-not-is_node.ensures.1 known in
    cc
