use Rattle.std.proofs.Common.{◌≡◌, [], ◌∷◌, subst, arith}
use Rattle.fidl_composition.proofs.Lists.{here, just_one}
use Rattle.fidl_table.specs.Protocols.{ShowsProtocol}
use Rattle.fidl_table.specs.Samples.{one_protocol}
use Rattle.fidl_table.proofs.Small.{left_out, surplus}
use Rattle.fidl_table.proofs.worked.protocols.lists_of_protocols.Goals as goal

pub returns-clause-one : goal.returns-clause-one
returns-clause-one c = λ files ds p are shown. record {
  protocols = p ∷ [];
  are = are;
  sound = λ number lt.
      let is : 0 ≡ number = omega (arith, lt) in
      (p, here p [], subst (λ n. ShowsProtocol files ds one_protocol p n) is shown);
  complete = λ q c. (0, omega arith, subst (λ q. ShowsProtocol files ds one_protocol q 0) (just_one p q c) shown);
}

pub returns-clause-fewer : goal.returns-clause-fewer
returns-clause-fewer c = left_out

pub returns-clause-more : goal.returns-clause-more
returns-clause-more c = surplus
