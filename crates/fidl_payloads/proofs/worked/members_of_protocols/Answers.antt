use Rattle.std.proofs.Common.{◌≡◌, ◌∙◌, List, [], ◌∷◌, refl, ap, sym, subst}
use Rattle.std.specs.List.{Contains}
use Rattle.std.proofs.lemmas.Option.{none-some}
use Rattle.fidl_tree.specs.Syntax.{Declaration, ProtocolMember, protocol_body, type_body}
use Rattle.fidl_consts.proofs.Among.{among_none, among_first, among_rest}
use Rattle.fidl_payloads.proofs.Small.{its_declaration}
use Rattle.fidl_payloads.proofs.worked.members_of_protocols.Goals as goal

pub returns-clause-own : goal.returns-clause-own
returns-clause-own c = λ files f d o one other at is body. record {
  file = f;
  at = at;
  declaration = d;
  declared = subst (λ (l : List Declaration). Contains l d) (sym is) (among_first d []);
  name_is = refl;
  openness = o;
  members = one ∷ other ∷ [];
  body_is = body;
  among = among_rest one other (other ∷ []) (among_first other []);
}

pub returns-clause-other_name : goal.returns-clause-other_name
returns-clause-other_name c = λ files f d p m at is differ h. differ (sym h.name_is ∙ ap (λ (x : Declaration). x.name) (sym (its_declaration files 1 f d p m at is h)))

pub returns-clause-no_protocol : goal.returns-clause-no_protocol
returns-clause-no_protocol c = λ files f d l p m at is body h.
    let bodies : type_body [] l ≡ protocol_body h.openness h.members = sym body ∙ (ap (λ (x : Declaration). x.body) (its_declaration files 1 f d p m at is h) ∙ h.body_is) in
    absurd (cc)

pub returns-clause-no_member : goal.returns-clause-no_member
returns-clause-no_member c = λ files f d o p m at is body h.
    let bodies : protocol_body o [] ≡ protocol_body h.openness h.members = sym body ∙ (ap (λ (x : Declaration). x.body) (its_declaration files 1 f d p m at is h) ∙ h.body_is) in
    let members : h.members ≡ [] = cc in
    among_none m (subst (λ (l : List ProtocolMember). Contains l m) members h.among)

pub returns-clause-no_file : goal.returns-clause-no_file
returns-clause-no_file c = λ p m h. none-some h.file h.at
