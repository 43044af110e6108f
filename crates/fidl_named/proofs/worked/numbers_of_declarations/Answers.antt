use Rattle.std.proofs.Common.{[], ◌∷◌, sym, subst}
use Rattle.fidl_tree.specs.declared.declaration.DeclarationBody.{DeclarationBody}
use Rattle.fidl_named.specs.Constraints.{texts_of, property_names, declared_members}
use Rattle.fidl_named.specs.MemberNumbers.{AreNumbers, Match, own_properties, written_names}
use Rattle.fidl_named.specs.NameMaps.{seen}
use Rattle.fidl_named.proofs.worked.numbers_of_declarations.Goals as goal

no_names : AreNumbers [] []
no_names = λ n i. ((λ e. absurd e), (λ e. absurd (cc)))

pub returns-clause-seen : goal.returns-clause-seen
returns-clause-seen c = λ f d s n body members properties written.
    record {
      members = subst (λ (b : DeclarationBody). AreNumbers (texts_of f (declared_members b)) (seen n.members.entries)) (sym body) (subst (λ es. AreNumbers [] (seen es)) (sym members) no_names);
      properties = subst (λ (b : DeclarationBody). AreNumbers (property_names f (own_properties b)) (seen n.properties.entries)) (sym body) (subst (λ es. AreNumbers [] (seen es)) (sym properties) no_names);
      written = subst (λ (b : DeclarationBody). Match (λ p m. AreNumbers (written_names f p) (seen m.entries)) (own_properties b) n.written.items) (sym body)
          (subst (λ ws. Match (λ p m. AreNumbers (written_names f p) (seen m.entries)) [] ws) (sym written) tt);
    }

pub returns-clause-other : goal.returns-clause-other
returns-clause-other c = λ f d r n p body items none h.
    let own = subst (λ (b : DeclarationBody). Match (λ p m. AreNumbers (written_names f p) (seen m.entries)) (own_properties b) n.written.items) body h.written in
    let one = subst (λ ps. Match (λ p m. AreNumbers (written_names f p) (seen m.entries)) ps n.written.items) items own in
    subst (λ ws. Match (λ p m. AreNumbers (written_names f p) (seen m.entries)) (p ∷ []) ws) none one
