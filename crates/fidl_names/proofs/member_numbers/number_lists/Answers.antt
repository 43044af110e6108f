use Rattle.std.proofs.Common.{subst}
use Rattle.fidl_named.specs.Constraints.{texts_of, property_names}
use Rattle.fidl_named.specs.MemberNumbers.{AreNumbers, Match, written_names}
use Rattle.fidl_named.specs.NameMaps.{seen}
use Rattle.fidl_names.proofs.member_numbers.number_lists.Goals as goal

pub returns : goal.returns
returns c =
    let f = c.args.file.now in
    record {
      members = subst (λ ms. AreNumbers (texts_of f ms) (seen c.in_ok-members.members.entries)) c.declared_members.ensures c.in_ok-members.ensures;
      properties = subst (λ ps. AreNumbers (property_names f ps) (seen c.in_ok-properties.properties.entries)) c.own_properties-own.ensures c.in_ok-properties.ensures;
      written = subst (λ ps. Match (λ p m. AreNumbers (written_names f p) (seen m.entries)) ps c.in_ok-written.written.items) c.own_properties-own.ensures c.in_ok-written.ensures;
    }
