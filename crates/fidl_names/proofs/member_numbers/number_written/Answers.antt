use Rattle.std.proofs.Common.{subst}
use Rattle.fidl_named.specs.Constraints.{texts_of}
use Rattle.fidl_named.specs.MemberNumbers.{AreNumbers, written_names}
use Rattle.fidl_named.specs.NameMaps.{seen}
use Rattle.fidl_named.proofs.NumbersOfNames.{match_step}
use Rattle.fidl_names.proofs.member_numbers.number_written.Goals as goal

pub loop-property-preserved : goal.loop-property-preserved
loop-property-preserved c =
    let f = c.args.file.now in
    let numbers = subst (λ ms. AreNumbers (texts_of f ms) (seen c.in_ok-numbers.numbers.entries)) c.written_members.ensures c.in_ok-numbers.ensures in
    match_step (λ p m. AreNumbers (written_names f p) (seen m.entries)) c.args.properties.now c.loop-property.property-index c.property-item.result c.loop-property-test.true c.property-item.is
    c.loop-property.all.items c.push.new.self.items c.in_ok-numbers.numbers c.in_ok-push.ensures.items c.loop-property.invariant numbers
