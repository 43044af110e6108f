use Rattle.std.proofs.Common.{refl}
use Rattle.fidl_parse.proofs.ValueMembers.{value_member_ahead}
use Rattle.fidl_parse.proofs.Stops.{stops}
use Rattle.fidl_parse.proofs.Joins.{reads_join}
use Rattle.fidl_parse.proofs.parser.Parser.value_member.Goals as goal

pub returns-in_err-attributes-clause-complete : goal.returns-in_err-attributes-clause-complete
returns-in_err-attributes-clause-complete c x rest m a =
    let a0 = value_member_ahead _ _ x rest a in
    let h = c.in_err-attributes.ensures.complete x.attributes.items _ refl a0 in
    stops _ _ _ _ c.from_residual.ensures (λ x g. g) h

pub returns-in_err-name-clause-complete : goal.returns-in_err-name-clause-complete
returns-in_err-name-clause-complete c x rest m a =
    let a0 = value_member_ahead _ _ x rest a in
    let b1 = c.in_ok-attributes.ensures.complete x.attributes.items _ refl a0 in
    let h = c.in_err-name.ensures.complete x.name _ tt b1 in
    stops _ _ _ _ c.from_residual-in_err-name.ensures (λ x g. g) h

pub returns-in_err-equals-clause-complete : goal.returns-in_err-equals-clause-complete
returns-in_err-equals-clause-complete c x rest m a =
    let a0 = value_member_ahead _ _ x rest a in
    let b1 = c.in_ok-attributes.ensures.complete x.attributes.items _ refl a0 in
    let b2 = c.in_ok-name.ensures.complete x.name _ tt b1 in
    let h = c.in_err-equals.ensures.complete x.equals _ tt b2 in
    stops _ _ _ _ c.from_residual-in_err-equals.ensures (λ x g. g) h

pub returns-in_err-value-clause-complete : goal.returns-in_err-value-clause-complete
returns-in_err-value-clause-complete c x rest m a =
    let a0 = value_member_ahead _ _ x rest a in
    let b1 = c.in_ok-attributes.ensures.complete x.attributes.items _ refl a0 in
    let b2 = c.in_ok-name.ensures.complete x.name _ tt b1 in
    let b3 = c.in_ok-equals.ensures.complete x.equals _ tt b2 in
    let h = c.in_err-value.ensures.complete x.value _ refl b3 in
    stops _ _ _ _ c.from_residual-in_err-value.ensures (λ x g. g) h

pub returns-in_err-semicolon-clause-complete : goal.returns-in_err-semicolon-clause-complete
returns-in_err-semicolon-clause-complete c x rest m a =
    let a0 = value_member_ahead _ _ x rest a in
    let b1 = c.in_ok-attributes.ensures.complete x.attributes.items _ refl a0 in
    let b2 = c.in_ok-name.ensures.complete x.name _ tt b1 in
    let b3 = c.in_ok-equals.ensures.complete x.equals _ tt b2 in
    let b4 = c.in_ok-value.ensures.complete x.value _ refl b3 in
    let h = c.in_err-semicolon.ensures.complete x.semicolon _ tt b4 in
    stops _ _ _ _ c.from_residual-in_err-semicolon.ensures (λ x g. g) h

pub returns-clause-complete : goal.returns-clause-complete
returns-clause-complete c x rest m a =
    let a0 = value_member_ahead _ _ x rest a in
    let b1 = c.in_ok-attributes.ensures.complete x.attributes.items _ refl a0 in
    let b2 = c.in_ok-name.ensures.complete x.name _ tt b1 in
    let b3 = c.in_ok-equals.ensures.complete x.equals _ tt b2 in
    let b4 = c.in_ok-value.ensures.complete x.value _ refl b3 in
    c.in_ok-semicolon.ensures.complete x.semicolon _ tt b4

pub returns-clause-reads : goal.returns-clause-reads
returns-clause-reads c =
    let r1 = reads_join _ _ _ _ _ _ c.in_ok-attributes.ensures.reads c.in_ok-name.ensures.reads in
    let r2 = reads_join _ _ _ _ _ _ r1 c.in_ok-equals.ensures.reads in
    let r3 = reads_join _ _ _ _ _ _ r2 c.in_ok-value.ensures.reads in
    let r4 = reads_join _ _ _ _ _ _ r3 c.in_ok-semicolon.ensures.reads in
    r4
