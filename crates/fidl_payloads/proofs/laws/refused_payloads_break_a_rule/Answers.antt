use Rattle.fidl_payloads.proofs.Excluded.{member_not, refused_not}
use Rattle.fidl_payloads.proofs.laws.refused_payloads_break_a_rule.Goals as goal

pub returns-clause-place : goal.returns-clause-place
returns-clause-place c = member_not

pub returns-clause-fault : goal.returns-clause-fault
returns-clause-fault c = refused_not
