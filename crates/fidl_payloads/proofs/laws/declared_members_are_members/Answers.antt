use Rattle.fidl_payloads.proofs.Stands.{member_stands}
use Rattle.fidl_payloads.proofs.laws.declared_members_are_members.Goals as goal

pub returns : goal.returns
returns c = member_stands
