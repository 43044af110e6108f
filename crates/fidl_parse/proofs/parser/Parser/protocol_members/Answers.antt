use Rattle.std.proofs.Common.{rules}
use Rattle.std.proofs.lemmas.Bool.{false≢true}
use Rattle.fidl_span.specs.declared.words.WordKind.TheVariants as kind
use Rattle.fidl_parse.proofs.Joins.{reads_push, reads_none}
use Rattle.fidl_parse.proofs.Rows.{members_more, members_done}
use Rattle.fidl_tree.specs.Protocol.{protocol_member_leaves}
use Rattle.fidl_parse.proofs.Protocols.{protocol_member_apart}
use Rattle.fidl_parse.proofs.Stops.{stops}
use Rattle.fidl_parse.proofs.parser.Parser.protocol_members.Goals as goal

pub loop-members-init : goal.loop-members-init
loop-members-init c = record {
  reads = search (rules, reads_none);
  left = λ xs rest m a. (xs, a);
}

pub loop-members-preserved : goal.loop-members-preserved
loop-members-preserved c = record {
  reads = rw c.in_ok-push.ensures.items (reads_push protocol_member_leaves _ _ _ _ _ _ c.loop-members.invariant.reads c.in_ok-protocol_member.ensures.reads);
  left = λ xs rest m a.
      let h = c.loop-members.invariant.left xs rest m a in
      let more = members_more protocol_member_leaves kind.RightBrace _ _ h.0 rest m (λ i. false≢true (c.loop-members-test.ensures.next.1 i)) h.1 in
      (more.1, c.in_ok-protocol_member.ensures.complete more.0 _ tt more.2);
}

pub returns-in_err-protocol_member-clause-complete : goal.returns-in_err-protocol_member-clause-complete
returns-in_err-protocol_member-clause-complete c = λ xs rest m a.
    let h = c.loop-members.invariant.left xs rest m a in
    let more = members_more protocol_member_leaves kind.RightBrace _ _ h.0 rest m (λ i. false≢true (c.loop-members-test.ensures.next.1 i)) h.1 in
    let stop = c.in_err-protocol_member.ensures.complete more.0 _ tt more.2 in
    stops _ _ _ _ c.from_residual.ensures (λ x g. g) stop

pub returns-clause-reads : goal.returns-clause-reads
returns-clause-reads c = c.loop-members.invariant.reads

pub returns-clause-complete : goal.returns-clause-complete
returns-clause-complete c = λ xs rest m a.
    let h = c.loop-members.invariant.left xs rest m a in
    members_done protocol_member_leaves kind.RightBrace _ _ h.0 rest protocol_member_apart (c.is_next.ensures.next.0 c.loop-members-test.false) h.1
