use Rattle.std.proofs.Common.{List, ℕ, subst}
use Rattle.fidl_requests.specs.Verdict.{IsVerdict}
use Rattle.fidl_serve.proofs.Ready.{ready, known}
use Rattle.fidl_serve.proofs.answer.answer.Goals as goal

pub react-requires-clause-ready : goal.react-requires-clause-ready
react-requires-clause-ready c = ready c.args.service.now.protocol.now c.args.service.now.script.now c.requires.script

pub react-requires-clause-known : goal.react-requires-clause-known
react-requires-clause-known c = known c.args.service.now.protocol.now c.args.service.now.script.now _ c.judge-verdict.result c.requires.script c.judge-verdict.ensures

pub returns-clause-reacts : goal.returns-clause-reacts
returns-clause-reacts c = record {
  verdict = c.judge-verdict.result;
  is = subst (λ (l : List ℕ). IsVerdict c.args.service.now.protocol.now l c.judge-verdict.result) c.new-frame.ensures c.judge-verdict.ensures;
  answer = c.react.ensures.answer;
  next = c.react.ensures.next;
}
