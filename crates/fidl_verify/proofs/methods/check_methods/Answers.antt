use Rattle.std.proofs.Common.{◌≡◌, ap, ◌∙◌, inl, inr, arith}
use Rattle.std.proofs.lemmas.Bool.{cases_lt}
use Rattle.fidl_table_format.specs.Protocol.{methods_before}
use Rattle.fidl_verify.proofs.Ordinals.{next_before}
use Rattle.fidl_verify.proofs.methods.check_methods.Goals as goal

pub loop-protocol-preserved : goal.loop-protocol-preserved
loop-protocol-preserved c = record {
  before = next_before c.args.table.now.bytes.now c.args.table.now.header c.loop-protocol.protocol c.loop-protocol.first c.protocol.result c.protocol.ensures c.loop-protocol.invariant.before;
  rules = λ k p. elim (cases_lt k c.loop-protocol.first) [ inl less ↦ c.loop-protocol.invariant.rules k less | inr from ↦ c.in_ok-check_methods_of.ensures.ok k (omega (arith, from)) p ];
  seen = c.in_ok-check_methods_of.ensures.seen;
}

pub returns-clause-ok : goal.returns-clause-ok
returns-clause-ok c = λ index p.
    let last : c.loop-protocol.protocol ≡ c.args.table.now.header.protocols = omega (arith, c.loop-protocol-test.false, c.loop-protocol.auto.protocol-end) in
    let all = c.loop-protocol.invariant.before ∙ ap (methods_before c.args.table.now.bytes.now c.args.table.now.header) last ∙ c.requires.covered in
    c.loop-protocol.invariant.rules index (omega (arith, p, all))
