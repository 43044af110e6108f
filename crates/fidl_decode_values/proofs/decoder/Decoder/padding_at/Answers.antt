use Rattle.std.proofs.Common.{ℕ, ◌-◌, List, length, ap, subst, arith}
use Rattle.std.proofs.lemmas.Result.{IfErr-weaker}
use Rattle.fidl_wire.specs.Encoding.{zeros}
use Rattle.fidl_wire.specs.Standing.{Stands}
use Rattle.fidl_decode_model.specs.Breaks.{IsPadding}
use Rattle.fidl_decode_model.proofs.Turning.{on_ok_from}
use Rattle.fidl_decode_columns.proofs.Raw.{Agrees, zeros_came, padding_came}
use Rattle.fidl_decode_values.proofs.decoder.Decoder.padding_at.Goals as goal

pub returns-clause-ok : goal.returns-clause-ok
returns-clause-ok c =
    let w = c.args.state.now.links in
    let n = c.args.to - c.args.from in
    let a : Agrees w c.raw.result.now = record { len = c.raw.ensures.same_length; byte = c.raw.ensures.agree } in
    let same = ap length c.requires.holds in
    on_ok_from c.padding_at.result (λ s. subst (λ (b : List ℕ). Stands b c.args.from (zeros n)) c.requires.holds
    (zeros_came w c.raw.result.now a c.args.from n (omega (arith, same, c.requires.order, c.requires.room)) (λ k from to. c.requires.free k from (omega (arith, to, c.requires.order))) s)) c.padding_at.ensures.ok

pub returns-clause-fault_is_true : goal.returns-clause-fault_is_true
returns-clause-fault_is_true c =
    let w = c.args.state.now.links in
    let a : Agrees w c.raw.result.now = record { len = c.raw.ensures.same_length; byte = c.raw.ensures.agree } in
    let same = ap length c.requires.holds in
    IfErr-weaker c.padding_at.result _ _ (λ fault p. subst (λ (b : List ℕ). IsPadding b c.args.from c.args.to fault) c.requires.holds
    (padding_came w c.raw.result.now a c.args.from c.args.to c.requires.order (omega (arith, same, c.requires.room)) c.requires.free fault p)) c.padding_at.ensures.fault_is_true
