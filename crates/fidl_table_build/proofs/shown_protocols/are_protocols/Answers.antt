use Rattle.std.proofs.Common.{◌≡◌, ◌∙◌, ◌+◌, ℕ, suc, List, Some, slice_get, length, map, inl, inr, ap, subst, sym, arith}
use Rattle.std.proofs.lemmas.Option.{get_or_from_slice_get, slice_get_within}
use Rattle.fidl_reachable_types.specs.Growing.{reference_view}
use Rattle.fidl_table_format.specs.declared.record.ProtocolRecord.{ProtocolRecord}
use Rattle.fidl_table_format.specs.Section.{header_of, protocol_at}
use Rattle.fidl_table_format.specs.Protocol.{methods_before}
use Rattle.fidl_verify.proofs.Stated.{or_last}
use Rattle.fidl_table_build.specs.declared.listing.ProtocolEntry.{ProtocolEntry}
use Rattle.fidl_table_build.specs.Methods.{ShowsProtocol}
use Rattle.fidl_table_build.proofs.shown_protocols.are_protocols.Goals as goal

next : (n : ℕ) → n + 1 ≡ suc n
next n = omega arith

one_more : (bytes : List ℕ) (n : ℕ) → methods_before bytes (header_of bytes) (n + 1) ≡ methods_before bytes (header_of bytes) n + (protocol_at bytes (header_of bytes) n).methods
one_more bytes n = ap (methods_before bytes (header_of bytes)) (next n)

pub loop-index-preserved : goal.loop-index-preserved
loop-index-preserved c = (
  c.in-Some.ensures.1 ∙ ap (λ n. n + c.protocol.result.methods) c.loop-index.invariant.0 ∙ ap (λ (r : ProtocolRecord). methods_before c.args.records.now (header_of c.args.records.now) c.loop-index.index + r.methods) c.protocol.ensures.value ∙ sym (one_more c.args.records.now c.loop-index.index),
  λ k x p at. elim (or_last k c.loop-index.index (omega (arith, p))) [
    | inl less ↦ c.loop-index.invariant.1 k x less at
    | inr e ↦
        let index = c.loop-index.index in
        let Shown : ProtocolEntry → ℕ → Type 0 = λ y i. ShowsProtocol (map reference_view c.args.types.now) c.args.records.now y i in
        let is : c.index-protocols-index.result ≡ x = c.index-protocols-index.is ∙ get_or_from_slice_get c.args.protocols.now index x c.index-protocols-index.result (subst (λ i. slice_get c.args.protocols.now i ≡ Some x) e at) in
        subst (Shown x) (sym e) (subst (λ y. Shown y index) is (c.is_protocol.ensures c.if-not-is_protocol.false))
  ],
)

pub returns : goal.returns
returns c = λ is.
    let end : c.protocols-index-end.result ≡ length c.args.protocols.now = c.protocols-index-end.ensures ∙ sym c.protocols.ensures ∙ c.if-protocols.false in
    record {
      count = sym c.protocols.ensures ∙ c.if-protocols.false;
      each = λ k x at. c.loop-index.invariant.1 k x (omega (arith, slice_get_within c.args.protocols.now k x at, c.loop-index-test.false, end)) at;
    }
