use Rattle.std.proofs.Common.{◌≡◌, ◌∙◌, ◌+◌, map, slice_get, ap, subst, sym}
use Rattle.fidl_table_format.specs.declared.record.ProtocolRecord.{ProtocolRecord}
use Rattle.fidl_table_format.specs.Section.{header_of, protocol_at, name_at}
use Rattle.fidl_reachable_types.specs.Growing.{reference_view}
use Rattle.fidl_table_build.specs.Methods.{ShowsMethod}
use Rattle.fidl_table_build.proofs.shown_protocols.is_protocol.Goals as goal

pub returns : goal.returns
returns c = λ is.
    let bytes = c.args.records.now in
    let types = map reference_view c.args.types.now in
    let found : ProtocolRecord = c.protocol-record.result in
    let value : found ≡ protocol_at bytes (header_of bytes) c.args.index = c.protocol-record.ensures.value in
    record {
      name = ap (λ (r : ProtocolRecord). name_at bytes (header_of bytes) r.name_place r.name_length) (sym value) ∙ sym c.name-name.ensures ∙ c.is_same.ensures c.if-not-is_same.false ∙ c.deref.ensures.value;
      openness = ap (λ (r : ProtocolRecord). r.openness) (sym value) ∙ c.if-record-openness_number.false ∙ c.openness_number.ensures;
      count = ap (λ (r : ProtocolRecord). r.methods) (sym value) ∙ c.if-record-len.false ∙ c.len.ensures ∙ c.args.protocol.now.methods.ok.0;
      methods = λ k m at. subst (λ i. ShowsMethod types bytes m i) (ap (λ i. i + k) c.requires.first)
          (c.are_methods.ensures is k m (ap (λ l. slice_get l k) c.deref-2.ensures.value ∙ at));
    }
