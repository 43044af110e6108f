use Rattle.std.proofs.Common.{◌≡◌, ◌∙◌, Bool, true, false, not, map, refl, ap, subst, sym, true≢false}
use Rattle.std.specs.Bool.{beq}
use Rattle.fidl_table_format.specs.declared.record.MethodRecord.{MethodRecord}
use Rattle.fidl_table_format.specs.Section.{header_of, method_at, name_at}
use Rattle.fidl_table_format.specs.Method.{is_strict, has_request, has_response}
use Rattle.fidl_reachable_types.specs.Growing.{reference_view}
use Rattle.fidl_verify.specs.Lookups.{payload_of}
use Rattle.fidl_table_build.specs.Methods.{ShowsPayload}
use Rattle.fidl_table_build.proofs.shown_protocols.is_method.Goals as goal

same_flag : (a b : Bool) → not (beq a b) ≡ false → a ≡ b
same_flag true true e = refl
same_flag false false e = refl
same_flag true false e = absurd (true≢false e)
same_flag false true e = absurd (true≢false e)

pub returns : goal.returns
returns c = λ is.
    let bytes = c.args.records.now in
    let types = map reference_view c.args.types.now in
    let found : MethodRecord = c.method-record.result in
    let value : found ≡ method_at bytes (header_of bytes) c.args.index = c.method-record.ensures.value in
    record {
      ordinal = ap (λ (r : MethodRecord). r.ordinal) (sym value) ∙ c.if-record-method.false;
      name = ap (λ (r : MethodRecord). name_at bytes (header_of bytes) r.name_place r.name_length) (sym value) ∙ sym c.name-name.ensures ∙ c.is_same.ensures c.if-not-is_same.false ∙ c.deref.ensures.value;
      strict = ap is_strict (sym value) ∙ sym c.is_strict.ensures ∙ same_flag c.is_strict.result c.args.method.now.strict c.if-is_strict-method.false;
      request = subst (λ (r : MethodRecord). ShowsPayload types c.args.method.now.request (payload_of (has_request r) r.request)) value
          (subst (λ (b : Bool). ShowsPayload types c.args.method.now.request (payload_of b found.request)) c.has_request.ensures (c.is_carried.ensures c.if-not-is_carried.false));
      response = subst (λ (r : MethodRecord). ShowsPayload types c.args.method.now.response (payload_of (has_response r) r.response)) value
          (subst (λ (b : Bool). ShowsPayload types c.args.method.now.response (payload_of b found.response)) c.has_response.ensures (c.is_carried-2.ensures is));
    }
