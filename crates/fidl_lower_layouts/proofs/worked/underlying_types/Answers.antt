use Rattle.std.proofs.Common.{◌≡◌, None, Some, refl, ap, ◌∙◌}
use Rattle.fidl_consts.specs.declared.const_type.NumberKind.TheVariants as number
use Rattle.fidl_consts.specs.Types.{UnderlyingIs}
use Rattle.fidl_consts.proofs.OneType.{one_underlying}
use Rattle.fidl_tree.specs.Syntax.{bits_kind}
use Rattle.fidl_wire.specs.Term as ty
use Rattle.fidl_lower_layouts.specs.Values.{kind_of}
use Rattle.fidl_lower_layouts.proofs.worked.underlying_types.Goals as goal

pub returns-clause-unwritten : goal.returns-clause-unwritten
returns-clause-unwritten c = λ files f ms. record { kind = number.Uint32; of = UnderlyingIs.unwritten; is = refl }

pub returns-clause-other : goal.returns-clause-other
returns-clause-other c = λ files f ms h.
    let both : Some h.kind ≡ Some number.Uint32 = one_underlying files f bits_kind None (Some h.kind) (Some number.Uint32) h.of UnderlyingIs.unwritten in
    let kinds : h.kind ≡ number.Uint32 = cc in
    let is : ty.bits ty.uint8 None ≡ ty.bits ty.uint32 None = h.is ∙ ap (λ k. ty.bits (kind_of k) None) kinds in
    absurd (cc)
