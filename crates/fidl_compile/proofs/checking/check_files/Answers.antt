use Rattle.std.proofs.Common.{◌≡◌, ◌∙◌, List, subst}
use Rattle.std.proofs.lemmas.Result.{err_from_is_err_and}
use Rattle.fidl_tree.specs.declared.file.File.{File}
use Rattle.fidl_consts.specs.Evaluated.{Evaluates}
use Rattle.fidl_protocol.specs.Checked.{AreChecked}
use Rattle.fidl_protocol.specs.Faults.{IsTrueOfProtocols}
use Rattle.fidl_protocol.specs.declared.fault.ProtocolFault.{ProtocolFault}
use Rattle.fidl_protocol.specs.declared.fault.ProtocolFault.TheVariants as protocol
use Rattle.fidl_types.specs.Types.{TypesAre}
use Rattle.fidl_types.specs.Faults.{IsTrueOfTypes}
use Rattle.fidl_types.specs.declared.fault.TypeFault.{TypeFault}
use Rattle.fidl_types.specs.declared.fault.TypeFault.TheVariants as types
use Rattle.fidl_layout.specs.Laid.{AreLaidOut}
use Rattle.fidl_layout.specs.Faults.{IsTrueOfLayout}
use Rattle.fidl_layout.specs.declared.fault.LayoutFault.{LayoutFault}
use Rattle.fidl_layout.specs.declared.fault.LayoutFault.TheVariants as layout
use Rattle.fidl_names.specs.Resolved.{Resolves}
use Rattle.fidl_compile.specs.Stages.{FilesRefused, of_types, of_layout, of_protocol, HaveValues, HaveTypes, HaveLayouts}
use Rattle.fidl_compile.proofs.checking.check_files.Goals as goal

protocol_refused : (files : List File) (fault : ProtocolFault) → HaveLayouts files → IsTrueOfProtocols files fault → FilesRefused files (of_protocol fault)
protocol_refused files (protocol.NotStrict place) before h = (λ e. cc, before, h)
protocol_refused files (protocol.BadCompose place) before h = (λ e. cc, before, h)
protocol_refused files (protocol.DuplicateMethod place) before h = (λ e. cc, before, h)
protocol_refused files (protocol.DuplicateMethodOrdinal place) before h = (λ e. cc, before, h)
protocol_refused files (protocol.ZeroOrdinal place) before h = (λ e. cc, before, h)
protocol_refused files (protocol.BadPayload place) before h = (λ e. cc, before, h)
protocol_refused files (protocol.ComposeCycle place) before h = (λ e. cc, before, h)
protocol_refused files (protocol.BadSelector place) before h = (λ e. cc, before, h)
protocol_refused files (protocol.TooManyTypes place) before h = (λ e. cc, before, h)
protocol_refused files protocol.Memory before h = tt

pub returns-in_err-protocols-clause-fault_is_true : goal.returns-in_err-protocols-clause-fault_is_true
returns-in_err-protocols-clause-fault_is_true c =
    let named = c.in_ok-named.ensures.ok in
    let same : c.in_ok-laid.laid ≡ c.args.set = c.in_ok-laid.ensures.ok ∙ c.in_ok-types.ensures.ok ∙ named in
    let values : HaveValues c.args.set = record { resolved = c.in_ok-named.ensures.resolves; evaluated = subst Evaluates named c.in_ok-consts.ensures.evaluates } in
    let checked = c.in_ok-types.ensures.kept in
    let types : HaveTypes c.args.set = record { before = values; definitions = checked.0; checked = subst (λ (fs : List File). TypesAre fs checked.0) named checked.1 } in
    let laid = c.in_ok-laid.ensures.kept in
    let before : HaveLayouts c.args.set = record { before = types; declarations = laid.0; laid_out = subst (λ (fs : List File). AreLaidOut fs laid.0) (c.in_ok-types.ensures.ok ∙ named) laid.1 } in
    let fault = c.in_err-protocols.field-0.0 in
    let says = subst (λ (fs : List File). IsTrueOfProtocols fs fault) same c.in_err-protocols.ensures.fault_is_true in
    let p = err_from_is_err_and c.from_residual-in_err-protocols.result c.from_residual-in_err-protocols.ensures.1 in
    rw (p.1, p.2) (protocol_refused c.args.set fault before says)

type_refused : (files : List File) (fault : TypeFault) → HaveValues files → IsTrueOfTypes files fault → FilesRefused files (of_types fault)
type_refused files (types.NotResource place) before h = (λ e. cc, before, h)
type_refused files (types.InlineCycle place) before h = (λ e. cc, before, h)
type_refused files (types.BadOrdinal place) before h = (λ e. cc, before, h)
type_refused files (types.DuplicateOrdinal place) before h = (λ e. cc, before, h)
type_refused files (types.DuplicateValue place) before h = (λ e. cc, before, h)
type_refused files (types.NotPowerOfTwo place) before h = (λ e. cc, before, h)
type_refused files (types.EmptyStrict place) before h = (λ e. cc, before, h)
type_refused files (types.OptionalMember place) before h = (λ e. cc, before, h)
type_refused files (types.BadConstraint place) before h = (λ e. cc, before, h)
type_refused files (types.BadBox place) before h = (λ e. cc, before, h)
type_refused files (types.OutOfProfile place) before h = (λ e. cc, before, h)
type_refused files types.Memory before h = tt

layout_refused : (files : List File) (fault : LayoutFault) → HaveTypes files → IsTrueOfLayout files fault → FilesRefused files (of_layout fault)
layout_refused files (layout.TooNested place) before h = (λ e. cc, before, h)
layout_refused files (layout.TooLarge place) before h = (λ e. cc, before, h)
layout_refused files (layout.TooManyTypes place) before h = (λ e. cc, before, h)
layout_refused files (layout.TooManyMembers place) before h = (λ e. cc, before, h)
layout_refused files layout.Memory before h = tt

pub returns-in_err-types-clause-fault_is_true : goal.returns-in_err-types-clause-fault_is_true
returns-in_err-types-clause-fault_is_true c =
    let named = c.in_ok-named.ensures.ok in
    let before : HaveValues c.args.set = record { resolved = c.in_ok-named.ensures.resolves; evaluated = subst Evaluates named c.in_ok-consts.ensures.evaluates } in
    let fault = c.in_err-types.field-0.0 in
    let says = subst (λ (fs : List File). IsTrueOfTypes fs fault) named c.in_err-types.ensures.fault_is_true in
    let p = err_from_is_err_and c.from_residual-in_err-types.result c.from_residual-in_err-types.ensures.1 in
    rw (p.1, p.2) (type_refused c.args.set fault before says)

pub returns-in_err-laid-clause-fault_is_true : goal.returns-in_err-laid-clause-fault_is_true
returns-in_err-laid-clause-fault_is_true c =
    let named = c.in_ok-named.ensures.ok in
    let values : HaveValues c.args.set = record { resolved = c.in_ok-named.ensures.resolves; evaluated = subst Evaluates named c.in_ok-consts.ensures.evaluates } in
    let checked = c.in_ok-types.ensures.kept in
    let before : HaveTypes c.args.set = record { before = values; definitions = checked.0; checked = subst (λ (fs : List File). TypesAre fs checked.0) named checked.1 } in
    let fault = c.in_err-laid.field-0.0 in
    let says = subst (λ (fs : List File). IsTrueOfLayout fs fault) (c.in_ok-types.ensures.ok ∙ named) c.in_err-laid.ensures.fault_is_true in
    let p = err_from_is_err_and c.from_residual-in_err-laid.result c.from_residual-in_err-laid.ensures.1 in
    rw (p.1, p.2) (layout_refused c.args.set fault before says)

pub returns-clause-kept : goal.returns-clause-kept
returns-clause-kept c =
    let named = c.in_ok-named.ensures.ok in
    let same : c.in_ok-laid.laid ≡ c.args.set = c.in_ok-laid.ensures.ok ∙ c.in_ok-types.ensures.ok ∙ named in
    let kept = c.in_ok-protocols.ensures.kept in (
      kept.0,
      record {
        declared = c.requires.distinct;
        resolved = c.in_ok-named.ensures.resolves;
        evaluated = subst Evaluates named c.in_ok-consts.ensures.evaluates;
        checked = subst (λ (fs : List File). AreChecked fs kept.0) same kept.1;
      },
    )
