use Rattle.std.proofs.Common.{◌≡◌, ◌≤◌, arith, sym, ap, ◌∙◌}
use Rattle.fidl_wire.specs.Term as ty
use Rattle.fidl_wire.specs.Views.{value_view}
use Rattle.fidl_wire.proofs.Sizes.{length-inline}
use Rattle.fidl_table_format.specs.declared.record.Entry.{Entry}
use Rattle.fidl_table_format.specs.Terms.{declarations_of}
use Rattle.fidl_table_format.specs.Section.{entry_at}
use Rattle.fidl_verify.proofs.Declared.{laid_out}
use Rattle.fidl_encode.specs.Writing.{Written, written}
use Rattle.fidl_encode.specs.Parts.{type_at}
use Rattle.fidl_encode.specs.Told.{IsTold}
use Rattle.fidl_encode.proofs.Leaving.{handed_on}
use Rattle.fidl_encode.proofs.Entries.{size_at, size_few}
use Rattle.fidl_encode.proofs.Whole.{encodes, told, told_room}
use Rattle.fidl_encode.proofs.encoding.encode.Goals as goal

pub returns-in_err-at-clause-fault_is_true : goal.returns-in_err-at-clause-fault_is_true
returns-in_err-at-clause-fault_is_true c =
    let b = c.args.table.now in
    let i = c.args.entry in
    let v = value_view c.args.value.now in
    let old : Written = record { bytes = c.in_ok-with_capacity.field-0.items; handles = c.new.result.items } in
    let size : c.entry.result.size ≡ (entry_at b i).size = ap (λ (e : Entry). e.size) c.entry.ensures.value in
    let few = size_few b c.entry.ensures.well_formed i c.requires in
    let small : c.entry.result.size ≤ 65535 = omega (arith, size, few) in
    handed_on c.from_residual-in_err-at.result c.in_err-at.field-0.0 (IsTold (declarations_of b) (ty.named i) v) c.from_residual-in_err-at.ensures.1
    (told_room (declarations_of b) (ty.named i) v c.entry.result.size old c.in_ok-with_capacity.ensures.items small c.in_err-at.field-0.0 c.in_err-at.ensures.fault_is_true)

pub returns-in_err-write_value-clause-fault_is_true : goal.returns-in_err-write_value-clause-fault_is_true
returns-in_err-write_value-clause-fault_is_true c =
    let b = c.args.table.now in
    let i = c.args.entry in
    let v = value_view c.args.value.now in
    let w = c.entry.ensures.well_formed in
    let old : Written = record { bytes = c.in_ok-with_capacity.field-0.items; handles = c.new.result.items } in
    let size : c.entry.result.size ≡ (entry_at b i).size = ap (λ (e : Entry). e.size) c.entry.ensures.value in
    handed_on c.from_residual-in_err-write_value.result c.in_err-write_value.field-0.0 (IsTold (declarations_of b) (ty.named i) v) c.from_residual-in_err-write_value.ensures.1
    (told (declarations_of b) (ty.named i) v c.entry.result.size old (written c.reserve.new.self) c.in_ok-with_capacity.ensures.items c.new.ensures.items c.in_ok-at.ensures.room c.in_ok-at.ensures.handles
    (λ typed. length-inline (declarations_of b) (laid_out b w) (type_at b i) v typed ∙ size_at b w i c.requires ∙ sym size) c.in_err-write_value.field-0.0 c.in_err-write_value.ensures.fault_is_true)

pub returns-clause-ok : goal.returns-clause-ok
returns-clause-ok c =
    let b = c.args.table.now in
    let i = c.args.entry in
    let v = value_view c.args.value.now in
    let w = c.entry.ensures.well_formed in
    let old : Written = record { bytes = c.in_ok-with_capacity.field-0.items; handles = c.new.result.items } in
    let size : c.entry.result.size ≡ (entry_at b i).size = ap (λ (e : Entry). e.size) c.entry.ensures.value in
    encodes (declarations_of b) (ty.named i) v c.entry.result.size old (written c.reserve.new.self) c.in_ok-with_capacity.ensures.items c.new.ensures.items c.in_ok-at.ensures.room c.in_ok-at.ensures.handles
    (λ typed. length-inline (declarations_of b) (laid_out b w) (type_at b i) v typed ∙ size_at b w i c.requires ∙ sym size) c.in_ok-at.at (written c.write_value.new.out) c.in_ok-at.ensures.place c.in_ok-write_value.ensures.ok
