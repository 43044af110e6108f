use Rattle.std.proofs.Common.{rules, Bool, false, sym, subst}
use Rattle.std.specs.Prelude.{None}
use Rattle.fidl_wire.specs.Value.{unknown}
use Rattle.fidl_encode.specs.Writing.{Written, written, IsOver}
use Rattle.fidl_encode.specs.Parts.{member_part, IsWritten}
use Rattle.fidl_encode.proofs.Enveloped.{are_bytes, written_unknown_in, written_unknown_out}
use Rattle.fidl_encode.proofs.unknown.write_unknown.Goals as goal

pub returns-then-inline-clause-ok : goal.returns-then-inline-clause-ok
returns-then-inline-clause-ok c ds =
    let bytes = c.args.bytes.now in
    let handles = c.args.handles.now in
    let a : Written = written c.args.out.now in
    let b : Written = written c.add_handles.new.self in
    let d : Written = written c.put.new.self in
    let e : Written = written c.put_envelope_end.new.self in
    subst (λ (i : Bool). IsWritten (member_part ds false None (unknown i bytes handles)) c.args.target.depth c.args.target.at a e) (sym c.if-inline.true)
    (written_unknown_in ds bytes handles c.args.target.depth c.args.target.at a b d e
    (are_bytes bytes (λ i. (c.type_inv.bytes i).fits)) (search rules) c.are_handles.ensures
    c.in_ok-add_handles.ensures.bytes c.in_ok-add_handles.ensures.handles c.in_ok-add_handles.ensures.within
    c.put.ensures.over c.put.ensures.same c.put.ensures.handles
    c.put_envelope_end.ensures.over
    c.put_envelope_end.ensures.same c.put_envelope_end.ensures.handles)

pub returns-clause-ok : goal.returns-clause-ok
returns-clause-ok c ds =
    let bytes = c.args.bytes.now in
    let handles = c.args.handles.now in
    let a : Written = written c.args.out.now in
    let b : Written = written c.reserve.new.self in
    let d : Written = written c.add_handles-2.new.self in
    let e : Written = written c.put-2.new.self in
    let f : Written = written c.put_envelope.new.self in
    subst (λ (i : Bool). IsWritten (member_part ds false None (unknown i bytes handles)) c.args.target.depth c.args.target.at a f) (sym c.if-inline.false)
    (written_unknown_out ds bytes handles c.args.target.depth c.in_ok-depth_below.field-0 c.args.target.at a b d e f
    (are_bytes bytes (λ i. (c.type_inv.bytes i).fits)) (search rules, search rules) c.are_handles.ensures c.in_ok-depth_below.ensures.ok
    c.in_ok-place.ensures.room c.in_ok-place.ensures.handles
    c.in_ok-add_handles-2.ensures.bytes c.in_ok-add_handles-2.ensures.handles c.in_ok-add_handles-2.ensures.within
    (subst (λ n. IsOver d.bytes e.bytes n bytes) c.in_ok-place.ensures.place c.put-2.ensures.over) c.put-2.ensures.same c.put-2.ensures.handles
    c.put_envelope.ensures.over
    c.put_envelope.ensures.same c.put_envelope.ensures.handles)
