use Rattle.std.proofs.Common.{rules, ◌++◌, ℕ, List, sym, ap, subst, ◌∙◌, arith}
use Rattle.std.specs.Prelude.{IsUtf8}
use Rattle.std.specs.Int.{to_le_bytes, w64, next_multiple_of}
use Rattle.fidl_wire.specs.Value.{Value}
use Rattle.fidl_wire.specs.Term as ty
use Rattle.fidl_wire.specs.Encoding.{present, zeros}
use Rattle.fidl_table_format.specs.Terms.{is_optional}
use Rattle.fidl_encode.specs.Writing.{Written, written, IsOver}
use Rattle.fidl_encode.specs.Parts.{value_part, IsWritten}
use Rattle.fidl_encode.proofs.Ending.{written_text}
use Rattle.fidl_encode.proofs.leaf.write_string.Goals as goal

pub returns-clause-ok : goal.returns-clause-ok
returns-clause-ok c ds =
    let bytes : List ℕ = c.in-Some.bytes.now in
    let e = c.args.entry.now in
    let a : Written = written c.args.out.now in
    subst (λ (v : Value). IsWritten (value_part ds (ty.string (is_optional e) e.bound) v) c.args.target.depth c.args.target.at a (written c.put_count.new.self))
    (sym c.in-Some.ensures.some)
    (written_text ds (is_optional e) e.bound bytes (subst IsUtf8 c.as_slice.ensures (c.is_text.ensures.0 (search rules))) (omega (arith, c.if-len-entry.false, c.len.ensures)) c.args.target.depth c.in_ok-depth_below.field-0 c.in_ok-depth_below.ensures.ok a
    (written c.reserve.new.self) (written c.put.new.self) (written c.put_count.new.self) c.args.target.at
    (c.in_ok-place.ensures.room ∙ ap (λ n. a.bytes ++ zeros (next_multiple_of n 8)) c.len-2.ensures)
    c.in_ok-place.ensures.handles
    (subst (λ n. IsOver c.reserve.new.self.bytes.items c.put.new.self.bytes.items n bytes) c.in_ok-place.ensures.place (subst (λ x. IsOver c.reserve.new.self.bytes.items c.put.new.self.bytes.items c.in_ok-place.place x) c.as_slice-2.ensures c.put.ensures.over))
    c.put.ensures.same c.put.ensures.handles c.in_ok-place.ensures.within
    (subst (λ n. IsOver c.put.new.self.bytes.items c.put_count.new.self.bytes.items c.args.target.at (to_le_bytes w64 n ++ present)) c.len-3.ensures c.put_count.ensures.over)
    c.put_count.ensures.same c.put_count.ensures.handles)
