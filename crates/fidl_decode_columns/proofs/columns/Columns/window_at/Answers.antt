use Rattle.std.proofs.Common.{◌≡◌, ◌+◌, ◌*◌, ◌/◌, ◌%◌, ◌^◌, ◌≤◌, subst, get_or, arith}
use Rattle.std.specs.Prelude.{bit_or}
use Rattle.fidl_decode_columns.proofs.Raw.{Agrees}
use Rattle.fidl_decode_columns.proofs.Sizes.{struct_room}
use Rattle.fidl_decode_columns.proofs.Words.{byte_within}
use Rattle.fidl_decode_columns.proofs.columns.Columns.window_at.Goals as goal
use Rattle.fidl_decode_columns.proofs.columns.Columns.window_at.Goals.{then-from-end, else-from-end}

pub returns : goal.returns
returns c =
    let m = c.args.self.now.links.now in
    let raw = c.raw.result.now in
    let a : Agrees m raw = record { len = c.raw.ensures.same_length; byte = c.raw.ensures.agree } in
    let start = c.if-from-end.start in
    let size = c.args.column.size in
    let base = c.args.column.base in
    let s = c.gather.result in
    let near : start + 8 ≤ base + size = elim c.if-from-end.branch [ then-from-end w ↦ omega (arith, w.start-is, w.if-from-end.true) | else-from-end w ↦ omega (arith, w.start-is, c.if-end-lt8.false) ] in
    λ k i few lt from to.
    let inside : base + size * k + size ≤ base + size * c.args.limit = struct_room (base + size * k) base size k c.args.limit (base + size * c.args.limit) (λ j. base + size * k) few (omega arith) in
    let there : start + size * k + i ≡ start + i + size * k = omega arith in
    let byte = byte_within raw (start + size * k) (omega (arith, near, inside, c.requires.room.within, c.raw.ensures.same_length)) c.raw.ensures.octets s (c.gather.ensures k few) i lt in
    let same = a.byte (start + i + size * k) (omega (arith, to, inside, c.requires.room.within)) (c.requires.room.free (start + i + size * k) (omega (arith, from)) (omega (arith, to, inside))) in
    subst (λ b. bit_or b (s / 2 ^ (8 * i) % 2 ^ 8) ≡ s / 2 ^ (8 * i) % 2 ^ 8) same (subst (λ p. bit_or (get_or raw p 0) (s / 2 ^ (8 * i) % 2 ^ 8) ≡ s / 2 ^ (8 * i) % 2 ^ 8) there byte)
