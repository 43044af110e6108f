use Rattle.std.proofs.Common.{rules, ◌≡◌, ◌+◌, ◌*◌, slice_range, length, length-append, sym, subst, ap, arith, ◌∙◌}
use Rattle.std.specs.Char.{is_ascii_hexdigit}
use Rattle.std.specs.List.{list_all}
use Rattle.fidl_spelling.specs.Spells.{IsHex}
use Rattle.fidl_spelling.proofs.WordLaws.{no_both}
use Rattle.fidl_reading.proofs.HexDigits.{hex_at, hex_more, hex_digits}
use Rattle.fidl_reading.proofs.hex.hex_of.Goals.{then-is_empty-via-then-is_empty, then-is_empty-via-else-is_empty+then-not-are_hex_digits}
use Rattle.fidl_reading.proofs.hex.hex_of.Goals as goal

pub returns-then-is_empty-clause-none : goal.returns-then-is_empty-clause-none
returns-then-is_empty-clause-none c = λ bytes k.
    let word = c.args.word.now in
    let d = hex_digits bytes word k.1 in
    let some = k.0 in
    let size = d.1 in
    elim c.then-is_empty.branch [
      | then-is_empty-via-then-is_empty w ↦ (
          let zero : length word ≡ 0 = search (rules, c.is_empty.ensures, w.if-is_empty.true) in
          absurd (omega (arith, zero, some, size))
          )
      | then-is_empty-via-else-is_empty+then-not-are_hex_digits w ↦ no_both (list_all is_ascii_hexdigit word) d.0 (sym w.are_hex_digits.ensures ∙ w.if-not-are_hex_digits.true)
    ]

pub loop-at-preserved : goal.loop-at-preserved
loop-at-preserved c =
    let word = c.args.word.now in
    let at = c.loop-at.at in
    let old = c.loop-at.bytes.items in
    let items = c.in_ok-push.ensures.items in
    let all = sym c.are_hex_digits.ensures ∙ c.if-not-are_hex_digits.false in
    let within = c.loop-at-test.true in
    let size : length c.push.new.self.items ≡ length old + 1 = ap length items ∙ length-append old _ in
    record {
      within = omega (arith, within);
      even = omega (arith, size, c.loop-at.invariant.even);
      front = subst (λ l. IsHex l (slice_range word 0 (at + 2))) (sym items)
          (hex_more word old at _ within c.loop-at.invariant.front (hex_at word at all (omega (arith, within))) (hex_at word (at + 1) all within)
          (λ i. c.hex_digit_value.ensures.value i * 16 + c.hex_digit_value-in-loop-at.ensures.value i));
    }

pub returns-then-at-word-clause-none : goal.returns-then-at-word-clause-none
returns-then-at-word-clause-none c = λ bytes k.
    let size = (hex_digits bytes c.args.word.now k.1).1 in
    let even = c.loop-at.invariant.even in
    let less = c.if-at-word.true in
    let last = c.loop-at-test.false in
    absurd (omega (arith, size, even, less, last))
