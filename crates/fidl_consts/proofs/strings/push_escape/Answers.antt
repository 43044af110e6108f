use Rattle.std.proofs.Common.{◌≡◌, ◌+◌, ◌++◌, drop, slice_range, min, ap, ◌∙◌, append_assoc, arith, refl}
use Rattle.std.proofs.lemmas.List.{take_rest}
use Rattle.std.specs.List.{position_or_len}
use Rattle.fidl_span.specs.Strings.{hex_value}
use Rattle.fidl_consts.specs.Literals.{unescaped, character_bytes}
use Rattle.fidl_consts.proofs.StringLaws.{is_brace, code_point_after}
use Rattle.fidl_consts.proofs.strings.push_escape.Goals as goal

pub returns-in_ok-push_character-clause-value : goal.returns-in_ok-push_character-clause-value
returns-in_ok-push_character-clause-value c =
    let text = c.args.text.now in
    let at = c.args.at in
    let rest = take_rest text (at + 1) in
    let place = c.brace_place-brace.result in
    let to = c.min-then-text-at-eq117.result in
    let first : place ≡ position_or_len is_brace (drop (at + 1) text) = c.brace_place-brace.ensures.place ∙ ap (position_or_len is_brace) rest in
    let added : c.push_character.new.bytes.items ≡ c.args.bytes.now.items ++ character_bytes (hex_value (slice_range (drop (at + 1) text) (min place 1) place)) =
    c.in_ok-push_character.ensures ∙ rw (c.min.ensures, rest) refl in
    let after = code_point_after text at place to (omega arith) c.if-text-at-eq117.true first c.min-then-text-at-eq117.ensures in
    ap (λ l. l ++ unescaped (drop to text)) added
    ∙ append_assoc c.args.bytes.now.items (character_bytes (hex_value (slice_range (drop (at + 1) text) (min place 1) place))) (unescaped (drop to text))
    ∙ ap (λ l. c.args.bytes.now.items ++ l) after
