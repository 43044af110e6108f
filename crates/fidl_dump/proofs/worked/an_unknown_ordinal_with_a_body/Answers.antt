use Rattle.std.proofs.Common.{◌≡◌, [], ◌∷◌, below_none, below_more, inl, arith, refl}
use Rattle.std.specs.Fmt.{digits}
use Rattle.fidl_table_format.specs.Section.{header_of}
use Rattle.fidl_table_format.specs.Method.{HasNoMethod}
use Rattle.fidl_header.specs.Header.{IsHeader}
use Rattle.fidl_requests.specs.Frame.{message_length, message_of}
use Rattle.fidl_requests.specs.Samples.{one_protocol, a_frame}
use Rattle.fidl_dump.specs.Lines.{unknown}
use Rattle.fidl_dump.proofs.worked.an_unknown_ordinal_with_a_body.Goals as goal

begins : IsHeader (message_of (a_frame 1 7 0 9 (5 ∷ [])))
unfolding message_length message_of
begins = record { long = omega arith; magic = refl; version = λ e. absurd (omega (arith, e)); whole = refl }

absent : HasNoMethod (one_protocol 0) (header_of (one_protocol 0)) 0 9
absent =
    let one : 1 ≡ 9 → ⊥ = λ e. absurd (omega (arith, e)) in
    let two : 2 ≡ 9 → ⊥ = λ e. absurd (omega (arith, e)) in
    let three : 3 ≡ 9 → ⊥ = λ e. absurd (omega (arith, e)) in
    below_more _ 2 (below_more _ 1 (below_more _ 0 (below_none _) one) two) three

pub returns : goal.returns
unfolding message_length message_of digits
returns c = unknown begins (inl absent)
