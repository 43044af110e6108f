use Rattle.std.proofs.Common.{◌≡◌, ℕ, List, [], length, get_or, below_none, below_more, inl, arith, refl, ap}
use Rattle.std.specs.Prelude.{codes}
use Rattle.std.specs.Fmt.{digits}
use Rattle.fidl_frames.specs.Frames.{frames_of, is_proper, frame_length}
use Rattle.fidl_table_format.specs.Section.{header_of}
use Rattle.fidl_table_format.specs.Method.{HasNoMethod}
use Rattle.fidl_header.specs.Header.{IsHeader}
use Rattle.fidl_requests.specs.Frame.{message_length, message_of}
use Rattle.fidl_requests.specs.Samples.{one_protocol, protocol_of}
use Rattle.fidl_requests.proofs.Sampled.{sound}
use Rattle.fidl_dump.specs.declared.direction.Direction.TheVariants.{Requests}
use Rattle.fidl_dump.specs.Lines.{IsLine, unknown, none, more}
use Rattle.fidl_dump.specs.Samples.{an_unknown_frame}
use Rattle.fidl_dump.proofs.One.{one_line}
use Rattle.fidl_dump.proofs.worked.an_unknown_ordinal.Goals as goal

begins : IsHeader (message_of an_unknown_frame)
unfolding message_length message_of
begins = record { long = omega arith; magic = refl; version = λ e. absurd (omega (arith, e)); whole = refl }

absent : HasNoMethod (one_protocol 2) (header_of (one_protocol 2)) 0 0x6acf018fbf1678ba
absent =
    let one : 1 ≡ 0x6acf018fbf1678ba → ⊥ = λ e. absurd (omega (arith, e)) in
    let two : 2 ≡ 0x6acf018fbf1678ba → ⊥ = λ e. absurd (omega (arith, e)) in
    let three : 3 ≡ 0x6acf018fbf1678ba → ⊥ = λ e. absurd (omega (arith, e)) in
    below_more _ 2 (below_more _ 1 (below_more _ 0 (below_none _) one) two) three

line : IsLine (protocol_of 2) Requests an_unknown_frame (codes "7 6acf018fbf1678ba unknown\n")
unfolding message_length message_of digits
line = unknown begins (inl absent)

pub returns-clause-line : goal.returns-clause-line
unfolding frames_of is_proper frame_length
returns-clause-line c = more an_unknown_frame (codes "7 6acf018fbf1678ba unknown\n") [] [] line none

pub returns-clause-turned : goal.returns-clause-turned
returns-clause-turned c = λ other.
    let bad : 54 ≡ 98 = ap (λ (l : List ℕ). get_or l 2 0) (one_line (protocol_of 2) (sound 2 (omega arith)) Requests an_unknown_frame _ _ line other) in absurd (omega (arith, bad))

pub returns-clause-no_feed : goal.returns-clause-no_feed
returns-clause-no_feed c = λ other.
    let bad : 27 ≡ 26 = ap length (one_line (protocol_of 2) (sound 2 (omega arith)) Requests an_unknown_frame _ _ line other) in absurd (omega (arith, bad))
